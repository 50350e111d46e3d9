-- Words that go to the newest frame, and come back.
use Rattle.std.specs.Prelude.{◌≡◌, ◌≤◌, ℕ, zero, suc, ◌+◌, ◌-◌, List, [], ◌∷◌, ◌++◌, length}
use Rattle.cap_words.specs.Linear.{zero_word}
use Rattle.lcm_machine.specs.Maps.{State}
use Rattle.lcm_machine.specs.Cells.{drop_cell, words_from, without, put_back}
use Rattle.frame_region.specs.Frames.{FrameSeen}
use Rattle.overlay_machine.specs.declared.words.OWord.{OWord}
use Rattle.overlay_machine.specs.declared.words.OWord.TheVariants.{Plain}
use Rattle.overlay_machine.specs.declared.frames.Frame.{Frame}
use Rattle.overlay_machine.specs.State.{Cells}
use Rattle.overlay_machine.specs.Step.{first_word, rest_words}

-- the newest frame with further items
abbrev pub with_items : {H T : Type 0} → List (FrameSeen H T) → List T → List (FrameSeen H T)
with_items [] xs = []
with_items (f ∷ fs) xs = record f { items = f.items ++ xs } ∷ fs

-- the newest frame has room for so many more
abbrev pub HasRoom : {H T : Type 0} → List (FrameSeen H T) → ℕ → Type 0
HasRoom [] n = ⊥
HasRoom (f ∷ fs) n = length f.items + n ≤ f.size

-- the items of the newest frame
abbrev pub newest_items : {H T : Type 0} → List (FrameSeen H T) → List T
newest_items [] = []
newest_items (f ∷ fs) = f.items

-- the frames, with other items in the newest
abbrev pub set_items : {H T : Type 0} → List (FrameSeen H T) → List T → List (FrameSeen H T)
set_items [] xs = []
set_items (f ∷ fs) xs = record f { items = xs } ∷ fs

-- memory without n cells from an address on
unfoldable pub dropped : Cells → ℕ → ℕ → Cells
dropped m a zero = m
dropped m a (suc n) = dropped (drop_cell m a) (a + 1) n

-- the newest frame is that one, and has all its words
abbrev pub IsNewest : List (FrameSeen Frame OWord) → Frame → Type 0
IsNewest [] h = ⊥
IsNewest (f ∷ fs) h = (length f.items ≡ h.end + 1 - h.base) × (h.base ≤ h.end)

-- the registers and cells when a frame was opened, and the frame
abbrev pub left_by : State OWord → Frame → State OWord
left_by s f =
    record s { regs = record s.regs { dat = zero_word Plain }; cells = without s.cells f.base f.end }

abbrev pub opened : State OWord → Frame → FrameSeen Frame OWord
opened s f = record {
  head = f;
  size = f.end + 1 - f.base;
  items = s.regs.dat ∷ words_from Plain s.cells (f.base + 1) (f.end - f.base);
}

-- the registers and cells when a frame of these words was closed
abbrev pub given : State OWord → Frame → List OWord → State OWord
given s f ws = record s {
  regs = record s.regs { dat = first_word ws };
  cells = put_back s.cells f.base (zero_word Plain ∷ rest_words ws);
}
