-- Memory as a finite map from addresses to words, and how it is kept: a list of slots for each span.
use Rattle.std.specs.Prelude.{◌≡◌, ℕ, zero, suc, ◌+◌, nat_le, Bool, true, ◌&&◌, not, List, [], ◌∷◌, ◌++◌}
use Rattle.std.specs.Prelude.{length, Option, Some, None, is_some, unwrap_or}
use Rattle.std.specs.Ordering.{nat_cmp}
use Rattle.std.specs.FinMap as map
use Rattle.cap_words.specs.declared.Word.{Word}
use Rattle.cap_words.specs.Linear.{zero_word}
use Rattle.lcm_machine.specs.declared.cells.Span.{Span}

-- the word of the cell at an address, if there is one
unfoldable pub cell : {W : Type 0} → map.FinMap nat_cmp W → ℕ → Option W
cell m at = map.get m at

-- the cell at an address is set
unfoldable pub set_cell : {W : Type 0} → map.FinMap nat_cmp W → ℕ → W → map.FinMap nat_cmp W
set_cell m at w = map.insert m at w

-- memory without the cell at an address
unfoldable pub drop_cell : {W : Type 0} → map.FinMap nat_cmp W → ℕ → map.FinMap nat_cmp W
drop_cell m at = map.remove m at

-- the cell at an address is set to a word, or it is out
abbrev pub set_slot : {W : Type 0} → map.FinMap nat_cmp W → ℕ → Option W → map.FinMap nat_cmp W
set_slot m at (Some w) = set_cell m at w
set_slot m at None = drop_cell m at

-- ---- stretches of cells

-- whether n addresses from one on have cells
unfoldable pub all_there : {W : Type 0} → map.FinMap nat_cmp W → ℕ → ℕ → Bool
all_there m a zero = true
all_there m a (suc n) = is_some (cell m a) && all_there m (a + 1) n

-- the words of n cells from an address on; integer 0 where an address has none
unfoldable pub words_from : {W : Type 0} → (Word → W) → map.FinMap nat_cmp W → ℕ → ℕ → List W
words_from plain m a zero = []
words_from plain m a (suc n) = unwrap_or (cell m a) (zero_word plain) ∷ words_from plain m (a + 1) n

-- memory without the cells from an address to an end
unfoldable pub without : {W : Type 0} → map.FinMap nat_cmp W → ℕ → ℕ → map.FinMap nat_cmp W
without m a e = map.retain_keys m (λ q. not (nat_le a q && nat_le q e))

-- words put into the cells from an address on
unfoldable pub put_back : {W : Type 0} → map.FinMap nat_cmp W → ℕ → List W → map.FinMap nat_cmp W
put_back m a [] = m
put_back m a (w ∷ ws) = put_back (set_cell m a w) (a + 1) ws

-- ---- how memory is kept

-- the slots from an address on that hold a word, each with its address
abbrev pub numbered_slots : {W : Type 0} → ℕ → List (Option W) → List (ℕ × W)
numbered_slots at [] = []
numbered_slots at (None ∷ m) = numbered_slots (at + 1) m
numbered_slots at (Some w ∷ m) = (at, w) ∷ numbered_slots (at + 1) m

-- those of each span, from its base on
abbrev pub numbered_in : {W : Type 0} → List Span → List (List (Option W)) → List (ℕ × W)
numbered_in [] parts = []
numbered_in (s ∷ ss) [] = []
numbered_in (s ∷ ss) (m ∷ ms) = numbered_slots s.base m ++ numbered_in ss ms

-- memory of a list of slots for each span; a slot without a word is no cell
unfoldable pub cells_of : {W : Type 0} → List Span → List (List (Option W)) → map.FinMap nat_cmp W
cells_of spans parts = map.from_entries (numbered_in spans parts)

-- a list of slots for each span, with one slot for each of its addresses
abbrev pub AreSlotsOf : {W : Type 0} → List Span → List (List (Option W)) → Type 0
AreSlotsOf [] [] = Unit {0}
AreSlotsOf (s ∷ ss) (m ∷ ms) = (s.base + length m ≡ s.end + 1) × AreSlotsOf ss ms
AreSlotsOf _ _ = ⊥
