-- What the picture of a run says of the run.
use Rattle.std.specs.Prelude.{◌≡◌, ◌↔◌, ℕ, ◌<◌, ◌≤◌, ◌^◌, List, [], length, reverse}
use Rattle.std.specs.Prelude.{None, Ok, Err, if◌then◌else◌}
use Rattle.std.specs.List.{AllZip, Contains}
use Rattle.lcm_machine.specs.Run.{plain}
use Rattle.lcm_machine.specs.Touched.{Touches}
use Rattle.linked_starts.specs.Parts.{PartSeen}
use Rattle.linked_starts.specs.Started.{StartSeen}
use Rattle.linked_starts.specs.LinkedStarts.{IsLinkedStart}
use Rattle.run_lines.specs.Layout.{layout}
use Rattle.run_lines.specs.Runs.{run_text, written}
use Rattle.headline.specs.OpenCalls.{LineTold, open_behind, after, ReadsOrWipes}
use Rattle.run_picture.specs.declared.fault.DrawFault.TheVariants.{TooLong}
use Rattle.run_picture.specs.Shapes.{Shape}
use Rattle.run_picture.specs.Picture.{picture, is_too_long, drawn}
use Rattle.drawn_runs.specs.Dark.{page, boxes_behind, IsOver, IsDark}

-- the text of a run of so many instructions
abbrev pub text_of : StartSeen → ℕ → List ℕ
text_of s steps = run_text (layout s) s.state steps

-- what is due of `draw` is its picture, where it isn't too long
abbrev pub RunsAreDrawn : Type 0
RunsAreDrawn =
    (parts : List PartSeen) (size : ℕ) (s : StartSeen) → IsLinkedStart parts size s
    → (steps : ℕ) → steps < 2 ^ 64
    → drawn (text_of s steps)
    ≡ (if is_too_long (text_of s steps) then Err TooLong else Ok (picture (text_of s steps)))

-- ---- after n of its instructions

-- the boxes that stand there are over the ranges of the calls that are open, one for each, the oldest first
abbrev pub BoxesAreOpenCalls : Type 0
BoxesAreOpenCalls =
    (parts : List PartSeen) (size : ℕ) (s : StartSeen) → IsLinkedStart parts size s
    → (steps n : ℕ) → n ≤ steps
    → AllZip (λ (b : Shape) (c : LineTold). IsOver (page (text_of s steps)) b c.base c.last)
    (boxes_behind (text_of s steps) (length (written s n))) (reverse (open_behind [] (written s n)))

-- an address of an open call's range
abbrev pub IsOfOpen : StartSeen → ℕ → ℕ → Type 0
IsOfOpen s n a =
    (c : LineTold) × Contains (open_behind [] (written s n)) c × (c.base ≤ a) × (a ≤ c.last)

-- just these addresses are dark there
abbrev pub DarkIsOpen : Type 0
DarkIsOpen =
    (parts : List PartSeen) (size : ℕ) (s : StartSeen) → IsLinkedStart parts size s
    → (steps n a : ℕ) → n ≤ steps
    → IsDark (text_of s steps) (length (written s n)) a ↔ IsOfOpen s n a

-- the instruction after n others touches an address that is dark there
pub record TouchesDark (s : StartSeen) (steps n a : ℕ) : Type 0 where
  pub within : n ≤ steps
  pub goes : (plain n s.state).end ≡ None
  pub dark : IsDark (text_of s steps) (length (written s n)) a
  pub touches : Touches (λ w. w) (after s n) a

-- it is one of the two of the return of that box's own call that read and wipe the range's first word
abbrev pub DarkIsLeftAlone : Type 0
DarkIsLeftAlone =
    (parts : List PartSeen) (size : ℕ) (s : StartSeen) → IsLinkedStart parts size s
    → (steps n a : ℕ) (t : TouchesDark s steps n a)
    → (c : LineTold) × Contains (open_behind [] (written s n)) c
    × IsOver (page (text_of s steps)) t.dark.frame c.base c.last × ReadsOrWipes s n c a

-- that it speaks of something: a start whose run touches what is dark
pub record DarkThere : Type 0 where
  pub parts : List PartSeen
  pub size : ℕ
  pub start : StartSeen
  pub linked : IsLinkedStart parts size start
  pub steps : ℕ
  pub n : ℕ
  pub address : ℕ
  pub touched : TouchesDark start steps n address
