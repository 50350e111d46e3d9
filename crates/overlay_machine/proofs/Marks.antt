-- What calls and returns tell of frames along a run of the overlay: the lines of runs are told by these
-- marks.
use Rattle.std.specs.Prelude.{◌≡◌, ℕ, zero, suc, ◌+◌, ◌-◌, ◌≤◌, List, [], ◌∷◌, ◌++◌, Option, Some, None}
use Rattle.lcm_isa.specs.declared.Reg.{Reg}
use Rattle.lcm_isa.specs.declared.Reg.TheVariants.{Dat}
use Rattle.cap_words.specs.declared.Word.{Word}
use Rattle.lcm_machine.specs.Maps.{State}
use Rattle.lcm_machine.specs.Row.{went}
use Rattle.lcm_machine.specs.Touched.{Untouched}
use Rattle.trusted_border.specs.declared.layout.Layout.{Layout}
use Rattle.trusted_border.specs.declared.events.Event.{Event}
use Rattle.trusted_border.specs.declared.events.Event.TheVariants.{Called, Returned, Entered, Left}
use Rattle.overlay_machine.specs.declared.cases.Case.TheVariants.{Back}
use Rattle.overlay_machine.specs.State.{OState}
use Rattle.overlay_machine.specs.Step.{goes, case_of, overlay_step, weight_of}
use Rattle.overlay_machine.specs.Events.{shown_word, step_event}
use Rattle.overlay_machine.specs.Runs.{plain_run}
use Rattle.lcm_machine.specs.Mapped.{mapped_or}
use Rattle.lcm_machine.specs.Cells.{cell}
use Rattle.overlay_machine.specs.Flat.{flat, beside}
use Rattle.overlay_machine.specs.Brackets.{FrameTold, Mark, opens, closes, Brackets, frames_told, Depth}

-- the plain word that an address stands for, in memory or in a frame
abbrev pub flat_cell : Layout → OState → ℕ → Option Word
flat_cell l o a = mapped_or (flat l o.frames) (cell o.maps.cells a) (beside l o.frames a)

abbrev pub if_there : {A : Type 0} → Option A → List A
if_there None = []
if_there (Some x) = x ∷ []

-- the words that there are at n addresses from one on
abbrev pub words_at : (ℕ → Option Word) → ℕ → ℕ → List Word
words_at m a zero = []
words_at m a (suc n) = words_at m a n ++ if_there (m (a + n))

-- what an event tells of a frame, its words read from the overlay after the step: of a return the first one
-- is in data, and the others have come back
abbrev pub marks_by : Layout → OState → Option Event → List (Mark FrameTold)
marks_by l o None = []
marks_by l o (Some (Called inward i b e)) =
    opens (record { site = i; base = b; end = e; words = words_at (flat_cell l o) b (e + 1 - b) }) ∷ []
marks_by l o (Some (Returned inward i b e)) =
    closes (record
    { site = i; base = b; end = e; words = shown_word l o Dat ∷ words_at (flat_cell l o) (b + 1) (e - b) })
    ∷ []
marks_by l o (Some (Entered part k back)) = []
marks_by l o (Some (Left part)) = []

abbrev pub marks_of : Layout → OState → OState → List (Mark FrameTold)
marks_of l o q = marks_by l q (step_event l o q)

-- from one overlay, at a sum of weights of steps that went, another, with the marks of these steps
pub data Marked (l : Layout) (o : OState) : ℕ → List (Mark FrameTold) → OState → Type 0 where
  none_yet : Marked l o 0 [] o
  and_then : {j : ℕ} {ms : List (Mark FrameTold)} {p q : OState} → Marked l o j ms p
      → overlay_step l p ≡ goes q
      → Marked l o (j + weight_of l p) (ms ++ marks_of l p q) q

-- through each run the marks are bracketed, from the frames that are open to those that are open then
abbrev pub AreBracketed : Layout → OState → Type 0
AreBracketed l o =
    (j : ℕ) (ms : List (Mark FrameTold)) (p : OState) → Marked l o j ms p
    → Brackets FrameTold (frames_told l o.frames) ms (frames_told l p.frames)

-- A frame was opened just now. As long as no mark closes it, no plain instruction touches an address of its
-- range, nor does an `xjmp` of a return word that comes then.
pub record StaysPrivate (l : Layout) (q : OState) (u : State Word) (x : FrameTold) : Type 0 where
  pub while_open : (j e a : ℕ) (ms : List (Mark FrameTold)) (r : OState) → Marked l q j ms r → Depth ms 0 e
      → x.base ≤ a → a ≤ x.end → Untouched (λ w. w) (λ w. w) a j u
  pub up_to_return : (j e a : ℕ) (ms : List (Mark FrameTold)) (r : OState) (r1 r2 : Reg) → Marked l q j ms r
      → Depth ms 0 e → case_of l r.maps ≡ Back r1 r2 → x.base ≤ a → a ≤ x.end
      → Untouched (λ w. w) (λ w. w) a (j + 1) u

-- so it is of each frame that a step opens, from the plain state after the step on
abbrev pub OpenedArePrivate : Layout → OState → State Word → Type 0
OpenedArePrivate l o t =
    (q : OState) (u : State Word) (x : FrameTold) → overlay_step l o ≡ goes q
    → plain_run (weight_of l o) t ≡ went u
    → marks_of l o q ≡ opens x ∷ [] → StaysPrivate l q u x
