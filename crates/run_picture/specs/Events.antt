-- The lines of a run with what each changes, and where calls close.
use Rattle.std.specs.Prelude.{ℕ, ◌+◌, ◌-◌, ◌==◌, List, [], ◌∷◌, Option, Some, None, if◌then◌else◌}
use Rattle.line_fields.specs.Fields.{lines}
use Rattle.run_picture.specs.declared.turn.Turn.{Turn}
use Rattle.run_picture.specs.declared.turn.Turn.TheVariants.{Call, Ret, Enter, Leave, Other}
use Rattle.run_picture.specs.Turns.{turn_of}

-- a line, and what it changes
pub record EventSeen : Type 0 where
  pub line : List ℕ
  pub turn : Turn

abbrev pub event_of : List ℕ → EventSeen
event_of line = record { line = line; turn = turn_of line }

-- each but the last: what stands after the last newline is no line
abbrev pub events_in : List (List ℕ) → List EventSeen
events_in [] = []
events_in (t ∷ []) = []
events_in (t ∷ u ∷ us) = event_of t ∷ events_in (u ∷ us)

abbrev pub events : List ℕ → List EventSeen
events text = events_in (lines text)

-- how many calls that were made since are open after a line, and none where it closes the call
abbrev pub open_behind : Turn → ℕ → Option ℕ
open_behind (Call side span) within = Some (within + 1)
open_behind (Ret side span) within = if within == 0 then None else Some (within - 1)
open_behind (Enter end) within = Some within
open_behind Leave within = Some within
open_behind Other within = Some within

abbrev pub closes_or : Option ℕ → ℕ → (ℕ → Option ℕ) → Option ℕ
closes_or None k on = Some k
closes_or (Some within) k on = on within

-- which of the lines after a call closes it, of which the first is the k-th
abbrev pub closing_from : ℕ → ℕ → List EventSeen → Option ℕ
closing_from k within [] = None
closing_from k within (e ∷ es) =
    closes_or (open_behind e.turn within) k (λ w. closing_from (k + 1) w es)

-- how many lines after a call it is closed
unfoldable pub closing : List EventSeen → Option ℕ
closing es = closing_from 1 0 es
