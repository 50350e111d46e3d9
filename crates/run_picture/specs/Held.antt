-- Which frames are open, and how much of the stack was handed over last.
use Rattle.std.specs.Prelude.{ℕ, ◌+◌, min, List, [], ◌∷◌, drop, Option, Some, None}
use Rattle.run_picture.specs.declared.turn.Turn.{Turn}
use Rattle.run_picture.specs.declared.turn.Turn.TheVariants.{Call, Ret, Enter, Leave, Other}

-- where the open frames begin, newest first, and the address after the stack, if there is one
pub record HeldSeen : Type 0 where
  pub bases : List ℕ
  pub top : Option ℕ

abbrev pub nothing_held : HeldSeen
nothing_held = record { bases = []; top = None }

abbrev pub end_top : Option ℕ → Option ℕ
end_top None = None
end_top (Some end) = Some (end + 1)

-- after a line: a call hands over what lies below its frame, a return this frame too
abbrev pub held_after : HeldSeen → Turn → HeldSeen
held_after h (Call side span) = record { bases = span.base ∷ h.bases; top = Some span.base }
held_after h (Ret side span) = record { bases = drop 1 h.bases; top = Some (span.last + 1) }
held_after h (Enter end) = record { bases = h.bases; top = end_top end }
held_after h Leave = h
held_after h Other = h

-- what of it lies below the newest frame
abbrev pub cut_at : List ℕ → Option ℕ → Option ℕ
cut_at bs None = None
cut_at [] (Some top) = Some top
cut_at (b ∷ bs) (Some top) = Some (min top b)

abbrev pub shown : HeldSeen → Option ℕ
shown h = cut_at h.bases h.top
