-- What it is that openings and closings are bracketed, and what is told of frames.
use Rattle.std.specs.Prelude.{◌≡◌, ℕ, zero, suc, List, [], ◌∷◌, map}
use Rattle.cap_words.specs.declared.Word.{Word}
use Rattle.trusted_border.specs.declared.layout.Layout.{Layout}
use Rattle.overlay_machine.specs.State.{OpenFrame}
use Rattle.overlay_machine.specs.Flat.{flat}

-- a frame as it is told: its site, its range, and its words as plain words
pub record FrameTold : Type 0 where
  pub site : ℕ
  pub base : ℕ
  pub end : ℕ
  pub words : List Word

-- something opens, or closes
pub data Mark (F : Type 0) : Type 0 where
  opens : F → Mark F
  closes : F → Mark F

-- What was opened is open until it is closed, and what is closed is the newest that is open: from some that
-- are open, newest first, through marks, to those that are open then.
pub data Brackets (F : Type 0) : List F → List (Mark F) → List F → Type 0 where
  at_end : (open_now : List F) → Brackets F open_now [] open_now
  one_opens : {f : F} {before now : List F} {ms : List (Mark F)}
      → Brackets F (f ∷ before) ms now → Brackets F before (opens f ∷ ms) now
  one_closes : {f : F} {before now : List F} {ms : List (Mark F)}
      → Brackets F before ms now → Brackets F (f ∷ before) (closes f ∷ ms) now

-- the frames of an overlay, newest first, as they are told: the words of each by the older frames
abbrev pub frame_told : Layout → OpenFrame → List OpenFrame → FrameTold
frame_told l f older =
    record { site = f.site; base = f.base; end = f.end; words = map (flat l older) f.words }

abbrev pub frames_told : Layout → List OpenFrame → List FrameTold
frames_told l [] = []
frames_told l (f ∷ fs) = frame_told l f fs ∷ frames_told l fs

-- marks of which so many are open at first, and so many then, and which close none that was open before those
abbrev pub Depth : {F : Type 0} → List (Mark F) → ℕ → ℕ → Type 0
Depth [] d e = d ≡ e
Depth (opens x ∷ ms) d e = Depth ms (suc d) e
Depth (closes x ∷ ms) zero e = ⊥
Depth (closes x ∷ ms) (suc d) e = Depth ms d e
