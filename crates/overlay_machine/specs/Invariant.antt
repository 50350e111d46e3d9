-- What holds of an overlay and of the plain state that it stands for, between two steps.
use Rattle.std.specs.Prelude.{◌≡◌, ℕ, ◌+◌, ◌≤◌, ◌<◌, ℤ, List, [], ◌∷◌, length, is_some, Some, None}
use Rattle.std.specs.List.{Contains}
use Rattle.cap_words.specs.declared.Word.{Word}
use Rattle.cap_words.specs.declared.Word.TheVariants.{Mem}
use Rattle.lcm_isa.specs.declared.Reg.{Reg}
use Rattle.lcm_machine.specs.declared.Place.{Place}
use Rattle.lcm_machine.specs.Maps.{Regs, State}
use Rattle.lcm_machine.specs.Places.{reg}
use Rattle.lcm_machine.specs.Cells.{cell}
use Rattle.lcm_machine.specs.Row.{word_at, Outcome}
use Rattle.lcm_machine.specs.Regions.{HeldOnce}
use Rattle.lcm_machine.specs.Runs.{run_of}
use Rattle.linked_starts.specs.Parts.{PartSeen}
use Rattle.call_sequence.specs.Kinds.{Row}
use Rattle.call_sequence.specs.Walk.{RowAt}
use Rattle.call_sequence.specs.Holds.{data_cap, HasKinds, PcAt}
use Rattle.trusted_border.specs.declared.layout.Layout.{Layout}
use Rattle.trusted_border.specs.declared.layout.SiteCode.{SiteCode}
use Rattle.trusted_border.specs.Layout.{site_code}
use Rattle.overlay_machine.specs.declared.words.OWord.{OWord}
use Rattle.overlay_machine.specs.declared.words.OWord.TheVariants.{Plain}
use Rattle.overlay_machine.specs.Words.{look}
use Rattle.overlay_machine.specs.State.{OpenFrame, OState, Cells, word_of, framed}
use Rattle.overlay_machine.specs.Step.{Ending, overlay_step, weight_of}
use Rattle.overlay_machine.specs.Flat.{IsFlat}
use Rattle.overlay_machine.specs.Agree.{EndAlike}
use Rattle.overlay_machine.specs.Link.{Link, IsTrusted, ranges_of, regions, has_cell, IsStackCell, IsOpenAt}
use Rattle.overlay_machine.specs.Link.{CodeIn}
use Rattle.overlay_machine.specs.Safe.{IsSafe, IsMet}
use Rattle.overlay_machine.specs.Linked.{SiteOf, IsLink}

-- ---- pc and the registers

-- pc is a trusted part's, at an offset with a row, and the other registers fit that row
pub record StandsAt (g : Link) (fs : List OpenFrame) (p : PartSeen) (o : ℕ) (rs : Regs OWord) : Type 0 where
  pub there : Row
  pub inside : o < length p.component.code
  pub at_pc : PcAt look (ranges_of p) o rs
  pub row : RowAt p.component o there
  pub fits : HasKinds look (IsSafe g fs) (IsStackCell g fs) (ranges_of p) there rs

-- pc is a trusted part's, at its `fail` or at an offset with a row that the registers fit; or untrusted code
-- runs, and each register is safe
pub data PcPart (g : Link) (fs : List OpenFrame) (rs : Regs OWord) : Type 0 where
  at_fail : (p : PartSeen) (o : ℕ) → IsTrusted g p → p.component.fail_at ≡ Some o
      → PcAt look (ranges_of p) o rs → PcPart g fs rs
  at_row : (p : PartSeen) (o : ℕ) → IsTrusted g p → StandsAt g fs p o rs → PcPart g fs rs
  outside : ((r : Reg) → IsSafe g fs (reg rs r)) → PcPart g fs rs

-- ---- frames

-- a frame is a stretch of the stack above its lowest address, with a word for each address, none of which has
-- a cell in memory
pub record FrameLies (l : Layout) (m : Cells) (f : OpenFrame) : Type 0 where
  pub above : l.stack.base < f.base
  pub order : f.base ≤ f.end
  pub within : f.end ≤ l.stack.end
  pub words : f.base + length f.words ≡ f.end + 1
  pub gone : (a : ℕ) → f.base ≤ a → a ≤ f.end → cell m a ≡ None

-- the frame lies below the next older one
abbrev pub LiesBelow : OpenFrame → List OpenFrame → Type 0
LiesBelow f [] = Unit {0}
LiesBelow f (g ∷ gs) = f.end < g.base

-- frames from the newest on: each lies below the older ones, and its call came before this number and after
-- theirs
abbrev pub FramesLie : Layout → Cells → ℕ → List OpenFrame → Type 0
FramesLie l m n [] = Unit {0}
FramesLie l m n (f ∷ fs) = FrameLies l m f × (f.call < n) × LiesBelow f fs × FramesLie l m f.call fs

-- a frame's site has a row at its first word; the frame's first word is the data capability of the site's
-- part, and its other words are safe
pub record FrameFits (g : Link) (fs : List OpenFrame) (f : OpenFrame) : Type 0 where
  pub part : PartSeen
  pub trusted : IsTrusted g part
  pub code : SiteCode
  pub code_is : site_code g.layout f.site ≡ Some code
  pub index : ℕ
  pub site : SiteOf part index code
  pub there : Row
  pub row : RowAt part.component site.offset there
  pub to : ℤ
  pub first : word_of f f.base ≡ Some (Plain (Mem (data_cap (ranges_of part) to)))
  pub others : (a : ℕ) (w : OWord) → f.base < a → word_of f a ≡ Some w → IsSafe g fs w

-- ---- all of it

pub record Invariant (g : Link) (o : OState) (t : State Word) : Type 0 where
  -- the plain state is the one that the overlay stands for
  pub flat : IsFlat g.layout o t
  pub pc : PcPart g o.frames o.maps.regs
  -- the addresses of the regions that are in no frame have cells, and no others; trusted code is as linked;
  -- all cells but those of trusted code hold safe words
  pub there : (a : ℕ) → is_some (cell o.maps.cells a) ≡ has_cell g o.frames a
  pub code : (p : PartSeen) → IsTrusted g p → CodeIn p o.maps.cells
  pub cells : (a : ℕ) (w : OWord) → IsOpenAt g a → cell o.maps.cells a ≡ Some w → IsSafe g o.frames w
  pub frames : FramesLie g.layout o.maps.cells o.calls o.frames
  pub frames_fit : (f : OpenFrame) → Contains o.frames f → FrameFits g o.frames f
  -- each RetCode, wherever it is, is of a site, and each RetData of an open call
  pub met : (p : Place) (w : OWord) → word_at o.maps p ≡ Some w → IsMet g o.frames w
  pub met_in_frames : (a : ℕ) (w : OWord) → framed o.frames a ≡ Some w → IsMet g o.frames w
  -- no address of the stack or of a linear area is held twice in the plain state, in which a RetData is held
  -- over its frame, and the words of frames are cells
  pub once : HeldOnce (λ w. w) (regions g) t

-- ---- one step

-- an overlay step and the plain instructions that it stands for: both go on, to states of which the invariant
-- holds again, both halt, or both fail
abbrev pub KeepsAgreeing : Link → Ending → Outcome Word → Type 0
KeepsAgreeing g e r = EndAlike (Invariant g) e r

-- a step keeps the invariant of linked parts, whatever the step and whatever untrusted code there is
abbrev pub StepsKeep : Type 0
StepsKeep =
    (g : Link) (o : OState) (t : State Word) → IsLink g → Invariant g o t
    → KeepsAgreeing g (overlay_step g.layout o) (run_of (λ w. w) (λ w. w) (weight_of g.layout o) t)
