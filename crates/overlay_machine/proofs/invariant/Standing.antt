-- The parts of the invariant that speak of the overlay alone, and the whole made of them.
use Rattle.std.proofs.Common.{◌≡◌, ℕ, Some, is_some}
use Rattle.std.specs.List.{Contains}
use Rattle.cap_words.specs.declared.Word.{Word}
use Rattle.lcm_machine.specs.Maps.{State}
use Rattle.lcm_machine.specs.Cells.{cell}
use Rattle.lcm_machine.specs.Regions.{HeldOnce}
use Rattle.linked_starts.specs.Parts.{PartSeen}
use Rattle.overlay_machine.specs.declared.words.OWord.{OWord}
use Rattle.overlay_machine.specs.State.{OpenFrame, OState}
use Rattle.overlay_machine.specs.Flat.{IsFlat}
use Rattle.overlay_machine.specs.Agree.{Looks}
use Rattle.overlay_machine.specs.Link.{Link, IsTrusted, has_cell, IsOpenAt, CodeIn, regions}
use Rattle.overlay_machine.specs.Safe.{IsSafe}
use Rattle.overlay_machine.specs.Invariant.{PcPart, FramesLie, FrameFits, Invariant}
use Rattle.overlay_machine.proofs.invariant.Ready.{met_of}

pub record Stand (g : Link) (o : OState) : Type 0 where
  pub pc : PcPart g o.frames o.maps.regs
  pub there : (a : ℕ) → is_some (cell o.maps.cells a) ≡ has_cell g o.frames a
  pub code : (p : PartSeen) → IsTrusted g p → CodeIn p o.maps.cells
  pub cells : (a : ℕ) (w : OWord) → IsOpenAt g a → cell o.maps.cells a ≡ Some w → IsSafe g o.frames w
  pub frames : FramesLie g.layout o.maps.cells o.calls o.frames
  pub frames_fit : (f : OpenFrame) → Contains o.frames f → FrameFits g o.frames f

pub whole : (g : Link) (o : OState) (t : State Word) → Stand g o → IsFlat g.layout o t → Looks g.layout o
    → HeldOnce (λ w. w) (regions g) t → Invariant g o t
whole g o t s flat looks once = record {
  flat = flat;
  pc = s.pc;
  there = s.there;
  code = s.code;
  cells = s.cells;
  frames = s.frames;
  frames_fit = s.frames_fit;
  met = λ p w e. met_of g o.frames w (looks.0 p w e);
  met_in_frames = λ a w e. met_of g o.frames w (looks.1 a w e);
  once = once;
}
