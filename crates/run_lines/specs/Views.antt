-- The words that lines show: plain words, by register and by address.
use Rattle.std.specs.Prelude.{ℕ, Option}
use Rattle.cap_words.specs.declared.Word.{Word}
use Rattle.lcm_isa.specs.declared.Reg.{Reg}
use Rattle.lcm_machine.specs.Maps.{State}
use Rattle.lcm_machine.specs.Places.{reg}
use Rattle.lcm_machine.specs.Cells.{cell}
use Rattle.lcm_machine.specs.Mapped.{mapped_or}
use Rattle.trusted_border.specs.declared.layout.Layout.{Layout}
use Rattle.overlay_machine.specs.State.{OState}
use Rattle.overlay_machine.specs.Flat.{flat, beside}
use Rattle.overlay_machine.specs.Seen.{OverlaySeen}

pub record View : Type 0 where
  pub reg : Reg → Word
  pub cell : ℕ → Option Word

-- those of the plain machine
abbrev pub view_of : State Word → View
view_of s = record { reg = reg s.regs; cell = cell s.cells }

-- those that the overlay's words stand for, with the frames' words at their addresses
abbrev pub flat_view : Layout → OState → View
flat_view l o = record {
  reg = λ r. flat l o.frames (reg o.maps.regs r);
  cell = λ a. mapped_or (flat l o.frames) (cell o.maps.cells a) (beside l o.frames a);
}

abbrev pub overlay_view : OverlaySeen → View
overlay_view o = flat_view o.layout o.state
