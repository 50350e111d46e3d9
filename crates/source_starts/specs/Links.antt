-- A link with its start, and as the overlay has it.
use Rattle.std.specs.Prelude.{ℕ, List}
use Rattle.linked_starts.specs.Parts.{PartSeen}
use Rattle.linked_starts.specs.Started.{StartSeen}
use Rattle.linked_starts.specs.Standing.{placed}
use Rattle.overlay_machine.specs.State.{OState}
use Rattle.overlay_machine.specs.Link.{Link}
use Rattle.overlay_machine.specs.Starting.{overlay_at}
use Rattle.run_lines.specs.Layout.{layout}

-- the parts of a link, the size of its stack, and a start
pub record Linking : Type 0 where
  pub parts : List PartSeen
  pub size : ℕ
  pub start : StartSeen

-- the parts where they are placed, the size of the stack, and the start's layout
abbrev pub overlay_link : Linking → Link
overlay_link a = record { parts = placed a.parts a.size; size = a.size; layout = layout a.start }

-- the overlay's first state
abbrev pub first_state : Linking → OState
first_state a = (overlay_at a.start).state
