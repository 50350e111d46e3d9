-- A start, as contracts see it.
use Rattle.std.specs.Prelude.{◌≡◌, ℕ, List, Some}
use Rattle.lcm_machine.specs.declared.cells.Span.{Span}
use Rattle.lcm_machine.specs.Run.{Run}
use Rattle.linked_starts.specs.declared.owners.Site.{Site}
use Rattle.linked_starts.specs.declared.owners.Owner.{Owner}
use Rattle.linked_starts.specs.Parts.{PartSeen}
use Rattle.linked_starts.specs.Regions.{stack_span}
use Rattle.linked_starts.specs.Start.{IsStart}
use Rattle.linked_starts.specs.Owners.{AreSites, AreOwners}

pub record StartSeen : Type 0 where
  pub state : Run
  pub sites : List Site
  pub owners : List Owner
  pub stack : Span

-- the start of these parts with a stack of this size
pub record Starts (parts : List PartSeen) (size : ℕ) (s : StartSeen) : Type 0 where
  pub state : IsStart parts size s.state
  pub sites : AreSites parts s.sites
  pub owners : AreOwners parts s.owners
  pub stack : stack_span parts size ≡ Some s.stack
