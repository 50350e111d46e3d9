-- That what is said of code outside speaks of something: it comes, and comes into a trusted part.
use Rattle.std.specs.Prelude.{ℕ, List}
use Rattle.linked_starts.specs.Parts.{PartSeen}
use Rattle.linked_starts.specs.Started.{StartSeen}
use Rattle.linked_starts.specs.LinkedStarts.{IsLinkedStart}
use Rattle.confinement.specs.Confined.{Enters, AtExport, AtReturnPoint}

-- a start in whose run an instruction comes from outside, and the one after it from a trusted part, first at
-- an export of it, and later at a return point of a call that is open
pub record EnteredThere : Type 0 where
  pub parts : List PartSeen
  pub size : ℕ
  pub start : StartSeen
  pub linked : IsLinkedStart parts size start
  pub part : PartSeen
  pub n : ℕ
  pub to : ℕ
  pub enters : Enters parts start n part to
  pub at_export : AtExport start n part to
  pub m : ℕ
  pub back : ℕ
  pub comes_back : Enters parts start m part back
  pub at_return : AtReturnPoint parts start m part back
