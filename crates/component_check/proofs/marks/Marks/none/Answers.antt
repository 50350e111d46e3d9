use Rattle.component_check.proofs.Marking.{none_set}
use Rattle.component_check.proofs.marks.Marks.none.Goals as goal

pub returns : goal.returns
returns c = none_set
