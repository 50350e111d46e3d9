use Rattle.component_file.proofs.ComponentLaws.{read_past}
use Rattle.component_file.proofs.laws.no_more_is_read.Goals as goal

pub returns : goal.returns
returns c = read_past
