use Rattle.component_file.proofs.ComponentLaws.{read_whole}
use Rattle.component_file.proofs.laws.spelling_is_read.Goals as goal

pub returns : goal.returns
returns c = read_whole
