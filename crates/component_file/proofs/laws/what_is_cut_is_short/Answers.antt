use Rattle.component_file.proofs.ComponentLaws.{read_cut}
use Rattle.component_file.proofs.laws.what_is_cut_is_short.Goals as goal

pub returns : goal.returns
returns c = read_cut
