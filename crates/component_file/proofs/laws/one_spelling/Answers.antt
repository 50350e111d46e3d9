use Rattle.readers.proofs.Offers.{one_text}
use Rattle.component_file.proofs.ComponentLaws.{component_reads}
use Rattle.component_file.proofs.laws.one_spelling.Goals as goal

pub returns : goal.returns
returns c = one_text component_reads
