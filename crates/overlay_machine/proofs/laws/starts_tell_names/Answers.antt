use Rattle.overlay_machine.proofs.starts.NameFacts.{starts_tell_names}
use Rattle.overlay_machine.proofs.laws.starts_tell_names.Goals as goal

pub returns : goal.returns
returns c = starts_tell_names
