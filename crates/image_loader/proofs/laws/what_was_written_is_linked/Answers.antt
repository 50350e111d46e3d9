use Rattle.image_loader.proofs.Loaded.{written_links}
use Rattle.image_loader.proofs.laws.what_was_written_is_linked.Goals as goal

pub returns : goal.returns
returns c = written_links
