use Rattle.link_tool.proofs.Offers.{loaded_again}
use Rattle.answer_laws.proofs.laws.linked_images_are_loaded.Goals as goal

pub returns : goal.returns
returns c = loaded_again
