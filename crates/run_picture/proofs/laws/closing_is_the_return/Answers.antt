use Rattle.run_picture.proofs.Closing.{closing_is_the_return}
use Rattle.run_picture.proofs.laws.closing_is_the_return.Goals as goal

pub returns : goal.returns
returns c = closing_is_the_return
