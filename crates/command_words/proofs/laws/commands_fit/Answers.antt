use Rattle.command_words.proofs.FitLemmas.{asked_command_fits}
use Rattle.command_words.proofs.laws.commands_fit.Goals as goal

pub returns : goal.returns
returns c = asked_command_fits
