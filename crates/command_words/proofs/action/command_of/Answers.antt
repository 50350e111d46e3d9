use Rattle.std.proofs.Common.{sym, ◌∙◌}
use Rattle.command_words.specs.Texts.{texts}
use Rattle.command_words.proofs.FitLemmas.{asked_command_fits}
use Rattle.command_words.proofs.action.command_of.Goals as goal

pub returns-in-Some-clause-fits : goal.returns-in-Some-clause-fits
returns-in-Some-clause-fits c =
    asked_command_fits (texts c.args.words.now) _ (sym c.in_ok-command.ensures ∙ c.in-Some.is)
