use Rattle.std.proofs.Common.{◌∙◌, ap}
use Rattle.clap.specs.Words.{found_of}
use Rattle.clap.proofs.WalkLemmas.{first_value-rows}
use Rattle.command_words.specs.Name.{file_of}
use Rattle.command_words.proofs.parse.file_by.Goals as goal

pub returns : goal.returns
returns c =
    c.file_of.ensures ∙ ap file_of (c.get_str.ensures
    ∙ first_value-rows (found_of c.args.matches.now) c.args.option.now)
