use Rattle.std.proofs.Common.{◌∙◌, codes}
use Rattle.clap.specs.Words.{found_of, rows_of}
use Rattle.clap.proofs.WalkLemmas.{first_value-rows, raw_values-rows}
use Rattle.command_words.proofs.LineLemmas.{same_taken}
use Rattle.command_words.proofs.line.taken_of.Goals as goal

pub returns : goal.returns
returns c =
    let f = found_of c.args.matches.now in
    same_taken (rows_of f) _
    (c.get_str.ensures ∙ first_value-rows f (codes "ACTION"))
    (c.get_raw.ensures ∙ raw_values-rows f (codes "PARTS"))
    (c.get_str-2.ensures ∙ first_value-rows f (codes "stack"))
    (c.get_str-3.ensures ∙ first_value-rows f (codes "steps"))
    (c.get_str-4.ensures ∙ first_value-rows f (codes "out"))
    (c.get_str-5.ensures ∙ first_value-rows f (codes "feed"))
    (c.get_str-6.ensures ∙ first_value-rows f (codes "seed"))
