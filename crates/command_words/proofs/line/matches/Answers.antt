use Rattle.std.proofs.Common.{◌≡◌, ◌∙◌, ap}
use Rattle.std.specs.Prelude.{option_map}
use Rattle.std.proofs.lemmas.Result.{IfOk-weaker}
use Rattle.clap.specs.Words.{app_of, found_of, rows_of}
use Rattle.clap.specs.Simple.{app_of_fields}
use Rattle.command_words.specs.Line.{line, rows}
use Rattle.command_words.specs.Rows.{rows_by}
use Rattle.command_words.specs.Texts.{texts}
use Rattle.command_words.proofs.LineLemmas.{nameless, same_rows}
use Rattle.command_words.proofs.line.matches.Goals as goal

pub returns : goal.returns
returns c =
    let words = texts c.args.words.now in
    let is : app_of c.no_binary_name.result ≡ nameless line =
    ap app_of_fields c.no_binary_name.ensures ∙ ap nameless c.in_ok-line.ensures in
    IfOk-weaker c.matches_by.result
    (λ m. option_map (λ m. rows_of (found_of m)) m ≡ rows_by (app_of c.no_binary_name.result) words)
    (λ m. option_map (λ m. rows_of (found_of m)) m ≡ rows words) (λ m. same_rows _ is words _)
    c.matches_by.ensures
