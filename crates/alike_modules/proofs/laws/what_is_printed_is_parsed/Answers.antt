use Rattle.std.proofs.Common.{◌≤◌, length, arith}
use Rattle.proc_grammar.specs.Reading.{full}
use Rattle.proc_print.specs.Printed.{printed}
use Rattle.proc_parse.proofs.Offers.{full_is, lexemes_few}
use Rattle.alike_modules.proofs.Whole.{read_again}
use Rattle.alike_modules.proofs.laws.what_is_printed_is_parsed.Goals as goal

pub returns : goal.returns
returns c m small =
    let fits : length (printed m) ≤ full = grind (arith, full_is, small) in
    read_again m (λ text tokens e. (c.reading_keeps_the_grammar.ensures.tokens text tokens).1 e)
    (λ text tokens has. lexemes_few text tokens (c.tokens_are_pieces.ensures.placed text tokens has)
    (c.tokens_are_pieces.ensures.spelled text tokens has))
    fits
