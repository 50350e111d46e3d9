-- What `parse` reads, and a word that begins with `+` put aside.
use Rattle.std.proofs.Common.{rules, lit<, sym, ◌∙◌}
use Rattle.std.proofs.lemmas.Str.Pattern.{starts_char}
use Rattle.command_words.proofs.NumberLemmas.{plain_word, number_taken, number_refused}
use Rattle.command_words.proofs.number.number.Goals as goal

pub returns-in_err-number-clause-is : goal.returns-in_err-number-clause-is
returns-in_err-number-clause-is c =
    let s = starts_char 43 _ _ c.starts_with.ensures.cases (lit< tt) (lit< tt) in
    let plain = plain_word c.starts_with.result c.args.word.now s.1 c.if-starts_with.false in
    c.from_residual.ensures
    ∙ number_refused c.args.least c.args.most c.args.word.now c.parse.result (search rules)
    c.parse.ensures.value.0 plain (sym c.in_err-number.was ∙ c.ok.ensures.value)

pub returns-then-number-most-clause-is : goal.returns-then-number-most-clause-is
returns-then-number-most-clause-is c =
    let s = starts_char 43 _ _ c.starts_with.ensures.cases (lit< tt) (lit< tt) in
    let plain = plain_word c.starts_with.result c.args.word.now s.1 c.if-starts_with.false in
    number_taken c.args.least c.args.most c.args.word.now c.parse.result c.in_ok-number.number
    c.parse.ensures.value.0 plain (sym c.in_ok-number.was ∙ c.ok.ensures.value)
    c.if-least-number.true c.if-number-most.true
