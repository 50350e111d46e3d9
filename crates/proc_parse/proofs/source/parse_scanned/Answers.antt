use Rattle.std.proofs.Common.{◌∙◌, sym, ap, subst, map, length}
use Rattle.proc_grammar.specs.Fault.{AnswersAs}
use Rattle.proc_grammar.specs.Lexemes.{seen}
use Rattle.proc_grammar.specs.Reading.{full, parsed}
use Rattle.proc_parse.specs.Answers.{InText}
use Rattle.proc_parse.proofs.Texts.{lexemes_are, in_text}
use Rattle.proc_parse.proofs.source.parse_scanned.Goals as goal

pub parse_tokens-requires-clause-placed : goal.parse_tokens-requires-clause-placed
parse_tokens-requires-clause-placed g c =
    let same = c.as_slice.ensures.value ∙ c.in_ok-tokens.ensures in
    subst (InText c.args.text.now) (sym same) (in_text c.args.text.now 0 c.args.tokens.now c.requires.placed)

pub returns : goal.returns
returns g c =
    let text = c.args.text.now in
    let same = c.as_slice.ensures.value ∙ c.in_ok-tokens.ensures in
    subst (λ r. AnswersAs (λ m. m) c.parse_tokens.result r)
    (ap (λ l. parsed g.L.Language.made full l (length text)) (ap (map (seen text)) same
    ∙ lexemes_are text c.args.tokens.now)) c.parse_tokens.ensures
