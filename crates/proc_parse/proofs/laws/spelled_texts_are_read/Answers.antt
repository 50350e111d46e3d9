use Rattle.std.proofs.Common.{◌∙◌, refl, sym, length}
use Rattle.text_scan.specs.Tokens.{scanned}
use Rattle.proc_parse.proofs.Steps.{below_full}
use Rattle.proc_parse.proofs.Texts.{ok_tokens, one_module_spelled, spelled_read, read_spelled, spelled_proper}
use Rattle.proc_parse.proofs.laws.spelled_texts_are_read.Goals as goal

pub returns-clause-one : goal.returns-clause-one
returns-clause-one g c text m m' =
    one_module_spelled g.L.Language.made text m m' (λ tokens others has there.
    ok_tokens tokens others (sym ((c.reading_keeps_the_grammar.ensures.tokens text tokens).0 has)
    ∙ (c.reading_keeps_the_grammar.ensures.tokens text others).0 there))

pub returns-clause-read : goal.returns-clause-read
returns-clause-read g c text m short =
    spelled_read g.L.Language.made text m (below_full (length text) short)
    (c.tokens_are_pieces.ensures.placed text)
    (c.tokens_are_pieces.ensures.spelled text)
    (λ tokens. (c.reading_keeps_the_grammar.ensures.tokens text tokens).0)

pub returns-clause-found : goal.returns-clause-found
returns-clause-found g c text m e =
    read_spelled g.L.Language.made text m
    (λ tokens. (c.reading_keeps_the_grammar.ensures.tokens text tokens).1)
    (scanned text) refl e

pub returns-clause-proper : goal.returns-clause-proper
returns-clause-proper g c text m = spelled_proper g.L.Language.made text m
    (c.tokens_are_pieces.ensures.spelled text)
