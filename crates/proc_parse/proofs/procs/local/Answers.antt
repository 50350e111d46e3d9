use Rattle.std.proofs.Common.{sym, true}
use Rattle.std.specs.Prelude.{codes}
use Rattle.proc_grammar.specs.Reading.{full, next_local, token_local, plain_local}
use Rattle.proc_parse.proofs.Steps.{of_token, of_none}
use Rattle.proc_parse.proofs.procs.local.Goals as goal

pub returns-in-Some-clause-exact : goal.returns-in-Some-clause-exact
unfolding next_local
returns-in-Some-clause-exact g c = of_token (codes "token")
    (λ makes at. token_local g.L.Language.made true full c.args.used.tokens makes)
    (plain_local g.L.Language.made true full c.args.used.slots) c.args.tokens.now
    (λ x. x) c.token_local.result
    c.token_local.new.tokens g.L.Language.made.tokens _ c.take_token_word.new.self
    (sym c.in-Some.ensures.value) c.in-Some.ensures.left c.token_local.ensures.exact

pub returns-in-None-clause-exact : goal.returns-in-None-clause-exact
unfolding next_local
returns-in-None-clause-exact g c = of_none (codes "token")
    (λ makes at. token_local g.L.Language.made true full c.args.used.tokens makes)
    (plain_local g.L.Language.made true full c.args.used.slots) c.args.tokens.now
    (λ x. x) c.plain_local.result
    c.plain_local.new.tokens g.L.Language.made.tokens c.take_token_word.new.self
    (sym c.in-None.ensures.value) c.in-None.ensures.left c.plain_local.ensures.exact
