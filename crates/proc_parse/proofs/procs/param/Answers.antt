use Rattle.std.proofs.Common.{sym, true}
use Rattle.std.specs.Prelude.{codes}
use Rattle.proc_grammar.specs.Reading.{full, next_param, token_param, plain_param}
use Rattle.proc_parse.proofs.Steps.{of_token, of_none}
use Rattle.proc_parse.proofs.procs.param.Goals as goal

pub returns-in-Some-clause-exact : goal.returns-in-Some-clause-exact
unfolding next_param
returns-in-Some-clause-exact g c = of_token (codes "token")
    (λ makes at. token_param g.L.Language.made true full c.args.used.tokens makes)
    (plain_param g.L.Language.made true full c.args.used.slots) c.args.tokens.now
    (λ x. x) c.token_param.result
    c.token_param.new.tokens g.L.Language.made.tokens _ c.take_token_word.new.self
    (sym c.in-Some.ensures.value) c.in-Some.ensures.left c.token_param.ensures.exact

pub returns-in-None-clause-exact : goal.returns-in-None-clause-exact
unfolding next_param
returns-in-None-clause-exact g c = of_none (codes "token")
    (λ makes at. token_param g.L.Language.made true full c.args.used.tokens makes)
    (plain_param g.L.Language.made true full c.args.used.slots) c.args.tokens.now
    (λ x. x) c.plain_param.result
    c.plain_param.new.tokens g.L.Language.made.tokens c.take_token_word.new.self
    (sym c.in-None.ensures.value) c.in-None.ensures.left c.plain_param.ensures.exact
