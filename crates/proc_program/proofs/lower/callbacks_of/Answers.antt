use Rattle.std.proofs.Common.{◌++◌, [], ◌∷◌, map, is_some, sym, ap, ap₂, ◌∙◌}
use Rattle.std.proofs.lemmas.List.{map_more, take_all}
use Rattle.proc_language.specs.declared.module.Param.{Param}
use Rattle.proc_program.proofs.lower.callbacks_of.Goals as goal

pub loop-q-preserved : goal.loop-q-preserved
loop-q-preserved c =
    c.in_ok-push.ensures.items
    ∙ ap₂ (λ bs b. bs ++ b ∷ []) c.loop-q.invariant
    (c.is_some.ensures ∙ ap (λ (q : Param). is_some q.arity) c.q-item.is)
    ∙ sym (map_more (λ (q : Param). is_some q.arity) c.args.params.now c.loop-q.q-index c.q-item.result
    c.loop-q-test.true)

pub returns : goal.returns
returns c =
    c.loop-q.invariant
    ∙ ap (map (λ (q : Param). is_some q.arity)) (take_all _ c.args.params.now c.loop-q-test.false)
