use Rattle.std.proofs.Common.{◌++◌, [], ◌∷◌, map, sym, ap, ap₂, ◌∙◌}
use Rattle.std.proofs.lemmas.List.{map_more, take_all}
use Rattle.proc_semantics.specs.Values.{register_of}
use Rattle.proc_meaning.proofs.places.registers.Goals as goal

pub loop-value-preserved : goal.loop-value-preserved
loop-value-preserved c =
    c.in_ok-push.ensures.items
    ∙ ap₂ (λ rs r. rs ++ r ∷ []) c.loop-value.invariant c.register_of.ensures
    ∙ sym (map_more register_of c.args.values.now c.loop-value.value-index _ c.loop-value-test.true)

pub returns : goal.returns
returns c =
    c.loop-value.invariant ∙ ap (map register_of) (take_all _ c.args.values.now c.loop-value-test.false)
