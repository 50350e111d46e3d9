use Rattle.std.proofs.Common.{◌++◌, [], ◌∷◌, map, sym, ap, ap₂, ◌∙◌}
use Rattle.std.proofs.lemmas.List.{map_more, take_all}
use Rattle.proc_program.specs.Lower.{part_of}
use Rattle.proc_meaning.proofs.modules.all_lowered.Goals as goal

pub loop-m-preserved : goal.loop-m-preserved
loop-m-preserved c =
    c.in_ok-push.ensures.items
    ∙ ap₂ (λ us u. us ++ u ∷ []) c.loop-m.invariant (c.in_ok-lowered.ensures ∙ ap part_of c.m-item.is)
    ∙ sym (map_more part_of c.args.modules.now c.loop-m.m-index c.m-item.result c.loop-m-test.true)

pub returns : goal.returns
returns c = c.loop-m.invariant ∙ ap (map part_of) (take_all _ c.args.modules.now c.loop-m-test.false)
