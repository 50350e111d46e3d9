use Rattle.std.proofs.Common.{◌∷◌, [], ◌++◌, map, sym, ap, ap₂, ◌∙◌}
use Rattle.std.proofs.lemmas.List.{map_more, take_all}
use Rattle.authority_report.specs.SealRanges.{range_of}
use Rattle.authority_report.proofs.seals.ranges_of.Goals as goal

pub range_of-requires : goal.range_of-requires
range_of-requires c = c.requires c.loop-seals.seals-index _ c.loop-seals-test.true

pub loop-seals-preserved : goal.loop-seals-preserved
loop-seals-preserved c =
    c.in_ok-push.ensures.items
    ∙ ap₂ (λ rs r. rs ++ r ∷ []) c.loop-seals.invariant c.range_of.ensures
    ∙ sym (map_more range_of c.args.stretches.now c.loop-seals.seals-index _ c.loop-seals-test.true)

pub returns : goal.returns
returns c =
    c.of.ensures ∙ c.loop-seals.invariant
    ∙ ap (map range_of) (take_all c.loop-seals.seals-index c.args.stretches.now c.loop-seals-test.false)
