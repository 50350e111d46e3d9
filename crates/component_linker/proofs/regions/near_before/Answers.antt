use Rattle.std.proofs.Common.{rules, refl}
use Rattle.linked_starts.specs.Links.{near_part}
use Rattle.linked_starts.proofs.Offers.{any_settled, none_more}
use Rattle.component_linker.proofs.regions.near_before.Goals as goal

pub returns-then-near_any : goal.returns-then-near_any
returns-then-near_any c =
    let any =
    any_settled (near_part c.args.s)
    c.args.parts.now c.args.count c.loop-i.i c.part.result c.part.ensures c.loop-i-test.true
    (search rules) in
    rw any refl

pub loop-i-preserved : goal.loop-i-preserved
loop-i-preserved c =
    none_more (near_part c.args.s)
    c.args.parts.now c.loop-i.i c.part.result c.part.ensures c.loop-i.invariant (search rules)
