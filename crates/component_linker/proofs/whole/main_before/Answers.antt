use Rattle.std.proofs.Common.{rules, sym}
use Rattle.linked_starts.specs.Links.{has_main}
use Rattle.linked_starts.proofs.Offers.{any_settled, none_more}
use Rattle.component_linker.proofs.whole.main_before.Goals as goal

pub returns-then-has_main : goal.returns-then-has_main
returns-then-has_main c =
    sym (any_settled has_main c.args.parts.now c.args.count c.loop-i.i c.part.result c.part.ensures
    c.loop-i-test.true (search rules))

pub loop-i-preserved : goal.loop-i-preserved
loop-i-preserved c =
    none_more has_main c.args.parts.now c.loop-i.i c.part.result c.part.ensures c.loop-i.invariant
    (search rules)
