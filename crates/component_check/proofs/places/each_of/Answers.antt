use Rattle.std.proofs.Common.{Some, None, length, sym, arith}
use Rattle.std.specs.Prelude.{slice_index_or, false}
use Rattle.component_check.proofs.First.{first_is}
use Rattle.component_check.proofs.places.each_of.Goals as goal

pub returns-then-broken-i : goal.returns-then-broken-i
returns-then-broken-i c =
    first_is (length c.args.broken.now) (λ k. slice_index_or c.args.broken.now k false) (Some c.loop-i.i)
    (c.loop-i-test.true, c.if-broken-i.true, c.loop-i.invariant)

pub returns : goal.returns
returns c =
    first_is (length c.args.broken.now) (λ k. slice_index_or c.args.broken.now k false) None
    (λ k lt. c.loop-i.invariant k (omega (arith, c.loop-i-test.false)))
