use Rattle.std.proofs.Common.{Some, None, length, sym, arith}
use Rattle.component_check.specs.Rules.{c8, words, meets_before}
use Rattle.component_check.proofs.First.{first_is}
use Rattle.component_check.proofs.linear.c8.Goals as goal

pub returns-then-take : goal.returns-then-take
unfolding c8
returns-then-take c =
    first_is (length (words c.args.c.now)) (meets_before c.args.c.now) (Some c.loop-j.j) (
      rw (← c.count-j-end.ensures.is) c.loop-j-test.true,
      sym c.if-take.ensures.is,
      c.loop-j.invariant.apart,
    )

pub returns : goal.returns
unfolding c8
returns c =
    first_is (length (words c.args.c.now)) (meets_before c.args.c.now) None
    (λ i lt. c.loop-j.invariant.apart i (omega (arith, c.count-j-end.ensures.is)))
