use Rattle.std.proofs.Common.{false, arith}
use Rattle.component_check.proofs.First.{below_suc}
use Rattle.component_check.proofs.places.first_place.Goals as goal

pub loop-i-init : goal.loop-i-init
loop-i-init g c = λ k lt. absurd (omega (arith, lt))

pub loop-i-preserved : goal.loop-i-preserved
loop-i-preserved g c = λ k lt.
    below_suc (λ j. goal.F-post g c.args.test j false) c.loop-i.i c.loop-i.invariant c.if-test.ensures k
    (omega (arith, lt))

pub returns-then-test-clause-first : goal.returns-then-test-clause-first
returns-then-test-clause-first g c = record {
  found = (c.loop-i-test.true, c.if-test.ensures, c.loop-i.invariant);
}

pub returns-then-test-clause-within : goal.returns-then-test-clause-within
returns-then-test-clause-within g c = c.loop-i-test.true

pub returns-clause-first : goal.returns-clause-first
returns-clause-first g c = record {
  found = λ k lt. c.loop-i.invariant k (omega (arith, lt, c.loop-i-test.false));
}
