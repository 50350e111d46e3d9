use Rattle.std.proofs.Common.{◌≡◌, ◌∙◌, ap, arith, suc, refl}
use Rattle.call_sequence.specs.declared.flow.Walk.TheVariants.{Before, Ended, Broken}
use Rattle.call_sequence.specs.Walk.{next_from, next}
use Rattle.call_sequence.proofs.Offers.{rises}
use Rattle.flow_check.proofs.walking.check_walk.Goals as goal

pub walk-smaller : goal.walk-smaller
walk-smaller c =
    let e : next_from c.args.c.now c.walk.at c.walk.current ≡ Before c.in-Before.next c.in-Before.row =
    cc c.in-Before.ensures in
    let up = rises c.args.c.now c.walk.at c.in-Before.next c.walk.current c.in-Before.row e in
    omega (arith, up.0, up.1)

pub walk-preserved : goal.walk-preserved
walk-preserved c =
    let e : next_from c.args.c.now c.walk.at c.walk.current ≡ Before c.in-Before.next c.in-Before.row =
    cc c.in-Before.ensures in
    (suc c.walk.invariant.0, ap (next c.args.c.now) c.walk.invariant.1 ∙ e)

pub returns-in-Ended : goal.returns-in-Ended
returns-in-Ended c =
    let e : next_from c.args.c.now c.walk.at c.walk.current ≡ Ended = cc c.in-Ended.ensures in
    (suc c.walk.invariant.0, ap (next c.args.c.now) c.walk.invariant.1 ∙ e)

pub returns-in-Broken : goal.returns-in-Broken
returns-in-Broken c =
    let e : next_from c.args.c.now c.walk.at c.walk.current ≡ Broken c.in-Broken.number c.in-Broken.place =
    cc c.in-Broken.ensures in (
      c.in-Broken.number,
      c.in-Broken.place,
      (suc c.walk.invariant.0, ap (next c.args.c.now) c.walk.invariant.1 ∙ e),
      refl,
    )
