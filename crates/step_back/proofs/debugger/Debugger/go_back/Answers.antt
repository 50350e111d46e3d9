use Rattle.std.proofs.Common.{rules, arith, ◌<◌}
use Rattle.step_back.proofs.DebugLemmas.{back_ends, back_goes, back_shorter}
use Rattle.step_back.proofs.debugger.Debugger.go_back.Goals as goal

pub returns-then-not-back-clause-after : goal.returns-then-not-back-clause-after
returns-then-not-back-clause-after c =
    let lt : c.loop-made.made < c.args.n = search rules in
    back_ends c.args.n c.loop-made.made c.args.self.now c.back.new.self c.loop-made.self lt (search rules)
    c.back.ensures.after c.loop-made.invariant.left

pub loop-made-preserved : goal.loop-made-preserved
loop-made-preserved c =
    let lt : c.loop-made.made < c.args.n = search rules in
    let shorter = back_shorter c.loop-made.self (search rules) in
    let made = c.loop-made.invariant.made in
    record {
      left = back_goes c.args.n c.loop-made.made c.args.self.now c.back.new.self c.loop-made.self lt
          c.back.ensures.after c.loop-made.invariant.left;
      count = omega (arith, c.back.ensures.count, c.loop-made.invariant.count);
      made = rw c.back.ensures.after (omega arith);
    }
