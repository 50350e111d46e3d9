use Rattle.std.proofs.Common.{rules, arith, sym, ◌∙◌, ap, ◌≡◌, ◌<◌, ◌-◌, None, true, false}
use Rattle.step_back.specs.Debug.{go, is_stop}
use Rattle.step_back.proofs.DebugLemmas.{go_ended, go_none, go_breaks, go_goes, forward_count, go_count}
use Rattle.step_back.proofs.DebugLemmas.{go_end}
use Rattle.step_back.proofs.debugger.Debugger.go.Goals as goal

pub returns-in-Some-clause-is : goal.returns-in-Some-clause-is
returns-in-Some-clause-is c =
    sym c.loop-i.invariant.left
    ∙ go_ended _ c.loop-i.self c.in-Some.end (rw (← c.self.view_is) c.in-Some.ensures)

pub returns-then-comes_to_stop-clause-is : goal.returns-then-comes_to_stop-clause-is
returns-then-comes_to_stop-clause-is c =
    let lt : c.loop-i._i < c.args.n = search rules in
    let going : c.loop-i.self.now.end ≡ None = search rules in
    let stop : is_stop c.comes_to_stop.new.self ≡ true = search rules in
    go_breaks c.args.n c.loop-i._i c.args.self.now c.comes_to_stop.new.self c.loop-i.self lt going
    c.comes_to_stop.ensures.after stop c.loop-i.invariant.left

pub loop-i-preserved : goal.loop-i-preserved
loop-i-preserved c =
    let lt : c.loop-i._i < c.args.n = search rules in
    let going : c.loop-i.self.now.end ≡ None = search rules in
    let stop : is_stop c.comes_to_stop.new.self ≡ false = search rules in
    let more = forward_count c.loop-i.self in
    let count = c.loop-i.invariant.count in
    record {
      left = go_goes c.args.n c.loop-i._i c.args.self.now c.comes_to_stop.new.self c.loop-i.self lt going
          c.comes_to_stop.ensures.after stop c.loop-i.invariant.left;
      count = rw c.comes_to_stop.ensures.after (omega arith);
    }

pub returns-clause-is : goal.returns-clause-is
returns-clause-is c =
    let none : c.args.n - c.loop-i._i ≡ 0 = search rules in
    sym c.loop-i.invariant.left ∙ ap (λ k. go k c.loop-i.self) none ∙ go_none c.loop-i.self
    ∙ ap (λ s. (s, c.loop-i.self)) (sym c.spent.ensures)

pub returns-in-Some-clause-count : goal.returns-in-Some-clause-count
returns-in-Some-clause-count c = go_count c.args.n c.args.self.now _ _ (returns-in-Some-clause-is c)

pub returns-in-Some-clause-ended : goal.returns-in-Some-clause-ended
returns-in-Some-clause-ended c = go_end c.args.n c.args.self.now _ _ (returns-in-Some-clause-is c)

pub returns-then-comes_to_stop-clause-count : goal.returns-then-comes_to_stop-clause-count
returns-then-comes_to_stop-clause-count c =
    go_count c.args.n c.args.self.now _ _ (returns-then-comes_to_stop-clause-is c)

pub returns-then-comes_to_stop-clause-ended : goal.returns-then-comes_to_stop-clause-ended
returns-then-comes_to_stop-clause-ended c =
    go_end c.args.n c.args.self.now _ _ (returns-then-comes_to_stop-clause-is c)

pub returns-clause-count : goal.returns-clause-count
returns-clause-count c = go_count c.args.n c.args.self.now _ _ (returns-clause-is c)

pub returns-clause-ended : goal.returns-clause-ended
returns-clause-ended c = go_end c.args.n c.args.self.now _ _ (returns-clause-is c)
