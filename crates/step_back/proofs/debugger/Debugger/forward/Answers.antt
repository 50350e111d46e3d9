use Rattle.std.proofs.Common.{ap, ◌∙◌, ◌≤◌}
use Rattle.step_back.specs.Debug.{back}
use Rattle.step_back.proofs.DebugLemmas.{ended_stays, none_ended, forward_count}
use Rattle.step_back.proofs.Remembered.{there_and_back}
use Rattle.step_back.proofs.debugger.Debugger.forward.Goals as goal

pub returns-in-Some-clause-after : goal.returns-in-Some-clause-after
returns-in-Some-clause-after c =
    ended_stays c.args.self.now c.in-Some.end (rw (← c.self.view_is) c.in-Some.ensures)

pub returns-in-Some-clause-undone : goal.returns-in-Some-clause-undone
returns-in-Some-clause-undone c going =
    absurd (none_ended c.args.self.now c.in-Some.end (rw (← c.self.view_is) c.in-Some.ensures) going)

pub returns-in-None-clause-undone : goal.returns-in-None-clause-undone
returns-in-None-clause-undone c going =
    let depth : 1 ≤ c.args.self.now.depth = rw (← c.self.view_is) c.self.invariant.0 in
    ap (λ d. (back d).now) c.step.ensures.after ∙ there_and_back c.args.self.now depth going

pub returns-in-None-clause-count : goal.returns-in-None-clause-count
returns-in-None-clause-count c = rw c.step.ensures.after (forward_count c.args.self.now)
