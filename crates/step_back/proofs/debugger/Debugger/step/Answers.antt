use Rattle.std.proofs.Common.{◌≡◌, None, ◌∙◌, ap}
use Rattle.step_back.proofs.DebugLemmas.{step_forward, step_undone}
use Rattle.step_back.proofs.debugger.Debugger.step.Goals as goal

pub invariant_of-self : goal.invariant_of-self
invariant_of-self c =
    let i = c.self.inside in
    rw c.push_front.ensures.items (
      c.self.invariant.0,
      step_undone i.notes.capacity i.state c.step_noted-step.new.self i.notes.items _
          c.step_noted-step.ensures.back c.step_noted-step.ensures.can c.self.invariant.1,
    )

pub returns-clause-after : goal.returns-clause-after
returns-clause-after c =
    let i = c.self.inside in
    let going : i.state.end ≡ None = ap (λ d. d.now.end) c.self.view_is ∙ c.requires.going in
    rw (c.push_front.ensures.items, ← c.self.view_is)
    (step_forward i.stops i.notes.capacity i.state i.notes.items _ c.step_noted-step.new.self going
    c.step_noted-step.ensures.after c.step_noted-step.ensures.back)
