use Rattle.step_back.proofs.DebugLemmas.{none_back, one_back, no_later}
use Rattle.step_back.proofs.debugger.Debugger.back.Goals as goal

pub returns-in-None-clause-after : goal.returns-in-None-clause-after
returns-in-None-clause-after c =
    let i = c.self.inside in
    rw (c.pop_front.ensures.items, ← c.self.view_is)
    (none_back i.stops i.notes.capacity i.state i.notes.items c.in-None.ensures.value)

pub returns-in-Some-clause-after : goal.returns-in-Some-clause-after
returns-in-Some-clause-after c =
    let i = c.self.inside in
    rw (c.pop_front.ensures.items, ← c.self.view_is)
    (one_back i.stops i.notes.capacity i.state i.notes.items c.in-Some.undo c.undo.new.self
    c.in-Some.ensures.value c.undo.ensures)

pub returns-in-Some-clause-count : goal.returns-in-Some-clause-count
returns-in-Some-clause-count c =
    let i = c.self.inside in
    rw (← c.self.view_is)
    (no_later i.state c.undo.new.self i.notes.items c.in-Some.undo c.in-Some.ensures.value c.undo.ensures
    c.self.invariant.1)
