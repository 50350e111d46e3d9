use Rattle.std.proofs.Common.{sym, ◌∙◌, ap, ◌==◌, position}
use Rattle.std.specs.FinSet as set
use Rattle.step_back.proofs.StopLemmas.{not_found, found, is_there, none_removed, set_removed, kept_removed}
use Rattle.step_back.proofs.stops.Stops.remove.Goals as goal

pub invariant_of-self : goal.invariant_of-self
invariant_of-self c =
    let items = c.self.inside.ats.items in
    let at = found items c.args.at c.in-Some.i
    (c.in-Some.ensures ∙ ap (position (λ x. x == c.args.at)) c.as_slice.ensures.value) in
    rw c.remove.ensures.items (kept_removed items c.in-Some.i c.args.at c.self.invariant at)

pub returns-in-None-clause-is : goal.returns-in-None-clause-is
returns-in-None-clause-is c =
    rw (← c.self.view_is)
    (sym (not_found c.self.inside.ats.items c.args.at
    (c.in-None.ensures ∙ ap (position (λ x. x == c.args.at)) c.as_slice.ensures.value)))

pub returns-in-None-clause-now : goal.returns-in-None-clause-now
returns-in-None-clause-now c =
    rw (← c.self.view_is)
    (none_removed (set.from_list c.self.inside.ats.items) c.args.at
    (not_found c.self.inside.ats.items c.args.at
    (c.in-None.ensures ∙ ap (position (λ x. x == c.args.at)) c.as_slice.ensures.value)))

pub returns-in-Some-clause-is : goal.returns-in-Some-clause-is
returns-in-Some-clause-is c =
    let items = c.self.inside.ats.items in
    rw (← c.self.view_is)
    (sym (is_there items c.in-Some.i c.args.at
    (found items c.args.at c.in-Some.i
    (c.in-Some.ensures ∙ ap (position (λ x. x == c.args.at)) c.as_slice.ensures.value))))

pub returns-in-Some-clause-now : goal.returns-in-Some-clause-now
returns-in-Some-clause-now c =
    let items = c.self.inside.ats.items in
    rw (c.remove.ensures.items, ← c.self.view_is)
    (set_removed items c.in-Some.i c.args.at c.self.invariant
    (found items c.args.at c.in-Some.i
    (c.in-Some.ensures ∙ ap (position (λ x. x == c.args.at)) c.as_slice.ensures.value)))
