use Rattle.std.proofs.Common.{◌∙◌, ap, ◌==◌, position, refl}
use Rattle.std.specs.FinSet as set
use Rattle.step_back.proofs.StopLemmas.{not_found, found, is_there, had_stays}
use Rattle.step_back.proofs.stops.Stops.insert.Goals as goal

pub add-requires : goal.add-requires
add-requires c =
    rw (← c.self.view_is)
    (not_found c.self.inside.ats.items c.args.at
    (c.in-None.ensures ∙ ap (position (λ x. x == c.args.at)) c.as_slice.ensures.value))

pub returns-in-Some-clause-is : goal.returns-in-Some-clause-is
returns-in-Some-clause-is c =
    let items = c.self.inside.ats.items in
    let there = is_there items c.in-Some.field-0 c.args.at
    (found items c.args.at c.in-Some.field-0
    (c.in-Some.ensures ∙ ap (position (λ x. x == c.args.at)) c.as_slice.ensures.value)) in
    rw (← c.self.view_is) (rw there refl)

pub returns-in-Some-clause-now : goal.returns-in-Some-clause-now
returns-in-Some-clause-now c =
    let items = c.self.inside.ats.items in
    let there = is_there items c.in-Some.field-0 c.args.at
    (found items c.args.at c.in-Some.field-0
    (c.in-Some.ensures ∙ ap (position (λ x. x == c.args.at)) c.as_slice.ensures.value)) in
    rw (← c.self.view_is) (had_stays (set.from_list items) c.args.at there)

pub returns-in-None-clause-is : goal.returns-in-None-clause-is
returns-in-None-clause-is c =
    let none = not_found c.self.inside.ats.items c.args.at
    (c.in-None.ensures ∙ ap (position (λ x. x == c.args.at)) c.as_slice.ensures.value) in
    c.add.ensures.is ∙ rw (← c.self.view_is) (rw none refl)
