use Rattle.std.proofs.Common.{rules, ◌≡◌, ◌==◌, false}
use Rattle.std.specs.Ordering.{nat_cmp}
use Rattle.std.specs.FinSet as set
use Rattle.step_back.specs.declared.stops.TheConstants.{MOST_STOPS}
use Rattle.step_back.proofs.StopLemmas.{kept_pushed, set_pushed}
use Rattle.step_back.proofs.stops.Stops.add.Goals as goal

pub invariant_of-self : goal.invariant_of-self
invariant_of-self c =
    rw c.push.ensures.items
    (kept_pushed c.self.inside.ats.items c.args.at c.self.invariant (rw c.self.view_is c.requires))

pub returns-clause-now : goal.returns-clause-now
returns-clause-now c =
    let room : (set.len (set.from_list {R = nat_cmp} c.self.inside.ats.items) == MOST_STOPS) ≡ false =
    rw c.self.invariant (search rules) in
    rw (c.push.ensures.items, ← c.self.view_is)
    (set_pushed c.self.inside.ats.items c.args.at (rw c.self.view_is c.requires) room)
