use Rattle.std.proofs.Common.{rules}
use Rattle.step_back.proofs.StopLemmas.{at_is}
use Rattle.step_back.proofs.stops.Stops.has.Goals as goal

pub returns : goal.returns
returns c =
    let is = at_is c.self.inside.ats.items c.args.at in
    rw (← c.self.view_is, ← is) (search rules)
