use Rattle.std.proofs.Common.{reverse, ap}
use Rattle.frame_region.proofs.FrameLemmas.{pushed}
use Rattle.frame_region.proofs.Region.push.Goals as goal

pub returns : goal.returns
returns g c =
    let i = c.in-Ok.ensures in
    let f = rw (← c.self.view_is) at c.requires in
    rw (← c.self.view_is)
    (ap (λ fs. record { frames = fs; cells = c.self.inside.cells })
    (pushed (reverse c.self.inside.slots.items)
    c.self.inside.items.items c.push.new.self.items c.args.item c.self.inside.used i.items
    c.self.invariant.lie c.self.invariant.fill f))
