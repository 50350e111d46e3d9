use Rattle.std.proofs.Common.{reverse, ap}
use Rattle.frame_region.proofs.FrameLemmas.{popped}
use Rattle.frame_region.proofs.Region.pop.Goals as goal

pub returns : goal.returns
returns g c =
    let i = c.in-Some.ensures in
    let f = rw (← c.self.view_is) at c.requires in
    rw (← c.self.view_is)
    (ap (λ fs. record { frames = fs; cells = c.self.inside.cells })
    (popped (reverse c.self.inside.slots.items)
    c.self.inside.items.items c.pop.new.self.items c.in-Some.item c.self.inside.used i.items
    c.self.invariant.lie c.self.invariant.fill f))
