use Rattle.std.proofs.Common.{arith, reverse}
use Rattle.frame_region.proofs.FrameLemmas.{sizes-stacked}
use Rattle.frame_region.proofs.Region.spare.Goals as goal

pub returns : goal.returns
returns g c =
    let k = sizes-stacked (reverse c.self.inside.slots.items)
    c.self.inside.items.items c.self.inside.used c.self.invariant.lie in
    let w = c.self.invariant.within in
    rw (← c.self.view_is) (omega (arith, k, w))
