use Rattle.std.proofs.Common.{arith, ◌∙◌}
use Rattle.frame_region.proofs.FrameLemmas.{newest-item, item-place, item-is}
use Rattle.frame_region.proofs.Region.item.Goals as goal

pub index-requires : goal.index-requires
index-requires g c =
    let k = newest-item c.self.inside.slots.items c.self.inside.items.items c.args.i c.len.result
    c.index-slot.result.now (rw (← c.self.view_is) at c.requires)
    (c.len.ensures ∙ c.self.inside.slots.ok.0) c.index-slot.ensures in
    let p = item-place k.0 c.index-slot.result.now c.self.inside.items.items c.args.i k.2 in
    let v = c.self.inside.items.ok.0 in
    omega (arith, p, v)

pub returns : goal.returns
returns g c =
    let k = newest-item c.self.inside.slots.items c.self.inside.items.items c.args.i c.len.result
    c.index-slot.result.now (rw (← c.self.view_is) at c.requires)
    (c.len.ensures ∙ c.self.inside.slots.ok.0) c.index-slot.ensures in
    rw (← c.self.view_is)
    (rw k.1 (item-is k.0 c.index-slot.result.now c.self.inside.items.items c.args.i c.index.result.now k.2
    c.index.ensures))
