use Rattle.std.proofs.Common.{rules, arith, ◌-◌, reverse, sym, ap, ◌∙◌, get_or}
use Rattle.std.proofs.lemmas.List.{length-reverse, get_or-reverse}
use Rattle.frame_region.proofs.FrameLemmas.{length-stacked, frame_there, item_at-place, item_at-is}
use Rattle.frame_region.proofs.Region.item_at.Goals as goal

pub overflow_sub-len-2 : goal.overflow_sub-len-2
overflow_sub-len-2 g c =
    let l = length-reverse c.self.inside.slots.items in
    let s = length-stacked (reverse c.self.inside.slots.items) c.self.inside.items.items in
    let r = rw (← c.self.view_is) at c.requires in
    let there = frame_there _ c.args.frame c.args.item r in
    let e = c.len.ensures ∙ c.self.inside.slots.ok.0 in
    omega (arith, l, s, there, e)

pub overflow_add-slot : goal.overflow_add-slot
overflow_add-slot g c =
    let l = length-reverse c.self.inside.slots.items in
    let s = length-stacked (reverse c.self.inside.slots.items) c.self.inside.items.items in
    let r = rw (← c.self.view_is) at c.requires in
    let there = frame_there _ c.args.frame c.args.item r in
    let n = c.len.ensures ∙ c.self.inside.slots.ok.0 in
    let e = c.index-slot.ensures in
    let k = c.args.frame in
    let p = item_at-place (reverse c.self.inside.slots.items)
    c.self.inside.items.items k c.args.item c.index-slot.result.now (omega (arith, l, s, there))
    (e ∙ ap (λ m. get_or c.self.inside.slots.items (m - 1 - k) c.index-slot.result.now) n
    ∙ sym (get_or-reverse c.self.inside.slots.items k c.index-slot.result.now
    (omega (arith, l, s, there)))) r in
    let v = c.self.inside.items.ok in
    grind (rules, arith, p, v)

pub index-requires : goal.index-requires
index-requires g c =
    let l = length-reverse c.self.inside.slots.items in
    let s = length-stacked (reverse c.self.inside.slots.items) c.self.inside.items.items in
    let r = rw (← c.self.view_is) at c.requires in
    let there = frame_there _ c.args.frame c.args.item r in
    let n = c.len.ensures ∙ c.self.inside.slots.ok.0 in
    let e = c.index-slot.ensures in
    let k = c.args.frame in
    let v = c.self.inside.items.ok.0 in
    let p = item_at-place (reverse c.self.inside.slots.items)
    c.self.inside.items.items k c.args.item c.index-slot.result.now (omega (arith, l, s, there))
    (e ∙ ap (λ m. get_or c.self.inside.slots.items (m - 1 - k) c.index-slot.result.now) n
    ∙ sym (get_or-reverse c.self.inside.slots.items k c.index-slot.result.now
    (omega (arith, l, s, there)))) r in
    omega (arith, p, v)

pub returns : goal.returns
returns g c =
    let l = length-reverse c.self.inside.slots.items in
    let s = length-stacked (reverse c.self.inside.slots.items) c.self.inside.items.items in
    let r = rw (← c.self.view_is) at c.requires in
    let there = frame_there _ c.args.frame c.args.item r in
    let n = c.len.ensures ∙ c.self.inside.slots.ok.0 in
    let e = c.index-slot.ensures in
    let k = c.args.frame in
    rw (← c.self.view_is)
    (item_at-is (reverse c.self.inside.slots.items)
    c.self.inside.items.items k c.args.item c.index-slot.result.now c.index.result.now
    (omega (arith, l, s, there))
    (e ∙ ap (λ m. get_or c.self.inside.slots.items (m - 1 - k) c.index-slot.result.now) n
    ∙ sym (get_or-reverse c.self.inside.slots.items k c.index-slot.result.now
    (omega (arith, l, s, there)))) r c.index.ensures)
