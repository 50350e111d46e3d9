use Rattle.std.proofs.Common.{arith, ◌-◌, reverse, sym, ap, ◌∙◌, get_or}
use Rattle.std.proofs.lemmas.List.{length-reverse, get_or-reverse}
use Rattle.frame_region.proofs.FrameLemmas.{length-stacked, head-is}
use Rattle.frame_region.proofs.Region.head.Goals as goal

pub overflow_sub-len-2 : goal.overflow_sub-len-2
overflow_sub-len-2 g c =
    let l = length-reverse c.self.inside.slots.items in
    let s = length-stacked (reverse c.self.inside.slots.items) c.self.inside.items.items in
    let r = rw (← c.self.view_is) at c.requires in
    let e = c.len.ensures ∙ c.self.inside.slots.ok.0 in
    omega (arith, l, s, r, e)

pub returns : goal.returns
returns g c =
    let l = length-reverse c.self.inside.slots.items in
    let s = length-stacked (reverse c.self.inside.slots.items) c.self.inside.items.items in
    let r = rw (← c.self.view_is) at c.requires in
    let n = c.len.ensures ∙ c.self.inside.slots.ok.0 in
    let e = c.index-slot.ensures in
    let i = c.args.i in
    rw (← c.self.view_is)
    (head-is (reverse c.self.inside.slots.items)
    c.self.inside.items.items c.args.i c.index-slot.result.now (omega (arith, l, s, r))
    (e ∙ ap (λ k. get_or c.self.inside.slots.items (k - 1 - i) c.index-slot.result.now) n
    ∙ sym (get_or-reverse c.self.inside.slots.items i c.index-slot.result.now (omega (arith, l, s, r)))))
