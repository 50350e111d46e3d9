use Rattle.std.proofs.Common.{arith, ◌+◌, length, reverse, sym, ap, subst, ◌∙◌, rules}
use Rattle.std.proofs.lemmas.List.{length-reverse}
use Rattle.frame_region.specs.Slots.{Lie, Fill}
use Rattle.frame_region.specs.declared.Slot.{Slot}
use Rattle.frame_region.proofs.FrameLemmas.{length-lie, sizes-stacked, begun, reverse-push}
use Rattle.frame_region.proofs.Region.begin.Goals as goal

pub unreachable-requires : goal.unreachable-requires
unreachable-requires g c =
    let i = c.in-Err.ensures in
    let k = length-lie (reverse c.self.inside.slots.items) c.self.inside.used c.self.invariant.lie in
    let l = length-reverse c.self.inside.slots.items in
    let s = sizes-stacked (reverse c.self.inside.slots.items)
    c.self.inside.items.items c.self.inside.used c.self.invariant.lie in
    let r = rw (← c.self.view_is) at c.requires.room in
    let o = c.requires.some in
    let m = c.self.invariant.slots_room in
    let f = i.full in
    search (rules, k, l, s, r, o, m, f)

pub overflow_add-self : goal.overflow_add-self
overflow_add-self g c =
    let h = c.self.invariant.fits in
    let s = sizes-stacked (reverse c.self.inside.slots.items)
    c.self.inside.items.items c.self.inside.used c.self.invariant.lie in
    let r = rw (← c.self.view_is) at c.requires.room in
    search (rules, s, r, h)

pub invariant_of-self : goal.invariant_of-self
invariant_of-self g c =
    let i = c.in-Ok.ensures in
    let slot : Slot _ = record { head = c.args.head; size = c.args.size; start = c.len-start.result } in
    let s = sizes-stacked (reverse c.self.inside.slots.items)
    c.self.inside.items.items c.self.inside.used c.self.invariant.lie in
    let r = rw (← c.self.view_is) at c.requires.room in
    let f = rw (← c.self.view_is) at c.requires.full in
    let b = begun (reverse c.self.inside.slots.items)
    c.self.inside.items.items slot c.self.inside.used (c.len-start.ensures ∙ c.self.inside.items.ok.0)
    c.requires.some c.self.invariant.lie c.self.invariant.fill f in
    let e = ap reverse i.items ∙ reverse-push c.self.inside.slots.items slot in
    record {
      lie = subst (λ ss. Lie ss (c.self.inside.used + c.args.size)) (sym e) b.0;
      fill = subst (λ ss. Fill ss (c.self.inside.used + c.args.size) (length c.self.inside.items.items))
          (sym e) b.1;
      within = omega (arith, s, r);
      fits = c.self.invariant.fits;
      slots_room = (let m = c.self.invariant.slots_room in let q = i.capacity in omega (arith, m, q));
      items_room = c.self.invariant.items_room;
    }
