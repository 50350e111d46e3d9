-- All are listed, and then put in order.
use Rattle.std.proofs.Common.{◌≡◌, length, arith, rules}
use Rattle.std.proofs.lemmas.List.Sorted.{IsNonDecreasingBy-from_sort_by_key}
use Rattle.linked_starts.proofs.Offers.{next_owner, owners_none, owners_sorted}
use Rattle.component_linker.proofs.owners.owners.Goals as goal

pub loop-number-init : goal.loop-number-init
loop-number-init c = rw c.new-owners.ensures.items (owners_none c.args.parts.now)

pub loop-number-preserved : goal.loop-number-preserved
loop-number-preserved c =
    rw c.in_ok-push.ensures.items
    (next_owner c.args.parts.now c.loop-number.number c.part-part.result c.loop-number.owners.items
    c.in_ok-owner.owner c.requires.closed c.requires.separate c.loop-number.invariant c.part-part.ensures
    c.in_ok-owner.ensures)

pub returns : goal.returns
returns c =
    let n : c.loop-number.number ≡ length c.args.parts.now = omega (arith, c.len-number-end.ensures.is) in
    let up = IsNonDecreasingBy-from_sort_by_key (λ o. o.code.base)
    c.sort_by_key.new.self.items c.in_ok-sort_by_key.ensures.sorted (λ a r q k. search rules) in
    rw c.of.ensures
    (owners_sorted c.args.parts.now c.loop-number.number c.loop-number.owners.items
    c.sort_by_key.new.self.items n c.loop-number.invariant c.in_ok-sort_by_key.ensures.permutation up)

pub named-requires : goal.named-requires
named-requires c = c.requires.closed.kept c.loop-number.number c.part-part.result c.part-part.ensures
