-- All are listed, and then put in order.
use Rattle.std.proofs.Common.{◌≡◌, length, arith, rules}
use Rattle.std.proofs.lemmas.List.Sorted.{IsNonDecreasingBy-from_sort_by_key}
use Rattle.linked_starts.proofs.Offers.{sites_none, sites_sorted}
use Rattle.component_linker.proofs.SitesInOrder.{in_order}
use Rattle.component_linker.proofs.owners.sites.Goals as goal

pub loop-number-init : goal.loop-number-init
loop-number-init c = rw c.new-sites.ensures.items (sites_none c.args.parts.now)

pub of-requires : goal.of-requires
of-requires c =
    let n : c.loop-number.number ≡ length c.args.parts.now = omega (arith, c.len-number-end.ensures.is) in
    let up = IsNonDecreasingBy-from_sort_by_key (λ s. s.at)
    c.sort_by_key.new.self.items c.in_ok-sort_by_key.ensures.sorted (λ a r q k. search rules) in
    in_order c.args.parts.now c.sort_by_key.new.self.items c.requires.closed c.requires.separate
    (sites_sorted c.args.parts.now c.loop-number.number c.loop-number.sites.items c.sort_by_key.new.self.items
    n c.loop-number.invariant c.in_ok-sort_by_key.ensures.permutation up)

pub returns : goal.returns
returns c =
    let n : c.loop-number.number ≡ length c.args.parts.now = omega (arith, c.len-number-end.ensures.is) in
    let up = IsNonDecreasingBy-from_sort_by_key (λ s. s.at)
    c.sort_by_key.new.self.items c.in_ok-sort_by_key.ensures.sorted (λ a r q k. search rules) in
    rw c.of.ensures
    (sites_sorted c.args.parts.now c.loop-number.number c.loop-number.sites.items c.sort_by_key.new.self.items
    n c.loop-number.invariant c.in_ok-sort_by_key.ensures.permutation up)
