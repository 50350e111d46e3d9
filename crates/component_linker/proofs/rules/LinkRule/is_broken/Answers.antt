use Rattle.std.proofs.Common.{rules, ◌≡◌, ◌<◌, ◌∙◌, sym, ap, subst, take, length, arith, not, eqb, true}
use Rattle.std.proofs.Common.{false}
use Rattle.std.specs.Prelude.{is_none, slice_index_or, Option, None, List, ◌==◌, ◌&&◌}
use Rattle.std.specs.List.{list_any}
use Rattle.std.proofs.lemmas.Option.{slice_get_within}
use Rattle.lcm_machine.specs.declared.cells.Span.{Span}
use Rattle.linked_starts.specs.Start.{same_name, imported, is_main, stack_base_of}
use Rattle.linked_starts.specs.Links.{share_seals, is_private, has_main, near_before}
use Rattle.component_linker.specs.declared.rules.LinkRule.TheVariants.{L1, L2, L3, L4, L5, L6}
use Rattle.component_linker.proofs.RuleTests.{test_in, tried_here, broken_is, earlier_is, in_parts, item_told}
use Rattle.component_linker.proofs.rules.LinkRule.is_broken.Goals as goal

pub comes_near-requires-clause-in_part : goal.comes_near-requires-clause-in_part
comes_near-requires-clause-in_part c =
    subst (λ (spans : List (Option Span)). c.args.k < length spans) (sym c.spans.ensures)
    (tried_here c.args.self L1 c.args.parts.now c.args.index c.args.part.now c.args.k c.in-L1.is
    c.requires.there c.requires.here)

pub part-requires : goal.part-requires
part-requires c =
    in_parts c.args.parts.now c.args.index c.args.k c.args.part.now c.requires.there
    (tried_here c.args.self L2 c.args.parts.now c.args.index c.args.part.now c.args.k c.in-L2.is
    c.requires.there c.requires.here)

pub part-requires-in-L3 : goal.part-requires-in-L3
part-requires-in-L3 c =
    in_parts c.args.parts.now c.args.index c.args.k c.args.part.now c.requires.there
    (tried_here c.args.self L3 c.args.parts.now c.args.index c.args.part.now c.args.k c.in-L3.is
    c.requires.there c.requires.here)

pub bounds-imports-k : goal.bounds-imports-k
bounds-imports-k c =
    rw c.imports.ensures.is
    (tried_here c.args.self L4 c.args.parts.now c.args.index c.args.part.now c.args.k c.in-L4.is
    c.requires.there c.requires.here)

pub offset_bounds-imports-k : goal.offset_bounds-imports-k
offset_bounds-imports-k c =
    let lt : c.args.k < length c.imports.result.now = bounds-imports-k c in
    let few = c.imports.ensures.few in
    search rules

pub bounds-imports-k-in-L5 : goal.bounds-imports-k-in-L5
bounds-imports-k-in-L5 c =
    rw c.imports-in-L5.ensures.is
    (tried_here c.args.self L5 c.args.parts.now c.args.index c.args.part.now c.args.k c.in-L5.is
    c.requires.there c.requires.here)

pub offset_bounds-imports-k-in-L5 : goal.offset_bounds-imports-k-in-L5
offset_bounds-imports-k-in-L5 c =
    let lt : c.args.k < length c.imports-in-L5.result.now = bounds-imports-k-in-L5 c in
    let few = c.imports-in-L5.ensures.few in
    search rules

pub bounds-exports-k : goal.bounds-exports-k
bounds-exports-k c =
    rw c.exports.ensures.is
    (tried_here c.args.self L6 c.args.parts.now c.args.index c.args.part.now c.args.k c.in-L6.is
    c.requires.there c.requires.here)

pub offset_bounds-exports-k : goal.offset_bounds-exports-k
offset_bounds-exports-k c =
    let lt : c.args.k < length c.exports.result.now = bounds-exports-k c in
    let few = c.exports.ensures.few in
    search rules

pub main_before-requires : goal.main_before-requires
main_before-requires c =
    let within = slice_get_within c.args.parts.now c.args.index c.args.part.now c.requires.there in
    omega (arith, within)

pub are_too_many-requires : goal.are_too_many-requires
are_too_many-requires c = slice_get_within c.args.parts.now c.args.index c.args.part.now c.requires.there

pub returns-in-L1 : goal.returns-in-L1
returns-in-L1 c =
    let parts = c.args.parts.now in
    let i = c.args.index in
    let k = c.args.k in
    broken_is c.args.self parts i c.args.part.now k c.comes_near.result c.requires.there
    (c.comes_near.ensures
    ∙ ap (λ spans. near_before (take i parts) (take k spans) (slice_index_or spans k None)) c.spans.ensures
    ∙ ap (λ r. (test_in r parts i c.args.part.now).broken k) (sym c.in-L1.is))

pub returns-in-L2 : goal.returns-in-L2
returns-in-L2 c =
    let parts = c.args.parts.now in
    let i = c.args.index in
    let p = c.args.part.now in
    let k = c.args.k in
    broken_is c.args.self parts i p k c.share_seals.result c.requires.there
    (c.share_seals.ensures
    ∙ earlier_is parts i k p c.part.result (share_seals p) c.requires.there
    (tried_here c.args.self L2 parts i p k c.in-L2.is c.requires.there c.requires.here) c.part.ensures
    ∙ ap (λ r. (test_in r parts i p).broken k) (sym c.in-L2.is))

pub returns-in-L3 : goal.returns-in-L3
returns-in-L3 c =
    let parts = c.args.parts.now in
    let i = c.args.index in
    let p = c.args.part.now in
    let k = c.args.k in
    let q = c.part-in-L3.result in
    let same : c.eq.result ≡ same_name p.component.name q.component.name = search rules in
    broken_is c.args.self parts i p k c.eq.result c.requires.there
    (same
    ∙ earlier_is parts i k p q (λ q. same_name p.component.name q.component.name) c.requires.there
    (tried_here c.args.self L3 parts i p k c.in-L3.is c.requires.there c.requires.here) c.part-in-L3.ensures
    ∙ ap (λ r. (test_in r parts i p).broken k) (sym c.in-L3.is))

pub returns-in-L4 : goal.returns-in-L4
returns-in-L4 c =
    let parts = c.args.parts.now in
    let p = c.args.part.now in
    let k = c.args.k in
    let x = c.index-imports-k.result in
    let lt : k < length c.imports.result.now = rw c.imports.ensures.is
    (tried_here c.args.self L4 parts c.args.index p k c.in-L4.is c.requires.there c.requires.here) in
    let missing : c.is_none.result ≡ is_none (imported parts x) = search rules in
    broken_is c.args.self parts c.args.index p k c.is_none.result c.requires.there
    (missing
    ∙ item_told (λ x. is_none (imported parts x)) c.imports.result.now p.component.imports k x
    c.imports.ensures.is lt c.index-imports-k.is
    ∙ ap (λ r. (test_in r parts c.args.index p).broken k) (sym c.in-L4.is))

pub returns-in-L5 : goal.returns-in-L5
returns-in-L5 c =
    let parts = c.args.parts.now in
    let p = c.args.part.now in
    let k = c.args.k in
    let x = c.index-imports-k-in-L5.result in
    let lt : k < length c.imports-in-L5.result.now = rw c.imports-in-L5.ensures.is
    (tried_here c.args.self L5 parts c.args.index p k c.in-L5.is c.requires.there c.requires.here) in
    let refused : c.is_private.result ≡ is_private p (imported parts x) = search rules in
    broken_is c.args.self parts c.args.index p k c.is_private.result c.requires.there
    (refused
    ∙ item_told (λ x. is_private p (imported parts x)) c.imports-in-L5.result.now p.component.imports k x
    c.imports-in-L5.ensures.is lt c.index-imports-k-in-L5.is
    ∙ ap (λ r. (test_in r parts c.args.index p).broken k) (sym c.in-L5.is))

pub returns-then-is_main : goal.returns-then-is_main
returns-then-is_main c =
    let parts = c.args.parts.now in
    let i = c.args.index in
    let p = c.args.part.now in
    let k = c.args.k in
    let e = c.index-exports-k.result in
    let lt : k < length c.exports.result.now = rw c.exports.ensures.is
    (tried_here c.args.self L6 parts i p k c.in-L6.is c.requires.there c.requires.here) in
    let main : is_main e ≡ true = sym c.is_main.ensures ∙ c.if-is_main.true in
    let second : c.main_before.result ≡ (is_main e && list_any has_main (take i parts)) =
    rw main c.main_before.ensures in
    broken_is c.args.self parts i p k c.main_before.result c.requires.there
    (second
    ∙ item_told (λ e. is_main e && list_any has_main (take i parts)) c.exports.result.now
    p.component.exports k e c.exports.ensures.is lt c.index-exports-k.is
    ∙ ap (λ r. (test_in r parts i p).broken k) (sym c.in-L6.is))

pub returns-else-is_main : goal.returns-else-is_main
returns-else-is_main c =
    let parts = c.args.parts.now in
    let i = c.args.index in
    let p = c.args.part.now in
    let k = c.args.k in
    let e = c.index-exports-k.result in
    let lt : k < length c.exports.result.now = rw c.exports.ensures.is
    (tried_here c.args.self L6 parts i p k c.in-L6.is c.requires.there c.requires.here) in
    let main : is_main e ≡ false = sym c.is_main.ensures ∙ c.if-is_main.false in
    let second : c.is_main.result ≡ (is_main e && list_any has_main (take i parts)) =
    rw main c.if-is_main.false in
    broken_is c.args.self parts i p k c.is_main.result c.requires.there
    (second
    ∙ item_told (λ e. is_main e && list_any has_main (take i parts)) c.exports.result.now
    p.component.exports k e c.exports.ensures.is lt c.index-exports-k.is
    ∙ ap (λ r. (test_in r parts i p).broken k) (sym c.in-L6.is))

pub returns-in-L7 : goal.returns-in-L7
returns-in-L7 c =
    let parts = c.args.parts.now in
    let p = c.args.part.now in
    let k = c.args.k in
    let other : not (eqb c.stack_base.result c.stack_base-in-L7.result)
    ≡ not (p.component.stack_base == stack_base_of parts) = search rules in
    broken_is c.args.self parts c.args.index p k (not (eqb c.stack_base.result c.stack_base-in-L7.result))
    c.requires.there (other ∙ ap (λ r. (test_in r parts c.args.index p).broken k) (sym c.in-L7.is))

pub returns-in-L8 : goal.returns-in-L8
returns-in-L8 c =
    broken_is c.args.self c.args.parts.now c.args.index c.args.part.now c.args.k false c.requires.there
    (ap (λ r. (test_in r c.args.parts.now c.args.index c.args.part.now).broken c.args.k) (sym c.in-L8.is))

pub returns-in-L9 : goal.returns-in-L9
returns-in-L9 c =
    let parts = c.args.parts.now in
    let p = c.args.part.now in
    let k = c.args.k in
    broken_is c.args.self parts c.args.index p k c.are_too_many.result c.requires.there
    (c.are_too_many.ensures ∙ ap (λ r. (test_in r parts c.args.index p).broken k) (sym c.in-L9.is))
