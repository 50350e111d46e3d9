use Rattle.std.proofs.Common.{◌≡◌, ℕ, ◌<◌, List, length, Some, refl, sym, ap, subst, ◌∙◌, arith}
use Rattle.std.specs.Prelude.{slice_get}
use Rattle.std.proofs.lemmas.Option.{slice_get_read}
use Rattle.component_file.specs.Limits.{IsComponent}
use Rattle.linked_starts.specs.declared.moving.Free.{Free}
use Rattle.linked_starts.specs.Parts.{PartSeen, IsPart}
use Rattle.linked_starts.specs.Standing.{settled, placed_part, past, placed_from}
use Rattle.linked_starts.proofs.Offers.{free_at, free_more, placed_at}
use Rattle.component_linker.proofs.placed.part_from.Goals as goal

fits : (first free : Free) (parts : List PartSeen) (k : ℕ) (p : PartSeen)
    → ((k : ℕ) (q : PartSeen) → slice_get (placed_from first parts) k ≡ Some q → IsPart q)
    → slice_get parts k ≡ Some p → free ≡ free_at first parts k → IsComponent (settled free p.component)
fits first free parts k p are e is =
    subst
    (λ f. IsComponent (settled f p.component)) (sym is)
    (are k (placed_part (free_at first parts k) p) (placed_at first parts k p e)).limits

pub loop-k-init : goal.loop-k-init
loop-k-init c = record { is = refl; small = c.requires.small }

pub past-free-requires-clause-fits : goal.past-free-requires-clause-fits
past-free-requires-clause-fits c =
    let lt : c.loop-k.k < length c.args.parts.now =
    (let a = c.loop-k-test.true in let b = c.requires.within in omega (arith, a, b)) in
    fits c.args.first c.loop-k.free c.args.parts.now c.loop-k.k c.index-parts-k.result c.requires.parts
    (slice_get_read c.args.parts.now (length c.args.parts.now)
    c.loop-k.k c.index-parts-k.result refl lt c.index-parts-k.is) c.loop-k.invariant.is

pub past-free-requires-clause-small : goal.past-free-requires-clause-small
past-free-requires-clause-small c = c.loop-k.invariant.small

pub loop-k-preserved : goal.loop-k-preserved
loop-k-preserved c =
    let parts = c.args.parts.now in
    let p = c.index-parts-k.result in
    let lt : c.loop-k.k < length parts =
    (let a = c.loop-k-test.true in let b = c.requires.within in omega (arith, a, b)) in
    record {
      is =
          c.past-free.ensures.is ∙ ap (λ f. past f p) c.loop-k.invariant.is
          ∙ sym (free_more c.args.first parts c.loop-k.k p
          (slice_get_read parts (length parts) c.loop-k.k p refl lt c.index-parts-k.is));
      small = c.past-free.ensures.small;
    }

pub placed_at-requires : goal.placed_at-requires
placed_at-requires c =
    let parts = c.args.parts.now in
    let p = c.index-parts-index.result in
    let end : c.loop-k.k ≡ c.args.index =
    (let a = c.loop-k-test.false in let b = c.loop-k.auto.k-end in omega (arith, a, b)) in
    fits c.args.first c.loop-k.free parts c.args.index p c.requires.parts
    (slice_get_read parts (length parts) c.args.index p refl c.requires.within c.index-parts-index.is)
    (c.loop-k.invariant.is ∙ ap (free_at c.args.first parts) end)

pub returns : goal.returns
returns c =
    let parts = c.args.parts.now in
    let p = c.index-parts-index.result in
    let end : c.loop-k.k ≡ c.args.index =
    (let a = c.loop-k-test.false in let b = c.loop-k.auto.k-end in omega (arith, a, b)) in
    placed_at c.args.first parts c.args.index p
    (slice_get_read parts (length parts) c.args.index p refl c.requires.within c.index-parts-index.is)
    ∙ ap (λ f. Some (placed_part f p)) (sym (c.loop-k.invariant.is ∙ ap (free_at c.args.first parts) end))
    ∙ ap Some (sym c.placed_at.ensures)
