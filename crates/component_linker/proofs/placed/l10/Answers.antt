use Rattle.std.proofs.Common.{◌≡◌, ℕ, ◌+◌, ◌<◌, inl, inr, List, length, Some, None, refl, sym, ap, subst}
use Rattle.std.proofs.Common.{◌∙◌, arith}
use Rattle.std.specs.Prelude.{slice_get}
use Rattle.std.proofs.lemmas.Bool.{cases_eq}
use Rattle.std.proofs.lemmas.Option.{slice_get_within, slice_get_read}
use Rattle.component_check.specs.Places.{first_place}
use Rattle.linked_starts.specs.declared.moving.Free.{Free}
use Rattle.linked_starts.specs.Parts.{PartSeen, IsPart}
use Rattle.linked_starts.specs.Links.{l10, room_test}
use Rattle.linked_starts.specs.Standing.{placed_part, past, placed_from}
use Rattle.linked_starts.proofs.Offers.{all_have_room, as_many, free_at, free_more, no_room, placed_at}
use Rattle.linked_starts.proofs.Offers.{room_at}
use Rattle.component_linker.proofs.placed.l10.Goals as goal

-- ---- one more part

abbrev None_before : Free → List PartSeen → ℕ → Type 0
None_before f parts n = (p : ℕ) → p < n → first_place ((l10 (placed_from f parts)).within p) ≡ None

abbrev Kept_before : Free → List PartSeen → ℕ → Type 0
Kept_before f parts n = (k : ℕ) (q : PartSeen) → k < n → slice_get (placed_from f parts) k ≡ Some q → IsPart q

one_more : (f : Free) (parts : List PartSeen) (n : ℕ) → None_before f parts n
    → first_place ((l10 (placed_from f parts)).within n) ≡ None → None_before f parts (n + 1)
one_more f parts n before here p lt =
    elim (cases_eq p n) as (λ _. first_place ((l10 (placed_from f parts)).within p) ≡ None) [
      | inl e ↦ ap (λ k. first_place ((l10 (placed_from f parts)).within k)) e ∙ here
      | inr ne ↦ before p (omega (arith, lt, ne))
    ]

kept_more : (f : Free) (parts : List PartSeen) (n : ℕ) (r : PartSeen) → Kept_before f parts n
    → slice_get (placed_from f parts) n ≡ Some r → IsPart r → Kept_before f parts (n + 1)
kept_more f parts n r before at is k q lt e = elim (cases_eq k n) as (λ _. IsPart q) [
  | inl same ↦ (let both : Some r ≡ Some q = sym at ∙ ap (slice_get (placed_from f parts)) (sym same) ∙ e in
      let one : r ≡ q = cc in subst IsPart one is)
  | inr ne ↦ before k q (omega (arith, lt, ne)) e
]

pub loop-index-init : goal.loop-index-init
loop-index-init c =
    record {
      is = refl;
      small = c.requires.small;
      before = λ p lt.
          absurd (omega (arith, lt));
      kept = λ k q lt e. absurd (omega (arith, lt));
    }

pub lacks_room-requires : goal.lacks_room-requires
lacks_room-requires c = c.loop-index.invariant.small

pub returns-in-Some-clause-is : goal.returns-in-Some-clause-is
returns-in-Some-clause-is c =
    let parts = c.args.parts.now in
    let p = c.index-parts-index.result in
    let n = c.loop-index.index in
    let here : Some c.in-Some.place ≡ first_place (room_test (placed_part (free_at c.args.first parts n) p)) =
    sym c.in-Some.is ∙ c.lacks_room.ensures.is
    ∙ ap (λ f. first_place (room_test (placed_part f p))) c.loop-index.invariant.is in
    no_room c.args.first parts n c.in-Some.place c.loop-index-test.true
    (room_at c.args.first parts n p
    (slice_get_read parts (length parts) n p refl c.loop-index-test.true c.index-parts-index.is) here)
    c.loop-index.invariant.before

pub loop-index-preserved : goal.loop-index-preserved
loop-index-preserved c =
    let parts = c.args.parts.now in
    let p = c.index-parts-index.result in
    let n = c.loop-index.index in
    let at = slice_get_read parts (length parts) n p refl c.loop-index-test.true c.index-parts-index.is in
    let here : None ≡ first_place (room_test (placed_part (free_at c.args.first parts n) p)) =
    sym c.in_default.is ∙ c.lacks_room.ensures.is
    ∙ ap (λ f. first_place (room_test (placed_part f p))) c.loop-index.invariant.is in
    record {
      is =
          c.past-free.ensures.is ∙ ap (λ f. past f p) c.loop-index.invariant.is
          ∙ sym (free_more c.args.first parts n p at);
      small = c.past-free.ensures.small;
      before =
          one_more c.args.first parts n c.loop-index.invariant.before
          (sym (room_at c.args.first parts n p at here));
      kept =
          kept_more c.args.first parts n
          (placed_part (free_at c.args.first parts n) p) c.loop-index.invariant.kept
          (placed_at c.args.first parts n p at)
          (subst (λ f. IsPart (placed_part f p)) c.loop-index.invariant.is
          (c.lacks_room.ensures.kept c.in_default.is));
    }

pub past-free-requires-clause-fits : goal.past-free-requires-clause-fits
past-free-requires-clause-fits c = (c.lacks_room.ensures.kept c.in_default.is).limits

pub past-free-requires-clause-small : goal.past-free-requires-clause-small
past-free-requires-clause-small c = c.loop-index.invariant.small

pub returns-clause-is : goal.returns-clause-is
returns-clause-is c =
    all_have_room c.args.first c.args.parts.now
    (λ p lt. c.loop-index.invariant.before p (let a = c.loop-index-test.false in omega (arith, lt, a)))

pub returns-clause-kept : goal.returns-clause-kept
returns-clause-kept c = λ none k q e.
    let lt = slice_get_within (placed_from c.args.first c.args.parts.now) k q e in
    let n = as_many c.args.first c.args.parts.now in
    c.loop-index.invariant.kept k q (let a = c.loop-index-test.false in omega (arith, lt, n, a)) e
