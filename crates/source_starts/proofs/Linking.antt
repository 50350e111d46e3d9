-- What imports name among linked parts, whose names differ.
use Rattle.std.proofs.Common.{◌≡◌, ◌⊎◌, inl, inr, ℕ, true, false, not, List, find, Option, Some, None}
use Rattle.std.proofs.Common.{refl, sym, ap, ◌∙◌, arith}
use Rattle.std.specs.Prelude.{slice_get, option_map, option_and_then, ◌||◌}
use Rattle.std.proofs.lemmas.Bool.{cases_eq, cases_lt, not-false, or_cases}
use Rattle.std.proofs.lemmas.Option.{slice_get_within}
use Rattle.component_file.specs.declared.component.Import.{Import}
use Rattle.component_file.specs.declared.component.Export.{Export}
use Rattle.linked_starts.specs.Parts.{PartSeen}
use Rattle.linked_starts.specs.Pairs.{NoneIsBroken, at_each, passes, never}
use Rattle.linked_starts.specs.Links.{rules_l, l5, is_private}
use Rattle.linked_starts.specs.Start.{Exported, exported_by, export_that, part_named, imported, same_name}
use Rattle.linked_starts.proofs.Offers.{in_part, IsExport, imported_there}
use Rattle.overlay_machine.proofs.Offers.{found_is}
use Rattle.source_starts.proofs.Worlds.{NamesApart, names_same, same_names}

-- two parts of one name are one
pub one_named : (parts : List PartSeen) → NamesApart parts → (k n : ℕ) (p q : PartSeen)
    → slice_get parts k ≡ Some p
    → slice_get parts n ≡ Some q → p.component.name ≡ q.component.name → k ≡ n
one_named parts apart k n p q at_p at_q e = elim (cases_eq k n) as (λ _. k ≡ n) [
  | inl s ↦ s
  | inr ne ↦ elim (cases_lt k n) as (λ _. k ≡ n) [
    | inl lt ↦ absurd (
        let d = apart k n p q lt at_p at_q in
        let t = ap (λ a. same_name q.component.name a) e ∙ names_same q.component.name in
        let bad : true ≡ false = sym t ∙ d in cc)
    | inr ge ↦ absurd (
        let d = apart n k q p (omega (arith, ge, ne)) at_q at_p in
        let t = ap (λ a. same_name a q.component.name) e ∙ names_same q.component.name in
        let bad : true ≡ false = sym t ∙ d in cc)
  ]
]

pub same_part : (parts : List PartSeen) → NamesApart parts → (k n : ℕ) (p q : PartSeen)
    → slice_get parts k ≡ Some p
    → slice_get parts n ≡ Some q → p.component.name ≡ q.component.name → p ≡ q
same_part parts apart k n p q at_p at_q e =
    let s : Some p ≡ Some q = sym at_p ∙ ap (slice_get parts) (one_named parts apart k n p q at_p at_q e)
    ∙ at_q in cc

-- what an import names has its names
pub record Names (parts : List PartSeen) (i : Import) (x : Exported) : Type 0 where
  pub there : IsExport parts x
  pub part : x.part.component.name ≡ i.part
  pub name : x.export.name ≡ i.name

names_of : (parts : List PartSeen) (i : Import) (x : Exported) → imported parts i ≡ Some x
    → (x.part.component.name ≡ i.part) × (x.export.name ≡ i.name)
names_of parts i x e = by_part (part_named parts i.part) refl e
  where
    by_export : (p : PartSeen) (o : Option Export)
        → find (λ (e : Export). same_name e.name i.name) p.component.exports ≡ o
        → same_name p.component.name i.part ≡ true → option_map (exported_by p) o ≡ Some x
        → (x.part.component.name ≡ i.part) × (x.export.name ≡ i.name)
    by_export p None f t e = cc
    by_export p (Some y) f t e =
        let k = found_is (λ (e : Export). same_name e.name i.name) p.component.exports y f in
        let s : exported_by p y ≡ x = cc in (
          ap (λ (z : Exported). z.part.component.name) (sym s) ∙ same_names p.component.name i.part t,
          ap (λ (z : Exported). z.export.name) (sym s) ∙ same_names y.name i.name k.1,
        )

    by_part : (o : Option PartSeen) → part_named parts i.part ≡ o
        → option_and_then (export_that (λ (e : Export). same_name e.name i.name)) o ≡ Some x
        → (x.part.component.name ≡ i.part) × (x.export.name ≡ i.name)
    by_part None f e = cc
    by_part (Some p) f e =
        let k = found_is (λ (p : PartSeen). same_name p.component.name i.part) parts p f in
        by_export p (find (λ (e : Export). same_name e.name i.name) p.component.exports) refl k.1 e

pub imported_names : (parts : List PartSeen) (i : Import) (x : Exported) → imported parts i ≡ Some x
    → Names parts i x
imported_names parts i x e =
    let n = names_of parts i x e in record { there = imported_there parts i x e; part = n.0; name = n.1 }

-- it is shared, or the part's own
pub may_import : (parts : List PartSeen) (size : ℕ) → NoneIsBroken (rules_l parts size)
    → (k n : ℕ) (p : PartSeen)
    (i : Import) (x : Exported) → slice_get parts k ≡ Some p → slice_get p.component.imports n ≡ Some i
    → imported parts i ≡ Some x → (x.export.shared ≡ true) ⊎ (x.part.component.name ≡ p.component.name)
unfolding l5
may_import parts size h k n p i x at here is =
    let none : passes (λ y. is_private p (imported parts y)) (slice_get p.component.imports n) ≡ false
    = in_part parts (λ j q. at_each q.component.imports (λ y. is_private q (imported parts y))) never k p n at
    (λ b. h 5 k n (l5 parts) refl (slice_get_within parts k p at, b))
    (slice_get_within p.component.imports n i here) in
    let open' : not (x.export.shared || same_name x.part.component.name p.component.name) ≡ false =
    sym (ap (is_private p) is) ∙ sym (ap (passes (λ y. is_private p (imported parts y))) here) ∙ none in
    elim (or_cases x.export.shared (same_name x.part.component.name p.component.name) (not-false _ open'))
    as (λ _. (x.export.shared ≡ true) ⊎ (x.part.component.name ≡ p.component.name)) [
      | inl s ↦ inl s
      | inr s ↦ inr (same_names x.part.component.name p.component.name s)
    ]
