-- Each part of a linked start has an owner, whose code and data end within the address space.
use Rattle.std.proofs.Common.{◌≡◌, ℕ, zero, suc, ◌<◌, ◌≤◌, Bool, true, List, [], ◌∷◌, get_or, inl, inr, Some}
use Rattle.std.proofs.Common.{refl, sym, ap, subst, ◌∙◌, arith, length, eq-eqb}
use Rattle.std.specs.Prelude.{◌==◌, find, slice_get, IsSome}
use Rattle.std.specs.List.{Contains, position_or_len}
use Rattle.std.proofs.lemmas.Bool.{cases_Bool}
use Rattle.cap_words.specs.declared.TheConstants.{LAST_PLACE}
use Rattle.linked_starts.specs.declared.owners.Owner.{Owner}
use Rattle.linked_starts.specs.Owners.{owner_of, IsOwner}
use Rattle.linked_starts.specs.Started.{StartSeen}
use Rattle.linked_starts.specs.Linked.{Linked}
use Rattle.linked_starts.proofs.Offers.{are_linked, found, listed_at, part_of}
use Rattle.authority_report.specs.Entered.{IsLinked}
use Rattle.authority_report.specs.Report.{owner_of_part}
use Rattle.component_file.proofs.Offers.{inside}

pub owner_listed : (owners : List Owner) (part : ℕ) (o : Owner) → owner_of_part owners part ≡ Some o
    → Contains owners o
owner_listed owners part o h =
    let test : Owner → Bool = λ o. o.part == part in
    listed_at owners (position_or_len test owners) o (found test owners o h)

pub linked : (s : StartSeen) (is : IsLinked s) → Linked is.parts is.size
linked s is = are_linked is.parts is.size is.accepted is.rules

module _ (s : StartSeen) (here : IsLinked s) (o : Owner) (listed : Contains s.owners o) where
  pub is_owner : IsOwner here.parts o
  is_owner = (here.starts.owners.all o).0 listed

  pub code_small : o.code.end ≤ LAST_PLACE
  unfolding owner_of
  code_small =
      let is = is_owner in
      let k = ((linked s here).closed.kept o.part is.of is.of_is).code_end in
      subst (λ (q : Owner). q.code.end ≤ LAST_PLACE) (sym is.is) (omega (arith, k))

  pub data_small : o.data_span.end ≤ LAST_PLACE
  unfolding owner_of
  data_small =
      let is = is_owner in
      let k = ((linked s here).closed.kept o.part is.of is.of_is).data_end in
      subst (λ (q : Owner). q.data_span.end ≤ LAST_PLACE) (sym is.is) (omega (arith, k))

-- ---- each part has an owner

there_at : (p : Owner → Bool) (xs : List Owner) (k : ℕ) (d : Owner) → k < length xs → p (get_or xs k d) ≡ true
    → IsSome (find p xs)
there_at p [] k d lt h = absurd (omega (arith, lt))
there_at p (x ∷ xs) zero d lt h = rw h refl
there_at p (x ∷ xs) (suc k) d lt h = elim (cases_Bool (p x)) as (λ _. IsSome (find p (x ∷ xs))) [
  | inl t ↦ rw t refl
  | inr f ↦ rw f (there_at p xs k d (omega (arith, lt)) h)
]

there : (p : Owner → Bool) (o : Owner) (owners : List Owner) → Contains owners o → p o ≡ true
    → IsSome (find p owners)
there p o owners listed h = there_at p owners listed.0 o listed.1 (ap p listed.2 ∙ h)

pub owner_there : (s : StartSeen) → IsLinked s → (k : ℕ) → k < length s.owners
    → IsSome (owner_of_part s.owners k)
owner_there s here k lt =
    let e = here.starts.owners.count in
    let at = inside here.parts k (omega (arith, lt, e)) in
    let o = owner_of k at.0 in
    let its = part_of k at.0 in
    there (λ o. o.part == k) o s.owners
    ((here.starts.owners.all o).1 (record {
      of = at.0;
      of_is = ap (slice_get here.parts) its ∙ at.1;
      is = ap (λ n. owner_of n at.0) (sym its);
    }))
    (eq-eqb _ _ its)
