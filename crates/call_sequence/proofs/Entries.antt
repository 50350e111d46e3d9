-- The least offset of an entry that is bad.
use Rattle.std.proofs.Common.{◌≡◌, ℕ, zero, suc, ◌+◌, ◌<◌, ◌≤◌, ◌⊎◌, inl, inr, Bool, true, false, List, []}
use Rattle.std.proofs.Common.{◌∷◌, length, get_or, Option, Some, None, refl, sym, ap, ◌∙◌, arith}
use Rattle.std.specs.Prelude.{◌==◌, ◌&&◌, ◌||◌, min}
use Rattle.std.specs.List.{list_any}
use Rattle.std.proofs.lemmas.Bool.{cases_eq, eqb-true, false_from_ne_true}
use Rattle.std.proofs.lemmas.List.Folds.{list_any_at}
use Rattle.std.proofs.lemmas.List.{get_or_default}
use Rattle.component_file.specs.declared.TheConstants.{LAST_OFFSET}
use Rattle.component_file.specs.declared.component.Export.{Export}
use Rattle.component_file.specs.declared.component.ComponentFields.{ComponentFields}
use Rattle.component_file.specs.Limits.{Chain, ExportFits, IsComponent}
use Rattle.component_check.specs.Places.{first_place}
use Rattle.component_check.proofs.Offers.{IsFirstIn, first_is}
use Rattle.call_sequence.specs.Places.{begins_entry}
use Rattle.call_sequence.specs.Lists.{entry_is_bad, least_of, k3}
use Rattle.call_sequence.proofs.Ascending.{eq_is}

pub any_index : {A : Type 0} (p : A → Bool) (xs : List A) (d : A) → list_any p xs ≡ true
    → (j : ℕ) × (j < length xs) × (p (get_or xs j d) ≡ true)
any_index p [] d e = cc
any_index p (x ∷ xs) d e = by_head (p x) refl e (any_index p xs d)
  where
    by_head : (b : Bool) → p x ≡ b → (b || list_any p xs) ≡ true
        → (list_any p xs ≡ true → (j : ℕ) × (j < length xs) × (p (get_or xs j d) ≡ true))
        → (j : ℕ) × (j < length (x ∷ xs)) × (p (get_or (x ∷ xs) j d) ≡ true)
    by_head true h e more = (0, omega arith, h)
    by_head false h e more = let k = more e in (suc k.0, (let l : k.0 < length xs = k.1 in omega arith), k.2)

-- the offset of an export
pub entry_of : (c : ComponentFields) (o : ℕ) (d : Export) → begins_entry c o ≡ true
    → (j : ℕ) × (j < length c.exports) × ((get_or c.exports j d).offset ≡ o)
unfolding begins_entry
entry_of c o d e =
    let k = any_index (λ (x : Export). x.offset == o) c.exports d e in
    (k.0, k.1, eqb-true (get_or c.exports k.0 d).offset o k.2)

pub entry_at : (c : ComponentFields) (j : ℕ) (d : Export) → j < length c.exports
    → begins_entry c (get_or c.exports j d).offset ≡ true
unfolding begins_entry
entry_at c j d lt = list_any_at (λ (x : Export). x.offset == (get_or c.exports j d).offset)
    c.exports j d lt (eq_is (get_or c.exports j d).offset (get_or c.exports j d).offset refl)

pub export_fits : (b : Option Export) (es : List Export) → Chain ExportFits b es → (j : ℕ) (d : Export)
    → j < length es → (get_or es j d).offset ≤ LAST_OFFSET
export_fits b [] h j d lt = absurd (omega arith)
export_fits b (e ∷ es) h zero d lt = h.0.2
export_fits b (e ∷ es) h (suc j) d lt = export_fits (Some e) es h.1 j d (omega arith)

-- the least offset of a bad entry among the first exports
abbrev pub LeastOf : ComponentFields → List Export → ℕ → Option ℕ → Type 0
LeastOf c es i None = (j : ℕ) (d : Export) → j < i → entry_is_bad c (get_or es j d).offset ≡ false
LeastOf c es i (Some p) =
    ((j : ℕ) × (j < length es) × ((d : Export) → (get_or es j d).offset ≡ p))
    × (entry_is_bad c p ≡ true)
    × ((j : ℕ) (d : Export) → j < i → entry_is_bad c (get_or es j d).offset ≡ true
    → p ≤ (get_or es j d).offset)

module _ (c : ComponentFields) (es : List Export) (i : ℕ) (lt : i < length es) where
  or_last : (P : ℕ → Type 0) → ((j : ℕ) → j < i → P j) → P i → (j : ℕ) → j < i + 1 → P j
  or_last P h here j l = elim (cases_eq j i) as (λ _. P j) [
    | inl e ↦ rw e here
    | inr ne ↦ h j (omega arith)
  ]

  any_offset : (j : ℕ) (d e : Export) → j < length es → (get_or es j d).offset ≡ (get_or es j e).offset
  any_offset j d e l = ap (λ (x : Export). x.offset) (get_or_default es j d e l)

  -- one more export, which isn't bad
  pub least_same : (least : Option ℕ) (x : Export) → x ≡ get_or es i x → entry_is_bad c x.offset ≡ false
      → LeastOf c es i least → LeastOf c es (i + 1) least
  least_same None x is b h =
      λ j d l. or_last (λ j. entry_is_bad c (get_or es j d).offset ≡ false) (λ j l. h j d l)
      (let e : x.offset ≡ (get_or es i d).offset =
      ap (λ (x : Export). x.offset) is ∙ any_offset i x d lt in rw (← e) b) j l
  least_same (Some p) x is b h = (
    h.0,
    h.1,
    λ j d l.
        or_last (λ j. entry_is_bad c (get_or es j d).offset ≡ true → p ≤ (get_or es j d).offset)
        (λ j l. h.2 j d l)
        (λ t. absurd
        (let e : x.offset ≡ (get_or es i d).offset = ap (λ (x : Export). x.offset) is
        ∙ any_offset i x d lt in let f : true ≡ false = sym t ∙ ap (entry_is_bad c) (sym e) ∙ b in cc)) j l,
  )

  -- one more, which is
  pub least_more : (least : Option ℕ) (x : Export) → x ≡ get_or es i x → entry_is_bad c x.offset ≡ true
      → LeastOf c es i least → LeastOf c es (i + 1) (Some (least_of least x.offset))
  least_more None x is b h =
      let e : (d : Export) → x.offset ≡ (get_or es i d).offset =
      λ d. ap (λ (x : Export). x.offset) is ∙ any_offset i x d lt in (
        (i, lt, λ d. sym (e d)),
        b,
        λ j d l.
            or_last (λ j. entry_is_bad c (get_or es j d).offset ≡ true → x.offset ≤ (get_or es j d).offset)
            (λ j l t. absurd (let f : true ≡ false = sym t ∙ h j d l in cc)) (λ t. rw (← e d) (omega arith))
            j l,
      )
  least_more (Some p) x is b h = by_order (order p x.offset)
    where
      order : (p o : ℕ) → ((p ≤ o) × (min p o ≡ p)) ⊎ ((o ≤ p) × (min p o ≡ o))
      order p o = grind arith

      e : (d : Export) → x.offset ≡ (get_or es i d).offset
      e d = ap (λ (x : Export). x.offset) is ∙ any_offset i x d lt

      by_order : ((p ≤ x.offset) × (min p x.offset ≡ p)) ⊎ ((x.offset ≤ p) × (min p x.offset ≡ x.offset))
          → LeastOf c es (i + 1) (Some (min p x.offset))
      by_order (inl k) =
          rw k.1 (
            h.0,
            h.1,
            λ j d l.
                or_last (λ j. entry_is_bad c (get_or es j d).offset ≡ true → p ≤ (get_or es j d).offset)
                (λ j l. h.2 j d l) (λ t. rw (← e d) k.0) j l,
          )
      by_order (inr k) =
          rw k.1 (
            (i, lt, λ d. sym (e d)),
            b,
            λ j d l.
                or_last (λ j. entry_is_bad c (get_or es j d).offset ≡ true
                → x.offset ≤ (get_or es j d).offset)
                (λ j l t.
                (let low : p ≤ (get_or es j d).offset = h.2 j d l t in let high : x.offset ≤ p =
                k.0 in omega arith)) (λ t. rw (← e d) (omega arith)) j l,
          )

and_false : (a b : Bool) → (a ≡ true → b ≡ false) → (a && b) ≡ false
and_false true b h = h refl
and_false false b h = refl

pub no_export : Export
no_export = record { name = []; offset = 0; shared = false }

module _ (c : ComponentFields) (fits : IsComponent c) where
  abbrev broken : ℕ → Bool
  broken o = begins_entry c o && entry_is_bad c o

  least_first : (least : Option ℕ) → LeastOf c c.exports (length c.exports) least
      → IsFirstIn broken (LAST_OFFSET + 1) least
  least_first None h = λ o l. and_false (begins_entry c o) (entry_is_bad c o) (λ t.
      let k = entry_of c o no_export t in
      ap (entry_is_bad c) (sym k.2) ∙ h k.0 no_export k.1)
  least_first (Some p) h =
      let j = h.0.0 in
      let is : (get_or c.exports j no_export).offset ≡ p = h.0.2 no_export in
      let small : (get_or c.exports j no_export).offset ≤ LAST_OFFSET =
      export_fits None c.exports fits.exports.1 j no_export h.0.1 in
      let here : begins_entry c p ≡ true = ap (begins_entry c) (sym is) ∙ entry_at c j no_export h.0.1 in (
        omega arith,
        rw (here, h.1) refl,
        λ o l. and_false (begins_entry c o) (entry_is_bad c o)
            (λ t. false_from_ne_true (entry_is_bad c o) (λ b.
            let k = entry_of c o no_export t in
            let low : p ≤ (get_or c.exports k.0 no_export).offset =
            h.2 k.0 no_export k.1 (ap (entry_is_bad c) k.2 ∙ b) in
            let e : (get_or c.exports k.0 no_export).offset ≡ o = k.2 in
            omega arith)),
      )

  pub k3_is : (least : Option ℕ) → LeastOf c c.exports (length c.exports) least → least ≡ first_place (k3 c)
  unfolding k3
  k3_is least h = first_is (LAST_OFFSET + 1) broken least (least_first least h)
