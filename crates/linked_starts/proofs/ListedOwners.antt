-- Sites and owners as they are listed, one after another, and put in order.
use Rattle.std.proofs.Common.{◌≡◌, ◌≢◌, ℕ, zero, suc, ◌+◌, ◌<◌, ◌≤◌, Bool, false, List, [], ◌∷◌, ◌++◌, length}
use Rattle.std.proofs.Common.{get_or, eqb, Option, Some, None, refl, sym, ap, subst, ◌∙◌, arith, inl, inr}
use Rattle.std.proofs.Common.{ltb-true, eq-eqb}
use Rattle.std.specs.Prelude.{slice_get}
use Rattle.std.specs.List.{AllPairs, Contains, IsDistinct}
use Rattle.std.specs.List.Sorted.{IsPermutation, IsNonDecreasingBy}
use Rattle.std.proofs.lemmas.Bool.{cases_eq, ne_eqb, false≢true}
use Rattle.std.proofs.lemmas.Option.{slice_get_within}
use Rattle.std.proofs.lemmas.List.{length_push}
use Rattle.std.proofs.lemmas.List.Elements.{Contains-get_or, Contains-append_left, Contains-push}
use Rattle.std.proofs.lemmas.List.Elements.{Contains-push_cases}
use Rattle.std.proofs.lemmas.List.Quantifiers.{all_pairs_push}
use Rattle.std.proofs.lemmas.List.Sorted.{Contains-permutation, IsPermutation-sym, length_permutation}
use Rattle.std.proofs.lemmas.Map.Keys.{IsDistinct-IsPermutation, IsDistinct-from_apart, apart_from_distinct}
use Rattle.linked_starts.proofs.SealsKept.{same_site}
use Rattle.component_file.specs.declared.component.Export.{Export}
use Rattle.component_file.specs.Limits.{Chain, ExportFits, SiteFits}
use Rattle.linked_starts.specs.declared.owners.Site.{Site}
use Rattle.linked_starts.specs.declared.owners.Owner.{Owner}
use Rattle.linked_starts.specs.Parts.{PartSeen}
use Rattle.linked_starts.specs.Start.{part_word}
use Rattle.linked_starts.specs.Linked.{AreClosed, AreSeparate}
use Rattle.linked_starts.specs.Owners.{IsSite, AreSites, owner_of, IsOwner, AreOwners}
use Rattle.linked_starts.specs.Listing.{ComesBefore, SitesUpto, OwnersUpto}
use Rattle.linked_starts.proofs.LaySteps.{with_some, code_there}

-- ---- in order

pub rising_keys : {X : Type 0} (key : X → ℕ) (xs ys : List X) → AllPairs (λ x y. key x ≢ key y) xs
    → IsPermutation xs ys → IsNonDecreasingBy key ys → AllPairs (λ x y. key x < key y) ys
rising_keys {X} key xs ys differ moved up i j d lt in' =
    let same : X → X → Bool = λ x y. eqb (key x) (key y) in
    let before : IsDistinct same xs =
    IsDistinct-from_apart same xs
    (λ k n e less within. ne_eqb (key (get_or xs k e)) (key (get_or xs n e)) (differ k n e less within))
    in
    let flips : (x y : X) → same x y ≡ same y x = λ x y. eqb_flips (key x) (key y) in
    let after =
    apart_from_distinct same ys i j d (IsDistinct-IsPermutation same flips xs ys moved before) lt in' in
    let le = up i j d (omega (arith, lt)) in' in
    less_of (key (get_or ys i d)) (key (get_or ys j d)) le after
  where
    eqb_flips : (m n : ℕ) → eqb m n ≡ eqb n m
    eqb_flips m n = elim (cases_eq m n) as (λ _. eqb m n ≡ eqb n m) [
      | inl e ↦ (let a = eq-eqb m n e in let b = eq-eqb n m (sym e) in a ∙ sym b)
      | inr ne ↦ (let a = ne_eqb m n ne in let b = ne_eqb n m (λ e. ne (sym e)) in a ∙ sym b)
    ]

    less_of : (m n : ℕ) → m ≤ n → eqb m n ≡ false → m < n
    less_of m n le f =
        elim (cases_eq m n) as (λ _. m < n)
        [ inl e ↦ absurd (let t = eq-eqb m n e in false≢true (sym f ∙ t)) | inr ne ↦ omega (arith, le, ne) ]

-- ---- what the limits of components say

pub export_fits : (xs : List Export) (b : Option Export) (k : ℕ) (e : Export) → Chain ExportFits b xs
    → slice_get xs k ≡ Some e → e.offset ≤ 65535
export_fits [] b k e h at = absurd cc
export_fits (x ∷ xs) b zero e h at = let same : x ≡ e = cc in subst (λ y. y.offset ≤ 65535) same h.0.2
export_fits (x ∷ xs) b (suc k) e h at = export_fits xs (Some x) k e h.1 at

pub site_fits : (xs : List ℕ) (b : Option ℕ) (k o : ℕ) → Chain SiteFits b xs → slice_get xs k ≡ Some o
    → o ≤ 65535
site_fits [] b k o h at = absurd cc
site_fits (x ∷ xs) b zero o h at = let same : x ≡ o = cc in let le = h.0.0 in omega (arith, same, le)
site_fits (x ∷ xs) b (suc k) o h at = site_fits xs (Some x) k o h.1 at

above : (xs : List ℕ) (b k o : ℕ) → Chain SiteFits (Some b) xs → slice_get xs k ≡ Some o → b < o
above [] b k o h at = absurd cc
above (x ∷ xs) b zero o h at = let same : x ≡ o = cc in let lt = ltb-true b x h.0.1 in omega (arith, same, lt)
above (x ∷ xs) b (suc k) o h at = let low = ltb-true b x h.0.1 in let high =
    above xs x k o h.1 at in omega (arith, low, high)

pub sites_rise : (xs : List ℕ) (b : Option ℕ) (k n o q : ℕ) → Chain SiteFits b xs → k < n
    → slice_get xs k ≡ Some o → slice_get xs n ≡ Some q → o < q
sites_rise [] b k n o q h lt at_k at_n = absurd cc
sites_rise (x ∷ xs) b k zero o q h lt at_k at_n = absurd (omega (arith, lt))
sites_rise (x ∷ xs) b zero (suc n) o q h lt at_k at_n = let same : x ≡ o = cc in let high =
    above xs x n q h.1 at_n in omega (arith, same, high)
sites_rise (x ∷ xs) b (suc k) (suc n) o q h lt at_k at_n =
    sites_rise xs (Some x) k n o q h.1 (omega (arith, lt)) at_k at_n

-- ---- sites

-- parts with a code word at one address are one
pub meet_not : (parts : List PartSeen) (k n a : ℕ) (p q : PartSeen) → AreSeparate parts → k < n
    → slice_get parts k ≡ Some p → slice_get parts n ≡ Some q
    → p.component.code_base ≤ a → a < p.component.code_base + length p.component.code
    → q.component.code_base ≤ a → a < q.component.code_base + length q.component.code → ⊥
meet_not parts k n a p q separate lt at_k at_n low high below above' =
    with_some (part_word parts a p) ⊥ (code_there parts p a low high)
    (λ w h. with_some (part_word parts a q) ⊥ (code_there parts q a below above')
    (λ v g. separate.apart k n a p q w v lt at_k at_n h g))

pub site_in : (parts : List PartSeen) (s : Site) (a : ℕ) → AreClosed parts → (h : IsSite parts s) → s.at ≡ a
    → (h.of.component.code_base ≤ a) × (a < h.of.component.code_base + length h.of.component.code)
site_in parts s a closed h is =
    let lt = (closed.kept s.part h.of h.of_is).sites_in h.trusted s.index h.offset h.offset_is in
    let at = h.at in
    (omega (arith, at, is), omega (arith, at, is, lt))

sites_differ : (parts : List PartSeen) (i j : ℕ) (s t : Site) → AreClosed parts → AreSeparate parts
    → IsSite parts s → IsSite parts t → t.part ≡ i → t.index ≡ j → ComesBefore i j s → s.at ≢ t.at
sites_differ parts i j s t closed separate h g part_is index_is (inl lt) same =
    let a = site_in parts s t.at closed h same in
    let b = site_in parts t t.at closed g refl in
    meet_not parts s.part t.part t.at h.of g.of separate (omega (arith, lt, part_is))
    h.of_is g.of_is a.0 a.1 b.0 b.1
sites_differ parts i j s t closed separate h g part_is index_is (inr (eq, lt)) same =
    let e : Some h.of ≡ Some g.of = sym h.of_is ∙ ap (slice_get parts) (eq ∙ sym part_is) ∙ g.of_is in
    let one : h.of ≡ g.of = cc in
    let other : slice_get h.of.component.sites t.index ≡ Some g.offset =
    ap (λ (p : PartSeen). slice_get p.component.sites t.index) one ∙ g.offset_is in
    let rise =
    sites_rise h.of.component.sites None s.index t.index h.offset g.offset
    (closed.kept s.part h.of h.of_is).limits.sites.1 (omega (arith, lt, index_is)) h.offset_is other in
    let base : h.of.component.code_base ≡ g.of.component.code_base =
    ap (λ (p : PartSeen). p.component.code_base) one in
    let here = h.at in
    let there = g.at in
    omega (arith, rise, base, here, there, same)

-- a site is told by its part and its index
pub one_site : (parts : List PartSeen) (s t : Site) → IsSite parts s → IsSite parts t → s.part ≡ t.part
    → s.index ≡ t.index → s ≡ t
one_site parts s t h g part_is index_is =
    let e : Some h.of ≡ Some g.of = sym h.of_is ∙ ap (slice_get parts) part_is ∙ g.of_is in
    let one : h.of ≡ g.of = cc in
    let o : Some h.offset ≡ Some g.offset =
    sym h.offset_is ∙ ap (λ (p : PartSeen). slice_get p.component.sites s.index) one
    ∙ ap (slice_get g.of.component.sites) index_is ∙ g.offset_is in
    let offset : h.offset ≡ g.offset = cc in
    let base : h.of.component.code_base ≡ g.of.component.code_base =
    ap (λ (p : PartSeen). p.component.code_base) one in
    let seals : h.of.component.seals.base ≡ g.of.component.seals.base =
    ap (λ (p : PartSeen). p.component.seals.base) one in
    let here = h.at in
    let there = g.at in
    let seal = h.seal in
    let other = g.seal in
    same_site s t part_is index_is (omega (arith, seals, index_is, seal, other))
    (omega (arith, base, offset, here, there))

pub sites_none : (parts : List PartSeen) → SitesUpto parts 0 0 []
sites_none parts = record {
  all = λ s. (
    λ m. absurd (omega (arith, m.1)),
    λ h. absurd
        (elim h.1 as (λ _. ⊥) [ inl lt ↦ omega (arith, lt) | inr e ↦ (let lt = e.1 in omega (arith, lt)) ]),
  );
  differ = λ i j d lt in'. absurd (omega (arith, in'));
}

before_next : (i j : ℕ) (s : Site) → ComesBefore i j s → ComesBefore i (j + 1) s
before_next i j s (inl lt) = inl lt
before_next i j s (inr e) = let lt = e.1 in inr (e.0, omega (arith, lt))

pub next_site : (parts : List PartSeen) (i j : ℕ) (xs : List Site) (y : Site) → AreClosed parts
    → AreSeparate parts → SitesUpto parts i j xs → IsSite parts y → y.part ≡ i → y.index ≡ j
    → SitesUpto parts i (j + 1) (xs ++ y ∷ [])
next_site parts i j xs y closed separate upto this part_is index_is = record {
  all = λ s. (
    λ m. elim (Contains-push_cases xs y s m) as (λ _. IsSite parts s × ComesBefore i (j + 1) s) [
      | inl old ↦ (let h = (upto.all s).0 old in (h.0, before_next i j s h.1))
      | inr e ↦
          subst (λ x. IsSite parts x × ComesBefore i (j + 1) x)
          e (this, inr (part_is, omega (arith, index_is)))
    ],
    λ h. back s h.0 h.1,
  );
  differ = all_pairs_push (λ s t. s.at ≢ t.at)
      xs y upto.differ
      (λ k d lt. let h =
      (upto.all (get_or xs k d)).0 (Contains-get_or xs k d lt) in sites_differ parts i j (get_or xs k d)
      y closed separate h.0 this part_is index_is h.1);
}
  where
    back : (s : Site) → IsSite parts s → ComesBefore i (j + 1) s → Contains (xs ++ y ∷ []) s
    back s h (inl lt) = Contains-append_left xs (y ∷ []) s ((upto.all s).1 (h, inl lt))
    back s h (inr (eq, lt)) = elim (cases_eq s.index j) as (λ _. Contains (xs ++ y ∷ []) s) [
      | inl same ↦
          subst (Contains (xs ++ y ∷ [])) (one_site parts y s this h (part_is ∙ sym eq) (index_is ∙ sym same))
          (Contains-push xs y)
      | inr ne ↦ Contains-append_left xs (y ∷ []) s ((upto.all s).1 (h, inr (eq, omega (arith, lt, ne))))
    ]

-- a part's sites are done: it has no more, or they don't count
next_part : (parts : List PartSeen) (i j : ℕ) (xs : List Site) → SitesUpto parts i j xs
    → ((s : Site) → IsSite parts s → s.part ≡ i → s.index < j) → SitesUpto parts (i + 1) 0 xs
next_part parts i j xs upto done =
    record {
      all = λ s. (λ m. (let h = (upto.all s).0 m in (h.0, forth s h.1)), λ h. back s h.0 h.1);
      differ =
          upto.differ;
    }
  where
    forth : (s : Site) → ComesBefore i j s → ComesBefore (i + 1) 0 s
    forth s (inl lt) = inl (omega (arith, lt))
    forth s (inr e) = let eq = e.0 in inl (omega (arith, eq))

    back : (s : Site) → IsSite parts s → ComesBefore (i + 1) 0 s → Contains xs s
    back s h (inr e) = let lt = e.1 in absurd (omega (arith, lt))
    back s h (inl lt) =
        elim (cases_eq s.part i) as (λ _. Contains xs s) [
          | inl same ↦ (upto.all s).1 (h, inr (same, done s h same))
          | inr ne ↦
              (upto.all s).1 (h, inl (omega (arith, lt, ne)))
        ]

pub part_at : (parts : List PartSeen) (p q : PartSeen) (k i : ℕ) → slice_get parts k ≡ Some q → k ≡ i
    → slice_get parts i ≡ Some p → q ≡ p
part_at parts p q k i at_k e at = let h : Some q ≡ Some p = sym at_k ∙ ap (slice_get parts) e ∙ at in cc

pub untrusted_done : (parts : List PartSeen) (i : ℕ) (p : PartSeen) (xs : List Site) → SitesUpto parts i 0 xs
    → slice_get parts i ≡ Some p → p.trusted ≡ false → SitesUpto parts (i + 1) 0 xs
untrusted_done parts i p xs upto at not_it =
    next_part parts i 0 xs upto
    (λ s h same.
    absurd (let e =
    part_at parts p h.of s.part i h.of_is same at in
    false≢true (sym not_it ∙ ap (λ (x : PartSeen). x.trusted) (sym e) ∙ h.trusted)))

pub sites_done : (parts : List PartSeen) (i j : ℕ) (p : PartSeen) (xs : List Site) → SitesUpto parts i j xs
    → slice_get parts i ≡ Some p → length p.component.sites ≤ j → SitesUpto parts (i + 1) 0 xs
sites_done parts i j p xs upto at end =
    next_part parts i j xs upto
    (λ s h same. let e =
    ap (λ (x : PartSeen). length x.component.sites) (part_at parts p h.of s.part i h.of_is same at) in
    let lt = slice_get_within h.of.component.sites s.index h.offset h.offset_is in
    omega (arith, e, lt, end))

pub sites_sorted : (parts : List PartSeen) (n : ℕ) (xs ys : List Site) → n ≡ length parts
    → SitesUpto parts n 0 xs → IsPermutation xs ys → IsNonDecreasingBy (λ s. s.at) ys → AreSites parts ys
sites_sorted parts n xs ys whole upto moved up = record {
  ascend = rising_keys (λ s. s.at) xs ys upto.differ moved up;
  all = λ s. (
    λ m. ((upto.all s).0 (Contains-permutation ys xs s (IsPermutation-sym xs ys moved) m)).0,
    λ h. let lt =
        slice_get_within parts s.part h.of h.of_is in
        Contains-permutation xs ys s moved ((upto.all s).1 (h, inl (omega (arith, lt, whole)))),
  );
}

-- ---- owners

pub owners_none : (parts : List PartSeen) → OwnersUpto parts 0 []
owners_none parts = record {
  all = λ o. (λ m. absurd (omega (arith, m.1)), λ h. absurd (let lt = h.1 in omega (arith, lt)));
  count = refl;
  differ = λ i j d lt in'. absurd (omega (arith, in'));
}

base_of : (i : ℕ) (p : PartSeen) → (owner_of i p).code.base ≡ p.component.code_base
unfolding owner_of
base_of i p = refl

pub part_of : (i : ℕ) (p : PartSeen) → (owner_of i p).part ≡ i
unfolding owner_of
part_of i p = refl

owners_differ : (parts : List PartSeen) (i : ℕ) (p : PartSeen) (o y : Owner) → AreClosed parts
    → AreSeparate parts → slice_get parts i ≡ Some p → y ≡ owner_of i p → IsOwner parts o → o.part < i
    → o.code.base ≢ y.code.base
owners_differ parts i p o y closed separate at is h lt same =
    let a : o.code.base ≡ h.of.component.code_base =
    ap (λ (x : Owner). x.code.base) h.is ∙ base_of o.part h.of in
    let b : y.code.base ≡ p.component.code_base = ap (λ (x : Owner). x.code.base) is ∙ base_of i p in
    let one = (closed.kept o.part h.of h.of_is).limits.code.0.0 in
    let two = (closed.kept i p at).limits.code.0.0 in
    meet_not parts o.part i y.code.base h.of p separate lt h.of_is at (omega (arith, a, same))
    (omega (arith, a, same, one)) (omega (arith, b)) (omega (arith, b, two))

pub next_owner : (parts : List PartSeen) (i : ℕ) (p : PartSeen) (xs : List Owner) (y : Owner)
    → AreClosed parts → AreSeparate parts → OwnersUpto parts i xs → slice_get parts i ≡ Some p
    → y ≡ owner_of i p → OwnersUpto parts (i + 1) (xs ++ y ∷ [])
next_owner parts i p xs y closed separate upto at is = record {
  all = λ o. (
    λ m. elim (Contains-push_cases xs y o m) as (λ _. IsOwner parts o × (o.part < i + 1)) [
      | inl old ↦ (let h = (upto.all o).0 old in let lt = h.1 in (h.0, omega (arith, lt)))
      | inr e ↦ subst (λ x. IsOwner parts x × (x.part < i + 1)) e this
    ],
    λ h. back o h.0 h.1,
  );
  count = (let n = upto.count in length_push xs y ∙ ap (λ k. k + 1) n);
  differ = all_pairs_push (λ o q. o.code.base ≢ q.code.base)
      xs y upto.differ
      (λ k d lt. let h =
      (upto.all (get_or xs k d)).0 (Contains-get_or xs k d lt) in owners_differ parts i p (get_or xs k d)
      y closed separate at is h.0 h.1);
}
  where
    number : y.part ≡ i
    number = ap (λ (x : Owner). x.part) is ∙ part_of i p

    this : IsOwner parts y × (y.part < i + 1)
    this = (let n : y.part ≡ i =
        number in (
          record { of = p; of_is = ap (slice_get parts) n ∙ at; is = is ∙ ap (λ k. owner_of k p) (sym n) },
          omega (arith, n),
        ))

    back : (o : Owner) → IsOwner parts o → o.part < i + 1 → Contains (xs ++ y ∷ []) o
    back o h lt = elim (cases_eq o.part i) as (λ _. Contains (xs ++ y ∷ []) o) [
      | inl same ↦
          (let q = part_at parts p h.of o.part i h.of_is same at in subst (Contains (xs ++ y ∷ []))
          (is ∙ ap (owner_of i) (sym q) ∙ ap (λ k. owner_of k h.of) (sym same) ∙ sym h.is)
          (Contains-push xs y))
      | inr ne ↦ Contains-append_left xs (y ∷ []) o ((upto.all o).1 (h, omega (arith, lt, ne)))
    ]

pub owners_sorted : (parts : List PartSeen) (n : ℕ) (xs ys : List Owner) → n ≡ length parts
    → OwnersUpto parts n xs → IsPermutation xs ys → IsNonDecreasingBy (λ o. o.code.base) ys
    → AreOwners parts ys
owners_sorted parts n xs ys whole upto moved up = record {
  ascend = rising_keys (λ o. o.code.base) xs ys upto.differ moved up;
  all = λ o. (
    λ m. ((upto.all o).0 (Contains-permutation ys xs o (IsPermutation-sym xs ys moved) m)).0,
    λ h. let lt =
        slice_get_within parts o.part h.of h.of_is in
        Contains-permutation xs ys o moved ((upto.all o).1 (h, omega (arith, lt, whole))),
  );
  count = length_permutation xs ys moved ∙ upto.count ∙ whole;
}
