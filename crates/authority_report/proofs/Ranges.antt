-- Stretches of seals as ranges: which seals they have, and that there is one list of ranges with some seals.
use Rattle.std.proofs.Common.{◌≡◌, ℕ, zero, suc, ◌+◌, ◌-◌, ◌<◌, ◌≤◌, ◌&&◌, ◌||◌, true, List, [], ◌∷◌, length}
use Rattle.std.proofs.Common.{map, get_or, refl, sym, ap, ◌∙◌, arith}
use Rattle.std.specs.Prelude.{nat_le, IsTrue}
use Rattle.std.specs.List.{All, AllPairs}
use Rattle.std.proofs.lemmas.Bool.{le-leb}
use Rattle.std.proofs.lemmas.Bool.Decides.{nat_tests}
use Rattle.std.proofs.lemmas.List.{get_or-map, length-map}
use Rattle.std.proofs.lemmas.List.Elements.{All-map}
use Rattle.std.proofs.lemmas.List.Folds.{list_any_at}
use Rattle.cap_words.specs.declared.TheConstants.{LONGEST_STRETCH}
use Rattle.cap_words.specs.Stretch.{Stretch}
use Rattle.seal_space.specs.Seals.{has_seal}
use Rattle.authority_report.specs.declared.set.Stretch.{Stretch as FromTo}
use Rattle.authority_report.specs.Takes.{is_left}
use Rattle.authority_report.specs.Stretches.{IsStretch, AreStretches as FromTosApart}
use Rattle.authority_report.proofs.OneSet.{one_stretches}
use Rattle.authority_report.specs.SealRanges.{is_in, IsRange, AreRanges, range_of, Fits}

-- ---- lists whose items are made from others

pairs_map : {X Y : Type 0} (f : X → Y) (R : Y → Y → Type 0) (xs : List X)
    → AllPairs (λ x y. R (f x) (f y)) xs → AllPairs R (map f xs)
pairs_map f R [] h i j d lt l = absurd (omega (arith, l))
pairs_map f R (x ∷ xs) h i j d lt l =
    let n = length-map (x ∷ xs) f in
    let high : j < length (x ∷ xs) = omega (arith, l, n) in
    let low : i < length (x ∷ xs) = omega (arith, lt, high) in
    rw (get_or-map f (x ∷ xs) i x d low, get_or-map f (x ∷ xs) j x d high) (h i j x lt high)

all_rest : {X : Type 0} (P : X → Type 0) (x : X) (xs : List X) → All P (x ∷ xs) → All P xs
all_rest P x xs h k d l = h (suc k) d (omega (arith, l))

-- ---- ranges of stretches

range_has : (s : FromTo) (n : ℕ) → s.base ≤ s.end
    → has_seal (range_of s) n ≡ (nat_le s.base n && nat_le n s.end)
range_has s n some = grind (arith, nat_tests)

pub ranges_have : (ss : List FromTo) (n : ℕ) → All IsStretch ss → is_in (map range_of ss) n ≡ is_left ss n
ranges_have [] n h = refl
ranges_have (s ∷ ss) n h =
    ap (λ b. b || is_in (map range_of ss) n) (range_has s n (h zero s (omega arith)).some)
    ∙ ap (λ b. (nat_le s.base n && nat_le n s.end) || b) (ranges_have ss n (all_rest IsStretch s ss h))

is_range : (s : FromTo) → IsStretch s → IsRange (range_of s)
is_range s h = let some = h.some in let inside = h.inside in
    record { some = omega arith; inside = omega (arith, some, inside) }

pub ranges_apart : (ss : List FromTo) → FromTosApart ss → AreRanges (map range_of ss)
ranges_apart ss t = record {
  each = All-map IsRange range_of ss (λ k d l. is_range (get_or ss k d) (t.each k d l));
  apart = pairs_map range_of (λ r q. r.base + r.count < q.base) ss (λ i j d lt l.
      let some = (t.each i d (omega (arith, lt, l))).some in
      let apart = t.apart i j d lt l in
      omega (arith, some, apart));
}

-- stretches of seals of one range fit
pub all_fit : (ss : List FromTo) (own : Stretch) → All IsStretch ss
    → ((n : ℕ) → is_left ss n ≡ true → IsTrue (has_seal own n)) → own.count ≤ LONGEST_STRETCH → All Fits ss
all_fit ss own h in_own few k d l =
    let s = get_or ss k d in
    let some = (h k d l).some in
    let has : (n : ℕ) → s.base ≤ n → n ≤ s.end → IsTrue (has_seal own n) = λ n low high.
    in_own n (list_any_at (λ s. nat_le s.base n && nat_le n s.end) ss k d l
    (rw (le-leb s.base n low, le-leb n s.end high) refl)) in
    let bounds = ends_in own s.base s.end (has s.base (omega arith) some) (has s.end some (omega arith)) in
    let low = bounds.0 in
    let high = bounds.1 in
    record { some = some; inside = (h k d l).inside; few = omega (arith, low, high, few) }
  where
    ends_in : (own : Stretch) (a b : ℕ) → IsTrue (has_seal own a) → IsTrue (has_seal own b)
        → (own.base ≤ a) × (b < own.base + own.count)
    ends_in own a b p q = (grind (arith, nat_tests), grind (arith, nat_tests))

-- ---- and back

abbrev stretch_of : Stretch → FromTo
stretch_of r = record { base = r.base; end = r.base + r.count - 1 }

stretch_has : (r : Stretch) (n : ℕ) → 1 ≤ r.count
    → (nat_le r.base n && nat_le n (r.base + r.count - 1)) ≡ has_seal r n
stretch_has r n some = grind (arith, nat_tests)

stretches_have : (rs : List Stretch) (n : ℕ) → All IsRange rs → is_left (map stretch_of rs) n ≡ is_in rs n
stretches_have [] n h = refl
stretches_have (r ∷ rs) n h =
    ap (λ b. b || is_left (map stretch_of rs) n) (stretch_has r n (h zero r (omega arith)).some)
    ∙ ap (λ b. has_seal r n || b) (stretches_have rs n (all_rest IsRange r rs h))

is_stretch : (r : Stretch) → IsRange r → IsStretch (stretch_of r)
is_stretch r h = let some = h.some in let inside = h.inside in
    record { some = omega (arith, some); inside = omega (arith, some, inside) }

stretches_apart : (rs : List Stretch) → AreRanges rs → FromTosApart (map stretch_of rs)
stretches_apart rs t = record {
  each = All-map IsStretch stretch_of rs (λ k d l. is_stretch (get_or rs k d) (t.each k d l));
  apart = pairs_map stretch_of (λ s q. s.end + 1 < q.base) rs (λ i j d lt l.
      let some = (t.each i d (omega (arith, lt, l))).some in
      let apart = t.apart i j d lt l in
      omega (arith, some, apart));
}

range_again : (r : Stretch) → 1 ≤ r.count → range_of (stretch_of r) ≡ r
range_again r some =
    let e : r.base + r.count - 1 - r.base + 1 ≡ r.count = omega (arith, some) in
    ap (λ (n : ℕ). record { base = r.base; count = n }) e

ranges_again : (rs : List Stretch) → All IsRange rs → map range_of (map stretch_of rs) ≡ rs
ranges_again [] h = refl
ranges_again (r ∷ rs) h =
    ap (λ x. x ∷ map range_of (map stretch_of rs)) (range_again r (h zero r (omega arith)).some)
    ∙ ap (λ xs. r ∷ xs) (ranges_again rs (all_rest IsRange r rs h))

-- by their seals ranges are known
pub one_ranges : (rs qs : List Stretch) → AreRanges rs → AreRanges qs → ((n : ℕ) → is_in rs n ≡ is_in qs n)
    → rs ≡ qs
one_ranges rs qs t u same =
    let one = one_stretches (map stretch_of rs) (map stretch_of qs) (stretches_apart rs t)
    (stretches_apart qs u) (λ n. stretches_have rs n t.each ∙ same n ∙ sym (stretches_have qs n u.each)) in
    sym (ranges_again rs t.each) ∙ ap (map range_of) one ∙ ranges_again qs u.each
