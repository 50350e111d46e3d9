-- What the rules L say of parts, as the start rests on it.
use Rattle.std.proofs.Common.{◌≡◌, ℕ, zero, suc, ◌+◌, ◌-◌, ◌<◌, ◌≤◌, ◌⊎◌, inl, inr, Bool, true, false, not}
use Rattle.std.proofs.Common.{List, [], ◌∷◌, ◌++◌, length, get_or, take, length-append, Option, Some, None}
use Rattle.std.proofs.Common.{refl, sym, ap, subst, ◌∙◌, arith}
use Rattle.std.specs.Prelude.{slice_get, slice_index_or, nat_le, nat_lt, ◌==◌, ◌&&◌, ◌||◌, is_some, is_none}
use Rattle.std.specs.Prelude.{IsSome, find, option_map, if◌then◌else◌}
use Rattle.std.specs.Option.{option_or}
use Rattle.std.specs.List.{list_any, AllPairs, Contains, flat_map}
use Rattle.std.proofs.lemmas.Bool.Decides.{nat_tests}
use Rattle.std.proofs.lemmas.Option.{slice_get_within, slice_get_past, get_or_from_slice_get}
use Rattle.std.proofs.lemmas.List.{get_or_append_left, get_or-append_right}
use Rattle.std.proofs.lemmas.List.Elements.{Contains-append_cases, Contains-get_or}
use Rattle.std.proofs.lemmas.Bool.{and_parts, not-false, or_parts}
use Rattle.component_file.specs.declared.component.Import.{Import}
use Rattle.component_file.proofs.Offers.{inside}
use Rattle.component_check.specs.Places.{Test, BrokenAt, plainly}
use Rattle.lcm_machine.specs.declared.cells.Span.{Span}
use Rattle.lcm_machine.specs.Regions.{Region}
use Rattle.linked_starts.specs.Parts.{PartSeen, IsPart}
use Rattle.linked_starts.specs.Regions.{Apart, part_regions, regions_of, region, stack_span, is_stack_size}
use Rattle.linked_starts.specs.Regions.{addresses, span_of, code_span, data_span, linear_span}
use Rattle.linked_starts.specs.Start.{imported, is_main, main_of, stack_base_of, export_that, first_given}
use Rattle.linked_starts.specs.Start.{Exported}
use Rattle.linked_starts.specs.Pairs.{NoneIsBroken, within_or, at_each, once, passes, never}
use Rattle.linked_starts.specs.Links.{rules_l, l1, l4, l6, l7, l8, l9, has_main, are_few, sites_upto, near}
use Rattle.linked_starts.specs.Links.{near_part, near_before, part_spans}
use Rattle.linked_starts.specs.Linked.{Linked}
use Rattle.linked_starts.proofs.RuleLemmas.{slice_get-take}
use Rattle.linked_starts.proofs.RegionFacts.{of_part}
use Rattle.linked_starts.proofs.PartKept.{is_kept}

-- ---- where no rule is broken

-- a test doesn't hold
not_broken : (t : Test ℕ) (i : ℕ) → (BrokenAt t i → ⊥) → i < t.count → t.broken i ≡ false
not_broken t i h lt = by_test (t.broken i) refl
  where
    by_test : (b : Bool) → t.broken i ≡ b → t.broken i ≡ false
    by_test true e = absurd (h (lt, e))
    by_test false e = e

-- the same, for the test of a part
pub in_part : (parts : List PartSeen) (test : ℕ → PartSeen → Test ℕ) (all : Test ℕ) (k : ℕ) (p : PartSeen)
    (i : ℕ)
    → slice_get parts k ≡ Some p → (BrokenAt (within_or test all k (slice_get parts k)) i → ⊥)
    → i < (test k p).count → (test k p).broken i ≡ false
in_part parts test all k p i is h lt =
    not_broken (test k p) i (λ b. h (subst (λ o. BrokenAt (within_or test all k o) i) (sym is) b)) lt

-- and for that of all parts
behind : (parts : List PartSeen) (test : ℕ → PartSeen → Test ℕ) (all : Test ℕ) (i : ℕ)
    → (BrokenAt (within_or test all (length parts) (slice_get parts (length parts))) i → ⊥) → i < all.count
    → all.broken i ≡ false
behind parts test all i h lt =
    not_broken all i
    (λ b. h (subst (λ o. BrokenAt (within_or test all (length parts) o) i)
    (sym (slice_get_past parts (length parts) (omega arith))) b)) lt

-- ---- tests

-- ---- L9

too_many : List PartSeen → ℕ → PartSeen → Test ℕ
too_many parts i p = once (if are_few parts then nat_lt 4096 (sites_upto parts i) else i == 16)
    (if are_few parts then sites_upto parts i else length parts)

pub few : (parts : List PartSeen) (size : ℕ) → NoneIsBroken (rules_l parts size) → length parts ≤ 16
unfolding l9 too_many
few parts size h = by_test (are_few parts) refl
  where
    by_test : (b : Bool) → are_few parts ≡ b → length parts ≤ 16
    by_test true e = grind (arith, nat_tests)
    by_test false e =
        let many : 16 < length parts = grind (arith, nat_tests) in
        let p = inside parts 16 many in
        let none : (if are_few parts then nat_lt 4096 (sites_upto parts 16) else true) ≡ false
        = in_part parts (too_many parts) never 16 p.0 0 p.1 (λ b. h 9 16 0 (l9 parts) refl (many, b))
        (omega arith) in
        let wrong : true ≡ false = sym (ap (λ b. if b then nat_lt 4096 (sites_upto parts 16) else true) e)
        ∙ none in
        absurd cc

-- ---- L8

pub stack_fits : (parts : List PartSeen) (size : ℕ) → NoneIsBroken (rules_l parts size)
    → (is_stack_size size && nat_le (stack_base_of parts + size) 1048576) ≡ true
unfolding l8
stack_fits parts size h =
    not-false _
    (behind parts (λ i p. never)
    (once (not (is_stack_size size && nat_le (stack_base_of parts + size) 1048576)) size)
    0 (λ b. h 8 (length parts) 0 (l8 parts size) refl (omega arith, b)) (omega arith))

-- ---- L7

pub stack_bases : (parts : List PartSeen) (size : ℕ) → NoneIsBroken (rules_l parts size)
    → (k : ℕ) (p : PartSeen) → slice_get parts k ≡ Some p → p.component.stack_base ≡ stack_base_of parts
unfolding l7
stack_bases parts size h k p is =
    let same : (p.component.stack_base == stack_base_of parts) ≡ true
    = not-false _
    (in_part parts
    (λ i q. once (not (q.component.stack_base == stack_base_of parts)) q.component.stack_base)
    never k p 0 is (λ b. h 7 k 0 (l7 parts) refl (slice_get_within parts k p is, b)) (omega arith)) in
    grind (arith, nat_tests)

-- where the stack's span is, it begins there
pub stack_begins : (parts : List PartSeen) (size : ℕ) (stack : Span) → stack_span parts size ≡ Some stack
    → stack_base_of parts ≡ stack.base
stack_begins [] size stack e = absurd cc
stack_begins (p ∷ ps) size stack e = by_size (is_stack_size size) e
  where
    by_count : (b : Bool) → (if b then None else Some (addresses p.component.stack_base size)) ≡ Some stack
        → p.component.stack_base ≡ stack.base
    by_count true f = absurd cc
    by_count false f = let g : addresses p.component.stack_base size ≡ stack =
        cc in ap (λ (s : Span). s.base) g

    by_size : (b : Bool) → (if b then span_of p.component.stack_base size else None) ≡ Some stack
        → p.component.stack_base ≡ stack.base
    by_size true f = by_count (size == 0) f
    by_size false f = absurd cc

-- ---- L4

pub imports_found : (parts : List PartSeen) (size : ℕ) → NoneIsBroken (rules_l parts size)
    → (k n : ℕ) (p : PartSeen) (i : Import) → slice_get parts k ≡ Some p
    → slice_get p.component.imports n ≡ Some i → IsSome (imported parts i)
unfolding l4
imports_found parts size h k n p i is im =
    let none : passes (λ x. is_none (imported parts x)) (slice_get p.component.imports n) ≡ false
    = in_part parts (λ j q. at_each q.component.imports (λ x. is_none (imported parts x)))
    never k p n is (λ b. h 4 k n (l4 parts) refl (slice_get_within parts k p is, b))
    (slice_get_within p.component.imports n i im) in
    not-false _ (sym (ap (passes (λ x. is_none (imported parts x))) im) ∙ none)

-- ---- L6

found_any : {A : Type 0} (f : A → Bool) (xs : List A) → list_any f xs ≡ true → is_some (find f xs) ≡ true
found_any f [] e = absurd cc
found_any f (x ∷ xs) e = by_test (f x) refl (found_any f xs)
  where
    by_test : (b : Bool) → f x ≡ b → (list_any f xs ≡ true → is_some (find f xs) ≡ true)
        → is_some (find f (x ∷ xs)) ≡ true
    by_test true is more = rw is refl
    by_test false is more = rw is (more (sym (ap (λ b. b || list_any f xs) is) ∙ e))

mapped : {A B : Type 0} (f : A → B) (o : Option A) → is_some o ≡ true → is_some (option_map f o) ≡ true
mapped f None e = absurd cc
mapped f (Some x) e = refl

given_by_one : (parts : List PartSeen) → list_any has_main parts ≡ true
    → is_some (first_given (export_that is_main) parts) ≡ true
given_by_one [] e = absurd cc
given_by_one (p ∷ ps) e = by_test (has_main p) refl (given_by_one ps)
  where
    first_is : (o : Option Exported) → is_some o ≡ true
        → is_some (option_or o (first_given (export_that is_main) ps)) ≡ true
    first_is None f = absurd cc
    first_is (Some x) f = refl

    others : (o : Option Exported) → is_some (first_given (export_that is_main) ps) ≡ true
        → is_some (option_or o (first_given (export_that is_main) ps)) ≡ true
    others None f = f
    others (Some x) f = refl

    by_test : (b : Bool) → has_main p ≡ b
        → (list_any has_main ps ≡ true → is_some (first_given (export_that is_main) ps) ≡ true)
        → is_some (first_given (export_that is_main) (p ∷ ps)) ≡ true
    by_test true is more =
        first_is (export_that is_main p)
        (mapped _ (find is_main p.component.exports) (found_any is_main p.component.exports is))
    by_test false is more =
        others (export_that is_main p) (more (sym (ap (λ b. b || list_any has_main ps) is) ∙ e))

pub main_there : (parts : List PartSeen) (size : ℕ) → NoneIsBroken (rules_l parts size)
    → IsSome (main_of parts)
unfolding l6
main_there parts size h =
    given_by_one parts
    (not-false _
    (behind parts
    (λ i p. at_each p.component.exports (λ e. is_main e && list_any has_main (take i parts)))
    (once (not (list_any has_main parts)) 0) 0
    (λ b. h 6 (length parts) 0 (l6 parts) refl (omega arith, b)) (omega arith)))

-- ---- L1

-- what is near none of some is not near one of them
none_at : {A : Type 0} (f : A → Bool) (xs : List A) (k : ℕ) (x : A) → list_any f xs ≡ false
    → slice_get xs k ≡ Some x → f x ≡ false
none_at f [] k x e is = absurd cc
none_at f (y ∷ ys) zero x e is = let same : y ≡ x =
    cc in subst (λ z. f z ≡ false) same (or_parts (f y) (list_any f ys) e).0
none_at f (y ∷ ys) (suc k) x e is = none_at f ys k x (or_parts (f y) (list_any f ys) e).1 is

spans_apart : (a b : Span) → (nat_le a.base (b.end + 1) && nat_le b.base (a.end + 1)) ≡ false
    → (b.end + 2 ≤ a.base) ⊎ (a.end + 2 ≤ b.base)
spans_apart a b e = grind (arith, nat_tests)

in_span : (linear : Bool) (o : Option Span) (r : Region) → Contains (region linear o) r
    → (s : Span) × (o ≡ Some s) × (s.base ≡ r.base) × (s.end ≡ r.end)
in_span linear None r h = absurd (let lt = h.1 in omega (arith, lt))
in_span linear (Some s) r h =
    let first : h.0 ≡ 0 = let lt = h.1 in omega (arith, lt) in
    let is : record { base = s.base; end = s.end; linear = linear } ≡ r =
    sym (ap (λ k. slice_index_or (region linear (Some s)) k r) first) ∙ h.2 in
    (s, refl, ap (λ x. x.base) is, ap (λ x. x.end) is)

-- of a span and one before it
pub far : (a b : Option Span) (la lb : Bool) (r s : Region) → near a b ≡ false → Contains (region lb b) s
    → Contains (region la a) r → Apart s r
far a b la lb r s e in_b in_a =
    let x = in_span la a r in_a in
    let y = in_span lb b s in_b in
    let apart = spans_apart x.0 y.0 (sym (ap (λ o. near o b) x.1 ∙ ap (near (Some x.0)) y.1) ∙ e) in
    elim apart as (λ _. Apart s r)
    [ inl l ↦ inl (omega (arith, l, x.2, y.3)) | inr l ↦ inr (omega (arith, l, x.3, y.2)) ]

pub pairs_append : {X : Type 0} (R : X → X → Type 0) (xs ys : List X) → AllPairs R xs → AllPairs R ys
    → ((x y : X) → Contains xs x → Contains ys y → R x y) → AllPairs R (xs ++ ys)
pairs_append {X} R xs ys left right across i j d lt le =
    elim (order i) as (λ _. R (get_or (xs ++ ys) i d) (get_or (xs ++ ys) j d)) [
      | inl a ↦ elim (order j) as (λ _. R (get_or (xs ++ ys) i d) (get_or (xs ++ ys) j d)) [
        | inl b ↦ at (get_or_append_left xs ys d i a) (get_or_append_left xs ys d j b) (left i j d lt b)
        | inr b ↦ (
            let l : j - length xs < length ys = omega (arith, b, le, length-append xs ys) in
            at (get_or_append_left xs ys d i a) (get_or-append_right xs ys (length xs) j d refl b)
            (across _ _ (Contains-get_or xs i d a) (Contains-get_or ys (j - length xs) d l))
            )
      ]
      | inr a ↦ (
          let b : length xs ≤ j = omega (arith, a, lt) in
          at (get_or-append_right xs ys (length xs) i d refl a)
          (get_or-append_right xs ys (length xs) j d refl b)
          (right (i - length xs) (j - length xs) d (omega (arith, a, lt))
          (omega (arith, b, le, length-append xs ys)))
          )
    ]
  where
    order : (i : ℕ) → (i < length xs) ⊎ (length xs ≤ i)
    order i = grind arith

    at : {x y u v : X} → x ≡ u → y ≡ v → R u v → R x y
    at {x} {y} {u} {v} e f r = subst (λ z. R z y) (sym e) (subst (λ z. R u z) (sym f) r)

one_at_most : (linear : Bool) (o : Option Span) → AllPairs Apart (region linear o)
one_at_most linear None = λ i j d lt le. absurd (omega (arith, le))
one_at_most linear (Some s) = λ i j d lt le. absurd (omega (arith, lt, le))

-- the span of a region of a part
record SpanOf (p : PartSeen) (r : Region) : Type 0 where
  index : ℕ
  span : Option Span
  linear : Bool
  at : slice_get (part_spans p) index ≡ Some span
  below : index < 3
  is : Contains (region linear span) r

span_of_region : (p : PartSeen) (r : Region) → Contains (part_regions p) r → SpanOf p r
span_of_region p r m =
    elim (Contains-append_cases (region false (code_span p) ++ region false (data_span p))
    (region true (linear_span p)) r m) as (λ _. SpanOf p r) [
      | inl n ↦
          elim (Contains-append_cases (region false (code_span p)) (region false (data_span p)) r n)
          as (λ _. SpanOf p r) [
            | inl c ↦
                record {
                  index = 0;
                  span = code_span p;
                  linear = false;
                  at = refl;
                  below = omega arith;
                  is =
                      c;
                }
            | inr d ↦
                record {
                  index = 1;
                  span = data_span p;
                  linear = false;
                  at = refl;
                  below = omega arith;
                  is =
                      d;
                }
          ]
      | inr l ↦
          record { index = 2; span = linear_span p; linear = true; at = refl; below = omega arith; is = l }
    ]

-- a span is near no span before it
alone : (parts : List PartSeen) (size : ℕ) → NoneIsBroken (rules_l parts size)
    → (k i : ℕ) (p : PartSeen) (s : Option Span) → slice_get parts k ≡ Some p
    → slice_get (part_spans p) i ≡ Some s → i < 3
    → (list_any (near_part s) (take k parts) ≡ false) × (list_any (near s) (take i (part_spans p)) ≡ false)
unfolding l1
alone parts size h k i p s at is lt =
    let none : near_before (take k parts) (take i (part_spans p))
    (slice_index_or (part_spans p) i None) ≡ false
    = in_part parts
    (λ j q. plainly 3
    (λ n. near_before (take j parts) (take n (part_spans q)) (slice_index_or (part_spans q) n None)))
    (once (near_before parts [] (stack_span parts size)) 0)
    k p i at (λ b. h 1 k i (l1 parts size)
    refl (let w = slice_get_within parts k p at in omega (arith, w), b)) lt in
    let here : slice_index_or (part_spans p) i None ≡ s = get_or_from_slice_get (part_spans p) i s None is in
    or_parts _ _ (sym (ap (near_before (take k parts) (take i (part_spans p))) here) ∙ none)

pub apart_within : (parts : List PartSeen) (size : ℕ) → NoneIsBroken (rules_l parts size)
    → (k : ℕ) (p : PartSeen) → slice_get parts k ≡ Some p → AllPairs Apart (part_regions p)
apart_within parts size h k p at =
    let first = none_at (near (data_span p)) (code_span p ∷ []) 0 (code_span p)
    (alone parts size h k 1 p (data_span p) at refl (omega arith)).1 refl in
    let others = (alone parts size h k 2 p (linear_span p) at refl (omega arith)).1 in
    let second =
    none_at (near (linear_span p)) (code_span p ∷ data_span p ∷ []) 0 (code_span p) others refl in
    let third = none_at (near (linear_span p)) (code_span p ∷ data_span p ∷ []) 1 (data_span p) others refl in
    pairs_append Apart (region false (code_span p) ++ region false (data_span p))
    (region true (linear_span p))
    (pairs_append Apart (region false (code_span p)) (region false (data_span p))
    (one_at_most false (code_span p)) (one_at_most false (data_span p))
    (λ r s m n. far (data_span p) (code_span p) false false s r first m n))
    (one_at_most true (linear_span p))
    (λ r s m n. elim (Contains-append_cases (region false (code_span p)) (region false (data_span p)) r m)
    as (λ _. Apart r s) [
      | inl c ↦ far (linear_span p) (code_span p) true false s r second c n
      | inr d ↦ far (linear_span p) (data_span p) true false s r third d n
    ])

apart_across : (parts : List PartSeen) (size : ℕ) → NoneIsBroken (rules_l parts size)
    → (k n : ℕ) (p q : PartSeen) → k < n → slice_get parts k ≡ Some p → slice_get parts n ≡ Some q
    → (r s : Region) → Contains (part_regions p) r → Contains (part_regions q) s → Apart r s
apart_across parts size h k n p q lt at_k at_n r s m l =
    let x = span_of_region p r m in
    let y = span_of_region q s l in
    let none = (alone parts size h n y.index q y.span at_n y.at y.below).0 in
    let with_p = none_at (near_part y.span) (take n parts) k p none (slice_get-take parts n k lt ∙ at_k) in
    far y.span x.span y.linear x.linear s r (none_at (near y.span) (part_spans p) x.index x.span with_p x.at)
    x.is y.is

apart_from_stack : (parts : List PartSeen) (size : ℕ) → NoneIsBroken (rules_l parts size)
    → (k : ℕ) (p : PartSeen) → slice_get parts k ≡ Some p
    → (r s : Region) → Contains (part_regions p) r → Contains (region true (stack_span parts size)) s
    → Apart r s
unfolding l1
apart_from_stack parts size h k p at r s m l =
    let x = span_of_region p r m in
    let none : near_before parts [] (stack_span parts size) ≡ false
    = behind parts
    (λ j q. plainly 3
    (λ n. near_before (take j parts) (take n (part_spans q)) (slice_index_or (part_spans q) n None)))
    (once (near_before parts [] (stack_span parts size)) 0)
    0 (λ b. h 1 (length parts) 0 (l1 parts size) refl (omega arith, b)) (omega arith) in
    let with_p = none_at (near_part (stack_span parts size)) parts k p (or_parts _ _ none).0 at in
    far (stack_span parts size)
    x.span true x.linear s r
    (none_at (near (stack_span parts size)) (part_spans p) x.index x.span with_p x.at) x.is l

-- of all parts, one after another
apart_parts : (parts : List PartSeen)
    → ((k : ℕ) (p : PartSeen) → slice_get parts k ≡ Some p → AllPairs Apart (part_regions p))
    → ((k n : ℕ) (p q : PartSeen) → k < n → slice_get parts k ≡ Some p → slice_get parts n ≡ Some q
    → (r s : Region) → Contains (part_regions p) r → Contains (part_regions q) s → Apart r s)
    → AllPairs Apart (flat_map part_regions parts)
apart_parts [] own across = λ i j d lt le. absurd (omega (arith, le))
apart_parts (x ∷ xs) own across =
    pairs_append Apart (part_regions x) (flat_map part_regions xs) (own 0 x refl)
    (apart_parts xs (λ k p at. own (suc k) p at)
    (λ k n p q lt at_k at_n. across (suc k) (suc n) p q (omega (arith, lt)) at_k at_n))
    (λ r s m l.
    (let o = of_part xs s l in across 0 (suc o.index) x o.part (omega arith) refl o.at r s m o.is))

pub regions_apart : (parts : List PartSeen) (size : ℕ) → NoneIsBroken (rules_l parts size)
    → AllPairs Apart (regions_of parts size)
unfolding regions_of
regions_apart parts size h =
    pairs_append Apart (flat_map part_regions parts) (region true (stack_span parts size))
    (apart_parts parts (apart_within parts size h) (apart_across parts size h))
    (one_at_most true (stack_span parts size))
    (λ r s m l. (let o = of_part parts r m in apart_from_stack parts size h o.index o.part o.at r s o.is l))

-- ---- all of them

pub are_linked : (parts : List PartSeen) (size : ℕ)
    → ((k : ℕ) (p : PartSeen) → slice_get parts k ≡ Some p → IsPart p) → NoneIsBroken (rules_l parts size)
    → Linked parts size
are_linked parts size each h =
    let stack = and_parts (is_stack_size size) _ (stack_fits parts size h) in
    record {
      few = few parts size h;
      closed = record { kept = λ k p at. is_kept p (each k p at); found = imports_found parts size h };
      apart = regions_apart parts size h;
      size_fits = stack.0;
      stack_end = within stack.1;
      main = main_there parts size h;
    }
  where
    within : {n : ℕ} → nat_le n 1048576 ≡ true → n ≤ 1048576
    within e = grind (arith, nat_tests)
