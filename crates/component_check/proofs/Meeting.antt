-- Linear capabilities that meet, seen by the addresses that are marked.
use Rattle.std.proofs.Common.{◌≡◌, ℕ, ◌+◌, ◌-◌, ◌<◌, ◌≤◌, inl, inr, Bool, true, false, List, length, Option}
use Rattle.std.proofs.Common.{Some, None, refl, sym, ap, ◌∙◌, arith, subst, add-one}
use Rattle.std.specs.Prelude.{nat_le, nat_lt, max, ◌&&◌, ◌||◌, not, is_some, option_map, slice_get, IfSome}
use Rattle.std.specs.Prelude.{if◌then◌else◌}
use Rattle.std.proofs.lemmas.Bool.Decides.{nat_tests}
use Rattle.std.proofs.lemmas.Bool.{cases_eq}
use Rattle.cap_words.specs.declared.Word.{Word}
use Rattle.cap_words.specs.declared.Word.TheVariants.{Int, Mem, Seal, Sealed}
use Rattle.cap_words.specs.declared.CapFields.{CapFields}
use Rattle.cap_words.specs.Linear.{lin_is}
use Rattle.cap_words.specs.Faces.{may_run}
use Rattle.cap_words.specs.Face.{SomeCapInOrder}
use Rattle.component_file.specs.declared.component.ComponentFields.{ComponentFields}
use Rattle.component_check.specs.Areas.{code_area, data_area, has_all}
use Rattle.component_check.specs.Places.{or_here, first_below, first_place}
use Rattle.component_check.specs.Rules.{words, holds_of, is_foreign, c7, linear_in, linear_at, meet}
use Rattle.component_check.specs.Rules.{meets_before}
use Rattle.component_check.specs.Marks.{is_marked, has_address, is_taken, Taken, IsInArea}
use Rattle.component_check.proofs.First.{IsFirstIn, first_below_is}

-- ---- whether there is one below

abbrev any_below : (ℕ → Bool) → ℕ → Bool
any_below t n = is_some (first_below t n)

pub none_of : (t : ℕ → Bool) (n : ℕ) (o : Option ℕ) → IsFirstIn t n o → is_some o ≡ false → (i : ℕ) → i < n
    → t i ≡ false
none_of t n None h e = h
none_of t n (Some p) h e = cc

pub none_below : (t : ℕ → Bool) (n : ℕ) → any_below t n ≡ false → (i : ℕ) → i < n → t i ≡ false
none_below t n e = none_of t n (first_below t n) (first_below_is t n) e

one_of : (t : ℕ → Bool) (n : ℕ) (o : Option ℕ) → IsFirstIn t n o → is_some o ≡ true → (i : ℕ) × (i < n)
    × (t i ≡ true)
one_of t n None h e = cc
one_of t n (Some p) h e = (p, h.0, h.1)

one_below : (t : ℕ → Bool) (n : ℕ) → any_below t n ≡ true → (i : ℕ) × (i < n) × (t i ≡ true)
one_below t n e = one_of t n (first_below t n) (first_below_is t n) e

-- one below is enough
some_below : (t : ℕ → Bool) (n i : ℕ) → i < n → t i ≡ true → any_below t n ≡ true
some_below t n i lt e = by_test (any_below t n) refl
  where
    by_test : (b : Bool) → any_below t n ≡ b → b ≡ true
    by_test true is = refl
    by_test false is = let f : false ≡ true = sym (none_below t n is i lt) ∙ e in cc

no_below : (t : ℕ → Bool) (n : ℕ) → ((i : ℕ) → i < n → t i ≡ true → ⊥) → any_below t n ≡ false
no_below t n h = by_test (any_below t n) refl
  where
    by_test : (b : Bool) → any_below t n ≡ b → b ≡ false
    by_test false is = refl
    by_test true is = let one = one_below t n is in absurd (h one.0 one.1 one.2)

one_more : (o : Option ℕ) (n : ℕ) (b : Bool) → is_some (or_here o n b) ≡ (b || is_some o)
one_more (Some p) n true = refl
one_more (Some p) n false = refl
one_more None n true = refl
one_more None n false = refl

-- ---- capabilities that meet

over_one : (a : Option CapFields) (m : CapFields) (x : ℕ) → has_address a x ≡ true → m.base ≤ x → x ≤ m.end
    → meet a (Some m) ≡ true
over_one None m x e low high = cc
over_one (Some a) m x e low high = grind (arith, nat_tests)

abbrev Shared : CapFields → CapFields → ℕ → Type 0
Shared a m x = (has_address (Some a) x ≡ true) × (m.base ≤ x) × (x ≤ m.end)

shared : (a m : CapFields) → meet (Some a) (Some m) ≡ true → a.base ≤ a.end → m.base ≤ m.end
    → Shared a m (max a.base m.base)
shared a m e a_in m_in = (grind (arith, nat_tests), omega arith, grind (arith, nat_tests))

-- where they meet, an address is shared
meeting : (a : Option CapFields) (m : CapFields) → meet a (Some m) ≡ true → SomeCapInOrder a → m.base ≤ m.end
    → (x : ℕ) × (has_address a x ≡ true) × (m.base ≤ x) × (x ≤ m.end)
meeting None m e a_in m_in = cc
meeting (Some a) m e a_in m_in = let s = shared a m e a_in.0 m_in in (max a.base m.base, s.0, s.1, s.2)

meets_none : (a : Option CapFields) → meet a None ≡ false
meets_none None = refl
meets_none (Some a) = refl

-- ---- the marks

-- an address that is marked already: they meet
pub marked_meets : (c : ComponentFields) (bits : List ℕ) (j : ℕ) (m : CapFields) → Taken c bits j
    → linear_at c j ≡ Some m → IsInArea c m → any_below (λ i. is_marked bits (m.base - c.linear.base + i))
    (m.end + 1 - c.linear.base - (m.base - c.linear.base)) ≡ true → meets_before c j ≡ true
marked_meets c bits j m h here area any =
    let k = one_below (λ i. is_marked bits (m.base - c.linear.base + i)) _ any in
    let lt : k.0 < m.end + 1 - c.linear.base - (m.base - c.linear.base) = k.1 in
    let low : c.linear.base ≤ m.base = area.0 in
    let order : m.base ≤ m.end = area.1 in
    let high : m.end < c.linear.base + 65536 = area.2 in
    let at : is_taken c j (c.linear.base + (m.base - c.linear.base + k.0)) ≡ true =
    sym (h.marks (m.base - c.linear.base + k.0) (omega arith)) ∙ k.2 in
    let i = one_below (λ i. has_address (linear_at c i) (c.linear.base + (m.base - c.linear.base + k.0))) j
    at in
    some_below (λ i. meet (linear_at c i) (linear_at c j)) j i.0 i.1
    (rw here (over_one (linear_at c i.0) m (c.linear.base + (m.base - c.linear.base + k.0)) i.2
    (omega arith) (omega arith)))

-- none is marked: they don't
pub unmarked_apart : (c : ComponentFields) (bits : List ℕ) (j : ℕ) (m : CapFields) → Taken c bits j
    → linear_at c j ≡ Some m → IsInArea c m → any_below (λ i. is_marked bits (m.base - c.linear.base + i))
    (m.end + 1 - c.linear.base - (m.base - c.linear.base)) ≡ false → meets_before c j ≡ false
unmarked_apart c bits j m h here area none = no_below (λ i. meet (linear_at c i) (linear_at c j)) j alone
  where
    alone : (i : ℕ) → i < j → meet (linear_at c i) (linear_at c j) ≡ true → ⊥
    alone i lt e =
        let x = meeting (linear_at c i) m (sym (ap (meet (linear_at c i)) here) ∙ e)
        (h.in_order i lt) area.1 in
        let low : c.linear.base ≤ m.base = area.0 in
        let high : m.end < c.linear.base + 65536 = area.2 in
        let x_low : m.base ≤ x.0 = x.2 in
        let x_high : x.0 ≤ m.end = x.3 in
        let at : c.linear.base + (x.0 - c.linear.base) ≡ x.0 = omega arith in
        let in_range : m.base - c.linear.base + (x.0 - m.base) ≡ x.0 - c.linear.base = omega arith in
        let unmarked = none_below (λ i. is_marked bits (m.base - c.linear.base + i))
        (m.end + 1 - c.linear.base - (m.base - c.linear.base)) none (x.0 - m.base) (omega arith) in
        let free : is_taken c j (c.linear.base + (x.0 - c.linear.base)) ≡ false =
        sym (h.marks (x.0 - c.linear.base) (omega arith))
        ∙ (sym (ap (is_marked bits) in_range) ∙ unmarked) in
        let clear : has_address (linear_at c i) (c.linear.base + (x.0 - c.linear.base)) ≡ false =
        none_below (λ i. has_address (linear_at c i) (c.linear.base + (x.0 - c.linear.base))) j free i lt
        in
        let f : false ≡ true = sym clear ∙ (ap (has_address (linear_at c i)) at ∙ x.1) in
        cc

in_order_more : (c : ComponentFields) (j : ℕ) → ((i : ℕ) → i < j → SomeCapInOrder (linear_at c i))
    → SomeCapInOrder (linear_at c j) → (i : ℕ) → i < j + 1 → SomeCapInOrder (linear_at c i)
in_order_more c j h here i lt = elim (cases_eq i j) as (λ _. SomeCapInOrder (linear_at c i)) [
  | inl e ↦ subst (λ n. SomeCapInOrder (linear_at c n)) (sym e) here
  | inr ne ↦ h i (omega arith)
]

more_taken : (c : ComponentFields) (j address : ℕ)
    → is_taken c (j + 1) address ≡ (has_address (linear_at c j) address || is_taken c j address)
more_taken c j address = rw (add-one j)
    (one_more (first_below (λ i. has_address (linear_at c i) address) j) j
    (has_address (linear_at c j) address))

same_test : (base k : ℕ) (m : CapFields) → base ≤ m.base → m.base ≤ m.end
    → (nat_le m.base (base + k) && nat_le (base + k) m.end)
    ≡ (nat_le (m.base - base) k && nat_lt k (m.end + 1 - base))
same_test base k m low order = grind (arith, nat_tests)

-- its addresses are marked too
pub taken_more : (c : ComponentFields) (old new : List ℕ) (j : ℕ) (m : CapFields) → Taken c old j
    → linear_at c j ≡ Some m → IsInArea c m → SomeCapInOrder (linear_at c j)
    → ((k : ℕ) → k < 65536
    → is_marked new k
    ≡ ((nat_le (m.base - c.linear.base) k && nat_lt k (m.end + 1 - c.linear.base)) || is_marked old k))
    → Taken c new (j + 1)
taken_more c old new j m h here area order marked =
    record { marks = marks; in_order = in_order_more c j h.in_order order }
  where
    marks : (k : ℕ) → k < 65536 → is_marked new k ≡ is_taken c (j + 1) (c.linear.base + k)
    marks k lt =
        marked k lt ∙ (
        ap (λ b. b || is_marked old k) (sym (same_test c.linear.base k m area.0 area.1)
        ∙ sym (ap (λ o. has_address o (c.linear.base + k)) here))
        ∙ (ap (λ b. has_address (linear_at c j) (c.linear.base + k) || b) (h.marks k lt)
        ∙ sym (more_taken c j (c.linear.base + k)))
        )

-- where there is no linear capability, nothing changes
pub none_here : (c : ComponentFields) (bits : List ℕ) (j : ℕ) → Taken c bits j → linear_at c j ≡ None
    → Taken c bits (j + 1)
none_here c bits j h here = record {
  marks = λ k lt. h.marks k lt
      ∙ (sym (ap (λ o. has_address o (c.linear.base + k) || is_taken c j (c.linear.base + k)) here)
      ∙ sym (more_taken c j (c.linear.base + k)));
  in_order = in_order_more c j h.in_order (rw here tt);
}

pub none_meets : (c : ComponentFields) (j : ℕ) → linear_at c j ≡ None → meets_before c j ≡ false
none_meets c j here = no_below (λ i. meet (linear_at c i) (linear_at c j)) j
    (λ i lt e. let f : false ≡ true = sym (meets_none (linear_at c i))
    ∙ (sym (ap (meet (linear_at c i)) here) ∙ e) in cc)

-- ---- what C7 says of them

none_mapped : (o : Option ℕ) → option_map (λ i. i) o ≡ None → is_some o ≡ false
none_mapped None e = refl
none_mapped (Some p) e = cc

both_own : (b p r q : Bool) (m' m : CapFields) → not (if b then p && r else q) ≡ false
    → (if b then Some m' else None) ≡ Some m → (m' ≡ m) × (r ≡ true)
both_own true true true q m' m e is = (cc, refl)
both_own true true false q m' m e is = cc
both_own true false r q m' m e is = cc
both_own false p r q m' m e is = cc

linear_own : (c : ComponentFields) (w : Option Word) (m : CapFields) → holds_of (is_foreign c) w ≡ false
    → linear_in w ≡ Some m → has_all c.linear m.base m.end ≡ true
linear_own c None m e is = cc
linear_own c (Some (Int n)) m e is = cc
linear_own c (Some (Seal s)) m e is = cc
linear_own c (Some (Sealed o x)) m e is = cc
linear_own c (Some (Mem a)) m e is =
    let own = both_own (lin_is a.lin) (not (may_run a.perm)) (has_all c.linear a.base a.end)
    (has_all (code_area c) a.base a.end || (not (may_run a.perm) && has_all (data_area c) a.base a.end))
    a m e is in
    subst (λ (x : CapFields). has_all c.linear x.base x.end ≡ true) own.0 own.1

pub in_area : (c : ComponentFields) (j : ℕ) (m : CapFields) → first_place (c7 c) ≡ None
    → j < length (words c) → c.linear.count ≤ 65536 → linear_at c j ≡ Some m → m.base ≤ m.end → IsInArea c m
unfolding c7
in_area c j m kept lt few here order =
    let own = linear_own c (slice_get (words c) j) m
    (none_below (λ i. holds_of (is_foreign c) (slice_get (words c) i)) _ (none_mapped _ kept) j lt) here
    in
    (grind (arith, nat_tests), order, grind (arith, nat_tests))

pub each_in_area : (c : ComponentFields) (j : ℕ) (o : Option CapFields) → first_place (c7 c) ≡ None
    → j < length (words c) → c.linear.count ≤ 65536 → o ≡ linear_at c j → SomeCapInOrder o
    → IfSome o (λ m. IsInArea c m)
each_in_area c j None kept lt few is order = tt
each_in_area c j (Some m) kept lt few is order = in_area c j m kept lt few (sym is) order.0
