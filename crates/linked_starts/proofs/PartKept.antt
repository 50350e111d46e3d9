-- What the rules C say of a part, as the start rests on it.
use Rattle.call_sequence.specs.declared.TheConstants.{SITE_WORDS}
use Rattle.std.proofs.Common.{◌≡◌, ℕ, zero, suc, ◌+◌, ◌-◌, ◌<◌, ◌≤◌, ◌⊎◌, inl, inr, Bool, true, false, not}
use Rattle.std.proofs.Common.{List, length, Option, Some, None, refl, sym, ap, subst, ◌∙◌, arith, map}
use Rattle.std.specs.Prelude.{slice_get, slice_index, nat_le, nat_lt, ◌&&◌, ◌||◌, is_some, option_map}
use Rattle.std.specs.Prelude.{if◌then◌else◌}
use Rattle.std.proofs.lemmas.Bool.Decides.{nat_tests}
use Rattle.std.proofs.lemmas.Option.{slice_get_within, get_or_from_slice_get, slice_get-map}
use Rattle.std.proofs.lemmas.Bool.{not-false, and_parts, or_cases}
use Rattle.cap_words.specs.declared.Word.TheVariants.{Mem}
use Rattle.cap_words.specs.declared.CapFields.{CapFields}
use Rattle.cap_words.specs.Linear.{lin_is}
use Rattle.cap_words.specs.Faces.{may_run}
use Rattle.component_file.specs.declared.component.ComponentFields.{ComponentFields}
use Rattle.component_file.specs.declared.component.Import.{Import}
use Rattle.component_file.specs.Limits.{last_base}
use Rattle.component_check.specs.Places.{Test, first_below}
use Rattle.component_check.specs.Verdict.{rule, NoneBroken}
use Rattle.component_check.specs.Areas.{is_past_end, are_near, code_area, data_area, has_all}
use Rattle.seal_space.specs.Seals.{has_seal}
use Rattle.component_check.specs.Rules.{c1, c2, c3, c4, c7, c8, c12, slot_of, slot_is_bad, words, holds_of}
use Rattle.component_check.specs.Rules.{is_foreign, is_own, linear_at, linear_in, meet, meets_before, rules_c}
use Rattle.component_check.proofs.Offers.{first_below_is, IsFirstIn}
use Rattle.call_sequence.specs.Lists.{k1, site_is_bad, lists}
use Rattle.linked_starts.specs.Parts.{PartSeen, IsPart, rules_of}
use Rattle.linked_starts.specs.Linked.{Kept, IsOwn, HasRange}

-- a rule of some is broken nowhere
nowhere : (rules : List (Test ℕ)) → NoneBroken rules → (n i : ℕ) (t : Test ℕ) → rule rules n ≡ Some t
    → i < t.count → t.broken i ≡ false
nowhere rules h n i t is lt = by_test (t.broken i) refl
  where
    by_test : (b : Bool) → t.broken i ≡ b → t.broken i ≡ false
    by_test true e = absurd (h n i t is (lt, e))
    by_test false e = e

-- a rule C of a part
pub kept : (p : PartSeen) → IsPart p → (n i : ℕ) (t : Test ℕ) → rule (rules_of p) n ≡ Some t → i < t.count
    → t.broken i ≡ false
kept p h = nowhere (rules_of p) h.rules

-- ---- areas

pub ends : (base count : ℕ) → is_past_end base count ≡ false → 1 ≤ count → base + count ≤ 1048576
ends base count e some = grind (arith, nat_tests)

pub code_ends : (p : PartSeen) → IsPart p → p.component.code_base + length p.component.code ≤ 1048576
unfolding c1
code_ends p h =
    ends p.component.code_base (length p.component.code) (kept p h 1 0 (c1 p.component) refl (omega arith))
    h.limits.code.0.0

pub data_ends : (p : PartSeen) → IsPart p → p.component.data_base + length p.component.data_words ≤ 1048576
unfolding c1
data_ends p h =
    ends p.component.data_base (length p.component.data_words)
    (kept p h 1 1 (c1 p.component) refl (omega arith)) h.limits.data_words.0.0

pub linear_ends : (p : PartSeen) → IsPart p → p.component.linear.base + p.component.linear.count ≤ 1048576
unfolding c1
linear_ends p h = by_count p.component.linear.count refl
  where
    by_count : (n : ℕ) → p.component.linear.count ≡ n
        → p.component.linear.base + p.component.linear.count ≤ 1048576
    by_count zero e =
        let P : ℕ → Type 0 = λ n. p.component.linear.base ≤ last_base n in
        let base : p.component.linear.base ≤ 0 = subst P e h.limits.linear.1 in
        omega (arith, e, base)
    by_count (suc n) e =
        ends p.component.linear.base p.component.linear.count
        (kept p h 1 2 (c1 p.component) refl (omega arith)) (omega (arith, e))

-- C2: code and data lie apart
pub code_no_data : (p : PartSeen) → IsPart p → p.component.code_base ≡ p.component.data_base → ⊥
unfolding c2
code_no_data p h =
    meet p.component.code_base (length p.component.code) p.component.data_base (length p.component.data_words)
    (kept p h 2 0 (c2 p.component) refl (omega arith)) h.limits.code.0.0 h.limits.data_words.0.0
  where
    meet : (a n b m : ℕ) → are_near (record { base = a; count = n }) (record { base = b; count = m }) ≡ false
        → 1 ≤ n → 1 ≤ m → a ≡ b → ⊥
    meet a n b m e some many same = grind (arith, nat_tests)

-- ---- slots

slot_is : (c : ComponentFields) (k : ℕ) (i : Import) → slice_get c.imports k ≡ Some i → slot_of c k ≡ i.slot
slot_is c k i e =
    get_or_from_slice_get (map (λ x. x.slot) c.imports)
    k i.slot 0 (slice_get-map (λ x. x.slot) c.imports k ∙ ap (option_map (λ x. x.slot)) e)

slot_fits : (p : PartSeen) → IsPart p → (k : ℕ) (i : Import) → slice_get p.component.imports k ≡ Some i
    → slot_is_bad p.component k ≡ false
unfolding c4
slot_fits p h k i e = kept p h 4 k (c4 p.component) refl (slice_get_within p.component.imports k i e)

in_data : (n s : ℕ) (b : Bool) → (nat_le n (s + 1) || b) ≡ false → s + 1 < n
in_data n s b e = by_test (nat_le n (s + 1)) refl
  where
    by_test : (t : Bool) → nat_le n (s + 1) ≡ t → s + 1 < n
    by_test true f = let g : true ≡ false = sym (ap (λ t. t || b) f) ∙ e in cc
    by_test false f = grind (arith, nat_tests)

pub slots_in : (p : PartSeen) → IsPart p → (k : ℕ) (i : Import) → slice_get p.component.imports k ≡ Some i
    → i.slot + 1 < length p.component.data_words
slots_in p h k i e =
    let P : ℕ → Type 0 = λ s. s + 1 < length p.component.data_words in
    subst P (slot_is p.component k i e)
    (in_data (length p.component.data_words) (slot_of p.component k) _ (slot_fits p h k i e))

behind : (n s r k : ℕ) → (nat_le n (s + 1) || (nat_lt 0 (k + 1) && nat_lt s (r + 2))) ≡ false → r + 2 ≤ s
behind n s r k e = grind (arith, nat_tests)

pub slots_apart : (p : PartSeen) → IsPart p → (k : ℕ) (i j : Import)
    → slice_get p.component.imports k ≡ Some i → slice_get p.component.imports (k + 1) ≡ Some j
    → i.slot + 2 ≤ j.slot
slots_apart p h k i j e f =
    let before : slot_of p.component (k + 1 - 1) ≡ i.slot =
    ap (slot_of p.component) (let n : k + 1 - 1 ≡ k = omega arith in n) ∙ slot_is p.component k i e in
    let fits = slot_fits p h (k + 1) j f in
    let le = behind (length p.component.data_words) (slot_of p.component (k + 1))
    (slot_of p.component (k + 1 - 1)) k fits in
    omega (arith, le, before, slot_is p.component (k + 1) j f)

-- ---- capabilities

pub range_in : (base count : ℕ) (m : CapFields)
    → has_all (record { base = base; count = count }) m.base m.end ≡ true → HasRange base count m
range_in base count m e = (grind (arith, nat_tests), grind (arith, nat_tests))

-- C7, as the start rests on it
own_range : (c : ComponentFields) (m : CapFields) → is_own c m ≡ true → IsOwn c m
own_range c m e = by_lin (lin_is m.lin) refl
  where
    normal : (a b : Bool) → lin_is m.lin ≡ false → (a ≡ true → HasRange c.code_base (length c.code) m)
        → (b ≡ true → HasRange c.data_base (length c.data_words) m)
        → (a ≡ true) ⊎ (b ≡ true) → IsOwn c m
    normal a b lin in_code in_words h =
        elim h as (λ _. IsOwn c m) [ inl x ↦ inl (lin, in_code x) | inr x ↦ inr (inl (lin, in_words x)) ]

    by_lin : (b : Bool) → lin_is m.lin ≡ b → IsOwn c m
    by_lin true lin =
        let own : (not (may_run m.perm) && has_all c.linear m.base m.end) ≡ true =
        sym (ap (λ b. if b then (not (may_run m.perm) && has_all c.linear m.base m.end)
        else (has_all (code_area c)
        m.base m.end || (not (may_run m.perm) && has_all (data_area c) m.base m.end))) lin) ∙ e in
        inr (inr (lin, range_in c.linear.base c.linear.count m (and_parts _ _ own).1))
    by_lin false lin =
        let own :
        (has_all (code_area c)
        m.base m.end || (not (may_run m.perm) && has_all (data_area c) m.base m.end)) ≡ true =
        sym (ap (λ b. if b then (not (may_run m.perm) && has_all c.linear m.base m.end)
        else (has_all (code_area c)
        m.base m.end || (not (may_run m.perm) && has_all (data_area c) m.base m.end))) lin) ∙ e in
        normal _ _ lin (range_in c.code_base (length c.code) m)
        (λ x. range_in c.data_base (length c.data_words) m (and_parts _ _ x).1) (or_cases _ _ own)

pub owns : (p : PartSeen) → IsPart p → (k : ℕ) (m : CapFields)
    → slice_get (words p.component) k ≡ Some (Mem m) → IsOwn p.component m
unfolding c7
owns p h k m e =
    let fine : holds_of (is_foreign p.component) (slice_get (words p.component) k) ≡ false =
    kept p h 7 k (c7 p.component) refl (slice_get_within (words p.component) k (Mem m) e) in
    let own : not (is_own p.component m) ≡ false = sym (ap (holds_of (is_foreign p.component)) e) ∙ fine in
    own_range p.component m (not-false (is_own p.component m) own)

-- C8, as the start rests on it
meets_none : (test : ℕ → Bool) (n : ℕ) → is_some (first_below test n) ≡ false → (i : ℕ) → i < n
    → test i ≡ false
meets_none test n e = by_first (first_below test n) refl (first_below_is test n)
  where
    by_first : (o : Option ℕ) → first_below test n ≡ o → IsFirstIn test n o → (i : ℕ) → i < n → test i ≡ false
    by_first None is h = h
    by_first (Some i) is h = let f : true ≡ false = sym (ap is_some is) ∙ e in absurd cc

linear_of : (c : ComponentFields) (k : ℕ) (m : CapFields) → slice_get (words c) k ≡ Some (Mem m)
    → lin_is m.lin ≡ true → linear_at c k ≡ Some m
linear_of c k m e lin = ap linear_in e ∙ rw lin refl

pub once : (p : PartSeen) → IsPart p → (k n : ℕ) (m l : CapFields) → k < n
    → slice_get (words p.component) k ≡ Some (Mem m) → slice_get (words p.component) n ≡ Some (Mem l)
    → lin_is m.lin ≡ true → lin_is l.lin ≡ true → (m.end < l.base) ⊎ (l.end < m.base)
unfolding c8
once p h k n m l lt e f m_lin l_lin =
    let c = p.component in
    let none : meets_before c n ≡ false = kept p h 8 n (c8 c) refl (slice_get_within (words c) n (Mem l) f) in
    let apart : meet (linear_at c k) (linear_at c n) ≡ false =
    meets_none (λ i. meet (linear_at c i) (linear_at c n)) n none k lt in
    let both : meet (Some m) (Some l) ≡ false =
    sym (ap (λ o. meet o (linear_at c n)) (linear_of c k m e m_lin)
    ∙ ap (meet (Some m)) (linear_of c n l f l_lin)) ∙ apart in
    lie_apart m l both
  where
    lie_apart : (a b : CapFields) → (nat_le a.base b.end && nat_le b.base a.end) ≡ false
        → (a.end < b.base) ⊎ (b.end < a.base)
    lie_apart a b e = grind (arith, nat_tests)

-- ---- seals

-- C3: the closure seal is none of the return seals
pub closure_apart : (p : PartSeen) → IsPart p → has_seal p.component.seals p.component.closure ≡ false
unfolding c3
closure_apart p h = second (is_past_end p.component.seals.base p.component.seals.count)
    (has_seal p.component.seals p.component.closure) (kept p h 3 0 (c3 p.component) refl (omega arith))
  where
    second : (a b : Bool) → (a || b) ≡ false → b ≡ false
    second true b e = absurd cc
    second false b e = e

-- C3: and these are seals that there are
pub seals_end : (p : PartSeen) → IsPart p → p.component.seals.base + p.component.seals.count ≤ 1048576
unfolding c3
seals_end p h = by_count p.component.seals.count refl
  where
    first : (a b : Bool) → (a || b) ≡ false → a ≡ false
    first true b e = absurd cc
    first false b e = refl

    by_count : (n : ℕ) → p.component.seals.count ≡ n
        → p.component.seals.base + p.component.seals.count ≤ 1048576
    by_count zero e =
        let P : ℕ → Type 0 = λ n. p.component.seals.base ≤ last_base n in
        let base : p.component.seals.base ≤ 0 = subst P e h.limits.seals.1 in
        omega (arith, e, base)
    by_count (suc n) e =
        ends p.component.seals.base p.component.seals.count
        (first (is_past_end p.component.seals.base p.component.seals.count)
        (has_seal p.component.seals p.component.closure)
        (kept p h 3 0 (c3 p.component) refl (omega arith)))
        (omega (arith, e))

-- C12: a trusted part has a seal for each of its sites
pub twelfth : (p : PartSeen) → p.trusted ≡ true → rule (rules_of p) 12 ≡ Some (c12 p.component)
twelfth p trusted = ap (λ b. rule (rules_c p.component b) 12) trusted

pub few_sites : (p : PartSeen) → IsPart p → p.trusted ≡ true
    → length p.component.sites ≤ p.component.seals.count
unfolding c12
few_sites p h trusted =
    let fine : nat_lt p.component.seals.count (length p.component.sites) ≡ false =
    kept p h 12 2 (c12 p.component) (twelfth p trusted) (omega arith) in
    grind (arith, nat_tests)

-- ---- sites

-- K1: they lie within the code
pub sites_in : (p : PartSeen) → IsPart p → p.trusted ≡ true → (k o : ℕ)
    → slice_get p.component.sites k ≡ Some o → o < length p.component.code
unfolding k1
sites_in p h trusted k o e =
    let fits : site_is_bad p.component k ≡ false =
    nowhere (lists p.component) (h.flow trusted).placed 1 k (k1 p.component)
    refl (slice_get_within p.component.sites k o e) in
    let at : slice_index p.component.sites k ≡ o = get_or_from_slice_get p.component.sites k o 0 e in
    let P : ℕ → Type 0 = λ s. s + SITE_WORDS ≤ length p.component.code in
    let room = subst P at (has_room (length p.component.code) (slice_index p.component.sites k) _ fits) in
    omega (arith, room)
  where
    has_room : (n s : ℕ) (b : Bool) → (nat_lt n (s + SITE_WORDS) || b) ≡ false → s + SITE_WORDS ≤ n
    has_room n s b e = by_test (nat_lt n (s + SITE_WORDS)) refl
      where
        by_test : (t : Bool) → nat_lt n (s + SITE_WORDS) ≡ t → s + SITE_WORDS ≤ n
        by_test true f = let g : true ≡ false = sym (ap (λ t. t || b) f) ∙ e in cc
        by_test false f = grind (arith, nat_tests)

pub is_kept : (p : PartSeen) → IsPart p → Kept p
is_kept p h = record {
  limits = h.limits;
  code_end = code_ends p h;
  data_end = data_ends p h;
  linear_end = linear_ends p h;
  slots_in = slots_in p h;
  slots_apart = slots_apart p h;
  own = owns p h;
  once = once p h;
  sites_in = sites_in p h;
}
