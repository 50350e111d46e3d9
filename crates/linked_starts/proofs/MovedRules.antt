-- The rules C of a moved part: it keeps them where its addresses and seals are some that there are.
use Rattle.std.proofs.Common.{◌≡◌, ℕ, zero, suc, ◌+◌, ◌<◌, ◌≤◌, ℤ, pos, Bool, true, false, not, List, [], ◌∷◌}
use Rattle.std.proofs.Common.{length, map, Option, Some, None, refl, sym, ap, subst, ◌∙◌, arith}
use Rattle.std.specs.Prelude.{slice_get, slice_index_or, option_map, nat_le, nat_lt, ◌==◌, ◌&&◌, ◌||◌}
use Rattle.std.specs.Prelude.{is_some}
use Rattle.std.proofs.lemmas.Bool.Decides.{nat_tests, Decides-int_eq}
use Rattle.std.proofs.lemmas.Int.{ints}
use Rattle.std.specs.Ordering.{int_eq}
use Rattle.std.proofs.lemmas.List.{length-map, map-append}
use Rattle.std.proofs.lemmas.Option.{slice_get-map}
use Rattle.std.proofs.lemmas.Bool.{and_parts, or_parts}
use Rattle.cap_words.specs.declared.Word.{Word}
use Rattle.cap_words.specs.declared.Word.TheVariants.{Int, Mem, Seal, Sealed}
use Rattle.cap_words.specs.declared.CapFields.{CapFields}
use Rattle.cap_words.specs.Linear.{lin_is}
use Rattle.seal_space.specs.Seals.{has_seal}
use Rattle.component_file.specs.declared.component.ComponentFields.{ComponentFields}
use Rattle.component_check.specs.Places.{Test, BrokenAt, first_below}
use Rattle.component_check.specs.Verdict.{rule, NoneBroken}
use Rattle.component_check.specs.Areas.{are_near, has_all}
use Rattle.component_check.specs.Rules.{c1, c2, c3, c4, c5, c6, c7, c8, c9, c10, c11, c12, rules_c, words}
use Rattle.component_check.specs.Rules.{holds_of, is_foreign, is_foreign_seal, is_zero_word, slot_of}
use Rattle.component_check.specs.Rules.{linear_in, linear_at, meet, is_no_int}
use Rattle.component_check.specs.Rules.{code_at, is_over_seals, has_sites, rules_of_trusted}
use Rattle.linked_starts.specs.declared.moving.Shift.{Shift}
use Rattle.linked_starts.specs.declared.moving.Move.{Move}
use Rattle.linked_starts.specs.Parts.{IsPart}
use Rattle.linked_starts.specs.Placing.{shifted, shifted_int, shifted_base, moved_word, moved}
use Rattle.linked_starts.specs.Placing.{areas_end_late, seals_end_late}
use Rattle.linked_starts.proofs.PartKept.{kept}
use Rattle.linked_starts.proofs.OwnWords.{OwnCap, over_code, over_data, over_linear, OwnWord, own_word}

-- a part's lowest numbers are those from which it is moved
pub record Lowest (m : Move) (c : ComponentFields) : Type 0 where
  pub code : m.addresses.from ≤ c.code_base
  pub data_words : m.addresses.from ≤ c.data_base
  pub linear : 1 ≤ c.linear.count → m.addresses.from ≤ c.linear.base
  pub closure : m.seals.from ≤ c.closure
  pub seals : 1 ≤ c.seals.count → m.seals.from ≤ c.seals.base

-- ---- tests

-- a rule is broken nowhere
pub record Unbroken (t : Test ℕ) : Type 0 where
  pub at : (i : ℕ) → i < t.count → t.broken i ≡ false

pub none_at : {t u : Test ℕ} {i : ℕ} → t ≡ u → Unbroken t → BrokenAt u i → ⊥
none_at {t} {u} {i} is h b =
    let here = subst (λ v. BrokenAt v i) (sym is) b in
    let e : true ≡ false = sym here.1 ∙ h.at i here.0 in cc

three : (a b c : Bool) → a ≡ false → b ≡ false → c ≡ false → (i : ℕ)
    → slice_index_or (a ∷ b ∷ c ∷ []) i false ≡ false
three a b c e f g zero = e
three a b c e f g (suc zero) = f
three a b c e f g (suc (suc zero)) = g
three a b c e f g (suc (suc (suc i))) = refl

one : (a : Bool) → a ≡ false → (i : ℕ) → slice_index_or (a ∷ []) i false ≡ false
one a e zero = e
one a e (suc i) = refl

five : (a b c d e : Bool) → a ≡ false → b ≡ false → c ≡ false → d ≡ false → e ≡ false → (i : ℕ)
    → slice_index_or (a ∷ b ∷ c ∷ d ∷ e ∷ []) i false ≡ false
five a b c d e f g h k l zero = f
five a b c d e f g h k l (suc zero) = g
five a b c d e f g h k l (suc (suc zero)) = h
five a b c d e f g h k l (suc (suc (suc zero))) = k
five a b c d e f g h k l (suc (suc (suc (suc zero)))) = l
five a b c d e f g h k l (suc (suc (suc (suc (suc i))))) = refl

first_same : (f g : ℕ → Bool) (n : ℕ) → ((i : ℕ) → f i ≡ g i) → first_below f n ≡ first_below g n
first_same f g zero same = refl
first_same f g (suc n) same = rw (first_same f g n same, same n) refl

-- ---- stretches

near_moved : (s : Shift) (a n b k : ℕ) → s.from ≤ a → s.from ≤ b
    → are_near (record { base = a; count = n }) (record { base = b; count = k }) ≡ false
    → are_near (record { base = shifted s a; count = n }) (record { base = shifted s b; count = k }) ≡ false
near_moved s a n b k la lb e = grind (arith, nat_tests)

near_nothing : (a n b : ℕ) → are_near (record { base = a; count = n })
    (record { base = b; count = 0 }) ≡ false
near_nothing a n b = grind (arith, nat_tests)

near_linear : (s : Shift) (a n b k : ℕ) → s.from ≤ a → (1 ≤ k → s.from ≤ b)
    → are_near (record { base = a; count = n }) (record { base = b; count = k }) ≡ false
    → are_near (record { base = shifted s a; count = n })
    (record { base = shifted_base s b k; count = k }) ≡ false
near_linear s a n b zero la lb e = near_nothing (shifted s a) n b
near_linear s a n b (suc k) la lb e = near_moved s a n b (suc k) la (lb (omega arith)) e

no_seal : (s : Shift) (a k b : ℕ) → (1 ≤ k → s.from ≤ a) → s.from ≤ b
    → has_seal (record { base = a; count = k }) b ≡ false
    → has_seal (record { base = shifted_base s a k; count = k }) (shifted s b) ≡ false
no_seal s a zero b la lb e = grind (arith, nat_tests)
no_seal s a (suc k) b la lb e = let le = la (omega arith) in apart a (suc k) b le lb e
  where
    apart : (a k b : ℕ) → s.from ≤ a → s.from ≤ b → has_seal (record { base = a; count = k }) b ≡ false
        → has_seal (record { base = shifted s a; count = k }) (shifted s b) ≡ false
    apart a k b la lb e = grind (arith, nat_tests)

pub words_moved : (m : Move) (c : ComponentFields) (i : ℕ)
    → slice_get (words (moved m c)) i ≡ option_map (moved_word m) (slice_get (words c) i)
words_moved m c i =
    ap (λ ws. slice_get ws i) (sym (map-append (moved_word m) c.code c.data_words))
    ∙ slice_get-map (moved_word m) (words c) i

module _ (c : ComponentFields) (trusted : Bool) (part : IsPart (record { component = c; trusted = trusted }))
    (m : Move) (lowest : Lowest m c) where
  unbroken : (n : ℕ) (t : Test ℕ) → rule (rules_c c trusted) n ≡ Some t → Unbroken t
  unbroken n t is =
      record { at = λ i lt. kept (record { component = c; trusted = trusted }) part n i t is lt }

  size : (ws : List Word) → length (map (moved_word m) ws) ≡ length ws
  size ws = length-map ws (moved_word m)

  -- ---- areas and seals

  c1_moved : areas_end_late (moved m c) ≡ false → Unbroken (c1 (moved m c))
  unfolding c1
  c1_moved fits =
      let linear = or_parts _ _ fits in
      let others = or_parts _ _ linear.0 in
      record { at = λ i lt. three _ _ _ others.0 others.1 linear.1 i }

  c2_moved : Unbroken (c2 (moved m c))
  unfolding c2
  c2_moved =
      let was = (unbroken 2 (c2 c) refl).at in
      record {
        at = λ i lt. three _ _ _
            (rw (size c.code, size c.data_words)
            (near_moved m.addresses c.code_base (length c.code) c.data_base
            (length c.data_words) lowest.code lowest.data_words (was 0 (omega arith))))
            (rw (size c.code) (near_linear m.addresses c.code_base
            (length c.code) c.linear.base c.linear.count lowest.code lowest.linear (was 1 (omega arith))))
            (rw (size c.data_words) (near_linear m.addresses c.data_base
            (length c.data_words) c.linear.base c.linear.count lowest.data_words lowest.linear
            (was 2 (omega arith))))
            i;
      }

  c3_moved : seals_end_late (moved m c) ≡ false → Unbroken (c3 (moved m c))
  unfolding c3
  c3_moved fits =
      let was = or_parts _ _ ((unbroken 3 (c3 c) refl).at 0 (omega arith)) in
      record {
        at = λ i lt. one _ (both (or_parts _ _ fits).1
            (no_seal m.seals c.seals.base c.seals.count c.closure lowest.seals lowest.closure was.1)) i;
      }
    where
      both : {a b : Bool} → a ≡ false → b ≡ false → (a || b) ≡ false
      both e f = rw (e, f) refl

  -- ---- slots and exports

  zero_same : (ws : List Word) (o : ℕ) → is_zero_word (slice_get (map (moved_word m) ws) o) ≡ is_zero_word
      (slice_get ws o)
  zero_same ws o = ap is_zero_word (slice_get-map (moved_word m) ws o) ∙ by_word (slice_get ws o)
    where
      by_word : (w : Option Word) → is_zero_word (option_map (moved_word m) w) ≡ is_zero_word w
      by_word None = refl
      by_word (Some (Int n)) = refl
      by_word (Some (Mem k)) = refl
      by_word (Some (Seal s)) = refl
      by_word (Some (Sealed o x)) = refl

  c4_moved : Unbroken (c4 (moved m c))
  unfolding c4
  c4_moved = record { at = λ i lt. rw (size c.data_words) ((unbroken 4 (c4 c) refl).at i lt) }

  c5_moved : Unbroken (c5 (moved m c))
  unfolding c5
  c5_moved =
      record {
        at = λ i lt. rw (
          zero_same c.data_words (slot_of c i),
          zero_same c.data_words (slot_of c i + 1),
        ) ((unbroken 5 (c5 c) refl).at i lt);
      }

  c6_moved : Unbroken (c6 (moved m c))
  unfolding c6
  c6_moved = record { at = λ i lt. rw (size c.code) ((unbroken 6 (c6 c) refl).at i lt) }

  -- ---- words

  words_size : length (words (moved m c)) ≡ length (words c)
  words_size = ap length (sym (map-append (moved_word m) c.code c.data_words)) ∙ size (words c)

  -- what is never said of the own words isn't said of them moved
  never_said : (test : ComponentFields → Word → Bool)
      → ((w : Word) → OwnWord c w → test (moved m c) (moved_word m w) ≡ false)
      → (i : ℕ) → holds_of (test (moved m c)) (slice_get (words (moved m c)) i) ≡ false
  never_said test never i =
      ap (holds_of (test (moved m c))) (words_moved m c i) ∙ by_word (slice_get (words c) i) refl
    where
      by_word : (w : Option Word) → slice_get (words c) i ≡ w
          → holds_of (test (moved m c)) (option_map (moved_word m) w) ≡ false
      by_word None e = refl
      by_word (Some w) e = never w (own_word (record { component = c; trusted = trusted }) part i w e)

  c7_moved : Unbroken (c7 (moved m c))
  unfolding c7
  c7_moved = record { at = λ i lt. never_said is_foreign own i }
    where
      in_area : (s : Shift) (base count from to : ℕ) → s.from ≤ base → from ≤ to → base ≤ from
          → to < base + count → has_all (record { base = shifted s base; count = count }) (shifted s from)
          (shifted s to) ≡ true
      in_area s base count from to low order le lt = grind (arith, nat_tests)

      in_linear : (s : Shift) (base count from to : ℕ) → (1 ≤ count → s.from ≤ base) → from ≤ to → base ≤ from
          → to < base + count → has_all (record { base = shifted_base s base count; count = count })
          (shifted s from) (shifted s to) ≡ true
      in_linear s base zero from to low order le lt = absurd (omega (arith, order, le, lt))
      in_linear s base (suc k) from to low order le lt =
          in_area s base (suc k) from to (low (omega arith)) order le lt

      own_cap : (k : CapFields) → k.base ≤ k.end → OwnCap c k
          → is_foreign (moved m c) (moved_word m (Mem k)) ≡ false
      own_cap k order (over_code lin in_range) =
          rw (
            lin,
            size c.code,
            in_area m.addresses c.code_base
                (length c.code) k.base k.end lowest.code order in_range.0 in_range.1,
          ) refl
      own_cap k order (over_data lin x in_range) =
          rw (
            lin,
            x,
            size c.data_words,
            in_area m.addresses c.data_base
                (length c.data_words) k.base k.end lowest.data_words order in_range.0 in_range.1,
          ) (or_true _)
        where
          or_true : (b : Bool) → not (b || true) ≡ false
          or_true true = refl
          or_true false = refl
      own_cap k order (over_linear lin x in_range) =
          rw (
            lin,
            x,
            in_linear m.addresses c.linear.base c.linear.count k.base k.end lowest.linear order
                in_range.0 in_range.1,
          ) refl

      own : (w : Word) → OwnWord c w → is_foreign (moved m c) (moved_word m w) ≡ false
      own (Int n) h = refl
      own (Mem k) h = own_cap k h.0 h.1
      own (Seal s) h = refl
      own (Sealed o x) h = refl

  -- where a capability begins
  cap_from : (k : CapFields) → k.base ≤ k.end → OwnCap c k → m.addresses.from ≤ k.base
  cap_from k order (over_code lin in_range) = omega (arith, lowest.code, in_range.0)
  cap_from k order (over_data lin x in_range) = omega (arith, lowest.data_words, in_range.0)
  cap_from k order (over_linear lin x in_range) =
      let low = lowest.linear (omega (arith, order, in_range.0, in_range.1)) in omega (arith, low, in_range.0)

  c9_moved : Unbroken (c9 (moved m c))
  unfolding c9
  c9_moved = record { at = λ i lt. never_said is_foreign_seal own i }
    where
      in_seals : (s : Shift) (base count from to : ℕ) → (1 ≤ count → s.from ≤ base) → from ≤ to → base ≤ from
          → to < base + count → not (nat_le (shifted_base s base count) (shifted s from) && nat_lt
          (shifted s to) (shifted_base s base count + count)) ≡ false
      in_seals s base zero from to low order le lt = absurd (omega (arith, order, le, lt))
      in_seals s base (suc k) from to low order le lt =
          let le_base = low (omega arith) in within s base (suc k) from to le_base order le lt
        where
          within : (s : Shift) (base count from to : ℕ) → s.from ≤ base → from ≤ to → base ≤ from
              → to < base + count → not (nat_le (shifted s base) (shifted s from) && nat_lt (shifted s to)
              (shifted s base + count)) ≡ false
          within s base count from to low order le lt = grind (arith, nat_tests)

      own : (w : Word) → OwnWord c w → is_foreign_seal (moved m c) (moved_word m w) ≡ false
      own (Int n) h = refl
      own (Mem k) h = refl
      own (Seal s) h = in_seals m.seals c.seals.base c.seals.count s.base s.end lowest.seals h.0 h.1.0 h.1.1
      own (Sealed o x) h = refl

  -- ---- C8

  meet_moved : (a b : CapFields) → m.addresses.from ≤ a.base → m.addresses.from ≤ b.base → a.base ≤ a.end
      → b.base ≤ b.end
      → meet (linear_in (Some (moved_word m (Mem a)))) (linear_in (Some (moved_word m (Mem b)))) ≡ meet
      (linear_in (Some (Mem a))) (linear_in (Some (Mem b)))
  meet_moved a b la lb oa ob = by_lin (lin_is a.lin) (lin_is b.lin) refl refl
    where
      order : (s : Shift) (x y : ℕ) → s.from ≤ x → s.from ≤ y
          → nat_le (shifted s x) (shifted s y) ≡ nat_le x y
      order s x y lx ly = grind (arith, nat_tests)

      by_lin : (u v : Bool) → lin_is a.lin ≡ u → lin_is b.lin ≡ v
          → meet (linear_in (Some (moved_word m (Mem a)))) (linear_in (Some (moved_word m (Mem b)))) ≡ meet
          (linear_in (Some (Mem a))) (linear_in (Some (Mem b)))
      by_lin false v e f = rw e refl
      by_lin true false e f = rw (e, f) refl
      by_lin true true e f =
          rw (
            e,
            f,
            order m.addresses a.base b.end la (omega (arith, lb, ob)),
            order m.addresses b.base a.end lb (omega (arith, la, oa)),
          ) refl

  meets_same : (i j : ℕ) → meet (linear_at (moved m c) i) (linear_at (moved m c) j) ≡ meet (linear_at c i)
      (linear_at c j)
  meets_same i j =
      rw
      (words_moved m c i, words_moved m c j)
      (by_words (slice_get (words c) i) (slice_get (words c) j) refl refl)
    where
      none : (o : Option CapFields) → meet o None ≡ false
      none None = refl
      none (Some k) = refl

      own : (i : ℕ) (k : CapFields) → slice_get (words c) i ≡ Some (Mem k) → (m.addresses.from ≤ k.base)
          × (k.base ≤ k.end)
      own i k e =
          let h : OwnWord c (Mem k) = own_word (record { component = c; trusted = trusted }) part i
          (Mem k) e in (cap_from k h.0 h.1, h.0)

      by_words : (v w : Option Word) → slice_get (words c) i ≡ v → slice_get (words c) j ≡ w
          → meet (linear_in (option_map (moved_word m) v)) (linear_in (option_map (moved_word m) w)) ≡ meet
          (linear_in v) (linear_in w)
      by_words None w e f = refl
      by_words (Some (Int n)) w e f = refl
      by_words (Some (Seal s)) w e f = refl
      by_words (Some (Sealed o x)) w e f = refl
      by_words (Some (Mem a)) None e f = none _ ∙ sym (none _)
      by_words (Some (Mem a)) (Some (Int n)) e f = none _ ∙ sym (none _)
      by_words (Some (Mem a)) (Some (Seal s)) e f = none _ ∙ sym (none _)
      by_words (Some (Mem a)) (Some (Sealed o x)) e f = none _ ∙ sym (none _)
      by_words (Some (Mem a)) (Some (Mem b)) e f =
          meet_moved a b (own i a e).0 (own j b f).0 (own i a e).1 (own j b f).1

  c8_moved : Unbroken (c8 (moved m c))
  unfolding c8
  c8_moved = record {
    at = λ i lt.
        ap is_some (first_same (λ k. meet (linear_at (moved m c) k) (linear_at (moved m c) i))
        (λ k. meet (linear_at c k) (linear_at c i)) i (λ k. meets_same k i))
        ∙ (unbroken 8 (c8 c) refl).at i (subst (λ n. i < n) words_size lt);
  }

  -- ---- trusted parts

  number_same : (w : Option Word) → holds_of is_no_int (option_map (moved_word m) w) ≡ holds_of is_no_int w
  number_same None = refl
  number_same (Some (Int n)) = refl
  number_same (Some (Mem k)) = refl
  number_same (Some (Seal s)) = refl
  number_same (Some (Sealed o x)) = refl

  module _ (is_trusted : trusted ≡ true) where
    of_trusted : (n : ℕ) (t : Test ℕ) → rule (rules_c c true) n ≡ Some t → Unbroken t
    of_trusted n t is = unbroken n t (ap (λ b. rule (rules_c c b) n) is_trusted ∙ is)

    c10_moved : Unbroken (c10 (moved m c))
    unfolding c10
    c10_moved =
        record {
          at = λ i lt. rw (slice_get-map (moved_word m) c.code i, number_same (slice_get c.code i))
              ((of_trusted 10 (c10 c) refl).at i (subst (λ n. i < n) (size c.code) lt));
        }

    c11_moved : Unbroken (c11 (moved m c))
    unfolding c11
    c11_moved =
        record {
          at = λ i lt. rw (
            slice_get-map (moved_word m) c.data_words i,
            number_same (slice_get c.data_words i),
          )
              ((of_trusted 11 (c11 c) refl).at i (subst (λ n. i < n) (size c.data_words) lt));
        }

    over_seals : (w : Option Word) → is_over_seals c w ≡ true → 1 ≤ c.seals.count
        → is_over_seals (moved m c) (option_map (moved_word m) w) ≡ true
    over_seals None h some = h
    over_seals (Some (Int n)) h some = h
    over_seals (Some (Mem k)) h some = h
    over_seals (Some (Sealed o x)) h some = h
    over_seals (Some (Seal s)) h some = by_count c.seals.count some lowest.seals h
      where
        both : {a b : Bool} → a ≡ true → b ≡ true → (a && b) ≡ true
        both e f = rw (e, f) refl

        same : (t : Shift) (x base : ℕ) → (x == base) ≡ true → (shifted t x == shifted t base) ≡ true
        same t x base e = grind (arith, nat_tests)

        end_same : (t : Shift) (end base count : ℕ) → t.from ≤ base → 1 ≤ count
            → (end + 1 == base + count) ≡ true → (shifted t end + 1 == shifted t base + count) ≡ true
        end_same t end base count low some e = grind (arith, nat_tests)

        cur_same : (t : Shift) (cur : ℤ) (base : ℕ) → t.from ≤ base → cur ≡ pos base
            → shifted_int t cur ≡ pos (shifted t base)
        cur_same t cur base low e = rw e (omega (arith, ints, low))

        by_count : (n : ℕ) → 1 ≤ n → (1 ≤ n → m.seals.from ≤ c.seals.base)
            → (((s.base == c.seals.base) && (s.end + 1 == c.seals.base + n)) && int_eq s.cur
            (pos c.seals.base)) ≡ true
            → (((shifted m.seals s.base == shifted_base m.seals c.seals.base n) &&
            (shifted m.seals s.end + 1 == shifted_base m.seals c.seals.base n + n)) && int_eq
            (shifted_int m.seals s.cur)
            (pos (shifted_base m.seals c.seals.base n))) ≡ true
        by_count zero some low h = absurd (omega (arith, some))
        by_count (suc n) some low h =
            let le = low some in
            let outer = and_parts _ _ h in
            let inner = and_parts _ _ outer.0 in
            both (both (same m.seals s.base c.seals.base inner.0)
            (end_same m.seals s.end c.seals.base (suc n) le some inner.1))
            ((Decides-int_eq (shifted_int m.seals s.cur) (pos (shifted m.seals c.seals.base))).1
            (cur_same m.seals s.cur c.seals.base le
            ((Decides-int_eq s.cur (pos c.seals.base)).0 outer.1)))

    at_same : (o : Option ℕ) → code_at (moved m c) o ≡ option_map (moved_word m) (code_at c o)
    at_same None = refl
    at_same (Some o) = slice_get-map (moved_word m) c.code o

    fail_same : (o : Option ℕ) → is_zero_word (code_at (moved m c) o) ≡ is_zero_word (code_at c o)
    fail_same None = refl
    fail_same (Some o) = zero_same c.code o

    literal_moved : nat_lt c.seals.count (length c.sites) ≡ false
        → (has_sites c && not (is_over_seals c (code_at c c.literal_at))) ≡ false
        → (has_sites c && not (is_over_seals (moved m c) (code_at (moved m c) c.literal_at))) ≡ false
    literal_moved enough h = by_sites (has_sites c) refl (is_over_seals c (code_at c c.literal_at)) refl
      where
        some : (n k : ℕ) → nat_lt 0 n ≡ true → nat_lt k n ≡ false → 1 ≤ k
        some n k e f = grind (arith, nat_tests)

        by_sites : (b : Bool) → has_sites c ≡ b → (o : Bool) → is_over_seals c (code_at c c.literal_at) ≡ o
            → (has_sites c && not (is_over_seals (moved m c) (code_at (moved m c) c.literal_at))) ≡ false
        by_sites false e o f = rw e refl
        by_sites true e false f =
            let no : (has_sites c && not (is_over_seals c (code_at c c.literal_at))) ≡ true = rw
            (e, f) refl in absurd (let g : true ≡ false = sym no ∙ h in cc)
        by_sites true e true f =
            rw (
              e,
              at_same c.literal_at,
              over_seals (code_at c c.literal_at) f
                  (some (length c.sites) c.seals.count e enough),
            ) refl

    c12_moved : Unbroken (c12 (moved m c))
    unfolding c12
    c12_moved =
        let was = (of_trusted 12 (c12 c) refl).at in
        record {
          at = λ i lt. five _ _ _ _ _ (was 0 (omega arith))
              (rw (fail_same c.fail_at) (was 1 (omega arith))) (was 2 (omega arith))
              (literal_moved (was 2 (omega arith)) (was 3 (omega arith))) (was 4 (omega arith)) i;
        }

  -- ---- all of them

  module _ (areas_fit : areas_end_late (moved m c) ≡ false)
      (seals_fit : seals_end_late (moved m c) ≡ false) where
    of_trust : (t : Bool) → trusted ≡ t → (n i : ℕ) (u : Test ℕ)
        → slice_get (rules_of_trusted t (moved m c)) n ≡ Some u → BrokenAt u i → ⊥
    of_trust false is n i u e b = cc
    of_trust true is zero i u e b = none_at (let q : c10 (moved m c) ≡ u = cc in q) (c10_moved is) b
    of_trust true is (suc zero) i u e b = none_at (let q : c11 (moved m c) ≡ u = cc in q) (c11_moved is) b
    of_trust true is (suc (suc zero)) i u e b =
        none_at (let q : c12 (moved m c) ≡ u = cc in q) (c12_moved is) b
    of_trust true is (suc (suc (suc n))) i u e b = cc

    pub rules_kept : NoneBroken (rules_c (moved m c) trusted)
    rules_kept zero i u e b = cc
    rules_kept (suc zero) i u e b = none_at (let q : c1 (moved m c) ≡ u = cc in q) (c1_moved areas_fit) b
    rules_kept (suc (suc zero)) i u e b = none_at (let q : c2 (moved m c) ≡ u = cc in q) c2_moved b
    rules_kept (suc (suc (suc zero))) i u e b =
        none_at (let q : c3 (moved m c) ≡ u = cc in q) (c3_moved seals_fit) b
    rules_kept (suc (suc (suc (suc zero)))) i u e b =
        none_at (let q : c4 (moved m c) ≡ u = cc in q) c4_moved b
    rules_kept (suc (suc (suc (suc (suc zero))))) i u e b =
        none_at (let q : c5 (moved m c) ≡ u = cc in q) c5_moved b
    rules_kept (suc (suc (suc (suc (suc (suc zero)))))) i u e b =
        none_at (let q : c6 (moved m c) ≡ u = cc in q) c6_moved b
    rules_kept (suc (suc (suc (suc (suc (suc (suc zero))))))) i u e b =
        none_at (let q : c7 (moved m c) ≡ u = cc in q) c7_moved b
    rules_kept (suc (suc (suc (suc (suc (suc (suc (suc zero)))))))) i u e b =
        none_at (let q : c8 (moved m c) ≡ u = cc in q) c8_moved b
    rules_kept (suc (suc (suc (suc (suc (suc (suc (suc (suc zero))))))))) i u e b =
        none_at (let q : c9 (moved m c) ≡ u = cc in q) c9_moved b
    rules_kept (suc (suc (suc (suc (suc (suc (suc (suc (suc (suc n)))))))))) i u e b =
        of_trust trusted refl n i u e b
