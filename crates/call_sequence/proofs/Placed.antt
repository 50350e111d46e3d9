-- What the rules of the lists say of the code's offsets.
use Rattle.std.proofs.Common.{◌≡◌, ℕ, zero, suc, ◌+◌, ◌-◌, ◌<◌, ◌≤◌, ◌⊎◌, inl, inr, Bool, true, false, List}
use Rattle.std.proofs.Common.{[], ◌∷◌, length, get_or, Option, Some, None, refl, sym, ap, ◌∙◌, arith, le-leb}
use Rattle.std.proofs.Common.{lt-ltb}
use Rattle.std.specs.Prelude.{◌==◌, nat_le, nat_lt, slice_get, not, ◌&&◌, ◌||◌, cond, map, is_some}
use Rattle.std.specs.Prelude.{option_map}
use Rattle.std.specs.List.{find}
use Rattle.std.proofs.lemmas.Bool.{eqb-true, and_parts, not-false, or_parts, false_from_ne_true, and_from}
use Rattle.std.proofs.lemmas.Bool.{ltb-true, ltb-false, leb-true, leb-false}
use Rattle.std.proofs.lemmas.Option.{slice_get_within, get_or_from_slice_get}
use Rattle.std.proofs.lemmas.List.Folds.{list_any_at}
use Rattle.component_file.specs.declared.TheConstants.{LAST_OFFSET}
use Rattle.component_file.specs.declared.component.Export.{Export}
use Rattle.component_file.specs.declared.component.KindRow.{KindRow}
use Rattle.component_file.specs.declared.component.ComponentFields.{ComponentFields}
use Rattle.component_file.specs.Limits.{IsComponent}
use Rattle.component_check.specs.Places.{Test}
use Rattle.component_check.specs.Verdict.{rule, NoneBroken}
use Rattle.call_sequence.specs.declared.TheConstants.{SITE_WORDS, ENTRY_WORDS}
use Rattle.call_sequence.specs.Standing.{site_difference, is_entry, is_site}
use Rattle.call_sequence.specs.Kinds.{Row}
use Rattle.call_sequence.specs.Places.{begins_entry, begins_site, in_entry, in_site, is_inside, declared}
use Rattle.call_sequence.specs.Lists.{site_of, site_is_bad, overlap, meets_entry, meets_site, entry_is_bad}
use Rattle.call_sequence.specs.Lists.{row_offset, of_entry, is_misplaced, k1, k2, k3, k4, lists}
use Rattle.call_sequence.proofs.Ascending.{eq_is, eq_not}
use Rattle.call_sequence.proofs.Listing.{site_room}
use Rattle.call_sequence.proofs.Entries.{any_index, no_export, entry_of, entry_at, export_fits}
use Rattle.call_sequence.proofs.Walks.{Inside, ListsKept}

no_contradiction : (b : Bool) → b ≡ true → b ≡ false → ⊥
no_contradiction b t f = let e : true ≡ false = sym t ∙ f in cc

second_false : (a b : Bool) → a ≡ true → (a && b) ≡ false → b ≡ false
second_false true b e h = h
second_false false b e h = cc

find_index : {A : Type 0} (p : A → Bool) (xs : List A) (x d : A) → find p xs ≡ Some x
    → (j : ℕ) × (j < length xs) × (p (get_or xs j d) ≡ true)
find_index p [] x d e = cc
find_index p (y ∷ ys) x d e = by_head (p y) refl e (find_index p ys x d)
  where
    by_head : (b : Bool) → p y ≡ b → cond b (Some y) (find p ys) ≡ Some x
        → (find p ys ≡ Some x → (j : ℕ) × (j < length ys) × (p (get_or ys j d) ≡ true))
        → (j : ℕ) × (j < length (y ∷ ys)) × (p (get_or (y ∷ ys) j d) ≡ true)
    by_head true h e more = (0, omega arith, h)
    by_head false h e more = let k = more e in (suc k.0, (let l : k.0 < length ys = k.1 in omega arith), k.2)

get_map : {A : Type 0} (f : A → ℕ) (xs : List A) (j e : ℕ) (d : A) → j < length xs
    → get_or (map f xs) j e ≡ f (get_or xs j d)
get_map f [] j e d lt = absurd (omega arith)
get_map f (x ∷ xs) zero e d lt = refl
get_map f (x ∷ xs) (suc j) e d lt = get_map f xs j e d (omega arith)

module _ (c : ComponentFields) (placed : NoneBroken (lists c)) where
  unbroken : (n : ℕ) (t : Test ℕ) → rule (lists c) n ≡ Some t → (i : ℕ) → i < t.count → t.broken i ≡ false
  unbroken n t is i lt = false_from_ne_true (t.broken i) (λ b. placed n i t is (lt, b))

  -- ---- sites

  k1_kept : (i : ℕ) → i < length c.sites → site_is_bad c i ≡ false
  unfolding k1
  k1_kept i lt = unbroken 1 (k1 c) refl i lt

  k2_kept : (i : ℕ) → i < length c.sites → is_some (site_difference c i) ≡ false
  unfolding k2
  k2_kept i lt = unbroken 2 (k2 c) refl i lt

  room : (i : ℕ) → i < length c.sites → site_of c i + SITE_WORDS ≤ length c.code
  room i lt = site_room c i (k1_kept i lt)

  pub site_within : (i o : ℕ) → slice_get c.sites i ≡ Some o → o + SITE_WORDS ≤ length c.code
  site_within i o e = rw (get_or_from_slice_get c.sites i o 0 e) at (room i (slice_get_within c.sites i o e))

  next_apart : (i : ℕ) → suc i < length c.sites → site_of c i + SITE_WORDS ≤ site_of c (suc i)
  next_apart i lt =
      let before : suc i - 1 ≡ i = omega arith in
      let h = (or_parts (nat_lt (length c.code) (site_of c (suc i) + SITE_WORDS)) _ (k1_kept (suc i) lt)).1 in
      ltb-false (site_of c (suc i)) (site_of c i + SITE_WORDS)
      (second_false (nat_lt 0 (suc i)) _ (lt-ltb 0 (suc i) (omega arith)) (rw before at h))

  apart : (i k : ℕ) → suc (k + i) < length c.sites → site_of c i + SITE_WORDS ≤ site_of c (suc (k + i))
  apart i zero lt = let e : suc (0 + i) ≡ suc i = omega arith in rw e (next_apart i (rw e at lt))
  apart i (suc k) lt =
      let e : suc k + i ≡ suc (k + i) = omega arith in
      let less : site_of c i + SITE_WORDS ≤ site_of c (suc (k + i)) = apart i k (omega arith) in
      let more : site_of c (suc (k + i)) + SITE_WORDS ≤ site_of c (suc (suc (k + i))) =
      next_apart (suc (k + i)) (rw e at lt) in
      rw e (omega arith)

  apart_at : (i j : ℕ) → i < j → j < length c.sites → site_of c i + SITE_WORDS ≤ site_of c j
  apart_at i j l lt =
      let e : j ≡ suc ((j - suc i) + i) = omega arith in
      rw (← e) at (apart i (j - suc i) (rw (← e) lt))

  site_index : (o : ℕ) → begins_site c o ≡ true → (i : ℕ) × (i < length c.sites) × (site_of c i ≡ o)
  unfolding begins_site
  site_index o e =
      let k = any_index (λ s. s == o) c.sites 0 e in
      (k.0, k.1, eqb-true (get_or c.sites k.0 0) o k.2)

  pub site_stands : (i : ℕ) → i < length c.sites → is_site c i ≡ true
  unfolding is_site
  site_stands i lt =
      rw (k2_kept i lt)
      (and_from (nat_le (site_of c i + SITE_WORDS) (length c.code))
      true (le-leb (site_of c i + SITE_WORDS) (length c.code) (room i lt)) refl)

  -- ---- entries

  module _ (fits : IsComponent c) where
    small : (o : ℕ) → begins_entry c o ≡ true → o < LAST_OFFSET + 1
    small o e =
        let k = entry_of c o no_export e in
        let l : (get_or c.exports k.0 no_export).offset ≤ LAST_OFFSET =
        export_fits None c.exports fits.exports.1 k.0 no_export k.1 in
        let is : (get_or c.exports k.0 no_export).offset ≡ o = k.2 in
        omega arith

    k3_kept : (o : ℕ) → begins_entry c o ≡ true → entry_is_bad c o ≡ false
    unfolding k3
    k3_kept o e =
        let h : (begins_entry c o && entry_is_bad c o) ≡ false = unbroken 3 (k3 c) refl o (small o e) in
        false_from_ne_true (entry_is_bad c o)
        (λ b. no_contradiction (begins_entry c o && entry_is_bad c o)
        (and_from (begins_entry c o) (entry_is_bad c o) e b) h)

    entry_good : (o : ℕ) → begins_entry c o ≡ true
        → (is_entry c o ≡ true) × (meets_entry c o ≡ false) × (meets_site c o ≡ false)
    unfolding entry_is_bad
    entry_good o e =
        let h = or_parts (not (is_entry c o)) (meets_entry c o || meets_site c o) (k3_kept o e) in
        let m = or_parts (meets_entry c o) (meets_site c o) h.1 in
        (not-false (is_entry c o) h.0, m.0, m.1)

    pub entry_stands : (o : ℕ) → begins_entry c o ≡ true → is_entry c o ≡ true
    entry_stands o e = (entry_good o e).0

    entry_room : (o : ℕ) → is_entry c o ≡ true → o + ENTRY_WORDS ≤ length c.code
    unfolding is_entry
    entry_room o e = by_fail c.fail_at refl
      where
        by_fail : (f : Option ℕ) → c.fail_at ≡ f → o + ENTRY_WORDS ≤ length c.code
        by_fail None m = cc (rw m at e)
        by_fail (Some f) m = leb-true (o + ENTRY_WORDS) (length c.code) (and_parts _ _ (rw m at e)).0

    pub entry_within : (o : ℕ) → begins_entry c o ≡ true → o + ENTRY_WORDS ≤ length c.code
    entry_within o e = entry_room o (entry_stands o e)

    -- a site and an entry have no word in common
    no_common : (s o : ℕ) → begins_site c s ≡ true → begins_entry c o ≡ true → s < o + ENTRY_WORDS
        → o < s + SITE_WORDS → ⊥
    no_common s o e f low high =
        let k = site_index s e in
        no_contradiction (meets_site c o)
        (list_any_at (λ x. overlap x SITE_WORDS o ENTRY_WORDS)
        c.sites k.0 0 k.1
        (rw k.2 (and_from (nat_lt s (o + ENTRY_WORDS)) (nat_lt o (s + SITE_WORDS))
        (lt-ltb s (o + ENTRY_WORDS) low) (lt-ltb o (s + SITE_WORDS) high))))
        (entry_good o f).2

    -- nor have two entries
    entries_apart : (a o : ℕ) → begins_entry c a ≡ true → begins_entry c o ≡ true → a < o
        → o < a + ENTRY_WORDS → ⊥
    entries_apart a o e f low high =
        let k = entry_of c a no_export e in
        no_contradiction (meets_entry c o)
        (list_any_at (λ (x : Export). not (x.offset == o) && overlap x.offset ENTRY_WORDS o ENTRY_WORDS)
        c.exports k.0 no_export k.1
        (rw k.2 (and_from (not (a == o)) (overlap a ENTRY_WORDS o ENTRY_WORDS) (other a o low)
        (and_from (nat_lt a (o + ENTRY_WORDS)) (nat_lt o (a + ENTRY_WORDS))
        (lt-ltb a (o + ENTRY_WORDS) (omega arith)) (lt-ltb o (a + ENTRY_WORDS) high)))))
        (entry_good o f).1
      where
        other : (a o : ℕ) → a < o → not (a == o) ≡ true
        other a o lt = rw (eq_not a o (λ e. omega (arith, e))) refl

    sites_apart : (s t : ℕ) → begins_site c s ≡ true → begins_site c t ≡ true → s < t → t < s + SITE_WORDS → ⊥
    sites_apart s t e f low high =
        let k = site_index s e in
        let m = site_index t f in
        by_order k.0 m.0 (order k.0 m.0) k.1 m.1 k.2 m.2
      where
        order : (p q : ℕ) → (p < q) ⊎ ((p ≡ q) ⊎ (q < p))
        order p q = grind arith

        by_order : (i j : ℕ) → (i < j) ⊎ ((i ≡ j) ⊎ (j < i)) → i < length c.sites → j < length c.sites
            → site_of c i ≡ s → site_of c j ≡ t → ⊥
        by_order i j (inl l) a b p q = let far : site_of c i + SITE_WORDS ≤ site_of c j =
            apart_at i j l b in omega arith
        by_order i j (inr (inl e)) a b p q = let same : site_of c i ≡ site_of c j =
            ap (site_of c) e in omega arith
        by_order i j (inr (inr l)) a b p q = let far : site_of c j + SITE_WORDS ≤ site_of c i =
            apart_at j i l a in omega arith

    -- ---- offsets inside

    pub outside : (o : ℕ) → is_inside c o ≡ false → Inside c o → ⊥
    unfolding begins_entry begins_site in_entry in_site
    outside o h i = by_seq i.seq (or_parts (in_entry c o) (in_site c o) h)
      where
        behind : (s n : ℕ) → s < o → o < s + n → (nat_lt s o && nat_lt o (s + n)) ≡ true
        behind s n low high =
            and_from (nat_lt s o) (nat_lt o (s + n)) (lt-ltb s o low) (lt-ltb o (s + n) high)

        by_seq : ((begins_entry c i.start ≡ true) × (i.size ≡ ENTRY_WORDS))
            ⊎ ((begins_site c i.start ≡ true) × (i.size ≡ SITE_WORDS))
            → (in_entry c o ≡ false) × (in_site c o ≡ false) → ⊥
        by_seq (inl e) none =
            let k = entry_of c i.start no_export e.0 in
            let high : o < i.start + ENTRY_WORDS = (let a = i.before_end in let b = e.1 in omega arith) in
            no_contradiction (in_entry c o)
            (list_any_at (λ (x : Export). nat_lt x.offset o && nat_lt o (x.offset + ENTRY_WORDS))
            c.exports k.0 no_export k.1 (rw k.2 (behind i.start ENTRY_WORDS i.after high))) none.0
        by_seq (inr e) none =
            let k = site_index i.start e.0 in
            let high : o < i.start + SITE_WORDS = (let a = i.before_end in let b = e.1 in omega arith) in
            no_contradiction (in_site c o)
            (list_any_at (λ s. nat_lt s o && nat_lt o (s + SITE_WORDS))
            c.sites k.0 0 k.1 (rw k.2 (behind i.start SITE_WORDS i.after high))) none.1

    pub inside_is : (o : ℕ) → is_inside c o ≡ true → Inside c o
    unfolding in_entry in_site begins_site
    inside_is o h = by_entry (in_entry c o) refl h
      where
        by_entry : (b : Bool) → in_entry c o ≡ b → (b || in_site c o) ≡ true → Inside c o
        by_entry true e t =
            let k = any_index (λ (x : Export). nat_lt x.offset o && nat_lt o (x.offset + ENTRY_WORDS))
            c.exports no_export e in
            let m = and_parts _ _ k.2 in
            record {
              start = (get_or c.exports k.0 no_export).offset;
              size = ENTRY_WORDS;
              seq = inl (entry_at c k.0 no_export k.1, refl);
              after = ltb-true _ _ m.0;
              before_end = ltb-true _ _ m.1;
            }
        by_entry false e t =
            let k = any_index (λ s. nat_lt s o && nat_lt o (s + SITE_WORDS)) c.sites 0 t in
            let m = and_parts _ _ k.2 in
            record {
              start = get_or c.sites k.0 0;
              size = SITE_WORDS;
              seq = inr (
                list_any_at (λ s. s == get_or c.sites k.0 0)
                    c.sites k.0 0 k.1 (eq_is (get_or c.sites k.0 0) (get_or c.sites k.0 0) refl),
                refl,
              );
              after = ltb-true _ _ m.0;
              before_end = ltb-true _ _ m.1;
            }

    -- ---- all of it

    k4_kept : (i : ℕ) → i < length c.rows → is_misplaced c (row_offset c i) ≡ false
    unfolding k4
    k4_kept i lt = unbroken 4 (k4 c) refl i lt

    -- it is no entry's word: neither the first nor another
    within_entry : (o a : ℕ) → begins_entry c a ≡ true → a ≤ o → o < a + ENTRY_WORDS → of_entry c o ≡ true
    unfolding of_entry
    within_entry o a e low high =
        let k = entry_of c a no_export e in
        list_any_at (λ (x : Export). nat_le x.offset o && nat_lt o (x.offset + ENTRY_WORDS))
        c.exports k.0 no_export k.1
        (rw k.2 (and_from (nat_le a o) (nat_lt o (a + ENTRY_WORDS)) (le-leb a o low)
        (lt-ltb o (a + ENTRY_WORDS) high)))

    free_of_entry : (o : ℕ) → of_entry c o ≡ false → (begins_entry c o ≡ false) × (in_entry c o ≡ false)
    unfolding in_entry
    free_of_entry o h = (
      false_from_ne_true (begins_entry c o)
          (λ e. no_contradiction (of_entry c o) (within_entry o o e (omega arith) (omega arith)) h),
      false_from_ne_true (in_entry c o) (λ e.
          let k = any_index (λ (x : Export). nat_lt x.offset o && nat_lt o (x.offset + ENTRY_WORDS))
          c.exports no_export e in
          let m = and_parts _ _ k.2 in
          let low : (get_or c.exports k.0 no_export).offset < o = ltb-true _ o m.0 in
          no_contradiction (of_entry c o)
          (within_entry o (get_or c.exports k.0 no_export).offset (entry_at c k.0 no_export k.1)
          (omega arith) (ltb-true o _ m.1)) h),
    )

    free_row : (o : ℕ) → is_misplaced c o ≡ false
        → (o < length c.code) × (begins_entry c o ≡ false) × (Inside c o → ⊥)
    unfolding is_misplaced
    free_row o h =
        let a = or_parts (nat_le (length c.code) o) _ h in
        let b = or_parts (of_entry c o) (in_site c o) a.1 in
        let e = free_of_entry o b.0 in
        (leb-false (length c.code) o a.0, e.0, outside o (rw (e.1, b.1) refl))

    row_index : (o : ℕ) (d : Row) → declared c o ≡ Some d
        → (i : ℕ) × (i < length c.rows) × (row_offset c i ≡ o)
    unfolding declared
    row_index o d e = by_row (find (λ (r : KindRow). r.offset == o) c.rows) refl e
      where
        no_row : KindRow
        no_row = record { offset = 0; kinds = [] }

        by_row : (r : Option KindRow) → find (λ (r : KindRow). r.offset == o) c.rows ≡ r
            → option_map (λ (r : KindRow). r.kinds) r ≡ Some d
            → (i : ℕ) × (i < length c.rows) × (row_offset c i ≡ o)
        by_row None m e = cc
        by_row (Some r) m e =
            let k = find_index (λ (r : KindRow). r.offset == o) c.rows r no_row m in (
              k.0,
              k.1,
              get_map (λ (r : KindRow). r.offset) c.rows k.0 0 no_row k.1
                  ∙ eqb-true (get_or c.rows k.0 no_row).offset o k.2,
            )

    pub placed_lists : ListsKept c
    placed_lists = record {
      entries =
          λ o e. (
            entry_room o (entry_stands o e),
            false_from_ne_true (begins_site c o)
                (λ s. no_common o o s e (omega arith) (omega arith)),
            λ i. in_seq_e o e i i.seq,
          );
      sites = λ o s. (
        site_fits o s,
        false_from_ne_true (begins_entry c o)
            (λ e. no_common o o s e (omega arith) (omega arith)),
        λ i. in_seq_s o s i i.seq,
      );
      rows = λ o d e. (let k = row_index o d e in free_row o (rw k.2 at (k4_kept k.0 k.1)));
    }
      where
        site_fits : (o : ℕ) → begins_site c o ≡ true → o + SITE_WORDS ≤ length c.code
        site_fits o s = let k = site_index o s in rw k.2 at (room k.0 k.1)

        in_seq_e : (o : ℕ) → begins_entry c o ≡ true → (i : Inside c o)
            → ((begins_entry c i.start ≡ true) × (i.size ≡ ENTRY_WORDS))
            ⊎ ((begins_site c i.start ≡ true) × (i.size ≡ SITE_WORDS))
            → ⊥
        in_seq_e o e i (inl h) =
            entries_apart i.start o h.0 e i.after (let a = i.before_end in let b = h.1 in omega arith)
        in_seq_e o e i (inr h) =
            no_common i.start o h.0 e (let a = i.after in omega arith)
            (let a = i.before_end in let b = h.1 in omega arith)

        in_seq_s : (o : ℕ) → begins_site c o ≡ true → (i : Inside c o)
            → ((begins_entry c i.start ≡ true) × (i.size ≡ ENTRY_WORDS))
            ⊎ ((begins_site c i.start ≡ true) × (i.size ≡ SITE_WORDS))
            → ⊥
        in_seq_s o s i (inl h) =
            no_common o i.start s h.0 (let a = i.before_end in let b = h.1 in omega arith)
            (let a = i.after in omega arith)
        in_seq_s o s i (inr h) =
            sites_apart i.start o h.0 s i.after (let a = i.before_end in let b = h.1 in omega arith)
