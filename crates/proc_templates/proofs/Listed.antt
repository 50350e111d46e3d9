-- The rules of the lists of sites, exports and declared rows, and the verdict.
use Rattle.std.proofs.Common.{◌≡◌, ℕ, zero, suc, ◌+◌, ◌-◌, ◌<◌, ◌≤◌, inl, inr, Bool, true, false, List, []}
use Rattle.std.proofs.Common.{◌∷◌, length, map, Some, None, refl, sym, ap, ◌∙◌, subst, arith, le-ltb}
use Rattle.std.proofs.Common.{ltb-true, leb-true, le-leb, eq-eqb, ne_eqb, true≢false, ℤ, pos, rules, tests}
use Rattle.std.specs.Prelude.{if◌then◌else◌, ◌||◌, ◌&&◌, ◌==◌, not, nat_lt, nat_le, slice_get, slice_index}
use Rattle.std.specs.Prelude.{is_some}
use Rattle.std.specs.Ordering.{int_eq}
use Rattle.std.specs.List.{list_any}
use Rattle.cap_words.specs.declared.Word.{Word}
use Rattle.component_file.specs.declared.TheConstants.{MOST_WORDS}
use Rattle.component_file.specs.declared.component.Export.{Export}
use Rattle.component_file.specs.declared.component.Kind.{Kind}
use Rattle.component_file.specs.declared.component.KindRow.{KindRow}
use Rattle.component_file.specs.declared.component.ComponentFields.{ComponentFields}
use Rattle.component_check.specs.Places.{Test, BrokenAt}
use Rattle.component_check.specs.Verdict.{NoneBroken}
use Rattle.lcm_isa.specs.declared.Instr.{Instr}
use Rattle.lcm_isa.specs.Numbers.{number_of}
use Rattle.call_sequence.specs.declared.TheConstants.{CALL_WORDS, SITE_WORDS, ENTRY_WORDS}
use Rattle.call_sequence.specs.Sequences.{call_code, return_code, entry_code}
use Rattle.call_sequence.specs.Standing.{is_int, code_difference, sequence_difference, site_difference}
use Rattle.call_sequence.specs.Standing.{is_entry}
use Rattle.proc_program.specs.declared.program.Program.{Program}
use Rattle.call_sequence.specs.Places.{begins_entry, begins_site, declared, in_site}
use Rattle.call_sequence.specs.Lists.{k1, k2, k3, k4, site_of, site_is_bad, overlap, meets_entry, meets_site}
use Rattle.call_sequence.specs.Lists.{entry_is_bad, row_offset, of_entry, is_misplaced, lists}
use Rattle.call_sequence.specs.Verdict.{IsKept}
use Rattle.std.proofs.lemmas.Bool.{and_parts, cases_lt, not-true, false_from_ne_true, lt-leb, or_from}
use Rattle.std.proofs.lemmas.Option.{slice_get_within}
use Rattle.std.proofs.lemmas.Map.Keys.{any_passes_from_place}
use Rattle.std.proofs.Math.Bool.{and-false}
use Rattle.proc_templates.specs.Items.{FAIL_AT, LITERAL_AT, word_of}
use Rattle.proc_templates.specs.Compiled.{label_row, row_at_label, laid_of, component_of}
use Rattle.proc_program.specs.Calls.{part_calls}
use Rattle.proc_templates.proofs.Laying.{has, get-left, get-right, Rest}
use Rattle.proc_templates.proofs.Whole.{AllReady, over_code}
use Rattle.proc_templates.proofs.Entries.{rest_whole, entries_whole, rows_are}
use Rattle.proc_templates.proofs.Blocks.{SiteThere, EntryThere, AllThere, all_there}
use Rattle.proc_templates.proofs.Counted.{sites_are_calls, sites_spaced, site_room, site_gap}

-- ---- lists

any_false : {A : Type 0} (q : A → Bool) (xs : List A)
    → ((j : ℕ) (x : A) → slice_get xs j ≡ Some x → q x ≡ false) → list_any q xs ≡ false
any_false q [] h = refl
any_false q (x ∷ xs) h = let e = h 0 x refl in rw e (any_false q xs (λ j y g. h (suc j) y g))

pub got_index : (xs : List ℕ) (i : ℕ) → i < length xs → slice_get xs i ≡ Some (slice_index xs i)
got_index [] i h = absurd (omega (arith, h))
got_index (x ∷ xs) zero h = refl
got_index (x ∷ xs) (suc i) h = got_index xs i (omega (arith, h))

-- ---- words that stand differ nowhere

pub int_self : (z : ℤ) → int_eq z z ≡ true
int_self z = search (rules, tests)

alike : (words : List Word) (is : List Instr) (at : ℕ)
    → ((j : ℕ) (i : Instr) → slice_get is j ≡ Some i → slice_get words (at + j) ≡ Some (word_of i))
    → code_difference words at is ≡ None
alike words [] at h = refl
alike words (i ∷ is) at h =
    let e0 : at + 0 ≡ at = omega arith in
    let here : slice_get words at ≡ Some (word_of i) =
    subst (λ q. slice_get words q ≡ Some (word_of i)) e0 (h 0 i refl) in
    let e : is_int (slice_get words at) (pos (number_of i)) ≡ true =
    ap (λ w. is_int w (pos (number_of i))) here ∙ int_self (pos (number_of i)) in
    rw e (alike words is (at + 1) (λ j k g. let n : at + suc j ≡ at + 1 + j = omega arith in
    subst (λ q. slice_get words q ≡ Some (word_of k)) n (h (suc j) k g)))

some_no : (r : List Kind) → Some r ≡ None → ⊥
some_no r e = cc

map-length_of : (ls : List ℕ) → length (map row_at_label ls) ≡ length ls
map-length_of [] = refl
map-length_of (l ∷ ls) = ap suc (map-length_of ls)

pub broken_not : (k : Test ℕ) (i : ℕ) (t : Test ℕ) → Some k ≡ Some t
    → ((j : ℕ) → j < k.count → k.broken j ≡ false) → BrokenAt t i → ⊥
broken_not k i t e h b =
    let f : k ≡ t = cc in
    let b' : BrokenAt k i = subst (λ x. BrokenAt x i) (sym f) b in
    true≢false (sym b'.1 ∙ h i b'.0)

-- ---- the rules, where everything stands

module _ (m : Program) (ready : AllReady m m.procs) (most : length (laid_of m).code ≤ MOST_WORDS) where
  c : ComponentFields
  c = component_of m

  fails : c.fail_at ≡ Some FAIL_AT
  unfolding c component_of
  fails = refl

  rest : Rest (laid_of m) c
  unfolding c
  rest = rest_whole m ready

  there : AllThere c m (laid_of m)
  there = all_there c m fails rest

  same_sites : c.sites ≡ (laid_of m).sites
  unfolding c component_of
  same_sites = refl

  same_code : c.code ≡ (laid_of m).code
  unfolding c component_of
  same_code = refl

  same_base : c.stack_base ≡ m.stack
  unfolding c component_of
  same_base = refl

  site_at : (i : ℕ) → i < length c.sites → SiteThere c m.stack i (site_of c i)
  site_at i h =
      let h' : i < length (laid_of m).sites = subst (λ xs. i < length xs) same_sites h in
      there.sites i (site_of c i) (got_index (laid_of m).sites i h'
      ∙ ap (λ xs. Some (slice_index xs i)) (sym same_sites))

  -- K1
  kept_1 : (i : ℕ) → i < length c.sites → site_is_bad c i ≡ false
  kept_1 i h =
      let h' : i < length (laid_of m).sites = subst (λ xs. i < length xs) same_sites h in
      let room : site_of c i + SITE_WORDS ≤ length c.code =
      subst (λ xs. slice_index xs i + SITE_WORDS ≤ length c.code) (sym same_sites)
      (subst (λ ws. slice_index (laid_of m).sites i + SITE_WORDS ≤ length ws) (sym same_code)
      (site_room (laid_of m).sites 0 (length (laid_of m).code) i (sites_spaced m) h')) in
      let e : nat_lt (length c.code) (site_of c i + SITE_WORDS) ≡ false =
      le-ltb (length c.code) (site_of c i + SITE_WORDS) room in
      rw e (by i h')
    where
      by : (i : ℕ) → i < length (laid_of m).sites
          → (nat_lt 0 i && nat_lt (site_of c i) (site_of c (i - 1) + SITE_WORDS)) ≡ false
      by zero h = refl
      by (suc j) h =
          let gap = subst (λ xs. slice_index xs j + SITE_WORDS ≤ slice_index xs (suc j)) (sym same_sites)
          (site_gap (laid_of m).sites 0 (length (laid_of m).code) j (sites_spaced m) h) in
          let n : suc j - 1 ≡ j = omega arith in
          let e : nat_lt (site_of c (suc j)) (site_of c j + SITE_WORDS) ≡ false =
          le-ltb (site_of c (suc j)) (site_of c j + SITE_WORDS) gap in
          ap (λ k. nat_lt 0 (suc j) && nat_lt (site_of c (suc j)) (site_of c k + SITE_WORDS)) n
          ∙ rw e (and-false (nat_lt 0 (suc j)))

  -- K2
  some_calls : (i : ℕ) → i < length c.sites → (part_calls m == 0) ≡ false
  some_calls i h =
      let h' : i < length (laid_of m).sites = subst (λ xs. i < length xs) same_sites h in
      let n = sites_are_calls m in
      ne_eqb (part_calls m) 0 (λ e. absurd (omega (arith, h', n, e)))

  kept_2 : (i : ℕ) → i < length c.sites → is_some (site_difference c i) ≡ false
  unfolding sequence_difference c component_of call_code
  kept_2 i h =
      let s = site_at i h in
      let k = some_calls i h in
      let o = site_of c i in
      let call = alike c.code (call_code LITERAL_AT o i) o
      (λ j x g. s.words j x (get-left (call_code LITERAL_AT o i)
      (return_code FAIL_AT (o + CALL_WORDS) m.stack) j x g)) in
      let back = alike c.code (return_code FAIL_AT (o + CALL_WORDS) m.stack) (o + CALL_WORDS) (λ j x g.
      let n : o + (CALL_WORDS + j) ≡ o + CALL_WORDS + j = omega arith in
      subst (λ q. slice_get c.code q ≡ Some (word_of x)) n
      (s.words (CALL_WORDS + j) x (get-right (call_code LITERAL_AT o i)
      (return_code FAIL_AT (o + CALL_WORDS) m.stack) j ∙ g))) in
      rw (k, call, back) refl

  -- K3
  entry_at : (o : ℕ) → o < length c.code → begins_entry c o ≡ true → EntryThere c m.stack o
  entry_at o lt h = there.entries o (sym (rest.entries o (subst (λ ws. o < length ws) same_code lt)) ∙ h)

  entry_room : (o : ℕ) → EntryThere c m.stack o → o + ENTRY_WORDS ≤ length c.code
  unfolding entry_code
  entry_room o t = let h = slice_get_within c.code (o + 19) _ (t.words 19 _ refl) in omega (arith, h)

  entry_stands : (o : ℕ) → EntryThere c m.stack o → is_entry c o ≡ true
  unfolding is_entry c component_of
  entry_stands o t =
      let e = le-leb (o + ENTRY_WORDS) (length c.code) (entry_room o t) in
      let d = alike c.code (entry_code FAIL_AT o m.stack) o t.words in
      rw (e, d) refl

  no_entry_near : (o : ℕ) → o < length c.code → begins_entry c o ≡ true → meets_entry c o ≡ false
  unfolding begins_entry
  no_entry_near o lt h = any_false _ c.exports
      (λ j x g. by x (any_passes_from_place (λ e. e.offset == x.offset) c.exports j x g
      (eq-eqb x.offset x.offset refl)))
    where
      by : (x : Export) → list_any (λ e. e.offset == x.offset) c.exports ≡ true
          → (not (x.offset == o) && overlap x.offset ENTRY_WORDS o ENTRY_WORDS) ≡ false
      by x there_x' = false_from_ne_true _ (λ e.
          let ne : (x.offset == o) ≡ false = not-true (x.offset == o)
          ((and_parts (not (x.offset == o)) _ e).0) in
          let ov = (and_parts (not (x.offset == o)) _ e).1 in
          let lo = ltb-true x.offset (o + ENTRY_WORDS) ((and_parts _ _ ov).0) in
          let hi = ltb-true o (x.offset + ENTRY_WORDS)
          ((and_parts (nat_lt x.offset (o + ENTRY_WORDS)) _ ov).1) in
          elim (cases_lt o x.offset) as (λ _. ⊥) [
            | inl up ↦ true≢false (sym there_x' ∙ (entry_at o lt h).within.entry x.offset up lo)
            | inr down ↦ elim (cases_lt x.offset o) as (λ _. ⊥) [
              | inl below ↦ true≢false (sym h
                  ∙ (entry_at x.offset (omega (arith, below, lt)) there_x').within.entry o below hi)
              | inr up ↦ (let same : x.offset ≡ o = omega (arith, up, down) in
                  true≢false (sym (eq-eqb x.offset o same) ∙ ne))
            ]
          ])

  no_site_near : (o : ℕ) → o < length c.code → begins_entry c o ≡ true → meets_site c o ≡ false
  unfolding begins_site
  no_site_near o lt h = any_false _ c.sites
      (λ j x g. by j x g (any_passes_from_place (λ s. s == x) c.sites j x g (eq-eqb x x refl)))
    where
      by : (j x : ℕ) → slice_get c.sites j ≡ Some x → list_any (λ s. s == x) c.sites ≡ true
          → overlap x SITE_WORDS o ENTRY_WORDS ≡ false
      by j x g here = false_from_ne_true _ (λ ov.
          let lo = ltb-true x (o + ENTRY_WORDS) ((and_parts _ _ ov).0) in
          let hi = ltb-true o (x + SITE_WORDS) ((and_parts (nat_lt x (o + ENTRY_WORDS)) _ ov).1) in
          let t = entry_at o lt h in
          let g' : slice_get (laid_of m).sites j ≡ Some x =
          subst (λ xs. slice_get xs j ≡ Some x) same_sites g in
          elim (cases_lt o x) as (λ _. ⊥) [
            | inl up ↦ true≢false (sym here ∙ t.within.site x up lo)
            | inr down ↦ elim (cases_lt x o) as (λ _. ⊥) [
              | inl below ↦ true≢false (sym h ∙ (there.sites j x g').within.entry o below hi)
              | inr up ↦ (let same : x ≡ o = omega (arith, up, down) in
                  true≢false (sym (subst (λ q. list_any (λ s. s == q) c.sites ≡ true) same here) ∙ t.site))
            ]
          ])

  exports_inside : (o : ℕ) → begins_entry c o ≡ true → o < length c.code
  unfolding c
  exports_inside o h = let t = entry_room o (there.entries o (sym (entries_whole m ready o) ∙ h)) in
      omega (arith, t)

  kept_3 : (o : ℕ) → (begins_entry c o && entry_is_bad c o) ≡ false
  unfolding entry_is_bad
  kept_3 o = false_from_ne_true _ (λ e.
      let h = (and_parts (begins_entry c o) _ e).0 in
      let lt = exports_inside o h in
      let bad = (and_parts (begins_entry c o) _ e).1 in
      let s : not (is_entry c o) ≡ false = ap not (entry_stands o (entry_at o lt h)) in
      true≢false (sym bad ∙ or_from (not (is_entry c o)) (meets_entry c o || meets_site c o) s
      (or_from (meets_entry c o) (meets_site c o) (no_entry_near o lt h) (no_site_near o lt h))))

  -- K4
  same_rows : c.rows ≡ map row_at_label (laid_of m).labels
  unfolding c component_of
  same_rows = refl

  declared_is : (x : ℕ) → declared c x ≡ (if has (laid_of m).labels x then Some label_row else None)
  unfolding c component_of declared
  declared_is x = rows_are (laid_of m).labels x

  row_offsets : (ls : List ℕ) → map (λ (r : KindRow). r.offset) (map row_at_label ls) ≡ ls
  row_offsets [] = refl
  row_offsets (l ∷ ls) = ap (λ xs. l ∷ xs) (row_offsets ls)

  label_at : (i : ℕ) → i < length c.rows → has (laid_of m).labels (row_offset c i) ≡ true
  label_at i h =
      let e : map (λ (r : KindRow). r.offset) c.rows ≡ (laid_of m).labels =
      ap (map (λ (r : KindRow). r.offset)) same_rows ∙ row_offsets (laid_of m).labels in
      let n : length c.rows ≡ length (laid_of m).labels = ap length same_rows
      ∙ map-length_of (laid_of m).labels in
      let g = got_index (laid_of m).labels i (omega (arith, h, n)) in
      let k : row_offset c i ≡ slice_index (laid_of m).labels i = ap (λ xs. slice_index xs i) e in
      ap (has (laid_of m).labels) k ∙ any_passes_from_place (λ y. y == slice_index (laid_of m).labels i)
      (laid_of m).labels i (slice_index (laid_of m).labels i) g
      (eq-eqb (slice_index (laid_of m).labels i) (slice_index (laid_of m).labels i) refl)

  -- a declared row stands outside entries and sites
  outside_entries : (x : ℕ) → x < length c.code → declared c x ≡ Some label_row → of_entry c x ≡ false
  unfolding of_entry begins_entry
  outside_entries x lt d = any_false _ c.exports
      (λ j e g. by e (any_passes_from_place (λ y. y.offset == e.offset) c.exports j e g
      (eq-eqb e.offset e.offset refl)))
    where
      by : (e : Export) → list_any (λ (y : Export). y.offset == e.offset) c.exports ≡ true
          → (nat_le e.offset x && nat_lt x (e.offset + ENTRY_WORDS)) ≡ false
      by e here = false_from_ne_true _ (λ h.
          let lo = leb-true e.offset x ((and_parts _ _ h).0) in
          let hi = ltb-true x (e.offset + ENTRY_WORDS) ((and_parts (nat_le e.offset x) _ h).1) in
          let t = entry_at e.offset (omega (arith, lo, lt)) here in
          elim (cases_lt e.offset x) as (λ _. ⊥) [
            | inl below ↦ some_no label_row (sym d ∙ t.within.label x below hi)
            | inr up ↦ (let same : e.offset ≡ x = omega (arith, up, lo) in
                some_no label_row (sym d ∙ subst (λ q. declared c q ≡ None) same t.label))
          ])

  outside_sites : (x : ℕ) → declared c x ≡ Some label_row → in_site c x ≡ false
  unfolding in_site
  outside_sites x d = any_false _ c.sites (λ j s g. false_from_ne_true _ (λ h.
      let lo = ltb-true s x ((and_parts _ _ h).0) in
      let hi = ltb-true x (s + SITE_WORDS) ((and_parts (nat_lt s x) _ h).1) in
      let g' : slice_get (laid_of m).sites j ≡ Some s = subst (λ xs. slice_get xs j ≡ Some s) same_sites g in
      some_no label_row (sym d ∙ (there.sites j s g').within.label x lo hi)))

  kept_4 : (i : ℕ) → i < length c.rows → is_misplaced c (row_offset c i) ≡ false
  unfolding is_misplaced
  kept_4 i h =
      let x = row_offset c i in
      let l = label_at i h in
      let d : declared c x ≡ Some label_row = declared_is x
      ∙ ap (λ t. if t then Some label_row else None) l in
      let lt : x < length c.code = elim (cases_lt x (length c.code)) as (λ _. x < length c.code) [
        | inl lt ↦ lt
        | inr ge ↦ absurd (true≢false (sym l
            ∙ there.closed.labels x (subst (λ ws. length ws ≤ x) same_code ge)))
      ] in
      or_from (nat_le (length c.code) x) (of_entry c x || in_site c x) (lt-leb (length c.code) x lt)
      (or_from (of_entry c x) (in_site c x) (outside_entries x lt d) (outside_sites x d))

  -- ---- the verdict

  placed : NoneBroken (lists c)
  unfolding k1 k2 k3 k4
  placed zero i t e b = cc
  placed (suc zero) i t e b = broken_not (k1 c) i t e kept_1 b
  placed (suc (suc zero)) i t e b = broken_not (k2 c) i t e kept_2 b
  placed (suc (suc (suc zero))) i t e b = broken_not (k3 c) i t e (λ o h. kept_3 o) b
  placed (suc (suc (suc (suc zero)))) i t e b = broken_not (k4 c) i t e kept_4 b
  placed (suc (suc (suc (suc (suc n))))) i t e b = cc

  pub flow_kept : IsKept (component_of m)
  unfolding c
  flow_kept = record { placed = placed; walked = over_code m c fails ready most (ap length same_code) rest }

  pub entries_inside : (o : ℕ) → begins_entry (component_of m) o ≡ true → o < length (component_of m).code
  unfolding c
  entries_inside o h = exports_inside o h

  -- no label stands after the code
  pub labels_end : (x : ℕ) → length (laid_of m).code ≤ x → has (laid_of m).labels x ≡ false
  labels_end x h = there.closed.labels x h
