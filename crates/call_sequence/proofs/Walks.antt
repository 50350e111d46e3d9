-- What the walk says of each word, where no rule is broken.
use Rattle.std.proofs.Common.{◌≡◌, ℕ, zero, suc, ◌+◌, ◌-◌, ◌<◌, ◌≤◌, ◌⊎◌, inl, inr, Bool, true, false, []}
use Rattle.std.proofs.Common.{◌∷◌, length, Option, Some, None, refl, sym, ap, ◌∙◌, arith, subst, lt-ltb}
use Rattle.std.proofs.Common.{eq-eqb}
use borrow.Author.Tests.{ltb-true, eqb-true}
use Rattle.std.specs.Prelude.{if◌then◌else◌, nat_lt, ◌&&◌, ◌||◌}
use Rattle.std.proofs.lemmas.Bool.{cases_eq}
use Rattle.component_file.specs.declared.component.ComponentFields.{ComponentFields}
use Rattle.component_file.specs.declared.component.Kind.{Kind}
use Rattle.component_file.specs.declared.component.Kind.TheVariants as kind
use Rattle.lcm_isa.specs.declared.Instr.{Instr}
use Rattle.call_sequence.specs.Kinds.{Row, kind_below, row_below, entry_row, clean_row}
use Rattle.call_sequence.specs.declared.flow.Flow.{Flow}
use Rattle.call_sequence.specs.declared.flow.Flow.TheVariants.{Breaks as breaks, Flows as flows}
use Rattle.call_sequence.specs.Flow.{flow}
use Rattle.call_sequence.specs.declared.flow.Walk.{Walk}
use Rattle.call_sequence.specs.declared.flow.Walk.TheVariants.{Before as before, Ended as ended}
use Rattle.call_sequence.specs.declared.flow.Walk.TheVariants.{Broken as broken}
use Rattle.std.specs.Option.{option_or}
use Rattle.component_check.specs.Rules.{is_at}
use Rattle.call_sequence.specs.declared.TheConstants.{SITE_WORDS, ENTRY_WORDS}
use Rattle.call_sequence.specs.Places.{begins_entry, begins_site, declared}
use Rattle.call_sequence.specs.Walk.{instr_at, keep, comes_in, site_ready, goes_into, good_target, flow_of}
use Rattle.call_sequence.specs.Walk.{after_flow, at_row, past, at_word, at_entry, at_end, next_from, next}
use Rattle.call_sequence.specs.Walk.{walk, Arrives, RowAt}
use Rattle.call_sequence.specs.Local.{LeadsTo, JumpsTo, Judged}

kind_below_self : (k : Kind) → kind_below k k ≡ true
kind_below_self kind.Any = refl
kind_below_self kind.Int = refl
kind_below_self kind.DataCap = refl
kind_below_self kind.Stk = refl
kind_below_self (kind.Pc o) = eq-eqb o o refl
kind_below_self kind.Top = refl

row_below_self : (r : Row) → row_below r r ≡ true
row_below_self [] = refl
row_below_self (k ∷ ks) = rw (kind_below_self k) (row_below_self ks)

-- ---- what a step comes to

module _ (c : ComponentFields) where
  -- the walk goes on, from an offset: by a word, or over an entry or a site
  pub data Onward (o : ℕ) : Walk → Type 0 where
    breaks_off : {rule p : ℕ} → Onward o (broken rule p)
    by_word : {cur : Option Row} → begins_entry c o ≡ false → begins_site c o ≡ false
        → Onward o (before (o + 1) cur)
    over_entry : {cur : Option Row} → begins_entry c o ≡ true → Onward o (before (o + ENTRY_WORDS) cur)
    over_site : {cur : Option Row} → begins_entry c o ≡ false → begins_site c o ≡ true
        → Onward o (before (o + SITE_WORDS) cur)

  Onward-keep : (o rule p : ℕ) (b : Bool) (w : Walk) → Onward o w → Onward o (keep rule p b w)
  unfolding keep
  Onward-keep o rule p true w h = h
  Onward-keep o rule p false w h = breaks_off

  module _ (o : ℕ) (ne : begins_entry c o ≡ false) where
    Onward-flow : (r : Row) (f : Flow) → begins_site c o ≡ false → Onward o (after_flow c o r f)
    Onward-flow r (breaks rule) ns = breaks_off
    Onward-flow r (flows None after) ns = by_word ne ns
    Onward-flow r (flows (Some t) after) ns =
        Onward-keep o 7 o (good_target c r t) (before (o + 1) after) (by_word ne ns)

    Onward-row : (r : Row) → Onward o (at_row c o r)
    unfolding at_row
    Onward-row r = by_site (begins_site c o) refl
      where
        by_site : (b : Bool) → begins_site c o ≡ b
            → Onward o
            (if b then keep 10 o (site_ready r)
            (before (o + SITE_WORDS) (Some clean_row)) else after_flow c o r (flow_of (instr_at c o) o r))
        by_site true e =
            Onward-keep o 10 o (site_ready r) (before (o + SITE_WORDS) (Some clean_row)) (over_site ne e)
        by_site false e = Onward-flow r (flow_of (instr_at c o) o r) e

    Onward-past : Onward o (past c o)
    unfolding past
    Onward-past = by_site (begins_site c o) refl
      where
        by_site : (b : Bool) → begins_site c o ≡ b
            → Onward o (before (if b then o + SITE_WORDS else o + 1) None)
        by_site true e = over_site ne e
        by_site false e = by_word ne e

    Onward-word : (d cur : Option Row) → Onward o (at_word c o d cur)
    unfolding at_word
    Onward-word (Some d) cur = Onward-keep o 8 o (comes_in cur d) (at_row c o d) (Onward-row d)
    Onward-word None (Some r) = Onward-row r
    Onward-word None None = Onward-past

  onward : (o : ℕ) (cur : Option Row) → o < length c.code → Onward o (next_from c o cur)
  unfolding next_from
  onward o cur lt = rw (lt-ltb o (length c.code) lt) (by_entry (begins_entry c o) refl)
    where
      by_entry : (b : Bool) → begins_entry c o ≡ b
          → Onward o (if b then at_entry o cur else at_word c o (declared c o) cur)
      by_entry true e = Onward-keep o 8 o (comes_in cur entry_row) (before (o + ENTRY_WORDS) (Some clean_row))
          (over_entry e)
      by_entry false e = Onward-word o e (declared c o) cur

  onward_rises : (o p : ℕ) (q : Option Row) (w : Walk) → w ≡ before p q → Onward o w → o < p
  onward_rises o p q (broken rule r) e breaks_off = cc
  onward_rises o p q (before r x) e (by_word ne ns) = let k : o + 1 ≡ p = cc in omega arith
  onward_rises o p q (before r x) e (over_entry h) = let k : o + ENTRY_WORDS ≡ p = cc in omega arith
  onward_rises o p q (before r x) e (over_site ne h) = let k : o + SITE_WORDS ≡ p = cc in omega arith
  onward_rises o p q ended e h = elim h [ ]

  -- a step of the walk leads on, within the code
  pub rises : (o p : ℕ) (cur q : Option Row) → next_from c o cur ≡ before p q → (o < p) × (o < length c.code)
  unfolding next_from
  rises o p cur q e = by_place (nat_lt o (length c.code)) refl
    where
      not_end : (cur : Option Row) → at_end c cur ≡ before p q → ⊥
      not_end None e = cc
      not_end (Some r) e = cc

      by_place : (b : Bool) → nat_lt o (length c.code) ≡ b → (o < p) × (o < length c.code)
      by_place true m = let lt =
          ltb-true o (length c.code) m in (onward_rises o p q (next_from c o cur) e (onward o cur lt), lt)
      by_place false m = absurd (not_end cur (rw m at e))

  -- ---- the walk ends in one way

  pub stays : (w : Walk) (n k : ℕ) → next c w ≡ w → walk c n ≡ w → walk c (k + n) ≡ w
  stays w n zero s e = let k : 0 + n ≡ n = omega arith in rw k e
  stays w n (suc k) s e = let m : suc k + n ≡ suc (k + n) =
      omega arith in rw m (ap (next c) (stays w n k s e) ∙ s)

  one_end : (w v : Walk) → next c w ≡ w → next c v ≡ v → Arrives c w → Arrives c v → w ≡ v
  one_end w v s t h k =
      let m : k.0 + h.0 ≡ h.0 + k.0 = omega arith in
      sym (stays w h.0 k.0 s h.1) ∙ ap (walk c) m ∙ stays v k.0 h.0 t k.1

  pub not_broken : Arrives c ended → (rule p : ℕ) → Arrives c (broken rule p) → ⊥
  not_broken h rule p k = let e : ended ≡ broken rule p = one_end ended (broken rule p) refl refl h k in cc

  pub comes_next : (w : Walk) → Arrives c w → Arrives c (next c w)
  comes_next w h = (suc h.0, ap (next c) h.1)

  -- ---- which offsets the walk comes to

  -- an offset within an entry or a site, past its first word
  pub record Inside (t : ℕ) : Type 0 where
    pub start : ℕ
    pub size : ℕ
    pub seq : ((begins_entry c start ≡ true) × (size ≡ ENTRY_WORDS))
        ⊎ ((begins_site c start ≡ true) × (size ≡ SITE_WORDS))
    pub after : start < t
    pub before_end : t < start + size

  -- the walk comes to the offset, or over it
  data Passes (t : ℕ) : Type 0 where
    comes : {cur : Option Row} → Arrives c (before t cur) → Passes t
    over : {cur : Option Row} (start size : ℕ) → ((begins_entry c start ≡ true) × (size ≡ ENTRY_WORDS))
        ⊎ ((begins_site c start ≡ true) × (size ≡ SITE_WORDS)) → Arrives c (before (start + size) cur)
        → start < t → t < start + size → Passes t

  module _ (walked : Arrives c ended) where
    from_here : (t : ℕ) (w : Walk) → Onward t w → Arrives c w → Passes (suc t)
    from_here t (broken rule p) breaks_off h = absurd (not_broken walked rule p h)
    from_here t ended x h = elim x [ ]
    from_here t (before o cur) (by_word ne ns) h = comes (let e : t + 1 ≡ suc t = omega arith in rw e at h)
    from_here t (before o cur) (over_entry e) h =
        over t ENTRY_WORDS (inl (e, refl)) h (omega arith) (omega arith)
    from_here t (before o cur) (over_site ne e) h =
        over t SITE_WORDS (inr (e, refl)) h (omega arith) (omega arith)

    passes_next : (t : ℕ) → t < length c.code → Passes t → Passes (suc t)
    passes_next t lt (comes {cur} h) =
        from_here t (next_from c t cur) (onward t cur lt) (comes_next (before t cur) h)
    passes_next t lt (over {cur} start size q h a b) =
        elim (cases_eq (suc t) (start + size)) as (λ _. Passes (suc t)) [
          | inl e ↦ comes (rw (← e) at h)
          | inr ne ↦ over start size q h (omega arith) (omega arith)
        ]

    passes : (t : ℕ) → t ≤ length c.code → Passes t
    passes zero le = comes {cur = None} (0, refl)
    passes (suc t) le = passes_next t (omega arith) (passes t (omega arith))

    pub reaches : (t : ℕ) → t ≤ length c.code → (Inside t → ⊥) → (cur : Option Row) × Arrives c (before t cur)
    reaches t le out = by_pass (passes t le)
      where
        by_pass : Passes t → (cur : Option Row) × Arrives c (before t cur)
        by_pass (comes {cur} h) = (cur, h)
        by_pass (over start size q h a b) =
            absurd (out (record { start = start; size = size; seq = q; after = a; before_end = b }))

  -- ---- local facts

  -- what the rules of the lists say
  pub record ListsKept : Type 0 where
    pub entries : (t : ℕ) → begins_entry c t ≡ true → (t + ENTRY_WORDS ≤ length c.code)
        × (begins_site c t ≡ false) × (Inside t → ⊥)
    pub sites : (t : ℕ) → begins_site c t ≡ true → (t + SITE_WORDS ≤ length c.code)
        × (begins_entry c t ≡ false) × (Inside t → ⊥)
    pub rows : (t : ℕ) (d : Row) → declared c t ≡ Some d → (t < length c.code) × (begins_entry c t ≡ false)
        × (Inside t → ⊥)

  module _ (walked : Arrives c ended) where
    kept : (rule p : ℕ) (b : Bool) (w : Walk) → Arrives c (keep rule p b w) → (b ≡ true) × Arrives c w
    unfolding keep
    kept rule p true w h = (refl, h)
    kept rule p false w h = absurd (not_broken walked rule p h)

    leads_row : (o : ℕ) (r : Row) → o < length c.code → begins_entry c o ≡ false → (d : Option Row)
        → declared c o ≡ d → Arrives c (before o (Some r)) → Arrives c (at_word c o d (Some r))
        → LeadsTo c o r
    unfolding at_word
    leads_row o r lt ne (Some d) e h k = record {
      there = d;
      inside = lt;
      row = inr (ne, (Some r, h, ap (λ x. option_or x (Some r)) e));
      below = (kept 8 o (row_below r d) (at_row c o d) k).0;
    }
    leads_row o r lt ne None e h k = record {
      there = r;
      inside = lt;
      row = inr (ne, (Some r, h, ap (λ x. option_or x (Some r)) e));
      below = row_below_self r;
    }

    -- a row that is current leads on
    pub leads : (o : ℕ) (r : Row) → Arrives c (before o (Some r)) → LeadsTo c o r
    unfolding next_from
    leads o r h = by_place (nat_lt o (length c.code)) refl (next_step h)
      where
        next_step : Arrives c (before o (Some r)) → Arrives c (next_from c o (Some r))
        next_step h = comes_next (before o (Some r)) h

        by_entry : o < length c.code → (b : Bool) → begins_entry c o ≡ b
            → Arrives c
            (if b then keep 8 o (row_below r entry_row)
            (before (o + ENTRY_WORDS) (Some clean_row)) else at_word c o (declared c o) (Some r))
            → LeadsTo c o r
        by_entry lt true e k =
            record {
              there = entry_row;
              inside = lt;
              row = inl (e, refl);
              below =
                  (kept 8 o (row_below r entry_row) (before (o + ENTRY_WORDS) (Some clean_row)) k).0;
            }
        by_entry lt false e k = leads_row o r lt e (declared c o) refl h k

        by_place : (b : Bool) → nat_lt o (length c.code) ≡ b → Arrives c (next_from c o (Some r))
            → LeadsTo c o r
        by_place true e k = by_entry (ltb-true o (length c.code) e) (begins_entry c o) refl (rw e at k)
        by_place false e k = absurd (not_broken walked 9 (length c.code) (rw e at k))

    -- where a row is declared or current, its word is judged by it
    judged_by : (o : ℕ) (r : Row) (d cur : Option Row) → option_or d cur ≡ Some r
        → Arrives c (at_word c o d cur) → Arrives c (at_row c o r)
    unfolding at_word
    judged_by o r (Some d) cur e k = let m : d ≡ r =
        cc in rw m at ((kept 8 o (comes_in cur d) (at_row c o d) k).1)
    judged_by o r None (Some q) e k = let m : q ≡ r = cc in rw m at k
    judged_by o r None None e k = cc

    judged : (o : ℕ) (r : Row) → o < length c.code → begins_entry c o ≡ false → (cur : Option Row)
        → Arrives c (before o cur) → option_or (declared c o) cur ≡ Some r → Arrives c (at_row c o r)
    unfolding next_from
    judged o r lt ne cur h e =
        let k : Arrives c (next_from c o cur) = comes_next (before o cur) h in
        judged_by o r (declared c o) cur e (rw (lt-ltb o (length c.code) lt, ne) at k)

    by_row : (o : ℕ) (r : Row) → o < length c.code → begins_entry c o ≡ false → RowAt c o r
        → Arrives c (at_row c o r)
    by_row o r lt ne (inl h) = let f : true ≡ false = sym h.0 ∙ ne in cc
    by_row o r lt ne (inr h) = judged o r lt ne h.1.0 h.1.1 h.1.2

    -- an entry leads over its words
    pub entry_leads : (o : ℕ) → o < length c.code → begins_entry c o ≡ true → (cur : Option Row)
        → Arrives c (before o cur) → LeadsTo c (o + ENTRY_WORDS) clean_row
    unfolding next_from
    entry_leads o lt e cur h =
        let k : Arrives c (next_from c o cur) = comes_next (before o cur) h in
        leads (o + ENTRY_WORDS)
        clean_row
        (kept 8 o (comes_in cur entry_row) (before (o + ENTRY_WORDS) (Some clean_row))
        (rw (lt-ltb o (length c.code) lt, e) at k)).1

    -- a site at which a row is current is ready, and leads over its words
    pub site_leads : (o : ℕ) (r : Row) → o < length c.code → begins_entry c o ≡ false → begins_site c o ≡ true
        → RowAt c o r → (site_ready r ≡ true) × LeadsTo c (o + SITE_WORDS) clean_row
    unfolding at_row
    site_leads o r lt ne e h =
        let k = kept 10 o (site_ready r) (before (o + SITE_WORDS) (Some clean_row))
        (rw e at (by_row o r lt ne h)) in
        (k.0, leads (o + SITE_WORDS) clean_row k.1)

    module _ (lists : ListsKept) where
      to_declared : (r : Row) (t : ℕ) (d : Option Row) → declared c t ≡ d → goes_into r d ≡ true
          → JumpsTo c r t
      to_declared r t None e g = cc
      to_declared r t (Some d) e g =
          let at = lists.rows t d e in
          let come = reaches walked t (let l : t < length c.code = at.0 in omega arith) at.2 in
          inr (record {
            there = d;
            inside = at.0;
            row = inr (at.1, (come.0, come.1, ap (λ x. option_or x come.0) e));
            below = g;
          })

      is_fail : (f : Option ℕ) (t : ℕ) → is_at f t ≡ true → f ≡ Some t
      is_fail None t h = cc
      is_fail (Some f) t h = ap Some (eqb-true f t h)

      target_good : (r : Row) (t : ℕ) → good_target c r t ≡ true → JumpsTo c r t
      unfolding good_target
      target_good r t h = by_fail (is_at c.fail_at t) refl h
        where
          by_declared : goes_into r (declared c t) ≡ true → JumpsTo c r t
          by_declared g = to_declared r t (declared c t) refl g

          by_entry : (b a : Bool) → begins_entry c t ≡ b → row_below r entry_row ≡ a
              → ((a && b) || goes_into r (declared c t)) ≡ true → JumpsTo c r t
          by_entry true true e f g =
              inr (record {
                there = entry_row;
                inside =
                    (let l : t + ENTRY_WORDS ≤ length c.code = (lists.entries t e).0 in omega arith);
                row =
                    inl (e, refl);
                below = f;
              })
          by_entry true false e f g = by_declared g
          by_entry false true e f g = by_declared g
          by_entry false false e f g = by_declared g

          by_fail : (b : Bool) → is_at c.fail_at t ≡ b
              → (b || ((row_below r entry_row && begins_entry c t) || goes_into r (declared c t))) ≡ true
              → JumpsTo c r t
          by_fail true e g = inl (is_fail c.fail_at t e)
          by_fail false e g = by_entry (begins_entry c t) (row_below r entry_row) refl refl g

      -- each entry leads over its words, whoever comes to it
      pub entry_goes : (o : ℕ) → begins_entry c o ≡ true → LeadsTo c (o + ENTRY_WORDS) clean_row
      entry_goes o e =
          let at = lists.entries o e in
          let l : o + ENTRY_WORDS ≤ length c.code = at.0 in
          let come = reaches walked o (omega arith) at.2 in
          entry_leads o (omega arith) e come.0 come.1

      leads_after : (o : ℕ) (after : Option Row) → Arrives c (before (o + 1) after) → (q : Row)
          → after ≡ Some q
          → LeadsTo c (o + 1) q
      leads_after o after k q e =
          leads (o + 1) q (let P : Option Row → Type 0 = λ x. Arrives c (before (o + 1) x) in subst P e k)

      by_flow : (o : ℕ) (r : Row) (i : Instr) (f : Flow) → instr_at c o ≡ Some i → flow i o r ≡ f
          → Arrives c (after_flow c o r f) → Judged c o r
      by_flow o r i (breaks rule) e g k = absurd (not_broken walked rule o k)
      by_flow o r i (flows None after) e g k = record {
        instr = i;
        target = None;
        after = after;
        stands = e;
        flow_is = g;
        leads_on = leads_after o after k;
        jumps = λ t h. cc;
      }
      by_flow o r i (flows (Some t) after) e g k =
          let m = kept 7 o (good_target c r t) (before (o + 1) after) k in
          record {
            instr = i;
            target = Some t;
            after = after;
            stands = e;
            flow_is = g;
            leads_on = leads_after o after m.1;
            jumps = λ u h. (let same : t ≡ u = cc in rw (← same) (target_good r t m.0));
          }

      by_instr : (o : ℕ) (r : Row) (i : Option Instr) → instr_at c o ≡ i
          → Arrives c (after_flow c o r (flow_of i o r)) → Judged c o r
      by_instr o r None e k = absurd (not_broken walked 5 o k)
      by_instr o r (Some i) e k = by_flow o r i (flow i o r) e refl k

      pub word_judged : (o : ℕ) (r : Row) → o < length c.code → begins_entry c o ≡ false
          → begins_site c o ≡ false → RowAt c o r → Judged c o r
      unfolding at_row
      word_judged o r lt ne ns h = by_instr o r (instr_at c o) refl (rw ns at (by_row o r lt ne h))

  -- ---- the walk comes to an offset with one row at most

  rises_more : (o : ℕ) (cur : Option Row) (n k p : ℕ) (q : Option Row) → walk c n ≡ before o cur
      → walk c (suc k + n) ≡ before p q → o < p
  rises_more o cur n zero p q h e =
      let m : suc 0 + n ≡ suc n = omega arith in
      let f : next_from c o cur ≡ before p q = sym (ap (next c) h) ∙ ap (walk c) (sym m) ∙ e in
      (rises o p cur q f).0
  rises_more o cur n (suc k) p q h e =
      let m : suc (suc k) + n ≡ suc (suc k + n) = omega arith in
      by_last (walk c (suc k + n)) refl (ap (walk c) (sym m) ∙ e) (rises_more o cur n k)
    where
      by_last : (w : Walk) → walk c (suc k + n) ≡ w → next c (walk c (suc k + n)) ≡ before p q
          → ((p : ℕ) (q : Option Row) → walk c n ≡ before o cur → walk c (suc k + n) ≡ before p q → o < p)
          → o < p
      by_last (before r x) l f up =
          let g : next_from c r x ≡ before p q = sym (ap (next c) l) ∙ f in
          let low : o < r = up r x h l in
          let high : r < p = (rises r p x q g).0 in
          omega arith
      by_last ended l f up = let g : ended ≡ before p q = sym (ap (next c) l) ∙ f in cc
      by_last (broken rule r) l f up = let g : broken rule r ≡ before p q = sym (ap (next c) l) ∙ f in cc

  order : (p q : ℕ) → (p < q) ⊎ ((p ≡ q) ⊎ (q < p))
  order p q = grind arith

  -- where it comes later it stands further on
  later : (n m a b : ℕ) (x y : Option Row) → n < m → walk c n ≡ before a x → walk c m ≡ before b y → a < b
  later n m a b x y lt h k =
      let e : m ≡ suc (m - suc n) + n = omega arith in
      rises_more a x n (m - suc n) b y h (ap (walk c) (sym e) ∙ k)

  pub one_current : (o : ℕ) (cur cur' : Option Row) → Arrives c (before o cur) → Arrives c (before o cur')
      → cur ≡ cur'
  one_current o cur cur' h k = elim (order h.0 k.0) as (λ _. cur ≡ cur') [
    | inl lt ↦ absurd (let g : o < o = later h.0 k.0 o o cur cur' lt h.1 k.1 in omega arith)
    | inr r ↦ elim r as (λ _. cur ≡ cur') [
      | inl e ↦ (let m : before o cur ≡ before o cur' = sym h.1 ∙ ap (walk c) e ∙ k.1 in cc)
      | inr lt ↦ absurd (let g : o < o = later k.0 h.0 o o cur' cur lt k.1 h.1 in omega arith)
    ]
  ]

  -- an offset that a step of the walk passes over, and one after its end: it comes to neither
  past_step : (n a o k : ℕ) (x z : Option Row) → walk c n ≡ before a x → a < o → walk c k ≡ before o z → n < k
  past_step n a o k x z h lt e = elim (order n k) as (λ _. n < k) [
    | inl l ↦ l
    | inr r ↦ elim r as (λ _. n < k) [
      | inl s ↦
          absurd (let m : before a x ≡ before o z = sym h ∙ ap (walk c) s ∙ e in let f : a ≡ o =
          cc in omega arith)
      | inr l ↦ absurd (let g : o < a = later k n o a z x l e h in omega arith)
    ]
  ]

  pub passed_over : (a b o : ℕ) (x y z : Option Row) → Arrives c (before a x) → next_from c a x ≡ before b y
      → a < o → o < b → Arrives c (before o z) → ⊥
  passed_over a b o x y z h step low high k =
      let l : h.0 < k.0 = past_step h.0 a o k.0 x z h.1 low k.1 in
      let there : walk c (suc h.0) ≡ before b y = ap (next c) h.1 ∙ step in
      elim (order (suc h.0) k.0) as (λ _. ⊥) [
        | inl m ↦ (let g : b < o = later (suc h.0) k.0 b o y z m there k.1 in omega arith)
        | inr r ↦ elim r as (λ _. ⊥) [
          | inl e ↦
              (let m : before b y ≡ before o z = sym there ∙ ap (walk c) e ∙ k.1 in let f : b ≡ o =
              cc in omega arith)
          | inr m ↦ omega arith
        ]
      ]

  pub none_behind : (a o : ℕ) (x z : Option Row) (w : Walk) → next c w ≡ w → (w ≡ before o z → ⊥)
      → Arrives c (before a x) → next_from c a x ≡ w → a < o → Arrives c (before o z) → ⊥
  none_behind a o x z w still other h step low k =
      let l : h.0 < k.0 = past_step h.0 a o k.0 x z h.1 low k.1 in
      let there : walk c (suc h.0) ≡ w = ap (next c) h.1 ∙ step in
      let e : k.0 ≡ (k.0 - suc h.0) + suc h.0 = omega arith in
      other (sym (stays w (suc h.0) (k.0 - suc h.0) still there) ∙ ap (walk c) (sym e) ∙ k.1)

  -- the row at an offset is one
  pub one_row : (o : ℕ) (r q : Row) → RowAt c o r → RowAt c o q → r ≡ q
  one_row o r q (inl h) (inl k) = h.1 ∙ sym k.1
  one_row o r q (inl h) (inr k) = let f : true ≡ false = sym h.0 ∙ k.0 in cc
  one_row o r q (inr h) (inl k) = let f : true ≡ false = sym k.0 ∙ h.0 in cc
  one_row o r q (inr h) (inr k) =
      let e : h.1.0 ≡ k.1.0 = one_current o h.1.0 k.1.0 h.1.1 k.1.1 in
      let m : Some r ≡ Some q = sym h.1.2 ∙ ap (option_or (declared c o)) e ∙ k.1.2 in
      cc

  -- ---- the walk comes to no offset inside a sequence

  module _ (walked : Arrives c ended) (lists : ListsKept) where
    over_sequence : (o : ℕ) (i : Inside o) (cur : Option Row) (w : Walk) → next_from c i.start cur ≡ w
        → Onward i.start w → Arrives c w → (q : Option Row)
        × (next_from c i.start cur ≡ before (i.start + i.size) q)
    over_sequence o i cur (broken rule p) e breaks_off k = absurd (not_broken walked rule p k)
    over_sequence o i cur ended e x k = elim x [ ]
    over_sequence o i cur (before p x) e (by_word ne ns) k = absurd (neither i.seq)
      where
        neither : ((begins_entry c i.start ≡ true) × (i.size ≡ ENTRY_WORDS))
            ⊎ ((begins_site c i.start ≡ true) × (i.size ≡ SITE_WORDS)) → ⊥
        neither (inl h) = let f : true ≡ false = sym h.0 ∙ ne in cc
        neither (inr h) = let f : true ≡ false = sym h.0 ∙ ns in cc
    over_sequence o i cur (before p x) e (over_entry en) k = by_seq i.seq
      where
        by_seq : ((begins_entry c i.start ≡ true) × (i.size ≡ ENTRY_WORDS))
            ⊎ ((begins_site c i.start ≡ true) × (i.size ≡ SITE_WORDS)) → (q : Option Row)
            × (next_from c i.start cur ≡ before (i.start + i.size) q)
        by_seq (inl h) = (x, rw h.1 e)
        by_seq (inr h) = let f : true ≡ false = sym en ∙ (lists.sites i.start h.0).1 in cc
    over_sequence o i cur (before p x) e (over_site ne s) k = by_seq i.seq
      where
        by_seq : ((begins_entry c i.start ≡ true) × (i.size ≡ ENTRY_WORDS))
            ⊎ ((begins_site c i.start ≡ true) × (i.size ≡ SITE_WORDS)) → (q : Option Row)
            × (next_from c i.start cur ≡ before (i.start + i.size) q)
        by_seq (inl h) = let f : true ≡ false = sym h.0 ∙ ne in cc
        by_seq (inr h) = (x, rw h.1 e)

    starts : (o : ℕ) (i : Inside o) → (i.start < length c.code) × (Inside i.start → ⊥)
    starts o i = by_seq i.seq
      where
        by_seq : ((begins_entry c i.start ≡ true) × (i.size ≡ ENTRY_WORDS))
            ⊎ ((begins_site c i.start ≡ true) × (i.size ≡ SITE_WORDS)) → (i.start < length c.code)
            × (Inside i.start → ⊥)
        by_seq (inl h) = let at = lists.entries i.start h.0 in let l : i.start + ENTRY_WORDS ≤ length c.code =
            at.0 in (omega arith, at.2)
        by_seq (inr h) = let at = lists.sites i.start h.0 in let l : i.start + SITE_WORDS ≤ length c.code =
            at.0 in (omega arith, at.2)

    pub none_inside : (o : ℕ) → Inside o → (cur : Option Row) → Arrives c (before o cur) → ⊥
    none_inside o i cur h =
        let at = starts o i in
        let l : i.start < length c.code = at.0 in
        let come = reaches walked i.start (omega arith) at.1 in
        let over = over_sequence o i come.0 (next_from c i.start come.0) refl (onward i.start come.0 l)
        (comes_next (before i.start come.0) come.1) in
        passed_over i.start (i.start + i.size) o come.0 over.0 cur come.1 over.1 i.after i.before_end h

    pub no_row_inside : (o : ℕ) → Inside o → (r : Row) → RowAt c o r → ⊥
    no_row_inside o i r (inl h) = (lists.entries o h.0).2 i
    no_row_inside o i r (inr h) = none_inside o i h.1.0 h.1.1
