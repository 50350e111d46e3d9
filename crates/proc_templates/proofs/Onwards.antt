-- The walk over what templates are made of: from rows that work to rows that work.
use Rattle.std.proofs.Common.{◌≡◌, ℕ, suc, ◌+◌, ◌<◌, ◌⊎◌, inl, inr, Bool, true, false, length, Option, Some}
use Rattle.std.proofs.Common.{None, refl, ap, ◌∙◌, subst, arith, lt-ltb, le-ltb, eq-eqb, ℤ, pos}
use Rattle.std.specs.Prelude.{nat_lt, ◌&&◌, ◌||◌, IfSome, slice_get}
use Rattle.std.proofs.lemmas.Option.{slice_get_within}
use Rattle.cap_words.specs.declared.Word.{Word}
use Rattle.component_file.specs.declared.component.Kind.TheVariants as kind
use Rattle.component_file.specs.declared.component.ComponentFields.{ComponentFields}
use Rattle.component_check.specs.Rules.{is_at}
use Rattle.lcm_isa.specs.declared.Reg.{Reg}
use Rattle.lcm_isa.specs.declared.Reg.TheVariants.{Pc, Rcode, Rdata, T1, T2, C1, C2, A0, A1, A2, A3, G0, G1}
use Rattle.lcm_isa.specs.declared.Reg.TheVariants.{G2}
use Rattle.lcm_isa.specs.declared.Operand.TheVariants.{R, Imm}
use Rattle.lcm_isa.specs.declared.Instr.{Instr}
use Rattle.lcm_isa.specs.declared.Instr.TheVariants.{Halt, Jmp, Jnz, Move, Cca, Xjmp}
use Rattle.call_sequence.specs.declared.TheConstants.{SITE_WORDS, ENTRY_WORDS}
use Rattle.call_sequence.specs.Kinds.{Row, kind_of, set_kind, below_any, row_below, entry_row, clean_row}
use Rattle.call_sequence.specs.declared.flow.Flow.TheVariants.{Flows as flows}
use Rattle.call_sequence.specs.declared.flow.Walk.{Walk}
use Rattle.call_sequence.specs.declared.flow.Walk.TheVariants.{Before as before, Ended as ended}
use Rattle.call_sequence.specs.Flow.{flow, ask, led, shows_nothing}
use Rattle.call_sequence.specs.Places.{begins_entry, begins_site, declared}
use Rattle.call_sequence.specs.Walk.{instr_at, instr_in, keep, comes_in, site_ready, passes, good_target}
use Rattle.call_sequence.specs.Walk.{after_flow, at_row, past, at_word, next_from, next, Arrives}
use Rattle.proc_templates.specs.Compiled.{label_row}
use Rattle.proc_templates.specs.Ready.{is_low, is_quiet}
use Rattle.proc_templates.proofs.Rows.{Works, low-kind, stk-kind, data-kind, sets-t2, t2-set, quiet_goes}
use Rattle.proc_templates.proofs.Rows.{asked, low-seen}

-- no row is current, or one that works
abbrev pub Worked : Option Row → Type 0
Worked current = IfSome current Works

module _ (c : ComponentFields) where
  -- an instruction stands here, and neither an entry nor a site begins
  pub record Stands (o : ℕ) (i : Instr) : Type 0 where
    pub instr : instr_at c o ≡ Some i
    pub entry : begins_entry c o ≡ false
    pub site : begins_site c o ≡ false

  abbrev pub AtMostLabel : ℕ → Type 0
  AtMostLabel o = (declared c o ≡ None) ⊎ (declared c o ≡ Some label_row)

  -- the walk comes to an offset with a row that works, or none
  pub record Onward (o : ℕ) : Type 0 where
    pub current : Option Row
    pub worked : Worked current
    pub comes : Arrives c (before o current)

  -- the same, with t2 at a place in the code
  pub record Aimed (o p : ℕ) : Type 0 where
    pub row : Row
    pub works : Works row
    pub t2 : kind_of row T2 ≡ kind.Pc p
    pub comes : Arrives c (before o (Some row))

  pub steps : (w : Walk) → Arrives c w → Arrives c (next c w)
  steps w h = (suc h.0, ap (next c) h.1)

  pub moved : (w x : Walk) → w ≡ x → Arrives c w → Arrives c x
  moved w x e h = subst (Arrives c) e h

  inside : (o : ℕ) (i : Instr) → instr_at c o ≡ Some i → nat_lt o (length c.code) ≡ true
  unfolding instr_at
  inside o i e = lt-ltb o (length c.code) (by_word (slice_get c.code o) refl e)
    where
      by_word : (w : Option Word) → slice_get c.code o ≡ w → instr_in w ≡ Some i → o < length c.code
      by_word None h e = cc
      by_word (Some w) h e = slice_get_within c.code o w h

  -- where no row is declared, the current one stays
  bare_row : (o : ℕ) (i : Instr) (r : Row) → Stands o i → declared c o ≡ None
      → next_from c o (Some r) ≡ after_flow c o r (flow i o r)
  unfolding next_from at_word at_row
  bare_row o i r s d = rw (inside o i s.instr, s.entry, d, s.site, s.instr) refl

  pub bare_none : (o : ℕ) (i : Instr) → Stands o i → declared c o ≡ None
      → next_from c o None ≡ before (o + 1) None
  unfolding next_from at_word past
  bare_none o i s d = rw (inside o i s.instr, s.entry, d, s.site) refl

  kept : (rule o : ℕ) (b : Bool) (w : Walk) → b ≡ true → keep rule o b w ≡ w
  unfolding keep
  kept rule o true w e = refl
  kept rule o false w e = cc

  comes-label : (current : Option Row) → Worked current → comes_in current label_row ≡ true
  comes-label None w = refl
  comes-label (Some r) w = w.below

  label_works : Works label_row
  label_works = record { below = refl }

  at_label : (o : ℕ) (i : Instr) (current : Option Row) → Stands o i → declared c o ≡ Some label_row
      → Worked current → next_from c o current ≡ after_flow c o label_row (flow i o label_row)
  unfolding next_from at_word at_row
  at_label o i current s d w = rw (
    inside o i s.instr,
    s.entry,
    d,
    kept 8 o _ (at_row c o label_row) (comes-label current w),
    s.site,
    s.instr,
  ) refl

  -- a word, before which there is a row that works or none
  pub data AtWord (o : ℕ) (i : Instr) : Type 0 where
    idle : Arrives c (before (o + 1) None) → AtWord o i
    busy : (r : Row) → Works r → Arrives c (after_flow c o r (flow i o r)) → AtWord o i

  pub enter : (o : ℕ) (i : Instr) → Stands o i → AtMostLabel o → Onward o → AtWord o i
  enter o i s l h = by_label l h.current h.worked h.comes
    where
      by_label : AtMostLabel o → (current : Option Row) → Worked current → Arrives c (before o current)
          → AtWord o i
      by_label (inl d) None w h = idle (moved _ _ (bare_none o i s d) (steps _ h))
      by_label (inl d) (Some r) w h = busy r w (moved _ _ (bare_row o i r s d) (steps _ h))
      by_label (inr d) current w h =
          busy label_row label_works (moved _ _ (at_label o i current s d w) (steps _ h))

  pub none_on : (o : ℕ) → Arrives c (before o None) → Onward o
  none_on o h = record { current = None; worked = tt; comes = h }

  pub some_on : (o : ℕ) (r : Row) → Works r → Arrives c (before o (Some r)) → Onward o
  some_on o r w h = record { current = Some r; worked = w; comes = h }

  pub aimed_on : (o p : ℕ) → Aimed o p → Onward o
  aimed_on o p a = some_on o a.row a.works a.comes

  -- ---- a quiet instruction, and a halt

  pub over_quiet : (o : ℕ) (i : Instr) → Stands o i → AtMostLabel o → is_quiet i ≡ true → Onward o
      → Onward (o + 1)
  over_quiet o i s l q h = by (enter o i s l h)
    where
      by : AtWord o i → Onward (o + 1)
      by (idle h) = none_on (o + 1) h
      by (busy r w h) = let g = quiet_goes o r w i q in
          some_on (o + 1) g.after g.works (moved _ _ (ap (after_flow c o r) g.is) h)

  pub over_halt : (o : ℕ) → Stands o Halt → AtMostLabel o → Onward o → Onward (o + 1)
  unfolding flow
  over_halt o s l h = by (enter o Halt s l h)
    where
      by : AtWord o Halt → Onward (o + 1)
      by (idle h) = none_on (o + 1) h
      by (busy r w h) = none_on (o + 1) h

  pub aimed_quiet : (o p : ℕ) (i : Instr) → Stands o i → declared c o ≡ None → is_quiet i ≡ true → Aimed o p
      → Aimed (o + 1) p
  aimed_quiet o p i s d q a =
      let g = quiet_goes o a.row a.works i q in
      record {
        row = g.after;
        works = g.works;
        t2 = g.t2 ∙ a.t2;
        comes = moved _ _ (bare_row o i a.row s d ∙ ap (after_flow c o a.row) g.is) (steps _ a.comes);
      }

  -- ---- t2 is aimed

  -- `move t2 pc`, `cca t2 far`: either nothing is current, or t2 leads to the target
  pub data Aims (o p : ℕ) : Type 0 where
    dead : Arrives c (before o None) → Aims o p
    live : Aimed o p → Aims o p

  move_pc : (o : ℕ) (r : Row) → flow (Move T2 (R Pc)) o r ≡ flows None (Some (set_kind r T2 (kind.Pc o)))
  unfolding flow ask
  move_pc o r = refl

  cca_far : (o p q : ℕ) (z : ℤ) (r : Row) → kind_of r T2 ≡ kind.Pc q → led q z ≡ Some p
      → flow (Cca T2 (Imm z)) o r ≡ flows None (Some (set_kind r T2 (kind.Pc p)))
  unfolding flow ask
  cca_far o p q z r e l = rw (e, l) refl

  pub aim : (o p : ℕ) (z : ℤ) → Stands o (Move T2 (R Pc)) → AtMostLabel o → Stands (o + 1) (Cca T2 (Imm z))
      → declared c (o + 1) ≡ None
      → led o z ≡ Some p → Onward o → Aims (o + 1 + 1) p
  aim o p z s l s1 d1 to h = by (enter o (Move T2 (R Pc)) s l h)
    where
      by : AtWord o (Move T2 (R Pc)) → Aims (o + 1 + 1) p
      by (idle h) = dead (moved _ _ (bare_none (o + 1) _ s1 d1) (steps _ h))
      by (busy r w h) =
          let r1 = set_kind r T2 (kind.Pc o) in
          let w1 = sets-t2 r (kind.Pc o) w in
          let h1 = moved _ _ (ap (after_flow c o r) (move_pc o r)) h in
          live (record {
            row = set_kind r1 T2 (kind.Pc p);
            works = sets-t2 r1 (kind.Pc p) w1;
            t2 = t2-set r1 (kind.Pc p) w1;
            comes = moved _ _ (bare_row (o + 1) _ r1 s1 d1
                ∙ ap (after_flow c (o + 1) r1) (cca_far (o + 1) p o z r1 (t2-set r (kind.Pc o) w) to))
                (steps _ h1);
          })

  -- a place to which code with a row that works may jump
  pub record IsTarget (p : ℕ) : Type 0 where
    pub good : (r : Row) → Works r → good_target c r p ≡ true

  pub label_target : (p : ℕ) → declared c p ≡ Some label_row → IsTarget p
  unfolding good_target
  label_target p d = record {
    good = λ r w. let b = w.below in
        rw (d, b) (or_true (is_at c.fail_at p) (row_below r entry_row && begins_entry c p));
  }
    where
      or_true : (a b : Bool) → (a || (b || true)) ≡ true
      or_true true b = refl
      or_true false true = refl
      or_true false false = refl

  pub fail_target : (p : ℕ) → c.fail_at ≡ Some p → IsTarget p
  unfolding good_target
  fail_target p e = record {
    good = λ r w. let f : is_at c.fail_at p ≡ true = rw e (eq-eqb p p refl) in
        rw f refl;
  }

  jmp_flow : (o p : ℕ) (r : Row) → kind_of r T2 ≡ kind.Pc p → flow (Jmp T2) o r ≡ flows (Some p) None
  unfolding flow
  jmp_flow o p r e = rw e refl

  pub jumps : (o p : ℕ) → Stands o (Jmp T2) → declared c o ≡ None → IsTarget p → Aims o p → Onward (o + 1)
  jumps o p s d t (dead h) = none_on (o + 1) (moved _ _ (bare_none o _ s d) (steps _ h))
  jumps o p s d t (live a) =
      none_on (o + 1) (moved _ _ (bare_row o _ a.row s d ∙ ap (after_flow c o a.row) (jmp_flow o p a.row a.t2)
      ∙ kept 7 o _ _ (t.good a.row a.works)) (steps _ a.comes))

  jnz_flow : (o p : ℕ) (r : Row) (g : Reg) → Works r → is_low g ≡ true → kind_of r T2 ≡ kind.Pc p
      → flow (Jnz T2 g) o r ≡ flows (Some p) (Some r)
  unfolding flow
  jnz_flow o p r g w e k = rw k (asked 6 _ _ (low-seen o r g w e))

  pub aimed_jnz : (o p : ℕ) (g : Reg) → is_low g ≡ true → Stands o (Jnz T2 g) → declared c o ≡ None
      → IsTarget p → Aimed o p → Aimed (o + 1) p
  aimed_jnz o p g e s d t a =
      record {
        row = a.row;
        works = a.works;
        t2 = a.t2;
        comes = moved _ _ (bare_row o _ a.row s d
            ∙ ap (after_flow c o a.row) (jnz_flow o p a.row g a.works e a.t2)
            ∙ kept 7 o _ _ (t.good a.row a.works)) (steps _ a.comes);
      }

  pub jumps_if : (o p : ℕ) (g : Reg) → is_low g ≡ true → Stands o (Jnz T2 g) → declared c o ≡ None
      → IsTarget p → Aims o p → Onward (o + 1)
  jumps_if o p g e s d t (dead h) = none_on (o + 1) (moved _ _ (bare_none o _ s d) (steps _ h))
  jumps_if o p g e s d t (live a) = aimed_on (o + 1) p (aimed_jnz o p g e s d t a)

  -- ---- t2 is an integer: the last words of a procedure

  move_zero : (o : ℕ) (r : Row) → flow (Move T2 (Imm (pos 0))) o r ≡ flows None
      (Some (set_kind r T2 kind.Int))
  unfolding flow ask
  move_zero o r = refl

  pub zero_t2 : (o : ℕ) → Stands o (Move T2 (Imm (pos 0))) → AtMostLabel o → Onward o → Onward (o + 1)
  zero_t2 o s l h = by (enter o _ s l h)
    where
      by : AtWord o (Move T2 (Imm (pos 0))) → Onward (o + 1)
      by (idle h) = none_on (o + 1) h
      by (busy r w h) = some_on (o + 1) (set_kind r T2 kind.Int) (sets-t2 r kind.Int w)
          (moved _ _ (ap (after_flow c o r) (move_zero o r)) h)

  -- nothing is current, or t2 too is below any
  pub data Clear (o : ℕ) : Type 0 where
    over : Arrives c (before o None) → Clear o
    clean : (r : Row) → Works r → below_any (kind_of r T2) ≡ true → Arrives c (before o (Some r)) → Clear o

  pub clears : (o : ℕ) → Stands o (Move T2 (Imm (pos 0))) → AtMostLabel o → Onward o → Clear (o + 1)
  clears o s l h = by (enter o _ s l h)
    where
      by : AtWord o (Move T2 (Imm (pos 0))) → Clear (o + 1)
      by (idle h) = over h
      by (busy r w h) = clean (set_kind r T2 kind.Int) (sets-t2 r kind.Int w)
          (ap below_any (t2-set r kind.Int w)) (moved _ _ (ap (after_flow c o r) (move_zero o r)) h)

  pub clear_quiet : (o : ℕ) (i : Instr) → Stands o i → declared c o ≡ None → is_quiet i ≡ true → Clear o
      → Clear (o + 1)
  clear_quiet o i s d q (over h) = over (moved _ _ (bare_none o i s d) (steps _ h))
  clear_quiet o i s d q (clean r w k h) =
      let g = quiet_goes o r w i q in
      clean g.after g.works (ap below_any g.t2 ∙ k)
      (moved _ _ (bare_row o i r s d ∙ ap (after_flow c o r) g.is) (steps _ h))

  passes_works : (r : Row) → Works r → passes r ≡ true
  passes_works r w = rw (
    low-kind r C1 w refl,
    low-kind r C2 w refl,
    low-kind r A0 w refl,
    low-kind r A1 w refl,
    low-kind r A2 w refl,
    low-kind r A3 w refl,
    low-kind r G0 w refl,
    low-kind r G1 w refl,
    low-kind r G2 w refl,
  ) refl

  shows : (r : Row) → Works r → below_any (kind_of r T2) ≡ true → shows_nothing r ≡ true
  unfolding shows_nothing
  shows r w k =
      rw (low-kind r Rcode w refl, low-kind r Rdata w refl, stk-kind r w, low-kind r T1 w refl, k)
      (passes_works r w)

  xjmp_flow : (o : ℕ) (r : Row) → Works r → below_any (kind_of r T2) ≡ true
      → flow (Xjmp Rcode Rdata) o r ≡ flows None None
  unfolding flow
  xjmp_flow o r w k = asked 6 _ _ (rw (low-kind r Rcode w refl, low-kind r Rdata w refl) refl)
      ∙ asked 10 _ _ (shows r w k)

  pub leave : (o : ℕ) → Stands o (Xjmp Rcode Rdata) → declared c o ≡ None → Clear o
      → Arrives c (before (o + 1) None)
  leave o s d (over h) = moved _ _ (bare_none o _ s d) (steps _ h)
  leave o s d (clean r w k h) = moved _ _ (bare_row o _ r s d ∙ ap (after_flow c o r) (xjmp_flow o r w k))
      (steps _ h)

  -- ---- sites and entries

  clean_works : Works clean_row
  clean_works = record { below = refl }

  ready : (r : Row) → Works r → site_ready r ≡ true
  unfolding site_ready
  ready r w = rw (stk-kind r w, data-kind r w) (passes_works r w)

  -- a site begins here
  pub record BeginsSite (o : ℕ) : Type 0 where
    pub within : nat_lt o (length c.code) ≡ true
    pub entry : begins_entry c o ≡ false
    pub site : begins_site c o ≡ true
    pub label : AtMostLabel o

  site_row : (o : ℕ) (r : Row) → BeginsSite o → Works r
      → at_row c o r ≡ before (o + SITE_WORDS) (Some clean_row)
  unfolding at_row
  site_row o r s w = rw s.site (kept 10 o _ _ (ready r w))

  pub over_site : (o : ℕ) → BeginsSite o → Onward o → Onward (o + SITE_WORDS)
  unfolding next_from at_word past
  over_site o s h = by_label s.label h.current h.worked h.comes
    where
      bare_none_site : declared c o ≡ None → next_from c o None ≡ before (o + SITE_WORDS) None
      bare_none_site d = rw (s.within, s.entry, d, s.site) refl

      bare_some_site : (r : Row) → Works r → declared c o ≡ None
          → next_from c o (Some r) ≡ before (o + SITE_WORDS) (Some clean_row)
      bare_some_site r w d = rw (s.within, s.entry, d) (site_row o r s w)

      label_site : (current : Option Row) → Worked current → declared c o ≡ Some label_row
          → next_from c o current ≡ before (o + SITE_WORDS) (Some clean_row)
      label_site current w d = rw (s.within, s.entry, d)
          (kept 8 o _ (at_row c o label_row) (comes-label current w) ∙ site_row o label_row s label_works)

      by_label : AtMostLabel o → (current : Option Row) → Worked current → Arrives c (before o current)
          → Onward (o + SITE_WORDS)
      by_label (inl d) None w h = none_on _ (moved _ _ (bare_none_site d) (steps _ h))
      by_label (inl d) (Some r) w h =
          some_on _ clean_row clean_works (moved _ _ (bare_some_site r w d) (steps _ h))
      by_label (inr d) current w h =
          some_on _ clean_row clean_works (moved _ _ (label_site current w d) (steps _ h))

  pub record BeginsEntry (o : ℕ) : Type 0 where
    pub within : nat_lt o (length c.code) ≡ true
    pub entry : begins_entry c o ≡ true

  pub over_entry : (o : ℕ) → BeginsEntry o → Arrives c (before o None) → Onward (o + ENTRY_WORDS)
  unfolding next_from
  over_entry o s h = some_on _ clean_row clean_works (moved _ _ from_none (steps _ h))
    where
      from_none : next_from c o None ≡ before (o + ENTRY_WORDS) (Some clean_row)
      from_none = rw (s.within, s.entry) (kept 8 o true _ refl)

  -- a word before any row
  pub over_idle : (o : ℕ) → nat_lt o (length c.code) ≡ true → begins_entry c o ≡ false
      → begins_site c o ≡ false → declared c o ≡ None → Arrives c (before o None)
      → Arrives c (before (o + 1) None)
  unfolding next_from at_word past
  over_idle o w e s d h = moved _ _ from_none (steps _ h)
    where
      from_none : next_from c o None ≡ before (o + 1) None
      from_none = rw (w, e, d, s) refl

  pub over_end : (o : ℕ) → o ≡ length c.code → Arrives c (before o None) → Arrives c ended
  unfolding next_from
  over_end o e h = moved _ _ from_none (steps _ h)
    where
      from_none : next_from c o None ≡ ended
      from_none = let f : nat_lt o (length c.code) ≡ false =
          rw e (le-ltb (length c.code) (length c.code) (omega arith)) in rw f refl
