-- A call and all its failures: one overlay step against as many plain ones as it weighs.
use Rattle.std.proofs.Common.{◌≡◌, ◌≢◌, inl, inr, ℕ, ◌+◌, ◌-◌, ◌≤◌, ℤ, pos, negsuc, Bool, true, false, Some}
use Rattle.std.proofs.Common.{None, refl, ap, sym, ◌∙◌, arith, le-leb, lt-ltb, le-ltb, ne_eqb}
use Rattle.std.specs.Prelude.{Option, nat_le, ◌&&◌, int_lt, ◌==◌, if◌then◌else◌}
use Rattle.std.proofs.lemmas.Bool.{cases_lt, cases_eq, lt-leb, and_right, and_left}
use Rattle.cap_words.specs.declared.Word.{Word}
use Rattle.cap_words.specs.declared.Word.TheVariants.{Int, Mem}
use Rattle.cap_words.specs.declared.Content.{Content}
use Rattle.cap_words.specs.declared.Content.TheVariants.{Mem as MemC, Seal as SealC}
use Rattle.cap_words.specs.declared.CapFields.{CapFields}
use Rattle.cap_words.specs.declared.Opened.{Opened}
use Rattle.cap_words.specs.declared.Face.TheVariants.{Memory}
use Rattle.cap_words.specs.Face.{face_of, opened_of}
use Rattle.cap_words.specs.Faces.{covers, same_kind}
use Rattle.cap_words.specs.Linear.{left_of}
use Rattle.lcm_isa.specs.declared.Reg.TheVariants.{Pc, Stk, Dat, C1, C2}
use Rattle.lcm_isa.specs.declared.Instr.TheVariants.{Xjmp}
use Rattle.lcm_machine.specs.declared.Place.TheVariants.{R}
use Rattle.lcm_machine.specs.Maps.{State}
use Rattle.lcm_machine.specs.Table.{runs_in, unsealed}
use Rattle.lcm_machine.specs.Cells.{cell, all_there}
use Rattle.lcm_machine.specs.Row.{put, row, went}
use Rattle.lcm_machine.specs.Runs.{run_of, code_cap}
use Rattle.lcm_machine.specs.Refusals.{HasFailed, CannotJoin, Refuses}
use Rattle.lcm_machine.proofs.Offers.{xjmp_goes, left, failed_more, then_failed, xjmp_fails, xjmp_runs_fails}
use Rattle.lcm_machine.proofs.Offers.{opened-memory}
use Rattle.call_sequence.specs.declared.TheConstants.{CALL_WORDS}
use Rattle.call_sequence.specs.Sequences.{split_word}
use Rattle.call_sequence.specs.SequenceRuns.{stack_cap, HasCall}
use Rattle.call_sequence.proofs.Offers.{call_at_base, call_outside, return_apart, HasReturn-set}
use Rattle.trusted_border.specs.declared.layout.Layout.{Layout}
use Rattle.trusted_border.specs.declared.layout.SiteCode.{SiteCode}
use Rattle.trusted_border.specs.Layout.{site_code}
use Rattle.overlay_machine.specs.declared.words.OWord.{OWord}
use Rattle.overlay_machine.specs.declared.words.OWord.TheVariants.{Plain, RetCode, RetData}
use Rattle.overlay_machine.specs.declared.cases.Case.TheVariants.{Call}
use Rattle.overlay_machine.specs.Words.{is_plain, is_ret_code}
use Rattle.overlay_machine.specs.State.{OState, frame_of}
use Rattle.overlay_machine.specs.Step.{fails, call_step, need, ask, weight_by}
use Rattle.overlay_machine.specs.Flat.{flat, IsFlat}
use Rattle.overlay_machine.specs.Agree.{EndsAgree, Looks, AtSite}
use Rattle.overlay_machine.proofs.FlatLemmas.{flat-mem, cell-flat, HasCall-flat, HasReturn-flat, both_fail}
use Rattle.overlay_machine.proofs.FrameWords.{all_there-from, some_of}
use Rattle.overlay_machine.proofs.PairsOpened.{OneSite, code_site, data_site, data_refuses, foreign_refuses}
use Rattle.overlay_machine.proofs.PairsOpened.{opened-code, opened-data}
use Rattle.overlay_machine.proofs.CallAgrees.{its_site, owns, dat_normal, t15, plain_row, call_agrees}

abbrev id : Word → Word
id w = w

-- what fails within a call's words fails within its weight
within : (t : State Word) (n m : ℕ) (b : Bool) → n + m ≡ CALL_WORDS → HasFailed (run_of id id n t)
    → HasFailed (run_of id id (if b then CALL_WORDS + 1 else CALL_WORDS) t)
within t n m true e h = let f : n + (m + 1) ≡ (CALL_WORDS + 1) =
    omega (arith, e) in rw (← f) (failed_more id id n (m + 1) t h)
within t n m false e h = rw (← e) (failed_more id id n m t h)

module _ (l : Layout) (i : ℕ) (o : OState) (t : State Word) (at_site : AtSite l i o) (m : IsFlat l o t)
    (k : Looks l o) where
  abbrev its : SiteCode
  its = at_site.site

  abbrev stack : ℤ → CapFields
  stack z = record (stack_cap l.stack.base at_site.end 0) { addr = z }

  -- the overlay fails where stk's address isn't above the base and in the range
  off : (z : ℤ) → at_site.to ≡ z → (int_lt (pos l.stack.base) z && covers (stack z) z) ≡ false
      → call_step l i o ≡ fails
  unfolding call_step need ask
  off z e h = rw (at_site.is_site, owns l i o t at_site m k z e, h) refl

  pc_is : t.regs.pc ≡ Mem (code_cap its.base its.end its.at)
  pc_is = m.regs Pc ∙ flat-mem l o.frames _ _ at_site.pc

  stk_is : (z : ℤ) → at_site.to ≡ z → t.regs.stk ≡ Mem (stack z)
  stk_is z e = m.regs Stk ∙ flat-mem l o.frames _ _ (at_site.stk ∙ ap (λ c. Mem (stack c)) e)

  has_call : HasCall id t.cells its.base its.end its.at its.seal
  has_call = HasCall-flat l o t m k its.base its.end its.at its.seal (its_site l i o t at_site m k).call

  pub outside : (z : ℤ) → at_site.to ≡ z → covers (stack z) z ≡ false → HasFailed (run_of id id 1 t)
  outside z e h =
      call_outside id id t its.base its.end its.at its.seal (stack z) has_call pc_is (stk_is z e) h

  pub lowest : at_site.to ≡ pos l.stack.base → l.stack.base ≤ at_site.end
      → HasFailed (run_of id id (split_word + 1) t)
  lowest e h =
      let s = at_site.in_stack in
      let d = at_site.small_stack in
      call_at_base id id (λ x. refl)
      t its.base its.end its.at its.seal l.stack.base at_site.end _ has_call pc_is
      (stk_is (pos l.stack.base) e) (dat_normal l i o t at_site m k) h (omega (arith, s, d))
      ((its_site l i o t at_site m k).apart l.stack.base (omega arith) (omega (arith, h, s)))
      (cell-flat l o t l.stack.base _ m
      (some_of (cell o.maps.cells l.stack.base) (Plain (Int (pos 0)))
      (at_site.owned l.stack.base (omega arith) h)))

  module _ (b : ℕ) (cursor : at_site.to ≡ pos (b + 1)) (low : l.stack.base ≤ b) (high : b + 1 ≤ at_site.end)
    where
      abbrev s15 : State Word
      s15 = t15 l i o t at_site m k b cursor low high

      abbrev x1 : OWord
      x1 = o.maps.regs.c1

      abbrev x2 : OWord
      x2 = o.maps.regs.c2

      refused : (is_plain x1 && is_plain x2) ≡ false → call_step l i o ≡ fails
      unfolding call_step need ask
      refused h =
          let there : all_there o.maps.cells (b + 1) (at_site.end + 1 - (b + 1)) ≡ true =
          all_there-from o.maps.cells (b + 1) (at_site.end + 1 - (b + 1))
          (λ q h g. at_site.owned q (omega arith) (omega arith)) in
          rw (
            at_site.is_site,
            owns l i o t at_site m k (pos (b + 1)) cursor,
            lt-ltb l.stack.base (b + 1)
                (omega arith),
            le-leb l.stack.base (b + 1) (omega arith),
            le-leb (b + 1)
                at_site.end high,
            there,
            le-leb at_site.end l.stack.end at_site.in_stack,
            h,
          ) refl

      abbrev next : Word
      next = Mem (code_cap its.base its.end (its.at + CALL_WORDS))

      row_fails : HasFailed (row id id (Xjmp C1 C2) next s15) → HasFailed (run_of id id CALL_WORDS t)
      row_fails h = rw (plain_row l i o t at_site m k b cursor low high) h

      -- `xjmp` refuses the two words
      refuses : (x y : Option Opened) → opened_of (flat l o.frames x1) ≡ x
          → opened_of (flat l o.frames x2) ≡ y
          → Refuses x y → HasFailed (run_of id id CALL_WORDS t)
      refuses x y ex ey h =
          row_fails
          (xjmp_fails id id C1 C2 next s15 x y (ap opened_of (m.regs C1) ∙ ex) (ap opened_of (m.regs C2) ∙ ey)
          h)

      plain_opened : (w : Word) → x1 ≡ Plain w → opened_of (flat l o.frames x1) ≡ opened_of w
      unfolding flat
      plain_opened w e = ap (λ x. opened_of (flat l o.frames x)) e

      foreign_fails : (w : Word) → x1 ≡ Plain w → OneSite l (opened_of (flat l o.frames x2))
          → HasFailed (run_of id id CALL_WORDS t)
      foreign_fails w e1 h =
          refuses (opened_of w) _ (plain_opened w e1)
          refl (foreign_refuses l w (opened_of w) _ (at_site.foreign w e1) refl h)

      data_fails : (n : ℕ) → x1 ≡ RetData n → HasFailed (run_of id id CALL_WORDS t)
      data_fails n e =
          refuses _ _ refl refl
          (data_refuses l (opened_of (flat l o.frames x1))
          _ (rw e (opened-data l o.frames n (frame_of o.frames n) refl)))

      -- the pair of a site whose seal the second word has: the return words run, and fail at `splice`
      abbrev joint : SiteCode → Content → State Word
      joint s x =
          put (put (put s15 (R C2) (left_of id id s15.regs.c2)) (R Pc)
          (Mem (code_cap s.base s.end (s.at + CALL_WORDS)))) (R Dat) (unsealed x)

      cannot : (s : SiteCode) (x : Content)
          → opened_of (flat l o.frames x2) ≡ Some (record { seal = s.seal; content = x })
          → CannotJoin (Memory (stack_cap l.stack.base b b)) (face_of (unsealed x))
      cannot s (MemC d) e =
          let ne : b + 1 ≢ d.base = λ q. at_site.apart d (opened-memory (flat l o.frames x2) s.seal d e)
          (cursor ∙ ap pos q) (omega arith) (omega arith) in
          and_right (same_kind (stack_cap l.stack.base b b) d) (b + 1 == d.base) (ne_eqb (b + 1) d.base ne)
      cannot s (SealC q) e = tt

      splice_refused : (s : SiteCode) (j : ℕ) (x : Content) → site_code l j ≡ Some s
          → opened_of (flat l o.frames x2) ≡ Some (record { seal = s.seal; content = x })
          → HasFailed (run_of id id 1 (joint s x))
      splice_refused s j x es e =
          let r = at_site.sites j s es in
          let f = HasReturn-flat l o t m k s.base s.end (s.at + CALL_WORDS) l.stack.base r.back in
          let h = at_site.in_stack in
          return_apart id id (joint s x) s.base s.end (s.at + CALL_WORDS)
          l.stack.base
          (HasReturn-set id t.cells s.base s.end (s.at + CALL_WORDS) l.stack.base (b + 1)
          t.regs.dat (r.apart (b + 1) (omega arith) (omega (arith, high, h))) f) refl (cannot s x e)

      joins : (s : SiteCode) (x : Content)
          → opened_of (flat l o.frames x1)
          ≡ Some (record { seal = s.seal; content = MemC (code_cap s.base s.end (s.at + CALL_WORDS)) })
          → opened_of (flat l o.frames x2) ≡ Some (record { seal = s.seal; content = x }) → runs_in x ≡ false
          → run_of id id CALL_WORDS t ≡ went (joint s x)
      joins s x e1 e2 h =
          plain_row l i o t at_site m k b cursor low high
          ∙ xjmp_goes id id C1 C2 next s15 (put s15 (R C2) (left_of id id s15.regs.c2))
          s.seal (code_cap s.base s.end (s.at + CALL_WORDS)) x (ap opened_of (m.regs C1) ∙ e1)
          (ap opened_of (m.regs C2) ∙ e2) refl refl h (left id id s15 C2)

      code_same : (s : SiteCode) (j : ℕ) (x : Content) (r : Bool) → site_code l j ≡ Some s
          → opened_of (flat l o.frames x1)
          ≡ Some (record { seal = s.seal; content = MemC (code_cap s.base s.end (s.at + CALL_WORDS)) })
          → opened_of (flat l o.frames x2) ≡ Some (record { seal = s.seal; content = x }) → runs_in x ≡ r
          → HasFailed (run_of id id (CALL_WORDS + 1) t)
      code_same s j x true es e1 e2 h =
          failed_more id id CALL_WORDS 1 t
          (row_fails
          (xjmp_runs_fails id id C1 C2 next s15 _ _ (code_cap s.base s.end (s.at + CALL_WORDS))
          (ap opened_of (m.regs C1) ∙ e1) (ap opened_of (m.regs C2) ∙ e2) refl refl refl refl h))
      code_same s j x false es e1 e2 h =
          then_failed id id CALL_WORDS 1 t (joint s x) (joins s x e1 e2 h) (splice_refused s j x es e2)

      code_second : (s : SiteCode) (j : ℕ) (y : Option Opened) → site_code l j ≡ Some s
          → opened_of (flat l o.frames x1)
          ≡ Some (record { seal = s.seal; content = MemC (code_cap s.base s.end (s.at + CALL_WORDS)) })
          → opened_of (flat l o.frames x2) ≡ y → HasFailed (run_of id id (CALL_WORDS + 1) t)
      code_second s j None es e1 e2 = failed_more id id CALL_WORDS 1 t (refuses _ None e1 e2 tt)
      code_second s j (Some y) es e1 e2 =
          elim (cases_eq s.seal y.seal) as (λ _. HasFailed (run_of id id (CALL_WORDS + 1) t)) [
            | inl same ↦
                code_same s j y.content (runs_in y.content)
                es e1 (e2 ∙ ap (λ n. Some (record { seal = n; content = y.content })) (sym same)) refl
            | inr ne ↦ failed_more id id CALL_WORDS 1 t (refuses _ (Some y) e1 e2 (inl ne))
          ]

      code_fails : (j : ℕ) → x1 ≡ RetCode j → HasFailed (run_of id id (CALL_WORDS + 1) t)
      code_fails j e =
          elim (opened-code l o.frames j (site_code l j) refl) as
          (λ _. HasFailed (run_of id id (CALL_WORDS + 1) t)) [
            | inl h ↦ failed_more id id CALL_WORDS 1 t (refuses None _ (rw e h) refl tt)
            | inr h ↦ code_second h.0 j _ h.1 (rw e h.2) refl
          ]

      -- the words of a pair, one of which isn't plain
      abbrev CallOf : Type 0
      CallOf = EndsAgree l (call_step l i o) (run_of id id (weight_by o.maps (Call i)) t)

      second : (w : Word) (x : OWord) → x1 ≡ Plain w → x2 ≡ x → CallOf
      second w (Plain v) e1 e2 =
          rw (ap is_ret_code e1)
          (call_agrees l i o t at_site m k b cursor low high (ap is_plain e1) (ap is_plain e2))
      second w (RetCode j) e1 e2 =
          rw (ap is_ret_code e1)
          (both_fail l _ _ (refused (rw (e1, e2) refl)) (foreign_fails w e1 (rw e2 (code_site l o.frames j))))
      second w (RetData n) e1 e2 =
          rw (ap is_ret_code e1)
          (both_fail l _ _ (refused (rw (e1, e2) refl)) (foreign_fails w e1 (rw e2 (data_site l o.frames n))))

      first : (x : OWord) → x1 ≡ x → CallOf
      first (Plain w) e = second w x2 e refl
      first (RetCode j) e = rw (ap is_ret_code e) (both_fail l _ _ (refused (rw e refl)) (code_fails j e))
      first (RetData n) e = rw (ap is_ret_code e) (both_fail l _ _ (refused (rw e refl)) (data_fails n e))

      above : CallOf
      above = first x1 refl

  at_address : (a : ℕ) → at_site.to ≡ pos a
      → EndsAgree l (call_step l i o) (run_of id id (weight_by o.maps (Call i)) t)
  at_address a e =
      elim (cases_lt at_site.end a)
      as (λ _. EndsAgree l (call_step l i o) (run_of id id (weight_by o.maps (Call i)) t)) [
        | inl past ↦
            (let out : covers (stack (pos a)) (pos a) ≡ false =
            and_right (nat_le l.stack.base a) (nat_le a at_site.end) (lt-leb a at_site.end past) in
            both_fail l _ _ (off (pos a) e (and_right (int_lt (pos l.stack.base) (pos a)) _ out))
            (within t 1 (CALL_WORDS - 1) (is_ret_code o.maps.regs.c1) refl (outside (pos a) e out)))
        | inr le ↦
            elim (cases_lt l.stack.base a)
            as (λ _. EndsAgree l (call_step l i o) (run_of id id (weight_by o.maps (Call i)) t)) [
              | inl lt ↦
                  (let one : a ≡ a - 1 + 1 =
                  omega arith in above (a - 1) (e ∙ ap pos one) (omega arith) (omega arith))
              | inr ge ↦ (let no : int_lt (pos l.stack.base) (pos a) ≡ false = le-ltb l.stack.base a ge in
                  both_fail l _ _
                  (off (pos a)
                  e (and_left (int_lt (pos l.stack.base) (pos a)) (covers (stack (pos a)) (pos a)) no))
                  (elim (cases_eq a l.stack.base)
                  as (λ _. HasFailed (run_of id id (weight_by o.maps (Call i)) t)) [
                    | inl same ↦
                        within t (split_word + 1) (CALL_WORDS - (split_word + 1)) (is_ret_code o.maps.regs.c1)
                        refl (lowest (e ∙ ap pos same) (omega arith))
                    | inr ne ↦
                        within t 1 (CALL_WORDS - 1) (is_ret_code o.maps.regs.c1)
                        refl (outside (pos a)
                        e (and_left (nat_le l.stack.base a) (nat_le a at_site.end)
                        (lt-leb l.stack.base a (omega arith))))
                  ]))
            ]
      ]

  by_address : (z : ℤ) → at_site.to ≡ z
      → EndsAgree l (call_step l i o) (run_of id id (weight_by o.maps (Call i)) t)
  by_address (pos a) e = at_address a e
  by_address (negsuc a) e =
      both_fail l _ _ (off (negsuc a) e refl)
      (within t 1 (CALL_WORDS - 1) (is_ret_code o.maps.regs.c1) refl (outside (negsuc a) e refl))

  -- a call is one overlay step, and as many plain ones as it weighs
  pub whole_call : EndsAgree l (call_step l i o) (run_of id id (weight_by o.maps (Call i)) t)
  whole_call = by_address at_site.to refl
