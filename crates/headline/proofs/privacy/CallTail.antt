-- The word after a call of a return pair: it is the first of a return, and touches no address of the stack.
use Rattle.std.proofs.Common.{◌≡◌, inl, inr, ℕ, ◌+◌, ◌-◌, ◌≤◌, ℤ, pos, negsuc, Some, None, refl, sym, ap, ◌∙◌}
use Rattle.std.proofs.Common.{arith}
use Rattle.std.specs.Prelude.{nat_le}
use Rattle.std.proofs.lemmas.Bool.{cases_lt, cases_eq, lt-leb, and_right, and_left}
use Rattle.cap_words.specs.declared.Word.{Word}
use Rattle.cap_words.specs.declared.Word.TheVariants.{Mem}
use Rattle.cap_words.specs.declared.Content.TheVariants.{Mem as MemC}
use Rattle.cap_words.specs.Face.{opened_of}
use Rattle.lcm_isa.specs.declared.Reg.TheVariants.{C1, C2}
use Rattle.lcm_isa.specs.declared.Instr.TheVariants.{Xjmp}
use Rattle.lcm_machine.specs.Maps.{State}
use Rattle.lcm_machine.specs.Row.{went, row}
use Rattle.lcm_machine.specs.Runs.{run_of, code_cap}
use Rattle.lcm_machine.specs.Touched.{Touches}
use Rattle.call_sequence.specs.declared.TheConstants.{CALL_WORDS}
use Rattle.call_sequence.specs.Sequences.{split_word}
use Rattle.call_sequence.proofs.Offers.{HasReturn-set, return_words}
use Rattle.trusted_border.specs.declared.layout.Layout.{Layout}
use Rattle.trusted_border.specs.declared.layout.SiteCode.{SiteCode}
use Rattle.trusted_border.specs.Layout.{site_code}
use Rattle.overlay_machine.specs.declared.words.OWord.TheVariants.{RetCode}
use Rattle.overlay_machine.specs.State.{OState}
use Rattle.overlay_machine.specs.Flat.{flat, IsFlat}
use Rattle.overlay_machine.specs.Agree.{Looks, AtSite}
use Rattle.overlay_machine.proofs.Offers.{HasReturn-flat, opened-code, lowest, outside, t15, plain_row}
use Rattle.headline.proofs.alike.Calm.{id}
use Rattle.headline.proofs.alike.Returns.{return_kept}
use Rattle.headline.proofs.alike.Lands.{xjmp_lands, xjmp_opens}
use Rattle.headline.proofs.privacy.TouchAt.{not_failed}
use Rattle.headline.proofs.privacy.SequencesSpare.{not_inside}

module _ (l : Layout) (i : ℕ) (o : OState) (t : State Word) (r : AtSite l i o) (m : IsFlat l o t)
    (k : Looks l o) (a : ℕ) (low_a : l.stack.base ≤ a) (high_a : a ≤ l.stack.end) (j : ℕ)
    (e1 : o.maps.regs.c1 ≡ RetCode j) (v : State Word) (ran : run_of id id CALL_WORDS t ≡ went v)
    (x : Touches id v a)
  where
    module _ (b : ℕ) (cursor : r.to ≡ pos (b + 1)) (low : l.stack.base ≤ b) (high : b + 1 ≤ r.end) where
      abbrev s15 : State Word
      s15 = t15 l i o t r m k b cursor low high

      jump : row id id (Xjmp C1 C2) (Mem (code_cap r.site.base r.site.end (r.site.at + CALL_WORDS))) s15
          ≡ went v
      jump = sym (plain_row l i o t r m k b cursor low high) ∙ ran

      c1_is : opened_of t.regs.c1 ≡ opened_of (flat l o.frames (RetCode j))
      c1_is = ap opened_of (m.regs C1 ∙ ap (flat l o.frames) e1)

      at_return : (s : SiteCode) → site_code l j ≡ Some s
          → opened_of t.regs.c1
          ≡ Some (record { seal = s.seal; content = MemC (code_cap s.base s.end (s.at + CALL_WORDS)) })
          → ⊥
      unfolding run_of
      at_return s es e =
          let its = r.sites j s es in
          let back = HasReturn-flat l o t m k s.base s.end (s.at + CALL_WORDS) l.stack.base its.back in
          let h = r.in_stack in
          let top = r.small_stack in
          let set = HasReturn-set id t.cells s.base s.end (s.at + CALL_WORDS) l.stack.base (b + 1)
          t.regs.dat (its.apart (b + 1) (omega (arith, low)) (omega (arith, high, h))) back in
          let y = xjmp_lands s15 v C1 C2 _ s.seal (code_cap s.base s.end (s.at + CALL_WORDS)) e jump in
          let there = return_kept s15 v s.base s.end (s.at + CALL_WORDS) l.stack.base y.1 set in
          elim ((return_words id id (λ z. refl) v s.base s.end (s.at + CALL_WORDS) l.stack.base there y.0
          (omega (arith, low, high, h, top)) 0 v (omega arith) refl).touches a x) as (λ _. ⊥) [
            | inl z ↦ not_inside a s.base s.end (its.apart a low_a high_a) z
            | inr z ↦ elim z.1 as (λ _. ⊥) [ inl q ↦ omega (arith, q) | inr q ↦ omega (arith, q) ]
          ]

      above : ⊥
      above = elim (opened-code l o.frames j (site_code l j) refl) as (λ _. ⊥) [
        | inl h ↦
            (let y = xjmp_opens s15 v C1 C2 _ jump in let bad : None ≡ Some y.0 = sym (c1_is ∙ h) ∙ y.1 in cc)
        | inr h ↦ at_return h.0 h.1 (c1_is ∙ h.2)
      ]

    at_address : (c : ℕ) → r.to ≡ pos c → ⊥
    at_address c e = elim (cases_lt r.end c) as (λ _. ⊥) [
      | inl past ↦
          not_failed 1 (CALL_WORDS - 1) t v
          (outside l i o t r m k (pos c)
          e (and_right (nat_le l.stack.base c) (nat_le c r.end) (lt-leb c r.end past))) ran
      | inr le ↦ elim (cases_lt l.stack.base c) as (λ _. ⊥) [
        | inl lt ↦
            (let one : c ≡ c - 1 + 1 =
            omega (arith, lt) in above (c - 1) (e ∙ ap pos one) (omega (arith, lt)) (omega (arith, one, le)))
        | inr ge ↦ elim (cases_eq c l.stack.base) as (λ _. ⊥) [
          | inl same ↦
              not_failed (split_word + 1) (CALL_WORDS - (split_word + 1)) t v
              (lowest l i o t r m k (e ∙ ap pos same) (omega (arith, same, le))) ran
          | inr ne ↦
              not_failed 1 (CALL_WORDS - 1) t v
              (outside l i o t r m k (pos c)
              e (and_left (nat_le l.stack.base c) (nat_le c r.end)
              (lt-leb l.stack.base c (omega (arith, ge, ne))))) ran
        ]
      ]
    ]

    by_address : (z : ℤ) → r.to ≡ z → ⊥
    by_address (pos c) e = at_address c e
    by_address (negsuc c) e = not_failed 1 (CALL_WORDS - 1) t v (outside l i o t r m k (negsuc c) e refl) ran

    -- pc is at the return of the pair's site, if the call's `xjmp` went at all
    pub tail_spares : ⊥
    tail_spares = by_address r.to refl
