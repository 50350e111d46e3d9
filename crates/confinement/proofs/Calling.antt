-- The word after a call of a return word is fetched from the code of a site.
use Rattle.std.proofs.Common.{◌≡◌, inl, inr, ℕ, ◌+◌, ◌-◌, ◌≤◌, ℤ, pos, negsuc, Some, None, refl, sym, ap, ◌∙◌}
use Rattle.std.proofs.Common.{arith, subst}
use Rattle.std.specs.Prelude.{nat_le}
use Rattle.std.proofs.lemmas.Bool.{cases_lt, cases_eq, lt-leb, and_right, and_left}
use Rattle.cap_words.specs.declared.Word.{Word}
use Rattle.cap_words.specs.declared.Word.TheVariants.{Mem}
use Rattle.cap_words.specs.Face.{opened_of}
use Rattle.lcm_isa.specs.declared.Reg.TheVariants.{C1, C2}
use Rattle.lcm_isa.specs.declared.Instr.TheVariants.{Xjmp}
use Rattle.lcm_machine.specs.Maps.{State}
use Rattle.lcm_machine.specs.Row.{went, row}
use Rattle.lcm_machine.specs.Runs.{run_of, code_cap}
use Rattle.lcm_machine.specs.Refusals.{HasFailed}
use Rattle.lcm_machine.proofs.Offers.{failed_more}
use Rattle.call_sequence.specs.declared.TheConstants.{CALL_WORDS}
use Rattle.call_sequence.specs.Sequences.{split_word}
use Rattle.trusted_border.specs.declared.layout.Layout.{Layout}
use Rattle.trusted_border.specs.declared.layout.SiteCode.{SiteCode}
use Rattle.trusted_border.specs.Layout.{site_code}
use Rattle.overlay_machine.specs.declared.words.OWord.TheVariants.{RetCode}
use Rattle.overlay_machine.specs.State.{OState}
use Rattle.overlay_machine.specs.Flat.{flat, IsFlat}
use Rattle.overlay_machine.specs.Agree.{Looks, AtSite}
use Rattle.overlay_machine.proofs.Offers.{opened-code, lowest, outside, t15, plain_row}
use Rattle.confinement.proofs.Jumping.{id, Jumped, xjmp_jumped}
use Rattle.confinement.proofs.Pairs.{onto_site}

-- what has failed hasn't gone on
pub not_failed : (n m : ℕ) (s v : State Word) → HasFailed (run_of id id n s)
    → run_of id id (n + m) s ≡ went v
    → ⊥
not_failed n m s v h e =
    (let f : HasFailed (went v) = subst (λ r. HasFailed r) e (failed_more id id n m s h) in f)

module _ (l : Layout) (i : ℕ) (o : OState) (t : State Word) (r : AtSite l i o) (m : IsFlat l o t)
    (k : Looks l o) (j : ℕ) (e1 : o.maps.regs.c1 ≡ RetCode j) (v : State Word)
    (ran : run_of id id CALL_WORDS t ≡ went v)
  where
    abbrev OntoSite : Type 0
    OntoSite = (s : SiteCode) × (site_code l j ≡ Some s)
        × (v.regs.pc ≡ Mem (code_cap s.base s.end (s.at + CALL_WORDS)))

    above : (b : ℕ) → r.to ≡ pos (b + 1) → l.stack.base ≤ b → b + 1 ≤ r.end → OntoSite
    above b cursor low high =
        let from = t15 l i o t r m k b cursor low high in
        let jump : row id id (Xjmp C1 C2) (Mem (code_cap r.site.base r.site.end
        (r.site.at + CALL_WORDS))) from
        ≡ went v = sym (plain_row l i o t r m k b cursor low high) ∙ ran in
        let y : Jumped C1 C2 from v = xjmp_jumped from v C1 C2 _ jump in
        let c1_is : opened_of t.regs.c1 ≡ opened_of (flat l o.frames (RetCode j)) =
        ap opened_of (m.regs C1 ∙ ap (flat l o.frames) e1) in
        elim (opened-code l o.frames j (site_code l j) refl) as (λ _. OntoSite) [
          | inl h ↦ absurd (let bad : None ≡ Some y.code = sym (c1_is ∙ h) ∙ y.opens_code in cc)
          | inr h ↦ (h.0, h.1, (onto_site C1 C2 from v h.0 y (c1_is ∙ h.2)).1)
        ]

    at_address : (c : ℕ) → r.to ≡ pos c → OntoSite
    at_address c e = elim (cases_lt r.end c) as (λ _. OntoSite) [
      | inl past ↦
          absurd (not_failed 1 (CALL_WORDS - 1) t v
          (outside l i o t r m k (pos c)
          e (and_right (nat_le l.stack.base c) (nat_le c r.end) (lt-leb c r.end past))) ran)
      | inr le ↦ elim (cases_lt l.stack.base c) as (λ _. OntoSite) [
        | inl lt ↦
            (let one : c ≡ c - 1 + 1 =
            omega (arith, lt) in above (c - 1) (e ∙ ap pos one) (omega (arith, lt))
            (omega (arith, one, le)))
        | inr ge ↦ elim (cases_eq c l.stack.base) as (λ _. OntoSite) [
          | inl same ↦
              absurd (not_failed (split_word + 1) (CALL_WORDS - (split_word + 1)) t v
              (lowest l i o t r m k (e ∙ ap pos same) (omega (arith, same, le))) ran)
          | inr ne ↦
              absurd (not_failed 1 (CALL_WORDS - 1) t v
              (outside l i o t r m k (pos c)
              e (and_left (nat_le l.stack.base c) (nat_le c r.end)
              (lt-leb l.stack.base c (omega (arith, ge, ne))))) ran)
        ]
      ]
    ]

    by_address : (z : ℤ) → r.to ≡ z → OntoSite
    by_address (pos c) e = at_address c e
    by_address (negsuc c) e =
        absurd (not_failed 1 (CALL_WORDS - 1) t v (outside l i o t r m k (negsuc c) e refl) ran)

    -- pc is at the return of the word's site, if the call's `xjmp` went at all
    pub onto_return : OntoSite
    onto_return = by_address r.to refl
