-- An `xjmp` of a return word that goes: it was of the pair of an open call, and pc is after the call of its
-- site, with the call's range.
use Rattle.std.proofs.Common.{◌≡◌, ◌⊎◌, inl, inr, ℕ, ◌+◌, pos, true, false, Option, Some, None, refl, sym, ap}
use Rattle.std.proofs.Common.{◌∙◌}
use Rattle.std.specs.Prelude.{not}
use Rattle.cap_words.specs.declared.Word.{Word}
use Rattle.cap_words.specs.declared.Word.TheVariants.{Int, Mem}
use Rattle.cap_words.specs.declared.Content.TheVariants.{Mem as MemC}
use Rattle.cap_words.specs.declared.Opened.{Opened}
use Rattle.cap_words.specs.Face.{opened_of}
use Rattle.lcm_isa.specs.declared.Reg.{Reg}
use Rattle.lcm_isa.specs.declared.Instr.TheVariants.{Xjmp}
use Rattle.lcm_machine.specs.Maps.{State}
use Rattle.lcm_machine.specs.Places.{reg}
use Rattle.lcm_machine.specs.Table.{memory_content, unsealed, runs_in}
use Rattle.lcm_machine.specs.Row.{row, step_fetched, step_of, went}
use Rattle.lcm_machine.specs.Runs.{code_cap}
use Rattle.lcm_machine.proofs.Offers.{fetch_mapped}
use Rattle.call_sequence.specs.declared.TheConstants.{CALL_WORDS}
use Rattle.call_sequence.specs.SequenceRuns.{stack_cap}
use Rattle.trusted_border.specs.declared.layout.Layout.{Layout}
use Rattle.trusted_border.specs.declared.layout.SiteCode.{SiteCode}
use Rattle.trusted_border.specs.Layout.{site_code}
use Rattle.overlay_machine.specs.declared.words.OWord.{OWord}
use Rattle.overlay_machine.specs.declared.words.OWord.TheVariants.{Plain, RetCode, RetData}
use Rattle.overlay_machine.specs.Words.{look}
use Rattle.overlay_machine.specs.State.{OpenFrame, OState, frame_of}
use Rattle.overlay_machine.specs.Flat.{flat, flat_data, flat_range, beside, IsFlat}
use Rattle.overlay_machine.specs.Agree.{Looks, AtReturn}
use Rattle.overlay_machine.proofs.Offers.{beside-none, opened-code}
use Rattle.confinement.proofs.Jumping.{id, Jumped, xjmp_jumped}

-- the code of a site, under its seal
abbrev pub code_opened : SiteCode → Opened
code_opened s =
    record { seal = s.seal; content = MemC (code_cap s.base s.end (s.at + CALL_WORDS)) }

-- of an `xjmp` that goes onto it, pc is there
pub onto_site : (r1 r2 : Reg) (t u : State Word) (s : SiteCode) → (j : Jumped r1 r2 t u)
    → opened_of (reg t.regs r1) ≡ Some (code_opened s)
    → (j.code ≡ code_opened s) × (u.regs.pc ≡ Mem (code_cap s.base s.end (s.at + CALL_WORDS)))
onto_site r1 r2 t u s j e =
    let same : j.code ≡ code_opened s =
    (let h : Some j.code ≡ Some (code_opened s) = sym j.opens_code ∙ e in cc) in
    let cap : j.cap ≡ code_cap s.base s.end (s.at + CALL_WORDS) =
    (let h : Some j.cap ≡ Some (code_cap s.base s.end (s.at + CALL_WORDS)) =
    sym j.memory ∙ ap (λ (y : Opened). memory_content y.content) same in cc) in
    (same, j.pc ∙ ap Mem cap)

module _ (l : Layout) (r1 r2 : Reg) (o : OState) (t : State Word) (rd : AtReturn l r1 r2 o)
    (m : IsFlat l o t) (k : Looks l o) where
  pub record OfPair (u : State Word) : Type 0 where
    pub call : ℕ
    pub data_is : reg o.maps.regs r2 ≡ RetData call
    pub frame : OpenFrame
    pub frame_is : frame_of o.frames call ≡ Some frame
    pub site : SiteCode
    pub site_is : site_code l frame.site ≡ Some site
    pub pc : u.regs.pc ≡ Mem (code_cap site.base site.end (site.at + CALL_WORDS))
    pub dat : u.regs.dat ≡ Mem (stack_cap frame.base frame.end frame.base)
    pub stk : (u.regs.stk ≡ t.regs.stk) ⊎ (u.regs.stk ≡ Int (pos 0))
    pub cells : u.cells ≡ t.cells

  jump_is : step_of id id t ≡ row id id (Xjmp r1 r2) rd.next t
  unfolding step_of
  jump_is =
      ap (step_fetched id id t)
      (fetch_mapped look id (flat l o.frames) (beside l o.frames)
      o.maps t m k.0 (λ a e. beside-none l o.frames a (rd.free a e)) ∙ rd.fetched)

  module _ (i : ℕ) (e1 : reg o.maps.regs r1 ≡ RetCode i) (u : State Word) (goes : step_of id id t ≡ went u)
    where
      j : Jumped r1 r2 t u
      j = xjmp_jumped t u r1 r2 rd.next (sym jump_is ∙ goes)

      first_is : opened_of (reg t.regs r1) ≡ opened_of (flat l o.frames (RetCode i))
      first_is = ap opened_of (m.regs r1 ∙ ap (flat l o.frames) e1)

      second_is : (y : OWord) → reg o.maps.regs r2 ≡ y → opened_of (flat l o.frames y) ≡ Some j.half
      second_is y e = sym (ap opened_of (m.regs r2 ∙ ap (flat l o.frames) e)) ∙ j.opens_half

      is_none : opened_of (flat l o.frames (RetCode i)) ≡ None → OfPair u
      is_none h = absurd (let bad : None ≡ Some j.code = sym h ∙ sym first_is ∙ j.opens_code in cc)

      module _ (s : SiteCode) (es : site_code l i ≡ Some s)
          (h : opened_of (flat l o.frames (RetCode i)) ≡ Some (code_opened s)) where
        onto : (j.code ≡ code_opened s) × (u.regs.pc ≡ Mem (code_cap s.base s.end (s.at + CALL_WORDS)))
        onto = onto_site r1 r2 t u s j (first_is ∙ h)

        half_seal : j.half.seal ≡ s.seal
        half_seal = sym j.one_seal ∙ ap (λ (y : Opened). y.seal) onto.0

        plain_second : (w : Word) → reg o.maps.regs r2 ≡ Plain w → OfPair u
        unfolding flat
        plain_second w e =
            absurd (rd.foreign r2 w (inr refl) e j.half i s (second_is (Plain w) e) es half_seal)

        code_second : (n : ℕ) → reg o.maps.regs r2 ≡ RetCode n → OfPair u
        code_second n e = elim (opened-code l o.frames n (site_code l n) refl) as (λ _. OfPair u) [
          | inl x ↦ absurd (let bad : None ≡ Some j.half = sym x ∙ second_is (RetCode n) e in cc)
          | inr x ↦
              absurd (let same : j.half ≡ code_opened x.0 =
              (let q : Some j.half ≡ Some (code_opened x.0) = sym (second_is (RetCode n) e) ∙ x.2 in cc) in
              let bad : false ≡ true =
              sym (ap (λ (y : Opened). not (runs_in y.content)) same) ∙ j.no_code in cc)
        ]

        by_site : (n : ℕ) → reg o.maps.regs r2 ≡ RetData n → (f : OpenFrame) → frame_of o.frames n ≡ Some f
            → (z : Option SiteCode) → site_code l f.site ≡ z → OfPair u
        unfolding flat
        by_site n e f ef None ez =
            absurd (let bad : None ≡ Some j.half =
            sym (ap (λ x. opened_of (flat_data l x)) ef ∙ ap (λ x. opened_of (flat_range f x)) ez)
            ∙ second_is (RetData n) e in cc)
        by_site n e f ef (Some z) ez =
            let it : Opened = record { seal = z.seal; content = MemC (stack_cap f.base f.end f.base) } in
            let same : j.half ≡ it =
            (let q : Some j.half ≡ Some it = sym (second_is (RetData n) e)
            ∙ ap (λ x. opened_of (flat_data l x)) ef ∙ ap (λ x. opened_of (flat_range f x)) ez in cc) in
            let one : i ≡ f.site =
            rd.one_seal i f.site s z es ez (sym half_seal ∙ ap (λ (y : Opened). y.seal) same) in
            record {
              call = n;
              data_is = e;
              frame = f;
              frame_is = ef;
              site = s;
              site_is = sym (ap (site_code l) one) ∙ es;
              pc = onto.1;
              dat = j.dat ∙ ap (λ (y : Opened). unsealed y.content) same;
              stk = j.stk;
              cells = j.cells;
            }

        by_frame : (n : ℕ) → reg o.maps.regs r2 ≡ RetData n → (f : Option OpenFrame)
            → frame_of o.frames n ≡ f → OfPair u
        unfolding flat
        by_frame n e None ef =
            absurd (let bad : None ≡ Some j.half =
            sym (ap (λ x. opened_of (flat_data l x)) ef) ∙ second_is (RetData n) e in cc)
        by_frame n e (Some f) ef = by_site n e f ef (site_code l f.site) refl

        by_second : (y : OWord) → reg o.maps.regs r2 ≡ y → OfPair u
        by_second (Plain w) e = plain_second w e
        by_second (RetCode n) e = code_second n e
        by_second (RetData n) e = by_frame n e (frame_of o.frames n) refl

      -- it was of a pair
      pub of_pair : OfPair u
      of_pair = elim (opened-code l o.frames i (site_code l i) refl) as (λ _. OfPair u) [
        | inl h ↦ is_none h
        | inr h ↦ by_second h.0 h.1 h.2 (reg o.maps.regs r2) refl
      ]
