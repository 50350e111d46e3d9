-- Where an instruction comes from outside all trusted code, it is the first of an overlay step, of untrusted
-- code, and all registers are safe.
use Rattle.std.proofs.Common.{◌≡◌, inl, inr, ℕ, zero, suc, ◌+◌, ◌<◌, Some, refl, sym, ap, ◌∙◌, subst, arith}
use Rattle.std.specs.Prelude.{if◌then◌else◌}
use Rattle.std.proofs.lemmas.Bool.{cases_lt}
use Rattle.cap_words.specs.declared.Word.{Word}
use Rattle.cap_words.specs.declared.Word.TheVariants.{Mem}
use Rattle.lcm_isa.specs.declared.Reg.{Reg}
use Rattle.lcm_isa.specs.declared.Reg.TheVariants.{Pc, Stk}
use Rattle.lcm_machine.specs.Maps.{State}
use Rattle.lcm_machine.specs.Places.{reg}
use Rattle.lcm_machine.specs.Row.{went, faces, cell_faces, fetch}
use Rattle.lcm_machine.specs.Runs.{run_of, code_cap}
use Rattle.lcm_machine.specs.Acts.{Fetches}
use Rattle.call_sequence.specs.declared.TheConstants.{CALL_WORDS, RETURN_WORDS, ENTRY_WORDS}
use Rattle.call_sequence.specs.SequenceRuns.{stack_cap}
use Rattle.call_sequence.specs.SequenceWords.{IsInRange}
use Rattle.call_sequence.proofs.Offers.{call_words, entry_words}
use Rattle.call_sequence.specs.Holds.{code_at}
use Rattle.linked_starts.specs.Parts.{PartSeen}
use Rattle.trusted_border.specs.declared.layout.Layout.{Layout}
use Rattle.trusted_border.specs.declared.layout.SiteCode.{SiteCode}
use Rattle.trusted_border.specs.Layout.{site_code}
use Rattle.overlay_machine.specs.declared.cases.Case.{Case}
use Rattle.overlay_machine.specs.declared.cases.Case.TheVariants.{Call, Entry, Back, Other}
use Rattle.overlay_machine.specs.declared.words.OWord.{OWord}
use Rattle.overlay_machine.specs.declared.words.OWord.TheVariants.{Plain, RetCode, RetData}
use Rattle.overlay_machine.specs.Words.{look, is_ret_code}
use Rattle.overlay_machine.specs.State.{OState}
use Rattle.overlay_machine.specs.Step.{case_fetched, case_of, weight_by, weight_of}
use Rattle.overlay_machine.specs.Flat.{IsFlat}
use Rattle.overlay_machine.specs.Agree.{Looks, HasSite, ReadyFor, AtSite, AtEntry, AtReturn}
use Rattle.overlay_machine.specs.Link.{Link, IsTrusted, IsOpenAt, ranges_of}
use Rattle.overlay_machine.specs.Linked.{IsLink}
use Rattle.overlay_machine.specs.Safe.{IsSafe}
use Rattle.overlay_machine.specs.Invariant.{Invariant}
use Rattle.overlay_machine.proofs.Offers.{View, at_entry, in_part, failing, out, view, looks, ready, flat-mem}
use Rattle.overlay_machine.proofs.Offers.{HasCall-flat, HasEntry-flat, never_entry}
use Rattle.headline.proofs.Offers.{first_step, run_none}
use Rattle.confinement.proofs.Jumping.{id, fetched_in}
use Rattle.confinement.proofs.Pairs.{of_pair}
use Rattle.confinement.proofs.Returning.{in_site}
use Rattle.confinement.proofs.Calling.{onto_return}

module _ (g : Link) (linked : IsLink g) (o : OState) (t : State Word) (inv : Invariant g o t) where
  abbrev l : Layout
  l = g.layout

  m : IsFlat l o t
  m = inv.flat

  k : Looks l o
  k = looks g linked o t inv

  -- all registers are safe, and no site or entry comes
  pub record IsOutside : Type 0 where
    pub safe : (r : Reg) → IsSafe g o.frames (reg o.maps.regs r)
    pub case_is : case_of l o.maps
        ≡ case_fetched o.maps (fetch (faces look o.maps Pc) (cell_faces look o.maps))

  module _ (i : ℕ) (v : State Word) (ran : run_of id id i t ≡ went v) (a : ℕ) (f : Fetches id v a)
      (away : IsOpenAt g a) where
    abbrev Comes : Type 0
    Comes = (i ≡ 0) × IsOutside

    -- it isn't a trusted part's code
    no_part : (p : PartSeen) → IsTrusted g p → IsInRange a (ranges_of p).code_base (ranges_of p).code_last
        → Comes
    no_part p ip y =
        let low = y.0 in
        let high = y.1 in
        absurd (elim (away p ip) as (λ _. ⊥) [
          | inl z ↦ omega (arith, z, low)
          | inr z ↦ omega
              (arith, z, high)
        ])

    no_site : (j : ℕ) (s : SiteCode) → site_code l j ≡ Some s → IsInRange a s.base s.end → Comes
    no_site j s e y =
        let k = linked.sites j s e in
        let st = k.3 in
        no_part k.0 k.2 (subst (λ b. IsInRange a b (ranges_of k.0).code_last) st.base_is
        (subst (λ b. IsInRange a s.base b) st.end_is y))

    no_pc : (p : PartSeen) (off : ℕ) → IsTrusted g p → t.regs.pc ≡ Mem (code_at (ranges_of p) off) → i ≡ 0
        → Comes
    no_pc p off ip e z =
        let same : t ≡ v = run_none t v (subst (λ n. run_of id id n t ≡ went v) z ran) in
        no_part p ip (fetched_in v (code_at (ranges_of p) off) a
        (ap (λ (y : State Word). y.regs.pc) (sym same) ∙ e) f)

    -- ---- a call

    call_comes : (s : ℕ) → AtSite l s o → i < weight_by o.maps (Call s) → Comes
    call_comes s r lt = by_word o.maps.regs.c1 refl
      where
        few : i < CALL_WORDS → Comes
        few less =
            let its : HasSite l o.maps.cells r.site = r.sites s r.site r.is_site in
            let top = r.in_stack in
            let w = call_words id id (λ y. refl) t r.site.base r.site.end r.site.at r.site.seal
            (record (stack_cap l.stack.base r.end 0) { addr = r.to })
            (HasCall-flat l o t m k r.site.base r.site.end r.site.at r.site.seal its.call)
            (m.regs Pc ∙ flat-mem l o.frames _ _ r.pc) (m.regs Stk ∙ flat-mem l o.frames _ _ r.stk)
            (λ q y. its.apart q y.0 (let z = y.1 in omega (arith, z, top))) i v less ran in
            no_site s r.site r.is_site (elim (w.touches a (inl f)) as
            (λ _. IsInRange a r.site.base r.site.end) [
              | inl y ↦ y
              | inr y ↦ fetched_in v (code_cap r.site.base r.site.end (r.site.at + i)) a y.0 f
            ])

        by_word : (y : OWord) → o.maps.regs.c1 ≡ y → Comes
        by_word (Plain z) e =
            (let n : weight_by o.maps (Call s) ≡ CALL_WORDS =
            ap (λ y. if is_ret_code y then CALL_WORDS + 1 else CALL_WORDS) e in few (omega (arith, lt, n)))
        by_word (RetData z) e =
            (let n : weight_by o.maps (Call s) ≡ CALL_WORDS =
            ap (λ y. if is_ret_code y then CALL_WORDS + 1 else CALL_WORDS) e in few (omega (arith, lt, n)))
        by_word (RetCode j) e = elim (cases_lt i CALL_WORDS) as (λ _. Comes) [
          | inl less ↦ few less
          | inr ge ↦ (let n : weight_by o.maps (Call s)
              ≡ (CALL_WORDS + 1) = ap (λ y. if is_ret_code y then CALL_WORDS + 1 else CALL_WORDS) e in
              let last : i ≡ CALL_WORDS = omega (arith, lt, n, ge) in
              let x = onto_return l s o t r m k j e v (subst (λ y. run_of id id y t ≡ went v) last ran) in
              no_site j x.0 x.1
              (fetched_in v (code_cap x.0.base x.0.end (x.0.at + CALL_WORDS)) a x.2 f))
        ]

    -- ---- an entry

    entry_comes : (at : ℕ) (p : PartSeen) (off : ℕ) → IsTrusted g p
        → look o.maps.regs.pc ≡ Mem (code_at (ranges_of p) off) → AtEntry l at o → i < ENTRY_WORDS → Comes
    entry_comes at p off ip here r lt =
        let c : code_cap r.base r.end at ≡ code_at (ranges_of p) off =
        (let s : Mem (code_cap r.base r.end at) ≡ Mem (code_at
        (ranges_of p) off) = sym r.pc ∙ here in cc) in
        let w = entry_words id id (λ y. refl) t r.base r.end at l.stack.base
        (HasEntry-flat l o t m k r.base r.end at l.stack.base r.entry)
        (m.regs Pc ∙ flat-mem l o.frames _ _ r.pc)
        r.small_stack i v lt ran in
        no_part p ip (subst (λ b. IsInRange a b (ranges_of p).code_last) (ap (λ y. y.base) c)
        (subst (λ b. IsInRange a r.base b) (ap (λ y. y.end) c)
        (elim (w.touches a (inl f)) as (λ _. IsInRange a r.base r.end) [ inl y ↦ y | inr y ↦ absurd y.1 ])))

    -- ---- an `xjmp` of a return word, and what comes after it

    back_comes : (r1 r2 : Reg) → AtReturn l r1 r2 o → i < weight_by o.maps (Back r1 r2) → (i ≡ 0 → Comes)
        → Comes
    back_comes r1 r2 rd lt first = by_word (reg o.maps.regs r1) refl
      where
        behind : (j word : ℕ) → reg o.maps.regs r1 ≡ RetCode j → i ≡ suc word → word < RETURN_WORDS → Comes
        behind j word e z less =
            let s = first_step word t v (subst (λ n. run_of id id n t ≡ went v) z ran) in
            let p = of_pair l r1 r2 o t rd m k j e s.0 s.1 in
            no_site p.frame.site p.site p.site_is
            (in_site l r1 r2 o t rd m k s.0 p word less v s.2 a f)

        by_count : (j n : ℕ) → reg o.maps.regs r1 ≡ RetCode j → i ≡ n → n < RETURN_WORDS + 1 → Comes
        by_count j zero e z less = first z
        by_count j (suc word) e z less = behind j word e z (omega (arith, less))

        by_word : (y : OWord) → reg o.maps.regs r1 ≡ y → Comes
        by_word (Plain w) e =
            (let n : weight_by o.maps (Back r1 r2) ≡ 1 =
            ap (λ z. if is_ret_code z then RETURN_WORDS + 1 else 1) e in first (omega (arith, lt, n)))
        by_word (RetData w) e =
            (let n : weight_by o.maps (Back r1 r2) ≡ 1 =
            ap (λ z. if is_ret_code z then RETURN_WORDS + 1 else 1) e in first (omega (arith, lt, n)))
        by_word (RetCode j) e =
            (let n : weight_by o.maps (Back r1 r2) ≡ RETURN_WORDS + 1 =
            ap (λ z. if is_ret_code z then RETURN_WORDS + 1 else 1) e in
            by_count j i e refl (omega (arith, lt, n)))

    -- ---- whatever comes

    pub comes : i < weight_of l o → Comes
    unfolding weight_of
    comes lt =
        by_view (case_of l o.maps) refl (view g linked o.frames o.maps inv.code inv.pc)
        (ready g linked o t inv) lt
      where
        at_part : (p : PartSeen) (off : ℕ) → look o.maps.regs.pc ≡ Mem (code_at (ranges_of p) off)
            → t.regs.pc ≡ Mem (code_at (ranges_of p) off)
        at_part p off h = m.regs Pc ∙ flat-mem l o.frames _ _ h

        by_view : (c : Case) → case_of l o.maps ≡ c → View g o.frames o.maps c → ReadyFor l o c
            → i < weight_by o.maps c → Comes
        by_view (Call s) is y r less = call_comes s r less
        by_view (Entry at) is (at_entry p off ip ea en st) r less = entry_comes at p off ip st.at_pc r less
        by_view (Entry at) is (in_part p off ip ne ns st ec) r less = absurd (never_entry o.maps _ at ec)
        by_view (Entry at) is (out h ec) r less = absurd (never_entry o.maps _ at ec)
        by_view (Back r1 r2) is (in_part p off ip ne ns st ec) r less =
            back_comes r1 r2 r less (no_pc p off ip (at_part p off st.at_pc))
        by_view (Back r1 r2) is (out h ec) r less =
            back_comes r1 r2 r less (λ z. (z, record { safe = h; case_is = is ∙ ec }))
        by_view Other is (failing next p off ip inside h fetched) r less =
            no_pc p off ip (at_part p off h) (omega (arith, less))
        by_view Other is (in_part p off ip ne ns st ec) r less =
            no_pc p off ip (at_part p off st.at_pc) (omega (arith, less))
        by_view Other is (out h ec) r less =
            (omega (arith, less), record { safe = h; case_is = is ∙ ec })
