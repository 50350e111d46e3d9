-- A call and a return of the overlay, from a state of which so much is known.
use Rattle.std.proofs.Common.{◌≡◌, ℕ, zero, suc, ◌+◌, ◌-◌, pos, true, false, List, [], ◌∷◌, Option, Some}
use Rattle.std.proofs.Common.{None, refl, sym, ap, ◌∙◌, inl, inr, ◌⊎◌, ◌<◌, ◌≤◌, is_some, eq-eqb, arith}
use Rattle.std.specs.Prelude.{◌==◌, ◌&&◌, nat_le, int_lt, if◌then◌else◌, option_map, option_and_then}
use Rattle.std.specs.Prelude.{unwrap_or}
use Rattle.std.proofs.lemmas.Bool.{cases_Bool, cases_lt}
use Rattle.cap_words.specs.declared.Word.TheVariants.{Int}
use Rattle.cap_words.specs.declared.CapFields.{CapFields}
use Rattle.cap_words.specs.Faces.{address, covers}
use Rattle.cap_words.specs.Linear.{zero_word}
use Rattle.lcm_isa.specs.declared.Reg.{Reg}
use Rattle.lcm_isa.specs.declared.Reg.TheVariants.{C1, C2}
use Rattle.lcm_isa.specs.declared.Instr.TheVariants.{Xjmp}
use Rattle.lcm_machine.specs.declared.cells.Span.{Span}
use Rattle.lcm_machine.specs.Places.{reg}
use Rattle.lcm_machine.specs.Cells.{cell, all_there, words_from, without, put_back}
use Rattle.lcm_machine.specs.Row.{faces, some, row, went}
use Rattle.lcm_machine.proofs.Offers.{cell-without_out}
use Rattle.trusted_border.specs.declared.layout.Layout.{Layout}
use Rattle.trusted_border.specs.declared.layout.SiteCode.{SiteCode}
use Rattle.trusted_border.specs.Layout.{site_code}
use Rattle.overlay_machine.specs.declared.words.OWord.{OWord}
use Rattle.overlay_machine.specs.declared.words.OWord.TheVariants.{Plain, RetCode, RetData}
use Rattle.overlay_machine.specs.declared.cases.Case.TheVariants.{Call, Back}
use Rattle.overlay_machine.specs.Words.{is_plain, look}
use Rattle.overlay_machine.specs.State.{OpenFrame, OState, Cells}
use Rattle.overlay_machine.specs.Step.{goes, ask, need, own_stack, call_step, return_step, step_by}
use Rattle.overlay_machine.specs.Step.{overlay_step, rest_words}
use Rattle.known_steps.specs.Known.{Known, Changes, word_since, AreIn, Partly, blank, knows, by_fetched}
use Rattle.known_steps.specs.Known.{case_by, at_pc, words_since, gone, restored, at_xjmp, behind_return}
use Rattle.known_steps.proofs.Known.{set_in, with_cells, case_known, fetched_goes}

-- ---- memory

module _ (k : Known) where
  -- what is known of a cell that isn't one of those taken away
  gone_out : (a n : ℕ) (cs : Changes) (q : ℕ) (w : OWord) → word_since k (gone a n cs) q ≡ Some w
      → ((q < a) ⊎ (a + n ≤ q)) × (word_since k cs q ≡ Some w)
  gone_out a zero cs q w e = (
    elim (cases_lt q a) as (λ _. (q < a) ⊎ (a + 0 ≤ q)) [
      | inl lt ↦ inl lt
      | inr ge ↦ inr (omega (arith, ge))
    ],
    e,
  )
  gone_out a (suc n) cs q w e = elim (cases_Bool (q == a))
      as (λ _. ((q < a) ⊎ (a + suc n ≤ q)) × (word_since k cs q ≡ Some w)) [
        | inl is ↦
            let bad : None ≡ Some w =
            sym (ap (λ b. if b then None else word_since k (gone (a + 1) n cs) q) is) ∙ e in
            absurd cc
        | inr no_ ↦
            let r = gone_out (a + 1) n cs q w
            (sym (ap (λ b. if b then None else word_since k (gone (a + 1) n cs) q) no_) ∙ e) in
            let ne : (q ≡ a) → ⊥ = λ same. (let bad : true ≡ false = sym (eq-eqb q a same) ∙ no_ in cc) in (
              elim r.0 as (λ _. (q < a) ⊎ (a + suc n ≤ q)) [
                | inl lt ↦ inl (omega (arith, lt, ne))
                | inr ge ↦ inr (omega (arith, ge))
              ],
              r.1,
            )
      ]

  gone_in : (a n e : ℕ) (cs : Changes) (m : Cells) → e + 1 ≡ a + n → AreIn k cs m
      → AreIn k (gone a n cs) (without m a e)
  gone_in a n e cs m same h q w is =
      let r = gone_out a n cs q w is in
      cell-without_out m a e q (elim r.0 as (λ _. (q < a) ⊎ (e < q)) [
        | inl lt ↦ inl lt
        | inr ge ↦ inr (omega (arith, ge, same))
      ])
      ∙ h q w r.1

  restored_in : (a : ℕ) (ws : List OWord) (cs : Changes) (m : Cells) → AreIn k cs m
      → AreIn k (restored a ws cs) (put_back m a ws)
  unfolding put_back
  restored_in a [] cs m h = h
  restored_in a (w ∷ ws) cs m h = restored_in (a + 1) ws _ _ (set_in k cs m a w h)

  words_by : (a n : ℕ) (cs : Changes) (m : Cells) (x : Option OWord) (o : Option (List OWord))
      (vs : List OWord)
      → AreIn k cs m → word_since k cs a ≡ x → words_since k cs (a + 1) n ≡ o
      → option_and_then (λ w. option_map (λ ws. w ∷ ws) o) x ≡ Some vs
      → (w : OWord) × (ws : List OWord) × (cell m a ≡ Some w) × (o ≡ Some ws) × (vs ≡ w ∷ ws)
  words_by a n cs m None o vs h x e is = absurd cc
  words_by a n cs m (Some w) None vs h x e is = absurd cc
  words_by a n cs m (Some w) (Some ws) vs h x e is = (w, ws, h a w x, refl, cc)

  words_known : (a n : ℕ) (cs : Changes) (m : Cells) (ws : List OWord) → AreIn k cs m
      → words_since k cs a n ≡ Some ws
      → (all_there m a n ≡ true) × (words_from Plain m a n ≡ ws)
  unfolding all_there words_from
  words_known a zero cs m ws h e = (refl, cc)
  words_known a (suc n) cs m ws h e =
      let p = words_by a n cs m _ _ ws h refl refl e in
      let r = words_known (a + 1) n cs m p.1 h p.3 in (
        ap (λ x. is_some x && all_there m (a + 1) n) p.2 ∙ r.0,
        ap (λ x. unwrap_or x (zero_word Plain) ∷ words_from Plain m (a + 1) n) p.2
            ∙ ap (λ vs. p.0 ∷ vs) r.1 ∙ sym p.4,
      )

  -- those after the first one
  behind_first : (a n : ℕ) (cs : Changes) (m : Cells) (w : OWord) (ws : List OWord) → AreIn k cs m
      → words_since k cs a (suc n) ≡ Some (w ∷ ws) → words_from Plain m (a + 1) n ≡ ws
  behind_first a n cs m w ws h e =
      let p = words_by a n cs m _ _ (w ∷ ws) h refl refl e in
      let same : p.1 ≡ ws = cc in
      (words_known (a + 1) n cs m p.1 h p.3).1 ∙ same

-- ---- the steps

module _ (k : Known) (spans : List Span) (l : Layout) (n : ℕ) (fs : List OpenFrame) where
  -- the overlay comes to what is known, with these frames
  abbrev pub CrossesTo : Partly → List OpenFrame → ℕ → OState → Type 0
  CrossesTo t gs j o =
      (m : Cells) × AreIn k t.changes m
      × (overlay_step l o ≡ goes (record { maps = with_cells k spans t m; frames = gs; calls = j }))

  -- the frame from an address of the stack to its end, of so many words after the first one
  module _ (s t : Partly) (m : Cells) (i j : ℕ) (e : SiteCode) (c : CapFields) (w : OWord) (ws : List OWord)
      (h : AreIn k s.changes m) (far : c.end + 1 - address c.addr ≡ suc j) (near : c.end - address c.addr ≡ j)
    where
      abbrev pub made_frame : OpenFrame
      made_frame = record { call = n; site = i; base = address c.addr; end = c.end; words = s.regs.dat ∷ ws }

      call_goes : site_code l i ≡ Some e → own_stack l (with_cells k spans s m) ≡ Some c
          → (int_lt (pos l.stack.base) c.addr && covers c c.addr) ≡ true → nat_le c.end l.stack.end ≡ true
          → words_since k s.changes (address c.addr) (suc j) ≡ Some (w ∷ ws)
          → (is_plain s.regs.c1 && is_plain s.regs.c2) ≡ true → (m' : Cells)
          → row look Plain (Xjmp C1 C2) (Int (pos 0)) (with_cells k spans (at_xjmp i e c j n s)
          (without m (address c.addr) c.end)) ≡ went (with_cells k spans t m')
          → call_step l i (record { maps = with_cells k spans s m; frames = fs; calls = n })
          ≡ goes (record { maps = with_cells k spans t m'; frames = made_frame ∷ fs; calls = n + 1 })
      unfolding call_step need ask
      call_goes site own room top known plain m' jumps =
          let a = address c.addr in
          let there = words_known k a (suc j) s.changes m (w ∷ ws) h known in
          let all : (all_there m a (c.end + 1 - a) && nat_le c.end l.stack.end) ≡ true =
          ap (λ x. all_there m a x && nat_le c.end l.stack.end) far
          ∙ ap (λ b. b && nat_le c.end l.stack.end) there.0 ∙ top in
          let rest : words_from Plain m (a + 1) (c.end - a) ≡ ws =
          ap (words_from Plain m (a + 1)) near ∙ behind_first k a j s.changes m w ws h known in
          rw (site, own, room, all, plain, rest, jumps) refl

      pub call_known : knows k s (at_pc k s) ≡ true → case_by k l s ≡ Call i → site_code l i ≡ Some e
          → own_stack l (blank s.regs) ≡ Some c
          → (int_lt (pos l.stack.base) c.addr && covers c c.addr) ≡ true → nat_le c.end l.stack.end ≡ true
          → words_since k s.changes (address c.addr) (suc j) ≡ Some (w ∷ ws)
          → (is_plain s.regs.c1 && is_plain s.regs.c2) ≡ true
          → by_fetched k (at_xjmp i e c j n s) (some (Xjmp C1 C2) (Int (pos 0))) ≡ Some t
          → CrossesTo t (made_frame ∷ fs) (n + 1)
          (record { maps = with_cells k spans s m; frames = fs; calls = n })
      unfolding overlay_step own_stack faces
      call_known there case site own room top known plain is =
          let a = address c.addr in
          let x = fetched_goes k spans (at_xjmp i e c j n s) t (without m a c.end) (some (Xjmp C1 C2) (Int
          (pos 0))) (gone_in k a (suc j) c.end s.changes m (omega (arith, far)) h) is in (
            x.0,
            x.1,
            ap (λ y. step_by l y (record { maps = with_cells k spans s m; frames = fs; calls = n }))
                (case_known k spans l s m h there ∙ case)
                ∙ call_goes site own room top known plain x.0 x.2,
          )

  pub return_known : (s : Partly) (m : Cells) (r1 r2 : Reg) (i q : ℕ) (f : OpenFrame) (e : SiteCode)
      (c : CapFields) → AreIn k s.changes m → knows k s (at_pc k s) ≡ true → case_by k l s ≡ Back r1 r2
      → reg s.regs r1 ≡ RetCode i → reg s.regs r2 ≡ RetData q → ((q == f.call) && (i == f.site)) ≡ true
      → site_code l i ≡ Some e → own_stack l (blank s.regs) ≡ Some c → (c.end + 1 == f.base) ≡ true
      → CrossesTo (behind_return e c f r2 s) fs n
      (record { maps = with_cells k spans s m; frames = f ∷ fs; calls = n })
  unfolding overlay_step return_step own_stack faces need ask
  return_known s m r1 r2 i q f e c h there case one two same site own next = (
    put_back m f.base (zero_word Plain ∷ rest_words f.words),
    restored_in k f.base _ s.changes m h,
    ap (λ y. step_by l y (record { maps = with_cells k spans s m; frames = f ∷ fs; calls = n }))
        (case_known k spans l s m h there ∙ case)
        ∙ rw (one, two, same, site, own, next) refl,
  )
