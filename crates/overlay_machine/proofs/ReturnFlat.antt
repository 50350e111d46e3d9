-- The plain state after a return is the flattening of the overlay's.
use Rattle.std.proofs.Common.{◌≡◌, ◌≢◌, ◌⊎◌, inl, inr, ℕ, zero, suc, ◌+◌, ◌-◌, ◌<◌, ◌≤◌, pos, List, ◌∷◌}
use Rattle.std.proofs.Common.{length, Some, None, refl, ap, sym, ◌∙◌, arith}
use Rattle.std.specs.Prelude.{slice_get, Option}
use Rattle.std.specs.Option.{option_or}
use Rattle.std.proofs.lemmas.Bool.{cases_lt, cases_eq}
use Rattle.std.proofs.lemmas.Option.{slice_get_past}
use Rattle.cap_words.specs.declared.Word.{Word}
use Rattle.cap_words.specs.declared.Word.TheVariants.{Int, Mem}
use Rattle.cap_words.specs.declared.CapFields.{CapFields}
use Rattle.cap_words.specs.Face.{face_of}
use Rattle.cap_words.specs.Linear.{zero_word}
use Rattle.lcm_isa.specs.declared.Reg.{Reg}
use Rattle.lcm_isa.specs.declared.Reg.TheVariants.{Pc, Rcode, Rdata, Stk, Dat, T1, T2, C1, C2, A0, A1, A2, A3}
use Rattle.lcm_isa.specs.declared.Reg.TheVariants.{G0, G1, G2}
use Rattle.lcm_machine.specs.declared.Place.{Place}
use Rattle.lcm_machine.specs.declared.Place.TheVariants.{R, Cell}
use Rattle.lcm_machine.specs.Maps.{State}
use Rattle.lcm_machine.specs.Places.{reg, set_reg}
use Rattle.lcm_machine.specs.Cells.{cell, set_cell, put_back}
use Rattle.lcm_machine.specs.Row.{word_at, put}
use Rattle.lcm_machine.specs.Runs.{code_cap}
use Rattle.lcm_machine.specs.Mapped.{mapped_or, SameFaces}
use Rattle.lcm_machine.proofs.Offers.{cases_reg, reg-set_same, reg-set_other, cell-set_other, cell-set_same}
use Rattle.call_sequence.specs.declared.TheConstants.{SITE_WORDS}
use Rattle.call_sequence.specs.SequenceRuns.{stack_cap}
use Rattle.trusted_border.specs.declared.layout.Layout.{Layout}
use Rattle.trusted_border.specs.declared.layout.SiteCode.{SiteCode}
use Rattle.overlay_machine.specs.declared.words.OWord.{OWord}
use Rattle.overlay_machine.specs.declared.words.OWord.TheVariants.{Plain}
use Rattle.overlay_machine.specs.Words.{look}
use Rattle.overlay_machine.specs.State.{OpenFrame, OState, word_of, framed}
use Rattle.overlay_machine.specs.Step.{state_resumed}
use Rattle.overlay_machine.specs.Flat.{flat, beside, IsFlat}
use Rattle.overlay_machine.specs.Agree.{Looks, IsOther, FrameSound}
use Rattle.overlay_machine.proofs.OutLemmas.{put_back-other}
use Rattle.overlay_machine.proofs.FrameWords.{word_of-below, word_of-within, flat-other, mapped-same}
use Rattle.overlay_machine.proofs.FrameWords.{put_back-in}
use Rattle.component_file.proofs.Offers.{inside}

module _ (l : Layout) (s : State OWord) (f : OpenFrame) (fs : List OpenFrame) (n : ℕ) (t : State Word)
    (r2 : Reg) (sc : SiteCode) (c : CapFields)
    (sound : FrameSound l s.cells f)
    (m : IsFlat l (record { maps = s; frames = f ∷ fs; calls = n }) t)
    (k : Looks l (record { maps = s; frames = f ∷ fs; calls = n }))
    (one_place : (p : Place) (w : OWord) → word_at s p ≡ Some w → p ≢ R r2 → IsOther f.call w)
    (in_frames : (a : ℕ) (w : OWord) → framed (f ∷ fs) a ≡ Some w → IsOther f.call w)
    (apart : (a : ℕ) (w : OWord) → framed fs a ≡ Some w → word_of f a ≡ None) where
  abbrev o : OState
  o = record { maps = s; frames = f ∷ fs; calls = n }

  abbrev o' : OState
  o' = state_resumed sc
      (record c { perm = (stack_cap 0 0 0).perm; lin = (stack_cap 0 0 0).lin; base = l.stack.base })
      f fs (put s (R r2) (zero_word Plain)) o

  abbrev t' : State Word
  t' = record t {
    regs = record (set_reg t.regs r2 (Int (pos 0))) {
      pc = Mem (code_cap sc.base sc.end (sc.at + SITE_WORDS));
      stk = Mem (stack_cap l.stack.base f.end f.base);
      dat = sound.first;
      t1 = Int (pos 0);
      t2 = Int (pos 0);
    };
    cells = set_cell t.cells f.base (Int (pos 0));
  }

  abbrev old_flat : OWord → Word
  old_flat = flat l (f ∷ fs)

  abbrev now_flat : OWord → Word
  now_flat = flat l fs

  plain_is : (x : Word) → now_flat (Plain x) ≡ x
  unfolding flat
  plain_is x = refl

  old : (p : Place) (w : OWord) → word_at s p ≡ Some w → p ≢ R r2 → old_flat w ≡ now_flat w
  old p w e ne = flat-other l f fs w (one_place p w e ne)

  -- registers that the return leaves, but for r2
  kept : (r : Reg)
      → reg (set_reg t.regs r2 (Int (pos 0))) r ≡ now_flat (reg (set_reg s.regs r2 (zero_word Plain)) r)
  kept r = elim (cases_reg r r2)
      as (λ _. reg (set_reg t.regs r2 (Int (pos 0)))
      r ≡ now_flat (reg (set_reg s.regs r2 (zero_word Plain)) r)) [
        | inl same ↦
            rw same (rw (reg-set_same t.regs r2 (Int (pos 0)), reg-set_same s.regs r2 (zero_word Plain))
            (sym (plain_is _)))
        | inr ne ↦
            rw (reg-set_other t.regs r2 r (Int (pos 0)) ne, reg-set_other s.regs r2 r (zero_word Plain) ne)
            (m.regs r ∙ old (R r) _ refl (λ e. ne (let q : r ≡ r2 = cc in q)))
      ]

  first_is : reg o'.maps.regs Dat ≡ Plain sound.first
  first_is = rw sound.words refl

  regs : (r : Reg) → reg t'.regs r ≡ now_flat (reg o'.maps.regs r)
  regs Pc = sym (plain_is _)
  regs Stk = sym (plain_is _)
  regs Dat = sym (ap now_flat first_is ∙ plain_is _)
  regs T1 = sym (plain_is _)
  regs T2 = sym (plain_is _)
  regs Rcode = kept Rcode
  regs Rdata = kept Rdata
  regs C1 = kept C1
  regs C2 = kept C2
  regs A0 = kept A0
  regs A1 = kept A1
  regs A2 = kept A2
  regs A3 = kept A3
  regs G0 = kept G0
  regs G1 = kept G1
  regs G2 = kept G2

  cells_are : o'.maps.cells ≡ put_back s.cells f.base (zero_word Plain ∷ sound.rest)
  cells_are = rw sound.words refl

  -- what lies beside, before and after
  old_beside : (q : ℕ) (x : Option OWord) → word_of f q ≡ x
      → beside l (f ∷ fs) q ≡ mapped_or old_flat (option_or x (framed fs q)) None
  unfolding beside
  old_beside q x e = ap (λ y. mapped_or old_flat (option_or y (framed fs q)) None) e

  now_beside : (q : ℕ) → beside l fs q ≡ mapped_or now_flat (framed fs q) None
  unfolding beside
  now_beside q = refl

  none_out : (q : ℕ) → (q < f.base) ⊎ (f.end < q) → word_of f q ≡ None
  none_out q (inl h) = word_of-below f q h
  none_out q (inr h) =
      let h1 = sound.order in
      let h2 = sound.as_long in
      word_of-within f q (omega arith) ∙ ap (λ ws. slice_get ws (q - f.base)) sound.words
      ∙ slice_get_past (Plain sound.first ∷ sound.rest) (q - f.base) (omega arith)

  framed_out : (q : ℕ) → word_of f q ≡ None → framed (f ∷ fs) q ≡ framed fs q
  framed_out q e = ap (λ y. option_or y (framed fs q)) e

  cell_out : (q : ℕ) → (q < f.base) ⊎ (f.end < q) → q ≢ f.base
      → cell t'.cells q ≡ mapped_or now_flat (cell o'.maps.cells q) (beside l fs q)
  cell_out q h ne =
      let h1 = sound.order in
      let h2 = sound.as_long in
      let out : (q < f.base) ⊎ (f.base + length (zero_word Plain ∷ sound.rest) ≤ q) =
      elim h as (λ _. (q < f.base) ⊎ (f.base + length (zero_word Plain ∷ sound.rest) ≤ q))
      [ inl a ↦ inl a | inr b ↦ inr (omega arith) ] in
      cell-set_other t.cells f.base q (Int (pos 0)) ne ∙ m.cells q
      ∙ mapped-same old_flat now_flat (cell s.cells q) _ _ (λ w e. old (Cell q) w e (λ g. cc))
      (old_beside q None (none_out q h)
      ∙ mapped-same old_flat now_flat (framed fs q)
      None None (λ w e. flat-other l f fs w (in_frames q w (framed_out q (none_out q h) ∙ e))) refl
      ∙ sym (now_beside q))
      ∙ ap (λ x. mapped_or now_flat x (beside l fs q))
      (sym (ap (λ y. cell y q) cells_are
      ∙ put_back-other s.cells f.base (zero_word Plain ∷ sound.rest) q out))

  cell_first : cell t'.cells f.base ≡ mapped_or now_flat (cell o'.maps.cells f.base) (beside l fs f.base)
  cell_first =
      let e : f.base + 0 ≡ f.base = omega arith in
      let back : cell o'.maps.cells f.base ≡ Some (zero_word Plain) =
      ap (λ y. cell y f.base) cells_are
      ∙ ap (cell (put_back s.cells f.base (zero_word Plain ∷ sound.rest))) (sym e)
      ∙ put_back-in s.cells f.base (zero_word Plain ∷ sound.rest) 0 (omega arith) in
      cell-set_same t.cells f.base (Int (pos 0))
      ∙ sym (ap (λ x. mapped_or now_flat x (beside l fs f.base)) back ∙ ap Some (plain_is _))

  cell_next : (j : ℕ) → j < length sound.rest
      → cell t'.cells (f.base + suc j) ≡ mapped_or now_flat (cell o'.maps.cells (f.base + suc j))
      (beside l fs (f.base + suc j))
  cell_next j h =
      let h1 = sound.order in
      let h2 = sound.as_long in
      let w = inside sound.rest j h in
      let q = f.base + suc j in
      let less : f.base + suc j - f.base ≡ suc j = omega arith in
      let ne : f.base + suc j ≢ f.base = omega arith in
      let there : word_of f q ≡ Some w.0 =
      word_of-within f q (omega arith) ∙ ap (λ ws. slice_get ws (q - f.base)) sound.words
      ∙ ap (slice_get (Plain sound.first ∷ sound.rest)) less ∙ w.1 in
      let back : cell o'.maps.cells q ≡ Some w.0 = ap (λ y. cell y q) cells_are
      ∙ put_back-in s.cells f.base (zero_word Plain ∷ sound.rest) (suc j) (omega arith) ∙ w.1 in
      cell-set_other t.cells f.base q (Int (pos 0)) ne ∙ m.cells q
      ∙ ap (λ x. mapped_or old_flat x (beside l (f ∷ fs) q)) (sound.gone q (omega arith) (omega arith))
      ∙ old_beside q (Some w.0) there
      ∙ ap Some (flat-other l f fs w.0 (in_frames q w.0 (ap (λ y. option_or y (framed fs q)) there)))
      ∙ sym (ap (λ x. mapped_or now_flat x (beside l fs q)) back)

  cells : (q : ℕ) → cell t'.cells q ≡ mapped_or now_flat (cell o'.maps.cells q) (beside l fs q)
  cells q =
      let h1 = sound.order in
      let h2 = sound.as_long in
      elim (cases_lt q f.base)
      as (λ _. cell t'.cells q ≡ mapped_or now_flat (cell o'.maps.cells q) (beside l fs q)) [
        | inl lt ↦ cell_out q (inl lt) (omega arith)
        | inr ge ↦
            elim (cases_lt f.end q)
            as (λ _. cell t'.cells q ≡ mapped_or now_flat (cell o'.maps.cells q) (beside l fs q)) [
              | inl lt ↦ cell_out q (inr lt) (omega arith)
              | inr le ↦
                  elim (cases_eq q f.base)
                  as (λ _. cell t'.cells q ≡ mapped_or now_flat (cell o'.maps.cells q) (beside l fs q)) [
                    | inl same ↦ rw same cell_first
                    | inr ne ↦
                        (let e : q ≡ f.base + suc (q - f.base - 1) =
                        omega arith in rw e (cell_next (q - f.base - 1) (omega arith)))
                  ]
            ]
      ]

  pub resumed_flat : IsFlat l o' t'
  resumed_flat = record { regs = regs; cells = cells; spans = m.spans }

  abbrev Shows : OWord → Type 0
  Shows w = face_of (now_flat w) ≡ face_of (look w)

  one_word : (v w : OWord) → v ≡ w → Shows v → Shows w
  one_word v w e h = rw (← e) h

  some_word : (v w : OWord) → Some v ≡ Some w → v ≡ w
  some_word v w e = cc

  shows_old : (p : Place) (w : OWord) → word_at s p ≡ Some w → p ≢ R r2 → Shows w
  shows_old p w e ne = ap face_of (sym (old p w e ne)) ∙ k.0 p w e

  shows_framed : (a : ℕ) (w : OWord) → framed (f ∷ fs) a ≡ Some w → Shows w
  shows_framed a w e = ap face_of (sym (flat-other l f fs w (in_frames a w e))) ∙ k.1 a w e

  shows_kept : (r : Reg) → Shows (reg (set_reg s.regs r2 (zero_word Plain)) r)
  shows_kept r = elim (cases_reg r r2) as (λ _. Shows (reg (set_reg s.regs r2 (zero_word Plain)) r)) [
    | inl same ↦ rw same (rw (reg-set_same s.regs r2 (zero_word Plain)) (ap face_of (plain_is _)))
    | inr ne ↦
        rw (reg-set_other s.regs r2 r (zero_word Plain) ne)
        (shows_old (R r) _ refl (λ e. ne (let q : r ≡ r2 = cc in q)))
  ]

  reg_shows : (r : Reg) → Shows (reg o'.maps.regs r)
  reg_shows Pc = ap face_of (plain_is _)
  reg_shows Stk = ap face_of (plain_is _)
  reg_shows Dat = rw first_is (ap face_of (plain_is _))
  reg_shows T1 = ap face_of (plain_is _)
  reg_shows T2 = ap face_of (plain_is _)
  reg_shows Rcode = shows_kept Rcode
  reg_shows Rdata = shows_kept Rdata
  reg_shows C1 = shows_kept C1
  reg_shows C2 = shows_kept C2
  reg_shows A0 = shows_kept A0
  reg_shows A1 = shows_kept A1
  reg_shows A2 = shows_kept A2
  reg_shows A3 = shows_kept A3
  reg_shows G0 = shows_kept G0
  reg_shows G1 = shows_kept G1
  reg_shows G2 = shows_kept G2

  -- a word that was put back: 0, or a word of the frame
  shows_back : (j : ℕ) → j < length (zero_word Plain ∷ sound.rest) → (w : OWord)
      → slice_get (zero_word Plain ∷ sound.rest) j ≡ Some w → Shows w
  shows_back zero h w e = one_word (zero_word Plain) w (some_word _ w e) (ap face_of (plain_is _))
  shows_back (suc j) h w e =
      let h1 = sound.order in
      let less : f.base + suc j - f.base ≡ suc j = omega arith in
      let there : word_of f (f.base + suc j) ≡ Some w =
      word_of-within f (f.base + suc j) (omega arith) ∙ ap (λ ws. slice_get ws (f.base + suc j - f.base))
      sound.words ∙ ap (slice_get (Plain sound.first ∷ sound.rest)) less ∙ e in
      shows_framed (f.base + suc j) w (ap (λ y. option_or y (framed fs (f.base + suc j))) there)

  cell_shows : (q : ℕ) (w : OWord) → cell o'.maps.cells q ≡ Some w → Shows w
  cell_shows q w e =
      let h1 = sound.order in
      let h2 = sound.as_long in
      let g = sym (ap (λ y. cell y q) cells_are) ∙ e in
      elim (cases_lt q f.base) as (λ _. Shows w) [
        | inl lt ↦
            shows_old (Cell q)
            w (sym (put_back-other s.cells f.base (zero_word Plain ∷ sound.rest) q (inl lt)) ∙ g) (λ x. cc)
        | inr ge ↦ elim (cases_lt f.end q) as (λ _. Shows w) [
          | inl lt ↦
              shows_old (Cell q)
              w (sym (put_back-other s.cells f.base (zero_word Plain ∷ sound.rest) q (inr (omega arith))) ∙ g)
              (λ x. cc)
          | inr le ↦ (let back : f.base + (q - f.base) ≡ q = omega arith in
              shows_back (q - f.base) (omega arith)
              w (sym (put_back-in s.cells f.base (zero_word Plain ∷ sound.rest) (q - f.base)
              (omega arith)) ∙ ap (cell (put_back s.cells f.base (zero_word Plain ∷ sound.rest))) back
              ∙ g))
        ]
      ]

  places : SameFaces look (λ w. w) now_flat o'.maps
  places (R r) w e = one_word (reg o'.maps.regs r) w (some_word _ w e) (reg_shows r)
  places (Cell q) w e = cell_shows q w e

  pub resumed_looks : Looks l o'
  resumed_looks = (places, λ a w e. shows_framed a w (framed_out a (apart a w e) ∙ e))
