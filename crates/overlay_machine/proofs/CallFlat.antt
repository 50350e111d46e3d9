-- The plain state before a call's `xjmp` is the flattening of the overlay's.
use Rattle.std.proofs.Common.{◌≡◌, ◌≢◌, ◌⊎◌, inl, inr, ℕ, suc, ◌+◌, ◌-◌, ◌<◌, ◌≤◌, pos, ◌∷◌, Some, None}
use Rattle.std.proofs.Common.{IsSome, refl, ap, sym, ◌∙◌, arith}
use Rattle.std.specs.Prelude.{slice_get, unwrap_or}
use Rattle.std.specs.Option.{option_or}
use Rattle.std.proofs.lemmas.Bool.{cases_lt, cases_eq}
use Rattle.cap_words.specs.declared.Word.{Word}
use Rattle.cap_words.specs.declared.Word.TheVariants.{Mem, Sealed}
use Rattle.cap_words.specs.declared.Sealable.TheVariants.{Mem as MemIn}
use Rattle.cap_words.specs.Face.{face_of}
use Rattle.cap_words.specs.Linear.{zero_word}
use Rattle.lcm_isa.specs.declared.Reg.{Reg}
use Rattle.lcm_isa.specs.declared.Reg.TheVariants.{Pc, Rcode, Rdata, Stk, Dat, T1, T2, C1, C2, A0, A1, A2, A3}
use Rattle.lcm_isa.specs.declared.Reg.TheVariants.{G0, G1, G2}
use Rattle.lcm_machine.specs.declared.Place.{Place}
use Rattle.lcm_machine.specs.declared.Place.TheVariants.{R, Cell}
use Rattle.lcm_machine.specs.Maps.{State}
use Rattle.lcm_machine.specs.Places.{reg}
use Rattle.lcm_machine.specs.Cells.{cell}
use Rattle.lcm_machine.specs.Row.{word_at}
use Rattle.lcm_machine.specs.Runs.{code_cap}
use Rattle.lcm_machine.specs.Mapped.{mapped_or, IsMapped, SameFaces}
use Rattle.lcm_machine.proofs.Offers.{cell-set_other, cell-set_same, cell-without_in, cell-without_out}
use Rattle.call_sequence.specs.declared.TheConstants.{CALL_WORDS}
use Rattle.call_sequence.specs.SequenceRuns.{stack_cap, at_xjmp}
use Rattle.trusted_border.specs.declared.layout.Layout.{Layout}
use Rattle.trusted_border.specs.declared.layout.SiteCode.{SiteCode}
use Rattle.trusted_border.specs.Layout.{site_code}
use Rattle.overlay_machine.specs.declared.words.OWord.{OWord}
use Rattle.overlay_machine.specs.declared.words.OWord.TheVariants.{Plain, RetCode, RetData}
use Rattle.overlay_machine.specs.Words.{look}
use Rattle.overlay_machine.specs.State.{OpenFrame, OState, word_of, framed}
use Rattle.overlay_machine.specs.Step.{new_frame, at_call}
use Rattle.overlay_machine.specs.Flat.{flat, flat_code, flat_data, flat_range, beside, IsFlat}
use Rattle.overlay_machine.specs.Agree.{FramesLook, Looks, AllKnown}
use Rattle.overlay_machine.proofs.FrameWords.{words_from-at, words_from-past, word_of-below, word_of-within}
use Rattle.overlay_machine.proofs.FrameWords.{frame_of-newest, flat-other, known-other, mapped-same, some_of}

module _ (l : Layout) (i : ℕ) (o : OState) (t : State Word) (sc : SiteCode) (se b : ℕ)
    (is_site : site_code l i ≡ Some sc)
    (there : (q : ℕ) → l.stack.base ≤ q → q ≤ se → IsSome (cell o.maps.cells q)) (low : l.stack.base ≤ b)
    (high : b + 1 ≤ se)
    (m : IsFlat l o t) (k : Looks l o) (known : AllKnown o) where
  abbrev frame : OpenFrame
  frame = new_frame i (b + 1) se o

  abbrev old_flat : OWord → Word
  old_flat = flat l o.frames

  abbrev now_flat : OWord → Word
  now_flat = flat l (frame ∷ o.frames)

  abbrev s' : State OWord
  s' = at_call i sc (stack_cap l.stack.base se (b + 1)) o

  abbrev t' : State Word
  t' = at_xjmp (λ w. w) t sc.base sc.end sc.at sc.seal l.stack.base se b

  old : (p : Place) (w : OWord) → word_at o.maps p ≡ Some w → now_flat w ≡ old_flat w
  old p w e = flat-other l frame o.frames w (known-other o.calls w (known.places p w e))

  old_framed : (a : ℕ) (w : OWord) → framed o.frames a ≡ Some w → now_flat w ≡ old_flat w
  old_framed a w e = flat-other l frame o.frames w (known-other o.calls w (known.frames a w e))

  kept : (r : Reg) → reg t.regs r ≡ now_flat (reg o.maps.regs r)
  kept r = m.regs r ∙ sym (old (R r) (reg o.maps.regs r) refl)

  code_is : now_flat (RetCode i) ≡ Sealed sc.seal (MemIn (code_cap sc.base sc.end (sc.at + CALL_WORDS)))
  unfolding flat
  code_is = ap flat_code is_site

  data_is : now_flat (RetData o.calls) ≡ Sealed sc.seal (MemIn (stack_cap (b + 1) se (b + 1)))
  unfolding flat
  data_is = ap (flat_data l) (frame_of-newest frame o.frames) ∙ ap (flat_range frame) is_site

  plain_is : (x : Word) → now_flat (Plain x) ≡ x
  unfolding flat
  plain_is x = refl

  less : b + 1 - 1 ≡ b
  less = omega arith

  regs : (r : Reg) → reg t'.regs r ≡ now_flat (reg s'.regs r)
  regs Pc = sym (plain_is _)
  regs Rcode = sym code_is
  regs Rdata = sym data_is
  regs Stk = sym (plain_is _ ∙ ap (λ n. Mem (record (stack_cap l.stack.base n 0) { addr = pos n })) less)
  regs Dat = kept Dat
  regs T1 = sym (plain_is _)
  regs T2 = sym (plain_is _)
  regs C1 = kept C1
  regs C2 = kept C2
  regs A0 = kept A0
  regs A1 = kept A1
  regs A2 = kept A2
  regs A3 = kept A3
  regs G0 = kept G0
  regs G1 = kept G1
  regs G2 = kept G2

  beside_none : (q : ℕ) → word_of frame q ≡ None
      → beside l (frame ∷ o.frames) q ≡ mapped_or now_flat (framed o.frames q) None
  unfolding beside
  beside_none q e = ap (λ x. mapped_or now_flat (option_or x (framed o.frames q)) None) e

  beside_some : (q : ℕ) (w : OWord) → word_of frame q ≡ Some w
      → beside l (frame ∷ o.frames) q ≡ Some (now_flat w)
  unfolding beside
  beside_some q w e = ap (λ x. mapped_or now_flat (option_or x (framed o.frames q)) None) e

  before : (q : ℕ)
      → cell t.cells q ≡ mapped_or now_flat (cell o.maps.cells q)
      (mapped_or now_flat (framed o.frames q) None)
  unfolding beside
  before q =
      m.cells q ∙ mapped-same old_flat now_flat (cell o.maps.cells q) _ _ (λ w e. sym (old (Cell q) w e))
      (mapped-same old_flat now_flat (framed o.frames q) None None (λ w e. sym (old_framed q w e)) refl)

  none_out : (q : ℕ) → (q < b + 1) ⊎ (se < q) → word_of frame q ≡ None
  none_out q (inl h) = word_of-below frame q h
  none_out q (inr h) =
      let more : q - (b + 1) ≡ suc (q - (b + 2)) = omega arith in
      word_of-within frame q (omega arith) ∙ ap (slice_get frame.words) more
      ∙ words_from-past o.maps.cells (b + 1 + 1) (se - (b + 1)) (q - (b + 2)) (omega arith)

  cell_out : (q : ℕ) → (q < b + 1) ⊎ (se < q) → q ≢ b + 1
      → cell t'.cells q ≡ mapped_or now_flat (cell s'.cells q) (beside l (frame ∷ o.frames) q)
  cell_out q h ne =
      cell-set_other t.cells (b + 1) q t.regs.dat ne ∙ before q
      ∙ ap (λ x. mapped_or now_flat (cell o.maps.cells q) x) (sym (beside_none q (none_out q h)))
      ∙ ap (λ x. mapped_or now_flat x (beside l (frame ∷ o.frames) q))
      (sym (cell-without_out o.maps.cells (b + 1) se q h))

  gone : (q : ℕ) → b + 1 ≤ q → q ≤ se
      → mapped_or now_flat (cell s'.cells q) (beside l (frame ∷ o.frames) q) ≡ beside l (frame ∷ o.frames) q
  gone q h g = ap (λ x. mapped_or now_flat x (beside l (frame ∷ o.frames) q))
      (cell-without_in o.maps.cells (b + 1) se q h g)

  first_is : word_of frame (b + 1) ≡ Some (reg o.maps.regs Dat)
  first_is = let z : b + 1 - (b + 1) ≡ 0 =
      omega arith in word_of-within frame (b + 1) (omega arith) ∙ ap (slice_get frame.words) z

  cell_first : cell t'.cells (b + 1) ≡ mapped_or now_flat (cell s'.cells (b + 1))
      (beside l (frame ∷ o.frames) (b + 1))
  cell_first = cell-set_same t.cells (b + 1) t.regs.dat ∙ ap Some (kept Dat)
      ∙ sym (gone (b + 1) (omega arith) high ∙ beside_some (b + 1) (reg o.maps.regs Dat) first_is)

  next_is : (q : ℕ) → b + 1 < q → q ≤ se → word_of frame q ≡ cell o.maps.cells q
  next_is q h g =
      let more : q - (b + 1) ≡ suc (q - (b + 2)) = omega arith in
      let back : b + 1 + 1 + (q - (b + 2)) ≡ q = omega arith in
      word_of-within frame q (omega arith) ∙ ap (slice_get frame.words) more
      ∙ words_from-at o.maps.cells (b + 1 + 1) (se - (b + 1)) (q - (b + 2)) (omega arith)
      ∙ ap (λ n. Some (unwrap_or (cell o.maps.cells n) (zero_word Plain))) back
      ∙ sym (some_of (cell o.maps.cells q) (zero_word Plain) (there q (omega arith) g))

  cell_next : (q : ℕ) → b + 1 < q → q ≤ se → q ≢ b + 1
      → cell t'.cells q ≡ mapped_or now_flat (cell s'.cells q) (beside l (frame ∷ o.frames) q)
  cell_next q h g ne =
      let e = some_of (cell o.maps.cells q) (zero_word Plain) (there q (omega arith) g) in
      cell-set_other t.cells (b + 1) q t.regs.dat ne ∙ before q
      ∙ ap (λ x. mapped_or now_flat x (mapped_or now_flat (framed o.frames q) None)) e
      ∙ sym (gone q (omega arith) g ∙ beside_some q _ (next_is q h g ∙ e))

  cells : (q : ℕ) → cell t'.cells q ≡ mapped_or now_flat (cell s'.cells q) (beside l (frame ∷ o.frames) q)
  cells q =
      elim (cases_lt q (b + 1))
      as (λ _. cell t'.cells q ≡ mapped_or now_flat (cell s'.cells q) (beside l (frame ∷ o.frames) q)) [
        | inl lt ↦ cell_out q (inl lt) (omega arith)
        | inr ge ↦
            elim (cases_lt se q)
            as (λ _. cell t'.cells q ≡ mapped_or now_flat (cell s'.cells q) (beside l (frame ∷ o.frames) q)) [
              | inl lt ↦ cell_out q (inr lt) (omega arith)
              | inr le ↦
                  elim (cases_eq q (b + 1))
                  as (λ _. cell t'.cells q ≡ mapped_or now_flat (cell s'.cells q)
                  (beside l (frame ∷ o.frames) q)) [
                    | inl same ↦ rw same cell_first
                    | inr ne ↦ cell_next q (omega arith) le ne
                  ]
            ]
      ]

  pub called_flat : IsMapped now_flat (beside l (frame ∷ o.frames)) s' t'
  called_flat = record { regs = regs; cells = cells; spans = m.spans }

  abbrev Shows : OWord → Type 0
  Shows w = face_of (now_flat w) ≡ face_of (look w)

  shows_old : (p : Place) (w : OWord) → word_at o.maps p ≡ Some w → Shows w
  shows_old p w e = ap face_of (old p w e) ∙ k.0 p w e

  reg_shows : (r : Reg) → Shows (reg s'.regs r)
  reg_shows Pc = ap face_of (plain_is _)
  reg_shows Rcode = ap face_of code_is
  reg_shows Rdata = ap face_of data_is
  reg_shows Stk = ap face_of (plain_is _)
  reg_shows Dat = shows_old (R Dat) _ refl
  reg_shows T1 = ap face_of (plain_is _)
  reg_shows T2 = ap face_of (plain_is _)
  reg_shows C1 = shows_old (R C1) _ refl
  reg_shows C2 = shows_old (R C2) _ refl
  reg_shows A0 = shows_old (R A0) _ refl
  reg_shows A1 = shows_old (R A1) _ refl
  reg_shows A2 = shows_old (R A2) _ refl
  reg_shows A3 = shows_old (R A3) _ refl
  reg_shows G0 = shows_old (R G0) _ refl
  reg_shows G1 = shows_old (R G1) _ refl
  reg_shows G2 = shows_old (R G2) _ refl

  cell_shows : (q : ℕ) (w : OWord) → cell s'.cells q ≡ Some w → Shows w
  cell_shows q w e = elim (cases_lt q (b + 1)) as (λ _. Shows w) [
    | inl lt ↦ shows_old (Cell q) w (sym (cell-without_out o.maps.cells (b + 1) se q (inl lt)) ∙ e)
    | inr ge ↦ elim (cases_lt se q) as (λ _. Shows w) [
      | inl lt ↦ shows_old (Cell q) w (sym (cell-without_out o.maps.cells (b + 1) se q (inr lt)) ∙ e)
      | inr le ↦ (let none : None ≡ Some w = sym (cell-without_in o.maps.cells (b + 1) se q ge le) ∙ e in cc)
    ]
  ]

  pub called_shows : SameFaces look (λ w. w) now_flat s'
  called_shows (R r) w e = let same : reg s'.regs r ≡ w = cc in rw (← same) (reg_shows r)
  called_shows (Cell q) w e = cell_shows q w e

  old_shows : (a : ℕ) (w : OWord) → framed o.frames a ≡ Some w → Shows w
  old_shows a w e = ap face_of (old_framed a w e) ∙ k.1 a w e

  passed : (a : ℕ) → word_of frame a ≡ None → framed (frame ∷ o.frames) a ≡ framed o.frames a
  passed a e = ap (λ x. option_or x (framed o.frames a)) e

  held : (a : ℕ) (v : OWord) → word_of frame a ≡ Some v → framed (frame ∷ o.frames) a ≡ Some v
  held a v e = ap (λ x. option_or x (framed o.frames a)) e

  one_word : (v w : OWord) → Some v ≡ Some w → Shows v → Shows w
  one_word v w e h = let same : v ≡ w = cc in rw (← same) h

  pub called_frames : FramesLook l (frame ∷ o.frames)
  called_frames a w e = elim (cases_lt a (b + 1)) as (λ _. Shows w) [
    | inl lt ↦ old_shows a w (sym (passed a (none_out a (inl lt))) ∙ e)
    | inr ge ↦ elim (cases_lt se a) as (λ _. Shows w) [
      | inl lt ↦ old_shows a w (sym (passed a (none_out a (inr lt))) ∙ e)
      | inr le ↦ elim (cases_eq a (b + 1)) as (λ _. Shows w) [
        | inl same ↦ one_word (reg o.maps.regs Dat) w (sym (held (b + 1) _ first_is) ∙ (rw same at e))
            (shows_old (R Dat) _ refl)
        | inr ne ↦ (let c = some_of (cell o.maps.cells a) (zero_word Plain) (there a (omega arith) le) in
            one_word _ w (sym (held a _ (next_is a (omega arith) le ∙ c)) ∙ e) (shows_old (Cell a) _ c))
      ]
    ]
  ]
