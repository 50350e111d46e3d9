-- That no linear memory is held twice in the plain state, where RetData and the words of frames count, gives
-- what steps need.
use Rattle.std.proofs.Common.{◌≡◌, ◌≢◌, ℕ, ◌≤◌, List, refl, ap, ◌∙◌, arith}
use Rattle.std.specs.Prelude.{Some, None}
use Rattle.cap_words.specs.declared.Word.{Word}
use Rattle.cap_words.specs.declared.Word.TheVariants.{Mem}
use Rattle.cap_words.specs.declared.CapFields.{CapFields}
use Rattle.lcm_isa.specs.declared.Reg.{Reg}
use Rattle.lcm_isa.specs.declared.Reg.TheVariants.{Stk, C2}
use Rattle.lcm_machine.specs.declared.Place.{Place}
use Rattle.lcm_machine.specs.declared.Place.TheVariants.{R, Cell}
use Rattle.lcm_machine.specs.Maps.{State}
use Rattle.lcm_machine.specs.Places.{reg}
use Rattle.lcm_machine.specs.Cells.{cell}
use Rattle.lcm_machine.specs.Row.{word_at}
use Rattle.lcm_machine.specs.Mapped.{mapped_or}
use Rattle.lcm_machine.specs.Regions.{Region, IsLinearAt, memory_of, HeldOnce}
use Rattle.lcm_machine.proofs.Offers.{bounds_over}
use Rattle.trusted_border.specs.declared.layout.Layout.{Layout}
use Rattle.trusted_border.specs.declared.layout.SiteCode.{SiteCode}
use Rattle.trusted_border.specs.Layout.{site_code}
use Rattle.overlay_machine.specs.declared.words.OWord.{OWord}
use Rattle.overlay_machine.specs.declared.words.OWord.TheVariants.{Plain, RetCode, RetData}
use Rattle.overlay_machine.specs.Words.{look}
use Rattle.overlay_machine.specs.State.{OpenFrame, OState, framed, frame_of}
use Rattle.call_sequence.specs.SequenceRuns.{stack_cap}
use Rattle.overlay_machine.specs.Flat.{flat, flat_data, flat_range, beside, IsFlat}
use Rattle.overlay_machine.specs.Agree.{IsOther}
use Rattle.overlay_machine.proofs.FlatLemmas.{flat-mem, cell-flat}

module _ (rs : List Region) (l : Layout) (o : OState) (t : State Word) (m : IsFlat l o t)
    (held : HeldOnce (λ w. w) rs t) (linear : (a : ℕ) → l.stack.base ≤ a → a ≤ l.stack.end → IsLinearAt rs a)
  where
    -- two places with memory over one address of the stack are one
    pub one_holder : (p q : Place) (x y : Word) (c d : CapFields) (a : ℕ) → word_at t p ≡ Some x
        → memory_of x ≡ Some c → word_at t q ≡ Some y → memory_of y ≡ Some d
        → c.base ≤ a → a ≤ c.end → d.base ≤ a → a ≤ d.end → l.stack.base ≤ a → a ≤ l.stack.end → p ≡ q
    one_holder p q x y c d a ep ec eq ed h1 h2 h3 h4 low high =
        held.1 a (linear a low high) p q
        (rw (ep, ec) (bounds_over c a h1 h2))
        (rw (eq, ed) (bounds_over d a h3 h4))

    pub place_flat : (p : Place) (w : OWord) → word_at o.maps p ≡ Some w
        → word_at t p ≡ Some (flat l o.frames w)
    place_flat (R r) w e = let same : reg o.maps.regs r ≡ w =
        cc in ap Some (m.regs r ∙ ap (flat l o.frames) same)
    place_flat (Cell a) w e = cell-flat l o t a w m e

    pub framed_flat : (a : ℕ) (w : OWord) → cell o.maps.cells a ≡ None → framed o.frames a ≡ Some w
        → word_at t (Cell a) ≡ Some (flat l o.frames w)
    unfolding beside
    framed_flat a w none e = m.cells a ∙ ap (λ x. mapped_or (flat l o.frames) x (beside l o.frames a)) none
        ∙ ap (λ x. mapped_or (flat l o.frames) x None) e

    -- what c2 holds begins nowhere in stk
    pub pair_apart : (end : ℕ) (c d : CapFields) → look o.maps.regs.stk ≡ Mem c → c.base ≡ l.stack.base
        → c.end ≡ end → end ≤ l.stack.end
        → memory_of (flat l o.frames o.maps.regs.c2) ≡ Some d → l.stack.base ≤ d.base → d.base ≤ end → ⊥
    pair_apart end c d es eb ee le e low high =
        let fits = held.0 (R C2) (reg t.regs C2) refl d (ap memory_of (m.regs C2) ∙ e) in
        let order = fits.3 in
        let same : R Stk ≡ R C2 =
        one_holder (R Stk) (R C2) (reg t.regs Stk) (reg t.regs C2)
        c d d.base refl (ap memory_of (m.regs Stk ∙ flat-mem l o.frames o.maps.regs.stk c es))
        refl (ap memory_of (m.regs C2) ∙ e)
        (omega (arith, low, eb)) (omega (arith, high, ee)) (omega arith) order low (omega (arith, high, le))
        in
        cc

    module _ (n : ℕ) (f : OpenFrame) (s : SiteCode) (ef : frame_of o.frames n ≡ Some f)
        (es : site_code l f.site ≡ Some s) (low : l.stack.base ≤ f.base) (order : f.base ≤ f.end)
        (high : f.end ≤ l.stack.end) where
      half_is : memory_of (flat l o.frames (RetData n)) ≡ Some (stack_cap f.base f.end f.base)
      unfolding flat
      half_is = ap (λ x. memory_of (flat_data l x)) ef ∙ ap (λ x. memory_of (flat_range f x)) es

      other_word : (p q : Place) (w : OWord) → word_at t p ≡ Some (flat l o.frames (RetData n))
          → word_at t q ≡ Some (flat l o.frames w) → q ≢ p → IsOther n w
      other_word p q (Plain x) ep eq ne = tt
      other_word p q (RetCode i) ep eq ne = tt
      other_word p q (RetData j) ep eq ne = λ same.
          ne (one_holder q p _ _ (stack_cap f.base f.end f.base) (stack_cap f.base f.end f.base) f.base
          (eq ∙ ap (λ x. Some (flat l o.frames (RetData x))) same) half_is ep half_is (omega arith)
          order (omega arith) order low (omega (arith, order, high)))

      -- the RetData of an open call stands in one place
      pub one_place : (r : Reg) → reg o.maps.regs r ≡ RetData n → (p : Place) (w : OWord)
          → word_at o.maps p ≡ Some w → p ≢ R r → IsOther n w
      one_place r e p w ew ne =
          other_word (R r) p w (place_flat (R r) (RetData n) (ap Some e)) (place_flat p w ew) ne

      -- and in no frame
      pub in_no_frame : (r : Reg) → reg o.maps.regs r ≡ RetData n → (a : ℕ) (w : OWord)
          → cell o.maps.cells a ≡ None → framed o.frames a ≡ Some w → IsOther n w
      in_no_frame r e a w none ew = other_word (R r) (Cell a) w (place_flat (R r) (RetData n) (ap Some e))
          (framed_flat a w none ew) (λ x. cc)
