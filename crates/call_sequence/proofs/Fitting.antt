-- Rows after a kind was set, and words whose kind is below another.
use Rattle.std.proofs.Common.{◌≡◌, ◌≢◌, ℕ, zero, suc, ◌-◌, ◌≤◌, inl, inr, true, false, [], ◌∷◌, length}
use Rattle.std.proofs.Common.{get_or, refl, sym, ap, ◌∙◌, arith, ℤ, get_or-set_same, get_or-set_other}
use Rattle.std.proofs.Math.ListN.{length-set}
use Rattle.std.proofs.lemmas.Bool.{eqb-true, and_parts}
use Rattle.cap_words.specs.declared.Word.{Word}
use Rattle.cap_words.specs.declared.Word.TheVariants.{Int, Mem}
use Rattle.component_file.specs.declared.component.Kind.{Kind}
use Rattle.component_file.specs.declared.component.Kind.TheVariants as kind
use Rattle.lcm_isa.specs.declared.Reg.{Reg}
use Rattle.lcm_isa.specs.declared.Reg.TheVariants.{Pc, Rcode, Rdata, Stk, Dat, T1, T2, C1, C2, A0, A1, A2, A3}
use Rattle.lcm_isa.specs.declared.Reg.TheVariants.{G0, G1, G2}
use Rattle.lcm_isa.specs.Numbers.{reg_number, reg_of}
use Rattle.lcm_isa.proofs.Offers.{reg_back}
use Rattle.lcm_machine.specs.Maps.{Regs}
use Rattle.lcm_machine.specs.Places.{reg, set_reg}
use Rattle.lcm_machine.specs.Table.{is_pc}
use Rattle.lcm_machine.proofs.Offers.{cases_reg, reg-set_same, reg-set_other}
use Rattle.call_sequence.specs.Kinds.{Row, kind_of, set_kind, below_any, kind_below, row_below}
use Rattle.call_sequence.specs.Holds.{Ranges, part_stack_cap, Up, HasKind, HasKinds}

reg_from : (r : Reg) → is_pc r ≡ false → 1 ≤ reg_number r
reg_from Pc e = cc
reg_from Rcode e = omega arith
reg_from Rdata e = omega arith
reg_from Stk e = omega arith
reg_from Dat e = omega arith
reg_from T1 e = omega arith
reg_from T2 e = omega arith
reg_from C1 e = omega arith
reg_from C2 e = omega arith
reg_from A0 e = omega arith
reg_from A1 e = omega arith
reg_from A2 e = omega arith
reg_from A3 e = omega arith
reg_from G0 e = omega arith
reg_from G1 e = omega arith
reg_from G2 e = omega arith

reg_to : (r : Reg) → reg_number r ≤ 15
reg_to Pc = omega arith
reg_to Rcode = omega arith
reg_to Rdata = omega arith
reg_to Stk = omega arith
reg_to Dat = omega arith
reg_to T1 = omega arith
reg_to T2 = omega arith
reg_to C1 = omega arith
reg_to C2 = omega arith
reg_to A0 = omega arith
reg_to A1 = omega arith
reg_to A2 = omega arith
reg_to A3 = omega arith
reg_to G0 = omega arith
reg_to G1 = omega arith
reg_to G2 = omega arith

number_differs : (r d : Reg) → r ≢ d → reg_number r ≢ reg_number d
number_differs r d ne e = ne (sym (reg_back r) ∙ ap reg_of e ∙ reg_back d)

pub kind-set_same : (row : Row) (r : Reg) (k : Kind) → length row ≡ 15 → is_pc r ≡ false
    → kind_of (set_kind row r k) r ≡ k
unfolding kind_of set_kind
kind-set_same row r k long p =
    let low = reg_from r p in
    let high = reg_to r in
    get_or-set_same row (reg_number r - 1) k kind.Top (omega arith)

pub kind-set_other : (row : Row) (r d : Reg) (k : Kind) → is_pc r ≡ false → is_pc d ≡ false → d ≢ r
    → kind_of (set_kind row r k) d ≡ kind_of row d
unfolding kind_of set_kind
kind-set_other row r d k p q ne =
    let low = reg_from r p in
    let low_d = reg_from d q in
    let apart = number_differs d r ne in
    let differ : reg_number d - 1 ≢ reg_number r - 1 = omega arith in
    get_or-set_other row (reg_number r - 1) (reg_number d - 1) k kind.Top differ

module _ {W : Type 0} (look : W → Word) (Safe : W → Type 0) (Has : ℕ → Type 0) (part : Ranges) where
  abbrev Kinded : Kind → W → Type 0
  Kinded k w = HasKind look Safe Has part k w

  abbrev FitsRow : Row → Regs W → Type 0
  FitsRow row rs = HasKinds look Safe Has part row rs

  -- registers of which one has a new word
  pub fits_new : (row : Row) (rs rs' : Regs W) (r : Reg) (k : Kind) → is_pc r ≡ false → FitsRow row rs
      → ((d : Reg) → is_pc d ≡ false → d ≢ r → reg rs' d ≡ reg rs d) → Kinded k (reg rs' r)
      → FitsRow (set_kind row r k) rs'
  unfolding set_kind
  fits_new row rs rs' r k p f others h = record {
    long = length-set row (reg_number r - 1) k ∙ f.long;
    each = λ d q. elim (cases_reg d r) as (λ _. Kinded (kind_of (set_kind row r k) d) (reg rs' d)) [
      | inl e ↦ rw (e, kind-set_same row r k f.long p) h
      | inr ne ↦ rw (kind-set_other row r d k p q ne, others d q ne) (f.each d q)
    ];
  }

  -- a register that keeps its kind
  pub fits_kept : (row : Row) (rs rs' : Regs W) (r : Reg) → FitsRow row rs
      → ((d : Reg) → is_pc d ≡ false → d ≢ r → reg rs' d ≡ reg rs d)
      → (is_pc r ≡ false → Kinded (kind_of row r) (reg rs' r)) → FitsRow row rs'
  fits_kept row rs rs' r f others h = record {
    long = f.long;
    each = λ d q. elim (cases_reg d r) as (λ _. Kinded (kind_of row d) (reg rs' d)) [
      | inl e ↦ rw e (h (sym (ap is_pc e) ∙ q))
      | inr ne ↦ rw (others d q ne) (f.each d q)
    ];
  }

  pub fits_set : (row : Row) (rs : Regs W) (r : Reg) (k : Kind) (w : W) → is_pc r ≡ false → FitsRow row rs
      → Kinded k w → FitsRow (set_kind row r k) (set_reg rs r w)
  fits_set row rs r k w p f h =
      fits_new row rs (set_reg rs r w) r k p f (λ d q ne. reg-set_other rs r d w ne)
      (rw (reg-set_same rs r w) h)

  pub fits_keep : (row : Row) (rs : Regs W) (r : Reg) (w : W) → FitsRow row rs
      → (is_pc r ≡ false → Kinded (kind_of row r) w) → FitsRow row (set_reg rs r w)
  fits_keep row rs r w f h =
      fits_kept row rs (set_reg rs r w) r f (λ d q ne. reg-set_other rs r d w ne)
      (λ p. rw (reg-set_same rs r w) (h p))

  -- what a set pc doesn't change
  pub fits_pc : (row : Row) (rs : Regs W) (w : W) → FitsRow row rs → FitsRow row (set_reg rs Pc w)
  fits_pc row rs w f = fits_keep row rs Pc w f (λ p. cc)

  -- ---- kinds below others

  module _ (safe_int : (w : W) (z : ℤ) → look w ≡ Int z → Safe w)
      (safe_stk : (w : W) (end : ℕ) (at : ℤ) → look w ≡ Mem (part_stack_cap part end at) → Up Has part end
      → Safe w) where
    pub is_safe : (k : Kind) (w : W) → below_any k ≡ true → Kinded k w → Safe w
    is_safe kind.Any w b h = h
    is_safe kind.Int w b h = safe_int w h.0 h.1
    is_safe kind.Stk w b h = safe_stk w h.0 h.1 h.2 h.3
    is_safe kind.DataCap w b h = cc
    is_safe (kind.Pc o) w b h = cc
    is_safe kind.Top w b h = cc

    pub kind_fits : (k l : Kind) (w : W) → kind_below k l ≡ true → Kinded k w → Kinded l w
    kind_fits k kind.Top w b h = tt
    kind_fits k kind.Any w b h = is_safe k w b h
    kind_fits kind.Int kind.Int w b h = h
    kind_fits kind.Stk kind.Stk w b h = h
    kind_fits kind.DataCap kind.DataCap w b h = h
    kind_fits (kind.Pc o) (kind.Pc p) w b h = let e : o ≡ p = eqb-true o p b in rw e at h
    kind_fits kind.Any kind.Int w b h = cc
    kind_fits kind.DataCap kind.Int w b h = cc
    kind_fits kind.Stk kind.Int w b h = cc
    kind_fits (kind.Pc o) kind.Int w b h = cc
    kind_fits kind.Top kind.Int w b h = cc
    kind_fits kind.Any kind.Stk w b h = cc
    kind_fits kind.Int kind.Stk w b h = cc
    kind_fits kind.DataCap kind.Stk w b h = cc
    kind_fits (kind.Pc o) kind.Stk w b h = cc
    kind_fits kind.Top kind.Stk w b h = cc
    kind_fits kind.Any kind.DataCap w b h = cc
    kind_fits kind.Int kind.DataCap w b h = cc
    kind_fits kind.Stk kind.DataCap w b h = cc
    kind_fits (kind.Pc o) kind.DataCap w b h = cc
    kind_fits kind.Top kind.DataCap w b h = cc
    kind_fits kind.Any (kind.Pc p) w b h = cc
    kind_fits kind.Int (kind.Pc p) w b h = cc
    kind_fits kind.DataCap (kind.Pc p) w b h = cc
    kind_fits kind.Stk (kind.Pc p) w b h = cc
    kind_fits kind.Top (kind.Pc p) w b h = cc

    same_length : (p q : Row) → row_below p q ≡ true → length p ≡ length q
    same_length [] [] b = refl
    same_length [] (l ∷ ls) b = cc
    same_length (k ∷ ks) [] b = cc
    same_length (k ∷ ks) (l ∷ ls) b =
        ap suc (same_length ks ls ((and_parts (kind_below k l) (row_below ks ls) b).1))

    -- a row that is below another: what fits it fits the other
    pub row_fits : (p q : Row) (rs : Regs W) → row_below p q ≡ true → FitsRow p rs → FitsRow q rs
    unfolding kind_of
    row_fits p q rs b f = record {
      long = sym (same_length p q b) ∙ f.long;
      each = λ r e. kind_fits (get_or p (reg_number r - 1) kind.Top) (get_or q (reg_number r - 1) kind.Top)
          (reg rs r) (at_place p q (reg_number r - 1) (same_length p q b) b) (f.each r e);
    }
      where
        at_place : (p q : Row) (i : ℕ) → length p ≡ length q → row_below p q ≡ true
            → kind_below (get_or p i kind.Top) (get_or q i kind.Top) ≡ true
        at_place [] [] i e b = refl
        at_place [] (l ∷ ls) i e b = cc
        at_place (k ∷ ks) [] i e b = cc
        at_place (k ∷ ks) (l ∷ ls) zero e b = (and_parts (kind_below k l) (row_below ks ls) b).0
        at_place (k ∷ ks) (l ∷ ls) (suc i) e b =
            at_place ks ls i (omega arith) ((and_parts (kind_below k l) (row_below ks ls) b).1)
