-- Rows by what their tests say.
use Rattle.std.proofs.Common.{◌≡◌, ◌+◌, ℤ, Bool, true, false, refl, ap, ◌∙◌}
use Rattle.std.specs.Prelude.{◌==◌, ◌&&◌, Option, Some, None, Result, Ok, Err, MatchResult, int_lt}
use Rattle.std.specs.Prelude.{IsErrAnd}
use Rattle.std.specs.Option.{ok_or}
use Rattle.lcm_isa.specs.declared.Reg.{Reg}
use Rattle.lcm_isa.specs.declared.Operand.{Operand}
use Rattle.lcm_isa.specs.declared.Instr.{Instr}
use Rattle.cap_words.specs.declared.CapFields.{CapFields}
use Rattle.cap_words.specs.declared.Word.{Word}
use Rattle.cap_words.specs.declared.Word.TheVariants.{Int}
use Rattle.cap_words.specs.Faces.{address, can_split, int_in, memory_in, same_kind}
use Rattle.lcm_machine.specs.declared.rows.Arith.{Arith}
use Rattle.lcm_machine.specs.declared.rows.Arith.TheVariants.{Lt, Plus, Minus}
use Rattle.lcm_machine.specs.declared.FailCause.{FailCause}
use Rattle.lcm_machine.specs.declared.FailCause.TheVariants.{F5, F6, F9, F13, F14}
use Rattle.lcm_machine.specs.Arith.{arith_of, arith_row}
use Rattle.lcm_machine.specs.Maps.{State}
use Rattle.lcm_machine.specs.Plan.{Fails}
use Rattle.lcm_machine.specs.Row.{faces, plan_in, row_splits, row_splices}
use Rattle.lcm_machine.specs.Table.{ask, need, bit, fits_64, is_pc, makes, operand}

-- what failed, where something wasn't there
pub lacked : {A : Type 0} (o : Option A) (f e : FailCause) → Err e ≡ ok_or o f → (o ≡ None) × (e ≡ f)
lacked None f e h = (refl, let k : e ≡ f = cc in k)
lacked (Some a) f e h = cc

-- a cause that is told on
pub told_on : {A : Type 0} (r : Result A FailCause) (f cause : FailCause) → IsErrAnd r (λ y. y ≡ f)
    → f ≡ cause → r ≡ Err cause
told_on (Ok a) f cause h e = absurd h
told_on (Err y) f cause h e = ap Err (h ∙ e)

-- ---- the rows that make an integer of two

-- a bit fits
bit_fits : (b : Bool) → fits_64 (bit b) ≡ true
bit_fits true = refl
bit_fits false = refl

module _ {W : Type 0} (look : W → Word) (s : State W) (r1 r2 : Reg) (n : Operand) (next : Word) where
  pub arith_into : (op : Arith) → is_pc r1 ≡ true → Fails F5 ≡ plan_in look s (arith_row op r1 r2 n) next
  unfolding plan_in ask
  arith_into Lt p = rw p refl
  arith_into Plus p = rw p refl
  arith_into Minus p = rw p refl

  module _ (to : is_pc r1 ≡ false) where
    pub arith_no_first : (op : Arith) → int_in (faces look s r2) ≡ None
        → Fails F6 ≡ plan_in look s (arith_row op r1 r2 n) next
    unfolding plan_in ask need
    arith_no_first Lt e = rw (to, e) refl
    arith_no_first Plus e = rw (to, e) refl
    arith_no_first Minus e = rw (to, e) refl

    module _ (x : ℤ) (first : int_in (faces look s r2) ≡ Some x) where
      pub arith_no_second : (op : Arith) → operand (faces look s) n ≡ None
          → Fails F6 ≡ plan_in look s (arith_row op r1 r2 n) next
      unfolding plan_in ask need
      arith_no_second Lt e = rw (to, first, e) refl
      arith_no_second Plus e = rw (to, first, e) refl
      arith_no_second Minus e = rw (to, first, e) refl

      module _ (z : ℤ) (second : operand (faces look s) n ≡ Some z) where
        pub arith_made : (op : Arith) → fits_64 (arith_of op x z) ≡ true
            → makes r1 (Int (arith_of op x z)) next ≡ plan_in look s (arith_row op r1 r2 n) next
        unfolding plan_in ask need
        arith_made Lt f = rw (to, first, second) refl
        arith_made Plus f = rw (to, first, second, f) refl
        arith_made Minus f = rw (to, first, second, f) refl

        pub arith_over : (op : Arith) → fits_64 (arith_of op x z) ≡ false
            → Fails F9 ≡ plan_in look s (arith_row op r1 r2 n) next
        unfolding plan_in ask need
        arith_over Lt f = let k = bit_fits (int_lt x z) in cc
        arith_over Plus f = rw (to, first, second, f) refl
        arith_over Minus f = rw (to, first, second, f) refl

-- ---- `split` and `splice`

module _ {W : Type 0} (look : W → Word) (s : State W) (r1 r2 r3 : Reg) (next : Word) where
  pub split_cut : (n : Operand) (c : CapFields) (z : ℤ) (p : Result (CapFields × CapFields) FailCause)
      → is_pc r1 ≡ false → is_pc r2 ≡ false → memory_in (faces look s r3) ≡ Some c
      → operand (faces look s) n ≡ Some z → (y : ℤ)
      → MatchResult p
      (λ p. (can_split c y ≡ true) × (p.0 ≡ record c { end = address y })
      × (p.1 ≡ record c { base = address y + 1 }))
      (λ f. (can_split c y ≡ false) × (f ≡ F13))
      → y ≡ z → row_splits r1 r2 r3 p next ≡ plan_in look s (Instr.Split r1 r2 r3 n) next
  unfolding plan_in ask need
  split_cut n c z (Ok p) t1 t2 m o y h e = rw (t1, t2, m, o, ← e, h.0, h.1, h.2) refl
  split_cut n c z (Err f) t1 t2 m o y h e = rw (t1, t2, m, o, ← e, h.0, h.1) refl

  pub splice_joined : (a b : CapFields) (c : Result CapFields FailCause) → is_pc r1 ≡ false
      → memory_in (faces look s r2) ≡ Some a → memory_in (faces look s r3) ≡ Some b
      → MatchResult c
      (λ c. ((same_kind a b && (a.end + 1 == b.base)) ≡ true) × (c ≡ record b { base = a.base }))
      (λ f. ((same_kind a b && (a.end + 1 == b.base)) ≡ false) × (f ≡ F14))
      → row_splices r1 r2 r3 c next ≡ plan_in look s (Instr.Splice r1 r2 r3) next
  unfolding plan_in ask need
  splice_joined a b (Ok c) t m1 m2 h = rw (t, m1, m2, h.0, h.1) refl
  splice_joined a b (Err f) t m1 m2 h = rw (t, m1, m2, h.0, h.1) refl
