-- The words of the four operators, with the operands in g0 and g1.
use Rattle.std.proofs.Common.{Less, Equal, Greater, ◌≡◌, ℕ, ◌+◌, ◌≤◌, ℤ, pos, negsuc, ◌+ℤ◌, ◌-ℤ◌, List}
use Rattle.std.proofs.Common.{Option, Some, None, Bool, true, false, refl, sym, ap, subst, arith}
use Rattle.std.specs.Prelude.{int_lt, cond, if◌then◌else◌}
use Rattle.std.specs.Ordering.{int_eq, is_eq}
use Rattle.std.proofs.lemmas.Bool.{ltb-true}
use Rattle.cap_words.specs.declared.Word.TheVariants.{Int}
use Rattle.lcm_isa.specs.declared.Reg.TheVariants.{G0, G1, G2}
use Rattle.lcm_isa.specs.declared.Operand.TheVariants.{R as InReg, Imm}
use Rattle.lcm_isa.specs.declared.Instr.TheVariants.{Move, Lt, Plus, Minus}
use Rattle.lcm_machine.specs.declared.FailCause.TheVariants.{F9}
use Rattle.lcm_machine.specs.Table.{fits_64, bit, ask, need}
use Rattle.lcm_machine.specs.Row.{row, failed, plan_in, pc_at}
use Rattle.lcm_machine.proofs.Offers.{shows, set_goes, lt_goes, plus_goes, minus_goes, number_in}
use Rattle.linked_starts.specs.Parts.{PartSeen}
use Rattle.overlay_machine.specs.declared.words.OWord.{OWord}
use Rattle.overlay_machine.specs.declared.words.OWord.TheVariants.{Plain}
use Rattle.overlay_machine.specs.Words.{look}
use Rattle.overlay_machine.specs.State.{OpenFrame, OState}
use Rattle.overlay_machine.specs.Link.{Link, IsTrusted}
use Rattle.overlay_machine.specs.Linked.{IsLink}
use Rattle.proc_language.specs.declared.tree.Op.{Op}
use Rattle.proc_language.specs.declared.tree.Op.TheVariants as operator
use Rattle.proc_templates.specs.Templates.{op_code}
use Rattle.template_runs.specs.Runs.{RunsOn, Failing}
use Rattle.template_runs.proofs.Steps.{At, next_pc, stop}
use Rattle.template_runs.proofs.Data.{Away, with_reg, set_law}
use Rattle.template_runs.proofs.Standing.{Stand, words_in}
use Rattle.template_runs.proofs.Elements.{free_g0, free_g1, free_g2}

bit_fits : (b : Bool) → fits_64 (bit b) ≡ true
bit_fits true = refl
bit_fits false = refl

not_both : (x y : ℤ) → int_lt x y ≡ true → int_lt y x ≡ true → ⊥
not_both (pos x) (pos y) a b = let h = ltb-true x y a in let k = ltb-true y x b in
    absurd (omega (arith, h, k))
not_both (pos x) (negsuc y) a b = cc
not_both (negsuc x) (pos y) a b = cc
not_both (negsuc x) (negsuc y) a b = let h = ltb-true y x a in let k = ltb-true x y b in
    absurd (omega (arith, h, k))

-- 1 less both tests is whether two numbers are equal
bits_equal : (b c : Bool) → (b ≡ true → c ≡ true → ⊥)
    → pos 1 -ℤ (bit c +ℤ bit b) ≡ bit (is_eq (cond b Less (cond c Greater Equal)))
bits_equal true true never = absurd (never refl refl)
bits_equal true false never = refl
bits_equal false true never = refl
bits_equal false false never = refl

equal_is : (x y : ℤ) → pos 1 -ℤ (bit (int_lt y x) +ℤ bit (int_lt x y)) ≡ bit (int_eq x y)
equal_is x y = bits_equal (int_lt x y) (int_lt y x) (not_both x y)

sum_fits : (b c : Bool) → fits_64 (bit c +ℤ bit b) ≡ true
sum_fits true true = refl
sum_fits true false = refl
sum_fits false true = refl
sum_fits false false = refl

-- the value of an operator, if it has 64 bits
abbrev pub checked : ℤ → Option ℤ
checked z = if fits_64 z then Some z else None

abbrev pub value_by : Op → ℤ → ℤ → Option ℤ
value_by operator.Plus x y = checked (x +ℤ y)
value_by operator.Minus x y = checked (x -ℤ y)
value_by operator.Less x y = Some (bit (int_lt x y))
value_by operator.Equal x y = Some (bit (int_eq x y))

checked_is : (z v : ℤ) → checked z ≡ Some v → (z ≡ v) × (fits_64 z ≡ true)
checked_is z v e = by (fits_64 z) refl e
  where
    by : (b : Bool) → fits_64 z ≡ b → (if b then Some z else None) ≡ Some v → (z ≡ v) × (fits_64 z ≡ true)
    by true f h = let s : z ≡ v = cc in (s, f)
    by false f h = absurd cc

unchecked_is : (z : ℤ) → checked z ≡ None → fits_64 z ≡ false
unchecked_is z e = by (fits_64 z) refl e
  where
    by : (b : Bool) → fits_64 z ≡ b → (if b then Some z else None) ≡ None → fits_64 z ≡ false
    by true f h = absurd cc
    by false f h = f

module _ (g : Link) (linked : IsLink g) (p : PartSeen) (ip : IsTrusted g p) (w top : ℕ) (fs : List OpenFrame)
    (end : ℕ) where
  abbrev Away' : ℤ → List OWord → (ℕ → OWord) → OState → Type 0
  Away' = Away g linked p ip w top fs

  module _ (k c : ℕ) (x y z : ℤ) (words : List OWord) (mem : ℕ → OWord) (o : OState) (at : At g linked p k o)
      (h : Away' z words mem o) (ex : o.maps.regs.g0 ≡ Plain (Int x)) (ey : o.maps.regs.g1 ≡ Plain (Int y))
    where
      -- what goes on after, with the value in g0
      abbrev pub Cont : (want : RunsOn g.layout) → Op → ℤ → Type 0
      Cont want u v =
          (q : OState) → At g linked p (k + words_in (op_code u)) q → Away' z words mem q
          → q.maps.regs.g0 ≡ Plain (Int v) → fits_64 v ≡ true → want.Good c q

      sum_fails : fits_64 (x +ℤ y) ≡ false
          → row look Plain (Plus G0 G0 (InReg G1)) (next_pc g linked p k) o.maps ≡ failed F9
          (pc_at look o.maps)
      unfolding row plan_in ask need
      sum_fails e = rw (
        shows look Plain o.maps G0 (Int x) (ap look ex),
        number_in look Plain o.maps G1 y (ap look ey),
        e,
      ) refl

      difference_fails : fits_64 (x -ℤ y) ≡ false
          → row look Plain (Minus G0 G0 (InReg G1)) (next_pc g linked p k) o.maps ≡ failed F9
          (pc_at look o.maps)
      unfolding row plan_in ask need
      difference_fails e =
          rw (
            shows look Plain o.maps G0 (Int x) (ap look ex),
            number_in look Plain o.maps G1 y (ap look ey),
            e,
          )
          refl

      plus_law : (want : RunsOn g.layout) → Stand g linked p end k (op_code operator.Plus)
          → fits_64 (x +ℤ y) ≡ true
          → Cont want operator.Plus (x +ℤ y) → want.Good (5 + c) o
      plus_law want code e u =
          set_law g linked p ip w top fs k want (5 + c) c words mem o z (Plus G0 G0 (InReg G1)) G0
          (Plain (Int (x +ℤ y))) (free_g0 g linked) refl code.0 at h
          (plus_goes look Plain G0 G0 (InReg G1) _ o.maps x y (x +ℤ y) refl (ap look ex)
          (number_in look Plain o.maps G1 y (ap look ey)) refl e) (λ h1 at1. u _ at1 h1 refl e) (omega arith)

      minus_law : (want : RunsOn g.layout) → Stand g linked p end k (op_code operator.Minus)
          → fits_64 (x -ℤ y) ≡ true
          → Cont want operator.Minus (x -ℤ y) → want.Good (5 + c) o
      minus_law want code e u =
          set_law g linked p ip w top fs k want (5 + c) c words mem o z (Minus G0 G0 (InReg G1)) G0
          (Plain (Int (x -ℤ y))) (free_g0 g linked) refl code.0 at h
          (minus_goes look Plain G0 G0 (InReg G1) _ o.maps x y (x -ℤ y) refl (ap look ex)
          (number_in look Plain o.maps G1 y (ap look ey)) refl e) (λ h1 at1. u _ at1 h1 refl e) (omega arith)

      less_law : (want : RunsOn g.layout) → Stand g linked p end k (op_code operator.Less)
          → Cont want operator.Less (bit (int_lt x y)) → want.Good (5 + c) o
      less_law want code u =
          set_law g linked p ip w top fs k want (5 + c) c words mem o z (Lt G0 G0 (InReg G1)) G0
          (Plain (Int (bit (int_lt x y)))) (free_g0 g linked) refl code.0 at h
          (lt_goes look Plain G0 G0 (InReg G1) _ o.maps x y refl (ap look ex)
          (number_in look Plain o.maps G1 y (ap look ey))) (λ h1 at1. u _ at1 h1 refl (bit_fits (int_lt x y)))
          (omega arith)

      equal_law : (want : RunsOn g.layout) → Stand g linked p end k (op_code operator.Equal)
          → Cont want operator.Equal (bit (int_eq x y)) → want.Good (5 + c) o
      equal_law want code u =
          let v1 = bit (int_lt x y) in
          let v2 = bit (int_lt y x) in
          let s1 = with_reg o G2 (Plain (Int (bit (int_lt x y)))) (next_pc g linked p k) in
          let s2 = with_reg s1 G0 (Plain (Int (bit (int_lt y x)))) (next_pc g linked p (k + 1)) in
          let s3 = with_reg s2 G0 (Plain (Int (bit (int_lt y x) +ℤ bit (int_lt x y))))
          (next_pc g linked p (k + 1 + 1)) in
          let s4 = with_reg s3 G1 (Plain (Int (pos 1))) (next_pc g linked p (k + 1 + 1 + 1)) in
          let less1 : 1 + (4 + c) ≤ 5 + c = omega arith in
          let less2 : 1 + (3 + c) ≤ 4 + c = omega arith in
          let less3 : 1 + (2 + c) ≤ 3 + c = omega arith in
          let less4 : 1 + (1 + c) ≤ 2 + c = omega arith in
          let less5 : 1 + c ≤ 1 + c = omega arith in
          let e5 : k + 1 + 1 + 1 + 1 + 1 ≡ k + 5 = omega arith in
          set_law g linked p ip w top fs k want (5 + c) (4 + c) words mem o z (Lt G2 G0 (InReg G1)) G2
          (Plain (Int (bit (int_lt x y)))) (free_g2 g linked) refl code.0 at h
          (lt_goes look Plain G2 G0 (InReg G1) _ o.maps x y refl (ap look ex)
          (number_in look Plain o.maps G1 y (ap look ey))) (λ h1 at1.
          set_law g linked p ip w top fs (k + 1) want (4 + c) (3 + c) words mem s1 z (Lt G0 G1 (InReg G0)) G0
          (Plain (Int (bit (int_lt y x)))) (free_g0 g linked) refl code.1.0 at1 h1
          (lt_goes look Plain G0 G1 (InReg G0) _ s1.maps y x refl (ap look ey)
          (number_in look Plain s1.maps G0 x (ap look ex))) (λ h2 at2.
          set_law g linked p ip w top fs (k + 1 + 1) want (3 + c) (2 + c) words mem s2 z
          (Plus G0 G0 (InReg G2))
          G0 (Plain (Int (bit (int_lt y x) +ℤ bit (int_lt x y)))) (free_g0 g linked) refl code.1.1.0 at2 h2
          (plus_goes look Plain G0 G0 (InReg G2) _ s2.maps (bit (int_lt y x)) (bit (int_lt x y))
          (bit (int_lt y x) +ℤ bit (int_lt x y)) refl refl
          (number_in look Plain s2.maps G2 (bit (int_lt x y)) refl) refl
          (sum_fits (int_lt x y) (int_lt y x))) (λ h3 at3.
          set_law g linked p ip w top fs (k + 1 + 1 + 1) want (2 + c) (1 + c) words mem s3 z
          (Move G1 (Imm (pos 1))) G1 (Plain (Int (pos 1))) (free_g1 g linked) refl code.1.1.1.0 at3 h3
          (set_goes look Plain G1 (pos 1) _ s3.maps refl) (λ h4 at4.
          set_law g linked p ip w top fs (k + 1 + 1 + 1 + 1) want (1 + c) c words mem s4 z
          (Minus G0 G1 (InReg G0)) G0 (Plain (Int (bit (int_eq x y)))) (free_g0 g linked) refl
          code.1.1.1.1.0 at4 h4
          (minus_goes look Plain G0 G1 (InReg G0) _ s4.maps (pos 1) (bit (int_lt y x) +ℤ bit (int_lt x y))
          (bit (int_eq x y)) refl refl
          (number_in look Plain s4.maps G0 (bit (int_lt y x) +ℤ bit (int_lt x y)) refl) (equal_is x y)
          (bit_fits (int_eq x y))) (λ h5 at5.
          u _ (subst (λ j. At g linked p j
          (with_reg s4 G0 (Plain (Int (bit (int_eq x y)))) (next_pc g linked p (k + 1 + 1 + 1 + 1)))) e5
          at5) h5 refl (bit_fits (int_eq x y))) less5) less4) less3) less2) less1

      -- where there is a value, it comes within five words, and else it fails
      pub operator_goes : (want : RunsOn g.layout) (u : Op) (v : ℤ) → Stand g linked p end k (op_code u)
          → value_by u x y ≡ Some v → Cont want u v → want.Good (5 + c) o
      operator_goes want operator.Plus v code e u =
          let s = checked_is (x +ℤ y) v e in
          plus_law want code s.1 (subst (Cont want operator.Plus) (sym s.0) u)
      operator_goes want operator.Minus v code e u =
          let s = checked_is (x -ℤ y) v e in
          minus_law want code s.1 (subst (Cont want operator.Minus) (sym s.0) u)
      operator_goes want operator.Less v code e u =
          let s : bit (int_lt x y) ≡ v = cc in
          less_law want code (subst (Cont want operator.Less) (sym s) u)
      operator_goes want operator.Equal v code e u =
          let s : bit (int_eq x y) ≡ v = cc in
          equal_law want code (subst (Cont want operator.Equal) (sym s) u)

      pub operator_fails : (want : Failing g.layout) (u : Op) → Stand g linked p end k (op_code u)
          → value_by u x y ≡ None → want.runs.Good (5 + c) o
      operator_fails want operator.Plus code e =
          stop g linked p k (Plus G0 G0 (InReg G1)) o h.valid at code.0 refl want (5 + c) F9 _
          (sum_fails (unchecked_is (x +ℤ y) e)) (omega arith)
      operator_fails want operator.Minus code e =
          stop g linked p k (Minus G0 G0 (InReg G1)) o h.valid at code.0 refl want (5 + c) F9 _
          (difference_fails (unchecked_is (x -ℤ y) e)) (omega arith)
      operator_fails want operator.Less code e = absurd cc
      operator_fails want operator.Equal code e = absurd cc
