-- A number has only the parts of the instruction that they spell exactly where it is that instruction's
-- number.
use Rattle.std.proofs.Common.{◌≡◌, ℕ, ◌+◌, ◌/◌, ◌%◌, ◌<◌, ◌≤◌, pos, negsuc, ◌-ℤ◌, Option, Some, None}
use Rattle.std.proofs.Common.{refl, sym, ap, ◌∙◌, ◌-◌, ◌&&◌, eq-eqb, eqb-true, eqb, Bool, true, false}
use Rattle.std.proofs.Common.{lt-ltb, ltb, ltb-true, ltb-false, ne_eqb, lit<, arith, zero, suc, subst, List}
use Rattle.std.proofs.Common.{[], ◌∷◌, slice_get}
use Rattle.std.proofs.lemmas.Bool.{eqb-false, and_parts}
use Rattle.std.specs.Cmp.{both_ways}
use Rattle.std.specs.Cmp.Derive.{both_true}
use Rattle.std.specs.Prelude.{if◌then◌else◌}
use Rattle.std.proofs.lemmas.Int.{ints}
use Rattle.lcm_isa.specs.declared.Reg.{Reg}
use Rattle.lcm_isa.specs.declared.Operand.{Operand}
use Rattle.lcm_isa.specs.declared.Operand.TheVariants.{R, Imm}
use Rattle.lcm_isa.specs.declared.Instr.{Instr}
use Rattle.lcm_isa.specs.declared.Instr.TheVariants.{Fail, Halt, Jmp, Jnz, Gettype, Geta, Getb, Gete, Getp}
use Rattle.lcm_isa.specs.declared.Instr.TheVariants.{Getlin, Move, Store, Load, Cca, Restrict, Lt, Plus}
use Rattle.lcm_isa.specs.declared.Instr.TheVariants.{Minus, Seta2b, Xjmp, Cseal, Split, Splice}
use Rattle.lcm_isa.specs.Numbers.{reg_number, reg_of, biased, mode_of, field_of, operand_of, packed}
use Rattle.lcm_isa.specs.Numbers.{number_of, table, all_with, candidate, if_numbered}
use Rattle.lcm_isa.specs.Own.{field_fits, is_own}
use Rattle.lcm_isa.proofs.NumberLemmas.{reg_below}

-- ---- parts of numbers

number_back : (k : ℕ) → k < 16 → reg_number (reg_of k) ≡ k
number_back zero h = refl
number_back (suc zero) h = refl
number_back (suc (suc zero)) h = refl
number_back (suc (suc (suc zero))) h = refl
number_back (suc (suc (suc (suc zero)))) h = refl
number_back (suc (suc (suc (suc (suc zero))))) h = refl
number_back (suc (suc (suc (suc (suc (suc zero)))))) h = refl
number_back (suc (suc (suc (suc (suc (suc (suc zero))))))) h = refl
number_back (suc (suc (suc (suc (suc (suc (suc (suc zero)))))))) h = refl
number_back (suc (suc (suc (suc (suc (suc (suc (suc (suc zero))))))))) h = refl
number_back (suc (suc (suc (suc (suc (suc (suc (suc (suc (suc zero)))))))))) h = refl
number_back (suc (suc (suc (suc (suc (suc (suc (suc (suc (suc (suc zero))))))))))) h = refl
number_back (suc (suc (suc (suc (suc (suc (suc (suc (suc (suc (suc (suc zero)))))))))))) h = refl
number_back (suc (suc (suc (suc (suc (suc (suc (suc (suc (suc (suc (suc (suc zero))))))))))))) h = refl
number_back (suc (suc (suc (suc (suc (suc (suc (suc (suc (suc (suc (suc (suc (suc zero)))))))))))))) h = refl
number_back (suc (suc (suc (suc (suc (suc (suc (suc (suc (suc (suc (suc (suc (suc (suc zero))))))))))))))) h =
    refl
number_back (suc (suc (suc (suc (suc (suc (suc (suc (suc (suc (suc (suc (suc (suc (suc (suc k))))))))))))))))
    h = omega arith

biased_low : (f : ℕ) → f < 2147483648 → biased (pos f -ℤ pos 2147483648) ≡ f
biased_low f h =
    let e : pos f -ℤ pos 2147483648 ≡ negsuc (2147483647 - f) = omega (arith, ints) in
    let g : 2147483647 - (2147483647 - f) ≡ f = omega arith in
    ap biased e ∙ g

biased_high : (f : ℕ) → ltb f 2147483648 ≡ false → biased (pos f -ℤ pos 2147483648) ≡ f
biased_high f b =
    let h = ltb-false f 2147483648 b in
    let e : pos f -ℤ pos 2147483648 ≡ pos (f - 2147483648) = omega (arith, ints) in
    let g : f - 2147483648 + 2147483648 ≡ f = omega arith in
    ap biased e ∙ g

biased_by : (b : Bool) (f : ℕ) → ltb f 2147483648 ≡ b → biased (pos f -ℤ pos 2147483648) ≡ f
biased_by true f h = biased_low f (ltb-true f 2147483648 h)
biased_by false f h = biased_high f h

biased_back : (f : ℕ) → biased (pos f -ℤ pos 2147483648) ≡ f
biased_back f = biased_by _ f refl

-- ---- the test of an instruction, for each number of registers: whether the number is made of op and them

own0 : (op n : ℕ) → n % 64 ≡ op → ltb n 64 ≡ eqb (packed op 0 0 0 0 0) n
own0 op n e =
    both_ways _ _
    (λ t. let l = ltb-true n 64 t in eq-eqb (packed op 0 0 0 0 0) n (omega arith))
    (λ t. let l = eqb-true (packed op 0 0 0 0 0) n t in lt-ltb n 64 (omega arith))

own1 : (op n a : ℕ) → n % 64 ≡ op → a ≡ n / 64 % 16 → ltb n 1024 ≡ eqb (packed op a 0 0 0 0) n
own1 op n a e ea =
    both_ways _ _
    (λ t. let l = ltb-true n 1024 t in eq-eqb (packed op a 0 0 0 0) n (omega arith))
    (λ t. let l = eqb-true (packed op a 0 0 0 0) n t in lt-ltb n 1024 (omega arith))

own2 : (op n a b : ℕ) → n % 64 ≡ op → a ≡ n / 64 % 16 → b ≡ n / 1024 % 16
    → ltb n 16384 ≡ eqb (packed op a b 0 0 0) n
own2 op n a b e ea eb =
    both_ways _ _
    (λ t. let l = ltb-true n 16384 t in eq-eqb (packed op a b 0 0 0) n (omega arith))
    (λ t. let l = eqb-true (packed op a b 0 0 0) n t in lt-ltb n 16384 (omega arith))

own3 : (op n a b c : ℕ) → n % 64 ≡ op → a ≡ n / 64 % 16 → b ≡ n / 1024 % 16 → c ≡ n / 16384 % 16
    → ltb n 262144 ≡ eqb (packed op a b c 0 0) n
own3 op n a b c e ea eb ec =
    both_ways _ _
    (λ t. let l = ltb-true n 262144 t in eq-eqb (packed op a b c 0 0) n (omega arith))
    (λ t. let l = eqb-true (packed op a b c 0 0) n t in lt-ltb n 262144 (omega arith))

-- what is known of the operand that a number spells
abbrev Spells : Operand → ℕ → Type 0
Spells (R r) n = (n / 262144 % 2 ≡ 0) × (reg_number r < 16) × (n < 8388608 → reg_number r ≡ n / 524288)
Spells (Imm z) n = (n / 262144 % 2 ≡ 1) × (biased z ≡ n / 524288)

-- ---- and for each number of registers before an operand

own_a_reg : (op n a g : ℕ) → n % 64 ≡ op → a ≡ n / 64 % 16 → n / 262144 % 2 ≡ 0 → g < 16
    → (n < 8388608 → g ≡ n / 524288) → (eqb (n / 1024 % 256) 0 && ltb n 8388608) ≡ eqb (packed op a 0 0 0 g) n
own_a_reg op n a g e ea em below back =
    both_ways _ _
    (λ t. let p = and_parts _ _ t in let z = eqb-true (n / 1024 % 256) 0 p.0 in
    let l = ltb-true n 8388608 p.1 in let q = back l in eq-eqb (packed op a 0 0 0 g) n (omega arith))
    (λ t. let l = eqb-true (packed op a 0 0 0 g) n t in
    both_true (eq-eqb (n / 1024 % 256) 0 (omega arith)) (lt-ltb n 8388608 (omega arith)))

own_a_imm : (op n a g : ℕ) → n % 64 ≡ op → a ≡ n / 64 % 16 → n / 262144 % 2 ≡ 1 → g ≡ n / 524288
    → (eqb (n / 1024 % 256) 0 && true) ≡ eqb (packed op a 0 0 1 g) n
own_a_imm op n a g e ea em eg =
    both_ways _ _
    (λ t. let p = and_parts _ _ t in let z = eqb-true (n / 1024 % 256) 0 p.0 in
    eq-eqb (packed op a 0 0 1 g) n (omega arith))
    (λ t. let l = eqb-true (packed op a 0 0 1 g) n t in
    both_true (eq-eqb (n / 1024 % 256) 0 (omega arith)) refl)

own_a : (o : Operand) (op n a : ℕ) → n % 64 ≡ op → a ≡ n / 64 % 16 → Spells o n
    → (eqb (n / 1024 % 256) 0 && field_fits o n) ≡ eqb (packed op a 0 0 (mode_of o) (field_of o)) n
own_a (R r) op n a e ea s = own_a_reg op n a (reg_number r) e ea s.0 s.1 s.2
own_a (Imm z) op n a e ea s = own_a_imm op n a (biased z) e ea s.0 s.1

own_ab_reg : (op n a b g : ℕ) → n % 64 ≡ op → a ≡ n / 64 % 16 → b ≡ n / 1024 % 16 → n / 262144 % 2 ≡ 0
    → g < 16 → (n < 8388608 → g ≡ n / 524288)
    → (eqb (n / 16384 % 16) 0 && ltb n 8388608) ≡ eqb (packed op a b 0 0 g) n
own_ab_reg op n a b g e ea eb em below back =
    both_ways _ _
    (λ t. let p = and_parts _ _ t in let z = eqb-true (n / 16384 % 16) 0 p.0 in
    let l = ltb-true n 8388608 p.1 in let q = back l in eq-eqb (packed op a b 0 0 g) n (omega arith))
    (λ t. let l = eqb-true (packed op a b 0 0 g) n t in
    both_true (eq-eqb (n / 16384 % 16) 0 (omega arith)) (lt-ltb n 8388608 (omega arith)))

own_ab_imm : (op n a b g : ℕ) → n % 64 ≡ op → a ≡ n / 64 % 16 → b ≡ n / 1024 % 16 → n / 262144 % 2 ≡ 1
    → g ≡ n / 524288 → (eqb (n / 16384 % 16) 0 && true) ≡ eqb (packed op a b 0 1 g) n
own_ab_imm op n a b g e ea eb em eg =
    both_ways _ _
    (λ t. let p = and_parts _ _ t in let z = eqb-true (n / 16384 % 16) 0 p.0 in
    eq-eqb (packed op a b 0 1 g) n (omega arith))
    (λ t. let l = eqb-true (packed op a b 0 1 g) n t in
    both_true (eq-eqb (n / 16384 % 16) 0 (omega arith)) refl)

own_ab : (o : Operand) (op n a b : ℕ) → n % 64 ≡ op → a ≡ n / 64 % 16 → b ≡ n / 1024 % 16 → Spells o n
    → (eqb (n / 16384 % 16) 0 && field_fits o n) ≡ eqb (packed op a b 0 (mode_of o) (field_of o)) n
own_ab (R r) op n a b e ea eb s = own_ab_reg op n a b (reg_number r) e ea eb s.0 s.1 s.2
own_ab (Imm z) op n a b e ea eb s = own_ab_imm op n a b (biased z) e ea eb s.0 s.1

own_abc_reg : (op n a b c g : ℕ) → n % 64 ≡ op → a ≡ n / 64 % 16 → b ≡ n / 1024 % 16 → c ≡ n / 16384 % 16
    → n / 262144 % 2 ≡ 0 → g < 16 → (n < 8388608 → g ≡ n / 524288)
    → ltb n 8388608 ≡ eqb (packed op a b c 0 g) n
own_abc_reg op n a b c g e ea eb ec em below back =
    both_ways _ _
    (λ t. let l = ltb-true n 8388608 t in let q = back l in eq-eqb (packed op a b c 0 g) n (omega arith))
    (λ t. let l = eqb-true (packed op a b c 0 g) n t in lt-ltb n 8388608 (omega arith))

own_abc_imm : (op n a b c g : ℕ) → n % 64 ≡ op → a ≡ n / 64 % 16 → b ≡ n / 1024 % 16 → c ≡ n / 16384 % 16
    → n / 262144 % 2 ≡ 1 → g ≡ n / 524288 → true ≡ eqb (packed op a b c 1 g) n
own_abc_imm op n a b c g e ea eb ec em eg =
    both_ways _ _ (λ t. eq-eqb (packed op a b c 1 g) n (omega arith)) (λ t. refl)

own_abc : (o : Operand) (op n a b c : ℕ) → n % 64 ≡ op → a ≡ n / 64 % 16 → b ≡ n / 1024 % 16
    → c ≡ n / 16384 % 16 → Spells o n → field_fits o n ≡ eqb (packed op a b c (mode_of o) (field_of o)) n
own_abc (R r) op n a b c e ea eb ec s = own_abc_reg op n a b c (reg_number r) e ea eb ec s.0 s.1 s.2
own_abc (Imm z) op n a b c e ea eb ec s = own_abc_imm op n a b c (biased z) e ea eb ec s.0 s.1

-- ---- the operand of a number

mode_one : (n : ℕ) → eqb (n / 262144 % 2) 0 ≡ false → n / 262144 % 2 ≡ 1
mode_one n h = let d = eqb-false (n / 262144 % 2) 0 h in omega arith

spells_by : (b : Bool) (n : ℕ) → eqb (n / 262144 % 2) 0 ≡ b
    → Spells (if b then R (reg_of (n / 524288)) else Imm (pos (n / 524288) -ℤ pos 2147483648)) n
spells_by true n h = (
  eqb-true (n / 262144 % 2) 0 h,
  reg_below (reg_of (n / 524288)),
  λ l.
      number_back (n / 524288) (omega arith),
)
spells_by false n h = (mode_one n h, biased_back (n / 524288))

spells : (n : ℕ) → Spells (operand_of (n / 262144 % 2) (n / 524288)) n
spells n = spells_by _ n refl

-- what holds of each item of a list at its place
data AllAt (P : ℕ → Instr → Type 0) : ℕ → List Instr → Type 0 where
  all_none : {k : ℕ} → AllAt P k []
  also : {k : ℕ} {i : Instr} {is : List Instr} → P k i → AllAt P (suc k) is → AllAt P k (i ∷ is)

at_place : (P : ℕ → Instr → Type 0) (xs : List Instr) (from k : ℕ) (i : Instr) → AllAt P from xs
    → slice_get xs k ≡ Some i → P (k + from) i
at_place P [] from k i h e = cc
at_place P (x ∷ xs) from zero i (also h hs) e =
    let same : x ≡ i = cc in
    let z : from ≡ zero + from = omega arith in
    subst (λ j. P j i) z (subst (P from) same h)
at_place P (x ∷ xs) from (suc k) i (also h hs) e =
    let z : k + suc from ≡ suc k + from = omega arith in
    subst (λ j. P j i) z (at_place P xs (suc from) k i hs e)

-- at its place in the table, an instruction whose number is tried
abbrev OwnAt : ℕ → ℕ → Instr → Type 0
OwnAt n k i = n % 64 ≡ k → is_own i n ≡ eqb (number_of i) n

own_rows : (n : ℕ) (a b c : Reg) (o : Operand) → reg_number a ≡ n / 64 % 16 → reg_number b ≡ n / 1024 % 16
    → reg_number c ≡ n / 16384 % 16 → Spells o n → AllAt (OwnAt n) 0 (all_with a b c o)
unfolding all_with number_of is_own
own_rows n a b c o ea eb ec h =
    also (λ e. own0 0 n e) (
    also (λ e. own0 1 n e) (
    also (λ e. own1 2 n (reg_number a) e ea) (
    also (λ e. own2 3 n (reg_number a) (reg_number b) e ea eb) (
    also (λ e. own2 4 n (reg_number a) (reg_number b) e ea eb) (
    also (λ e. own2 5 n (reg_number a) (reg_number b) e ea eb) (
    also (λ e. own2 6 n (reg_number a) (reg_number b) e ea eb) (
    also (λ e. own2 7 n (reg_number a) (reg_number b) e ea eb) (
    also (λ e. own2 8 n (reg_number a) (reg_number b) e ea eb) (
    also (λ e. own2 9 n (reg_number a) (reg_number b) e ea eb) (
    also (λ e. own_a o 10 n (reg_number a) e ea h) (
    also (λ e. own2 11 n (reg_number a) (reg_number b) e ea eb) (
    also (λ e. own2 12 n (reg_number a) (reg_number b) e ea eb) (
    also (λ e. own_a o 13 n (reg_number a) e ea h) (
    also (λ e. own_a o 14 n (reg_number a) e ea h) (
    also (λ e. own_ab o 15 n (reg_number a) (reg_number b) e ea eb h) (
    also (λ e. own_ab o 16 n (reg_number a) (reg_number b) e ea eb h) (
    also (λ e. own_ab o 17 n (reg_number a) (reg_number b) e ea eb h) (
    also (λ e. own1 18 n (reg_number a) e ea) (
    also (λ e. own2 19 n (reg_number a) (reg_number b) e ea eb) (
    also (λ e. own2 20 n (reg_number a) (reg_number b) e ea eb) (
    also (λ e. own_abc o 21 n (reg_number a) (reg_number b) (reg_number c) e ea eb ec h) (
    also (λ e. own3 22 n (reg_number a) (reg_number b) (reg_number c) e ea eb ec)
    all_none))))))))))))))))))))))

own_found : (n : ℕ) (i : Instr) → candidate n ≡ Some i → is_own i n ≡ eqb (number_of i) n
unfolding candidate table
own_found n i e =
    let a : Reg = reg_of (n / 64 % 16) in
    let b : Reg = reg_of (n / 1024 % 16) in
    let c : Reg = reg_of (n / 16384 % 16) in
    let o : Operand = operand_of (n / 262144 % 2) (n / 524288) in
    let ea : reg_number a ≡ n / 64 % 16 = number_back (n / 64 % 16) (omega arith) in
    let eb : reg_number b ≡ n / 1024 % 16 = number_back (n / 1024 % 16) (omega arith) in
    let ec : reg_number c ≡ n / 16384 % 16 = number_back (n / 16384 % 16) (omega arith) in
    let all = own_rows n a b c o ea eb ec (spells n) in
    let z : n % 64 ≡ n % 64 + 0 = omega arith in
    at_place (OwnAt n) (all_with a b c o) 0 (n % 64) i all e z

pub if_own : (n : ℕ) (i : Instr) → candidate n ≡ Some i
    → (if is_own i n then Some i else None) ≡ if_numbered n (candidate n)
if_own n i e = let s = own_found n i e in rw (e, s)

pub own_then : (n : ℕ) (i : Instr) → candidate n ≡ Some i → true ≡ is_own i n
    → Some i ≡ if_numbered n (candidate n)
own_then n i e t = ap (λ b. if b then Some i else None) t ∙ if_own n i e

pub own_else : (n : ℕ) (i : Instr) → candidate n ≡ Some i → false ≡ is_own i n
    → None ≡ if_numbered n (candidate n)
own_else n i e t = ap (λ b. if b then Some i else None) t ∙ if_own n i e

-- the number of an instruction with a register operand, or with none, is below 2^23
far_reg : (op n a b c g : ℕ) → op < 64 → a < 16 → b < 16 → c < 16 → g < 16 → 8388608 ≤ n
    → eqb (packed op a b c 0 g) n ≡ false
far_reg op n a b c g ho ha hb hc hg far = ne_eqb (packed op a b c 0 g) n (λ e. omega arith)

far_imm : (op n a b c g : ℕ) → op < 64 → a < 16 → b < 16 → c < 16 → n / 262144 % 2 ≡ 0
    → eqb (packed op a b c 1 g) n ≡ false
far_imm op n a b c g ho ha hb hc em = ne_eqb (packed op a b c 1 g) n (λ e. omega arith)

far_with : (o : Operand) (op n a b c : ℕ) → op < 64 → a < 16 → b < 16 → c < 16 → n / 262144 % 2 ≡ 0
    → 8388608 ≤ n → eqb (packed op a b c (mode_of o) (field_of o)) n ≡ false
far_with (R r) op n a b c ho ha hb hc em far = far_reg op n a b c (reg_number r) ho ha hb hc (reg_below r) far
far_with (Imm z) op n a b c ho ha hb hc em far = far_imm op n a b c (biased z) ho ha hb hc em

far_from : (i : Instr) (n : ℕ) → n / 262144 % 2 ≡ 0 → 8388608 ≤ n → eqb (number_of i) n ≡ false
unfolding number_of
far_from Fail n em far = far_reg 0 n 0 0 0 0 (lit< tt) (lit< tt) (lit< tt) (lit< tt) (lit< tt) far
far_from Halt n em far = far_reg 1 n 0 0 0 0 (lit< tt) (lit< tt) (lit< tt) (lit< tt) (lit< tt) far
far_from (Jmp a) n em far =
    far_reg 2 n (reg_number a) 0 0 0 (lit< tt) (reg_below a) (lit< tt) (lit< tt) (lit< tt) far
far_from (Jnz a b) n em far =
    far_reg 3 n (reg_number a) (reg_number b) 0 0 (lit< tt) (reg_below a) (reg_below b) (lit< tt)
    (lit< tt) far
far_from (Gettype a b) n em far =
    far_reg 4 n (reg_number a) (reg_number b) 0 0 (lit< tt) (reg_below a) (reg_below b) (lit< tt)
    (lit< tt) far
far_from (Geta a b) n em far =
    far_reg 5 n (reg_number a) (reg_number b) 0 0 (lit< tt) (reg_below a) (reg_below b) (lit< tt)
    (lit< tt) far
far_from (Getb a b) n em far =
    far_reg 6 n (reg_number a) (reg_number b) 0 0 (lit< tt) (reg_below a) (reg_below b) (lit< tt)
    (lit< tt) far
far_from (Gete a b) n em far =
    far_reg 7 n (reg_number a) (reg_number b) 0 0 (lit< tt) (reg_below a) (reg_below b) (lit< tt)
    (lit< tt) far
far_from (Getp a b) n em far =
    far_reg 8 n (reg_number a) (reg_number b) 0 0 (lit< tt) (reg_below a) (reg_below b) (lit< tt)
    (lit< tt) far
far_from (Getlin a b) n em far =
    far_reg 9 n (reg_number a) (reg_number b) 0 0 (lit< tt) (reg_below a) (reg_below b) (lit< tt)
    (lit< tt) far
far_from (Move a o) n em far =
    far_with o 10 n (reg_number a) 0 0 (lit< tt) (reg_below a) (lit< tt) (lit< tt) em far
far_from (Store a b) n em far =
    far_reg 11 n (reg_number a) (reg_number b) 0 0 (lit< tt) (reg_below a) (reg_below b) (lit< tt)
    (lit< tt) far
far_from (Load a b) n em far =
    far_reg 12 n (reg_number a) (reg_number b) 0 0 (lit< tt) (reg_below a) (reg_below b) (lit< tt)
    (lit< tt) far
far_from (Cca a o) n em far =
    far_with o 13 n (reg_number a) 0 0 (lit< tt) (reg_below a) (lit< tt) (lit< tt) em far
far_from (Restrict a o) n em far =
    far_with o 14 n (reg_number a) 0 0 (lit< tt) (reg_below a) (lit< tt) (lit< tt) em far
far_from (Lt a b o) n em far =
    far_with o 15 n (reg_number a) (reg_number b) 0 (lit< tt) (reg_below a) (reg_below b) (lit< tt) em far
far_from (Plus a b o) n em far =
    far_with o 16 n (reg_number a) (reg_number b) 0 (lit< tt) (reg_below a) (reg_below b) (lit< tt) em far
far_from (Minus a b o) n em far =
    far_with o 17 n (reg_number a) (reg_number b) 0 (lit< tt) (reg_below a) (reg_below b) (lit< tt) em far
far_from (Seta2b a) n em far =
    far_reg 18 n (reg_number a) 0 0 0 (lit< tt) (reg_below a) (lit< tt) (lit< tt) (lit< tt) far
far_from (Xjmp a b) n em far =
    far_reg 19 n (reg_number a) (reg_number b) 0 0 (lit< tt) (reg_below a) (reg_below b) (lit< tt)
    (lit< tt) far
far_from (Cseal a b) n em far =
    far_reg 20 n (reg_number a) (reg_number b) 0 0 (lit< tt) (reg_below a) (reg_below b) (lit< tt)
    (lit< tt) far
far_from (Split a b c o) n em far =
    far_with o 21 n (reg_number a) (reg_number b) (reg_number c) (lit< tt) (reg_below a) (reg_below b)
    (reg_below c) em far
far_from (Splice a b c) n em far =
    far_reg 22 n (reg_number a) (reg_number b) (reg_number c) 0 (lit< tt) (reg_below a) (reg_below b)
    (reg_below c) (lit< tt) far

far_none : (o : Option Instr) (n : ℕ) → n / 262144 % 2 ≡ 0 → 8388608 ≤ n → None ≡ if_numbered n o
far_none None n em far = refl
far_none (Some i) n em far = let h = far_from i n em far in ap (λ b. if b then Some i else None) (sym h)

pub far_candidate : (n : ℕ) → n / 262144 % 2 ≡ 0 → 8388608 ≤ n → None ≡ if_numbered n (candidate n)
far_candidate n em far = far_none (candidate n) n em far
