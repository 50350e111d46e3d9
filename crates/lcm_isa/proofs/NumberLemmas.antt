-- The number of an instruction leads back to it.
use Rattle.std.proofs.Common.{◌≡◌, ℕ, ◌+◌, ◌/◌, ◌%◌, ◌<◌, ℤ, pos, negsuc, ◌-ℤ◌, Option, Some, None, refl, sym}
use Rattle.std.proofs.Common.{ap, ◌∙◌, ◌-◌, eq-eqb, eqb-true, eqb, cond, Bool, true, false, lt-ltb, lit<}
use Rattle.std.proofs.Common.{arith, zero, suc, subst, List, [], ◌∷◌, slice_get, rules, ◌≢◌}
use Rattle.std.specs.Prelude.{◌==◌, if◌then◌else◌, IfNone}
use Rattle.std.proofs.lemmas.Bool.{ltb-true}
use Rattle.std.proofs.lemmas.Int.{ints}
use Rattle.lcm_isa.specs.declared.Reg.{Reg}
use Rattle.lcm_isa.specs.declared.Reg.TheVariants.{Pc, Rcode, Rdata, Stk, Dat, T1, T2, C1, C2, A0, A1, A2, A3}
use Rattle.lcm_isa.specs.declared.Reg.TheVariants.{G0, G1, G2}
use Rattle.lcm_isa.specs.declared.Operand.{Operand}
use Rattle.lcm_isa.specs.declared.Operand.TheVariants.{R, Imm}
use Rattle.lcm_isa.specs.declared.Instr.{Instr}
use Rattle.lcm_isa.specs.declared.Instr.TheVariants.{Fail, Halt, Jmp, Jnz, Gettype, Geta, Getb, Gete, Getp}
use Rattle.lcm_isa.specs.declared.Instr.TheVariants.{Getlin, Move, Store, Load, Cca, Restrict, Lt, Plus}
use Rattle.lcm_isa.specs.declared.Instr.TheVariants.{Minus, Seta2b, Xjmp, Cseal, Split, Splice}
use Rattle.lcm_isa.specs.Numbers.{reg_number, reg_of, mode_of, field_of, operand_of, packed, number_of, table}
use Rattle.lcm_isa.specs.Numbers.{all_with, candidate, if_numbered, decode_of, IsOperand, IsInstr}

pub reg_below : (r : Reg) → reg_number r < 16
reg_below Pc = lit< tt
reg_below Rcode = lit< tt
reg_below Rdata = lit< tt
reg_below Stk = lit< tt
reg_below Dat = lit< tt
reg_below T1 = lit< tt
reg_below T2 = lit< tt
reg_below C1 = lit< tt
reg_below C2 = lit< tt
reg_below A0 = lit< tt
reg_below A1 = lit< tt
reg_below A2 = lit< tt
reg_below A3 = lit< tt
reg_below G0 = lit< tt
reg_below G1 = lit< tt
reg_below G2 = lit< tt

pub reg_back : (r : Reg) → reg_of (reg_number r) ≡ r
reg_back Pc = refl
reg_back Rcode = refl
reg_back Rdata = refl
reg_back Stk = refl
reg_back Dat = refl
reg_back T1 = refl
reg_back T2 = refl
reg_back C1 = refl
reg_back C2 = refl
reg_back A0 = refl
reg_back A1 = refl
reg_back A2 = refl
reg_back A3 = refl
reg_back G0 = refl
reg_back G1 = refl
reg_back G2 = refl

mode_below : (n : Operand) → mode_of n < 2
mode_below (R r) = lit< tt
mode_below (Imm n) = lit< tt

field_below : (n : Operand) → IsOperand n → field_of n < 4294967296
field_below (R r) h = let b = reg_below r in omega arith
field_below (Imm (pos n)) h = let b : n < 2147483648 = h.sfits in omega arith
field_below (Imm (negsuc n)) h = omega arith

back_pos : (n : ℕ) → pos (n + 2147483648) -ℤ pos 2147483648 ≡ pos n
back_pos n = omega (arith, ints)

back_neg : (n : ℕ) → n < 2147483648 → pos (2147483647 - n) -ℤ pos 2147483648 ≡ negsuc n
back_neg n h = omega (arith, ints)

operand_back : (n : Operand) → IsOperand n → operand_of (mode_of n) (field_of n) ≡ n
operand_back (R r) h = ap R (reg_back r)
operand_back (Imm (pos n)) h = ap Imm (back_pos n)
operand_back (Imm (negsuc n)) h = ap Imm (back_neg n h.sfits)

at_parts : (op a b c m f : ℕ) → op < 64 → a < 16 → b < 16 → c < 16 → m < 2
    → candidate (packed op a b c m f) ≡ table op (reg_of a) (reg_of b) (reg_of c) (operand_of m f)
unfolding candidate
at_parts op a b c m f ho ha hb hc hm =
    let n : ℕ = packed op a b c m f in
    let e1 : n % 64 ≡ op = omega arith in
    let e2 : n / 64 % 16 ≡ a = omega arith in
    let e3 : n / 1024 % 16 ≡ b = omega arith in
    let e4 : n / 16384 % 16 ≡ c = omega arith in
    let e5 : n / 262144 % 2 ≡ m = omega arith in
    let e6 : n / 524288 ≡ f = omega arith in
    rw (e1, e2, e3, e4, e5, e6)

packed_below : (op a b c m f : ℕ) → op < 64 → a < 16 → b < 16 → c < 16 → m < 2 → f < 4294967296
    → packed op a b c m f < 2251799813685248
packed_below op a b c m f ho ha hb hc hm hf = omega arith

-- each instruction is found at the parts of its number
found : (i : Instr) → IsInstr i → candidate (number_of i) ≡ Some i
unfolding number_of table all_with
found Fail h = at_parts 0 0 0 0 0 0 (lit< tt) (lit< tt) (lit< tt) (lit< tt) (lit< tt)
found Halt h = at_parts 1 0 0 0 0 0 (lit< tt) (lit< tt) (lit< tt) (lit< tt) (lit< tt)
found (Jmp a) h = at_parts 2 (reg_number a) 0 0 0 0 (lit< tt) (reg_below a) (lit< tt) (lit< tt) (lit< tt)
    ∙ rw (reg_back a)
found (Jnz a b) h = at_parts 3 (reg_number a) (reg_number b) 0 0 0 (lit< tt) (reg_below a) (reg_below b)
    (lit< tt) (lit< tt) ∙ rw (reg_back a, reg_back b)
found (Gettype a b) h = at_parts 4 (reg_number a) (reg_number b) 0 0 0 (lit< tt) (reg_below a) (reg_below b)
    (lit< tt) (lit< tt) ∙ rw (reg_back a, reg_back b)
found (Geta a b) h = at_parts 5 (reg_number a) (reg_number b) 0 0 0 (lit< tt) (reg_below a) (reg_below b)
    (lit< tt) (lit< tt) ∙ rw (reg_back a, reg_back b)
found (Getb a b) h = at_parts 6 (reg_number a) (reg_number b) 0 0 0 (lit< tt) (reg_below a) (reg_below b)
    (lit< tt) (lit< tt) ∙ rw (reg_back a, reg_back b)
found (Gete a b) h = at_parts 7 (reg_number a) (reg_number b) 0 0 0 (lit< tt) (reg_below a) (reg_below b)
    (lit< tt) (lit< tt) ∙ rw (reg_back a, reg_back b)
found (Getp a b) h = at_parts 8 (reg_number a) (reg_number b) 0 0 0 (lit< tt) (reg_below a) (reg_below b)
    (lit< tt) (lit< tt) ∙ rw (reg_back a, reg_back b)
found (Getlin a b) h = at_parts 9 (reg_number a) (reg_number b) 0 0 0 (lit< tt) (reg_below a) (reg_below b)
    (lit< tt) (lit< tt) ∙ rw (reg_back a, reg_back b)
found (Move a n) h = at_parts 10 (reg_number a) 0 0 (mode_of n) (field_of n) (lit< tt) (reg_below a)
    (lit< tt) (lit< tt) (mode_below n) ∙ rw (reg_back a, operand_back n h)
found (Store a b) h = at_parts 11 (reg_number a) (reg_number b) 0 0 0 (lit< tt) (reg_below a) (reg_below b)
    (lit< tt) (lit< tt) ∙ rw (reg_back a, reg_back b)
found (Load a b) h = at_parts 12 (reg_number a) (reg_number b) 0 0 0 (lit< tt) (reg_below a) (reg_below b)
    (lit< tt) (lit< tt) ∙ rw (reg_back a, reg_back b)
found (Cca a n) h = at_parts 13 (reg_number a) 0 0 (mode_of n) (field_of n) (lit< tt) (reg_below a) (lit< tt)
    (lit< tt) (mode_below n) ∙ rw (reg_back a, operand_back n h)
found (Restrict a n) h = at_parts 14 (reg_number a) 0 0 (mode_of n) (field_of n) (lit< tt) (reg_below a)
    (lit< tt) (lit< tt) (mode_below n) ∙ rw (reg_back a, operand_back n h)
found (Lt a b n) h = at_parts 15 (reg_number a) (reg_number b) 0 (mode_of n) (field_of n) (lit< tt)
    (reg_below a) (reg_below b) (lit< tt) (mode_below n) ∙ rw (reg_back a, reg_back b, operand_back n h)
found (Plus a b n) h = at_parts 16 (reg_number a) (reg_number b) 0 (mode_of n) (field_of n) (lit< tt)
    (reg_below a) (reg_below b) (lit< tt) (mode_below n) ∙ rw (reg_back a, reg_back b, operand_back n h)
found (Minus a b n) h = at_parts 17 (reg_number a) (reg_number b) 0 (mode_of n) (field_of n) (lit< tt)
    (reg_below a) (reg_below b) (lit< tt) (mode_below n) ∙ rw (reg_back a, reg_back b, operand_back n h)
found (Seta2b a) h = at_parts 18 (reg_number a) 0 0 0 0 (lit< tt) (reg_below a) (lit< tt) (lit< tt) (lit< tt)
    ∙ rw (reg_back a)
found (Xjmp a b) h = at_parts 19 (reg_number a) (reg_number b) 0 0 0 (lit< tt) (reg_below a) (reg_below b)
    (lit< tt) (lit< tt) ∙ rw (reg_back a, reg_back b)
found (Cseal a b) h = at_parts 20 (reg_number a) (reg_number b) 0 0 0 (lit< tt) (reg_below a) (reg_below b)
    (lit< tt) (lit< tt) ∙ rw (reg_back a, reg_back b)
found (Split a b c n) h = at_parts 21 (reg_number a) (reg_number b) (reg_number c) (mode_of n) (field_of n)
    (lit< tt) (reg_below a) (reg_below b) (reg_below c) (mode_below n)
    ∙ rw (reg_back a, reg_back b, reg_back c, operand_back n h)
found (Splice a b c) h = at_parts 22 (reg_number a) (reg_number b) (reg_number c) 0 0 (lit< tt) (reg_below a)
    (reg_below b) (reg_below c) (lit< tt) ∙ rw (reg_back a, reg_back b, reg_back c)

pub number_below : (i : Instr) → IsInstr i → number_of i < 2251799813685248
unfolding number_of
number_below Fail h = packed_below 0 0 0 0 0 0 (lit< tt) (lit< tt) (lit< tt) (lit< tt) (lit< tt) (lit< tt)
number_below Halt h = packed_below 1 0 0 0 0 0 (lit< tt) (lit< tt) (lit< tt) (lit< tt) (lit< tt) (lit< tt)
number_below (Jmp a) h = packed_below 2 (reg_number a) 0 0 0 0 (lit< tt) (reg_below a) (lit< tt) (lit< tt)
    (lit< tt) (lit< tt)
number_below (Jnz a b) h = packed_below 3 (reg_number a) (reg_number b) 0 0 0 (lit< tt) (reg_below a)
    (reg_below b) (lit< tt) (lit< tt) (lit< tt)
number_below (Gettype a b) h = packed_below 4 (reg_number a) (reg_number b) 0 0 0 (lit< tt) (reg_below a)
    (reg_below b) (lit< tt) (lit< tt) (lit< tt)
number_below (Geta a b) h = packed_below 5 (reg_number a) (reg_number b) 0 0 0 (lit< tt) (reg_below a)
    (reg_below b) (lit< tt) (lit< tt) (lit< tt)
number_below (Getb a b) h = packed_below 6 (reg_number a) (reg_number b) 0 0 0 (lit< tt) (reg_below a)
    (reg_below b) (lit< tt) (lit< tt) (lit< tt)
number_below (Gete a b) h = packed_below 7 (reg_number a) (reg_number b) 0 0 0 (lit< tt) (reg_below a)
    (reg_below b) (lit< tt) (lit< tt) (lit< tt)
number_below (Getp a b) h = packed_below 8 (reg_number a) (reg_number b) 0 0 0 (lit< tt) (reg_below a)
    (reg_below b) (lit< tt) (lit< tt) (lit< tt)
number_below (Getlin a b) h = packed_below 9 (reg_number a) (reg_number b) 0 0 0 (lit< tt) (reg_below a)
    (reg_below b) (lit< tt) (lit< tt) (lit< tt)
number_below (Move a n) h = packed_below 10 (reg_number a) 0 0 (mode_of n) (field_of n) (lit< tt)
    (reg_below a) (lit< tt) (lit< tt) (mode_below n) (field_below n h)
number_below (Store a b) h = packed_below 11 (reg_number a) (reg_number b) 0 0 0 (lit< tt) (reg_below a)
    (reg_below b) (lit< tt) (lit< tt) (lit< tt)
number_below (Load a b) h = packed_below 12 (reg_number a) (reg_number b) 0 0 0 (lit< tt) (reg_below a)
    (reg_below b) (lit< tt) (lit< tt) (lit< tt)
number_below (Cca a n) h = packed_below 13 (reg_number a) 0 0 (mode_of n) (field_of n) (lit< tt)
    (reg_below a) (lit< tt) (lit< tt) (mode_below n) (field_below n h)
number_below (Restrict a n) h = packed_below 14 (reg_number a) 0 0 (mode_of n) (field_of n) (lit< tt)
    (reg_below a) (lit< tt) (lit< tt) (mode_below n) (field_below n h)
number_below (Lt a b n) h = packed_below 15 (reg_number a) (reg_number b) 0 (mode_of n) (field_of n)
    (lit< tt) (reg_below a) (reg_below b) (lit< tt) (mode_below n) (field_below n h)
number_below (Plus a b n) h = packed_below 16 (reg_number a) (reg_number b) 0 (mode_of n) (field_of n)
    (lit< tt) (reg_below a) (reg_below b) (lit< tt) (mode_below n) (field_below n h)
number_below (Minus a b n) h = packed_below 17 (reg_number a) (reg_number b) 0 (mode_of n) (field_of n)
    (lit< tt) (reg_below a) (reg_below b) (lit< tt) (mode_below n) (field_below n h)
number_below (Seta2b a) h = packed_below 18 (reg_number a) 0 0 0 0 (lit< tt) (reg_below a) (lit< tt)
    (lit< tt) (lit< tt) (lit< tt)
number_below (Xjmp a b) h = packed_below 19 (reg_number a) (reg_number b) 0 0 0 (lit< tt) (reg_below a)
    (reg_below b) (lit< tt) (lit< tt) (lit< tt)
number_below (Cseal a b) h = packed_below 20 (reg_number a) (reg_number b) 0 0 0 (lit< tt) (reg_below a)
    (reg_below b) (lit< tt) (lit< tt) (lit< tt)
number_below (Split a b c n) h = packed_below 21 (reg_number a) (reg_number b) (reg_number c) (mode_of n)
    (field_of n) (lit< tt) (reg_below a) (reg_below b) (reg_below c) (mode_below n) (field_below n h)
number_below (Splice a b c) h = packed_below 22 (reg_number a) (reg_number b) (reg_number c) 0 0 (lit< tt)
    (reg_below a) (reg_below b) (reg_below c) (lit< tt) (lit< tt)

kept : (i : Instr) → if_numbered (number_of i) (Some i) ≡ Some i
kept i = rw (eq-eqb (number_of i) (number_of i) refl)

pub decode_of-number_of : (i : Instr) → IsInstr i → decode_of (pos (number_of i)) ≡ Some i
unfolding decode_of
decode_of-number_of i h =
    rw (lt-ltb (number_of i) 2251799813685248 (number_below i h), found i h) (kept i)

-- every operand that the parts of a number spell is in its range
operand_fits : (mode field : ℕ) → field < 4294967296 → IsOperand (operand_of mode field)
operand_fits mode field h = elim (mode == 0) as
    (λ b. IsOperand (if b then R (reg_of field) else Imm (pos field -ℤ pos 2147483648))) [
      | true ↦
          tt
      | false ↦ search rules
    ]

abbrev AllIn : (Instr → Type 0) → List Instr → Type 0
AllIn P [] = Unit {0}
AllIn P (i ∷ is) = P i × AllIn P is

slice_get_all : (P : Instr → Type 0) (xs : List Instr) (k : ℕ) (i : Instr) → AllIn P xs
    → slice_get xs k ≡ Some i → P i
slice_get_all P [] k i h e = cc
slice_get_all P (x ∷ xs) zero i h e = let same : x ≡ i = cc in subst P same h.0
slice_get_all P (x ∷ xs) (suc k) i h e = slice_get_all P xs k i h.1 e

-- the rows of the table, as a list
abbrev rows : Reg → Reg → Reg → Operand → List Instr
rows a b c n = Fail ∷ Halt ∷ Jmp a ∷ Jnz a b ∷ Gettype a b ∷ Geta a b ∷ Getb a b ∷ Gete a b ∷ Getp a b
    ∷ Getlin a b ∷ Move a n ∷ Store a b ∷ Load a b ∷ Cca a n ∷ Restrict a n ∷ Lt a b n ∷ Plus a b n ∷ Minus a
    b n ∷ Seta2b a ∷ Xjmp a b ∷ Cseal a b ∷ Split a b c n ∷ Splice a b c ∷ []

table_fits : (op : ℕ) (a b c : Reg) (n : Operand) (i : Instr) → IsOperand n → table op a b c n ≡ Some i
    → IsInstr i
unfolding table all_with
table_fits op a b c n i h e =
    let all : AllIn IsInstr (rows a b c n) = (
      tt,
      (
        tt,
        (
          tt,
          (
            tt,
            (
              tt,
              (
                tt,
                (
                  tt,
                  (tt, (tt, (tt, (h, (tt, (tt, (h, (h, (h, (h, (h, (tt, (tt, (tt, (h, (tt, tt)))))))))))))))),
                ),
              ),
            ),
          ),
        ),
      ),
    ) in
    slice_get_all IsInstr (rows a b c n) op i all e

from_kept : (b : Bool) (n : ℕ) (j i : Instr) → eqb (number_of j) n ≡ b → cond b (Some j) None ≡ Some i
    → n ≡ number_of i
from_kept false n j i e h = cc
from_kept true n j i e h = let same : number_of j ≡ n = eqb-true _ _ e in let one : j ≡ i = cc in sym same
    ∙ ap number_of one

from_if : (b : Bool) (n : ℕ) (o : Option Instr) (i : Instr) → cond b (if_numbered n o) None ≡ Some i
    → n ≡ number_of i
from_if false n o i h = cc
from_if true n None i h = cc
from_if true n (Some j) i h = from_kept _ n j i refl h

-- an instruction has one number
pub number_of-decode_of : (z : ℤ) (i : Instr) → decode_of z ≡ Some i → z ≡ pos (number_of i)
unfolding decode_of
number_of-decode_of (negsuc n) i h = cc
number_of-decode_of (pos n) i h = ap pos (from_if _ n (candidate n) i h)

fits_kept : (b : Bool) (j i : Instr) → IsInstr j → cond b (Some j) None ≡ Some i → IsInstr i
fits_kept false j i h e = cc
fits_kept true j i h e = let one : j ≡ i = cc in subst IsInstr one h

fits_if : (b : Bool) (n : ℕ) (o : Option Instr) (i : Instr)
    → (b ≡ true → (j : Instr) → o ≡ Some j → IsInstr j) → cond b (if_numbered n o) None ≡ Some i → IsInstr i
fits_if false n o i f h = cc
fits_if true n None i f h = cc
fits_if true n (Some j) i f h = fits_kept _ j i (f refl j refl) h

candidate_fits : (n : ℕ) (j : Instr) → n < 2251799813685248 → candidate n ≡ Some j → IsInstr j
unfolding candidate
candidate_fits n j h e = let f : n / 524288 < 4294967296 = omega arith in
    table_fits _ _ _ _ _ j (operand_fits (n / 262144 % 2) (n / 524288) f) e

-- what a number decodes to has operands in their range
pub decode_of-fits : (z : ℤ) (i : Instr) → decode_of z ≡ Some i → IsInstr i
unfolding decode_of
decode_of-fits (negsuc n) i h = cc
decode_of-fits (pos n) i h = fits_if _ n (candidate n) i
    (λ b j e. candidate_fits n j (ltb-true n 2251799813685248 b) e) h

-- where `decode` answers none
pub decoded_none : (z : ℤ) (o : Option Instr) → o ≡ decode_of z
    → IfNone o ((i : Instr) → IsInstr i → z ≢ pos (number_of i))
decoded_none z None h = λ i ok e. let k = decode_of-number_of i ok in let bad : None ≡ Some i = h
    ∙ ap decode_of e ∙ k in cc
decoded_none z (Some i) h = tt
