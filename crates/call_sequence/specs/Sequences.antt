-- The code of calls, returns and entries, as instructions with their numbers filled in.
use Rattle.std.specs.Prelude.{ℕ, ◌+◌, ℤ, pos, negsuc, ◌-ℤ◌, List, [], ◌∷◌, map}
use Rattle.lcm_isa.specs.declared.Reg.TheVariants.{Pc, Rcode, Rdata, Stk, Dat, T1, T2, C1, C2}
use Rattle.lcm_isa.specs.declared.Operand.TheVariants.{R, Imm}
use Rattle.lcm_isa.specs.declared.Instr.{Instr}
use Rattle.lcm_isa.specs.declared.Instr.TheVariants.{Jnz, Gettype, Geta, Getb, Gete, Getp, Getlin, Move}
use Rattle.lcm_isa.specs.declared.Instr.TheVariants.{Store, Load, Cca, Minus, Seta2b, Xjmp, Cseal, Split}
use Rattle.lcm_isa.specs.declared.Instr.TheVariants.{Splice}
use Rattle.lcm_isa.specs.Numbers.{number_of}

-- what has to be added to an offset to come to another
abbrev pub distance : ℕ → ℕ → ℤ
distance from to = pos to -ℤ pos from

-- a call at an offset: `data` is pushed, the frame is split off the stack, the two halves of the
-- return are sealed under the site's seal, and c1 is called with c2
unfoldable pub call_code : ℕ → ℕ → ℕ → List Instr
call_code literal at site =
    Store Stk Dat
    ∷ Move T1 (R Pc)
    ∷ Cca T1 (Imm (distance (at + 1) literal))
    ∷ Load T2 T1
    ∷ Cca T2 (Imm (pos site))
    ∷ Geta T1 Stk
    ∷ Minus T1 T1 (Imm (pos 1))
    ∷ Split Stk Rdata Stk (R T1)
    ∷ Cca Stk (Imm (negsuc 0))
    ∷ Cseal Rdata T2
    ∷ Move Rcode (R Pc)
    ∷ Cca Rcode (Imm (pos 6))
    ∷ Cseal Rcode T2
    ∷ Move T1 (Imm (pos 0))
    ∷ Move T2 (Imm (pos 0))
    ∷ Xjmp C1 C2
    ∷ []

-- a return at an offset: the frame is spliced to the stack, which must then begin at its base, and
-- `data` is read back from it and wiped
unfoldable pub return_code : ℕ → ℕ → ℕ → List Instr
return_code fail at stack_base =
    Splice Stk Stk Dat
    ∷ Getb T1 Stk
    ∷ Minus T1 T1 (Imm (pos stack_base))
    ∷ Move T2 (R Pc)
    ∷ Cca T2 (Imm (distance (at + 3) fail))
    ∷ Jnz T2 T1
    ∷ Load Dat Stk
    ∷ Move T1 (Imm (pos 0))
    ∷ Store Stk T1
    ∷ Move T2 (Imm (pos 0))
    ∷ []

-- an entry at an offset: stk must be a linear memory capability with rw that begins at the stack's
-- base, and its address becomes its end
unfoldable pub entry_code : ℕ → ℕ → ℕ → List Instr
entry_code fail at stack_base =
    Move T2 (R Pc)
    ∷ Cca T2 (Imm (distance at fail))
    ∷ Gettype T1 Stk
    ∷ Minus T1 T1 (Imm (pos 1))
    ∷ Jnz T2 T1
    ∷ Getlin T1 Stk
    ∷ Minus T1 T1 (Imm (pos 1))
    ∷ Jnz T2 T1
    ∷ Getp T1 Stk
    ∷ Minus T1 T1 (Imm (pos 2))
    ∷ Jnz T2 T1
    ∷ Getb T1 Stk
    ∷ Minus T1 T1 (Imm (pos stack_base))
    ∷ Jnz T2 T1
    ∷ Seta2b Stk
    ∷ Gete T1 Stk
    ∷ Minus T1 T1 (Imm (pos stack_base))
    ∷ Cca Stk (R T1)
    ∷ Move T1 (Imm (pos 0))
    ∷ Move T2 (Imm (pos 0))
    ∷ []

-- words that are spoken of, counted from 0: the one of a call that splits the stack, and those of a return
-- that load `data` and wipe where it stood
abbrev pub split_word : ℕ
split_word = 7

abbrev pub load_word : ℕ
load_word = 6

abbrev pub wipe_word : ℕ
wipe_word = 8

-- the words of some code
abbrev pub numbers : List Instr → List ℤ
numbers code = map (λ i. pos (number_of i)) code
