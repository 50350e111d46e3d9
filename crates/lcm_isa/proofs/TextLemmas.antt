-- The text of an instruction, piece by piece.
use Rattle.std.proofs.Common.{◌≡◌, ℕ, ◌≤◌, List, [], ◌∷◌, ◌++◌, map, length, append_assoc, append-nil, arith}
use Rattle.std.proofs.Common.{lit≤}
use Rattle.std.specs.Prelude.{slice_get}
use Rattle.std.specs.List.{join_with_byte}
use Rattle.lcm_isa.specs.declared.Operand.{Operand}
use Rattle.lcm_isa.specs.declared.Instr.{Instr}
use Rattle.lcm_isa.specs.declared.Instr.TheVariants.{Fail, Halt, Jmp, Jnz, Gettype, Geta, Getb, Gete, Getp}
use Rattle.lcm_isa.specs.declared.Instr.TheVariants.{Getlin, Move, Store, Load, Cca, Restrict, Lt, Plus}
use Rattle.lcm_isa.specs.declared.Instr.TheVariants.{Minus, Seta2b, Xjmp, Cseal, Split, Splice}
use Rattle.lcm_isa.specs.Texts.{instr_text, mnemonic_of, operands_of, operand_text, after_blank}

joined : (m : List ℕ) (os : List Operand) → length os ≤ 4
    → join_with_byte 32 (m ∷ map operand_text os)
    ≡ (((m ++ after_blank (slice_get os 0)) ++ after_blank (slice_get os 1)) ++ after_blank
    (slice_get os 2)) ++ after_blank (slice_get os 3)
joined m [] h = simp append-nil
joined m (a ∷ []) h = simp append-nil
joined m (a ∷ b ∷ []) h = simp (append-nil, append_assoc)
joined m (a ∷ b ∷ c ∷ []) h = simp (append-nil, append_assoc)
joined m (a ∷ b ∷ c ∷ d ∷ []) h = simp append_assoc
joined m (a ∷ b ∷ c ∷ d ∷ e ∷ os) h = absurd (omega arith)

pub few : (i : Instr) → length (operands_of i) ≤ 4
few Fail = lit≤ tt
few Halt = lit≤ tt
few (Jmp a) = lit≤ tt
few (Jnz a b) = lit≤ tt
few (Gettype a b) = lit≤ tt
few (Geta a b) = lit≤ tt
few (Getb a b) = lit≤ tt
few (Gete a b) = lit≤ tt
few (Getp a b) = lit≤ tt
few (Getlin a b) = lit≤ tt
few (Move a n) = lit≤ tt
few (Store a b) = lit≤ tt
few (Load a b) = lit≤ tt
few (Cca a n) = lit≤ tt
few (Restrict a n) = lit≤ tt
few (Lt a b n) = lit≤ tt
few (Plus a b n) = lit≤ tt
few (Minus a b n) = lit≤ tt
few (Seta2b a) = lit≤ tt
few (Xjmp a b) = lit≤ tt
few (Cseal a b) = lit≤ tt
few (Split a b c n) = lit≤ tt
few (Splice a b c) = lit≤ tt

pub mnemonic_short : (i : Instr) → length (mnemonic_of i) ≤ 8
mnemonic_short Fail = lit≤ tt
mnemonic_short Halt = lit≤ tt
mnemonic_short (Jmp a) = lit≤ tt
mnemonic_short (Jnz a b) = lit≤ tt
mnemonic_short (Gettype a b) = lit≤ tt
mnemonic_short (Geta a b) = lit≤ tt
mnemonic_short (Getb a b) = lit≤ tt
mnemonic_short (Gete a b) = lit≤ tt
mnemonic_short (Getp a b) = lit≤ tt
mnemonic_short (Getlin a b) = lit≤ tt
mnemonic_short (Move a n) = lit≤ tt
mnemonic_short (Store a b) = lit≤ tt
mnemonic_short (Load a b) = lit≤ tt
mnemonic_short (Cca a n) = lit≤ tt
mnemonic_short (Restrict a n) = lit≤ tt
mnemonic_short (Lt a b n) = lit≤ tt
mnemonic_short (Plus a b n) = lit≤ tt
mnemonic_short (Minus a b n) = lit≤ tt
mnemonic_short (Seta2b a) = lit≤ tt
mnemonic_short (Xjmp a b) = lit≤ tt
mnemonic_short (Cseal a b) = lit≤ tt
mnemonic_short (Split a b c n) = lit≤ tt
mnemonic_short (Splice a b c) = lit≤ tt

pub instr_text_joined : (i : Instr)
    → instr_text i
    ≡ (((mnemonic_of i ++ after_blank (slice_get (operands_of i) 0)) ++ after_blank
    (slice_get (operands_of i) 1)) ++ after_blank (slice_get (operands_of i) 2)) ++ after_blank
    (slice_get (operands_of i) 3)
unfolding instr_text
instr_text_joined i = joined (mnemonic_of i) (operands_of i) (few i)
