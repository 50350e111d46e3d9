-- Instructions whose immediate is replaced.
use Rattle.std.specs.Prelude.{ℕ, ℤ, pos, Bool, true, false, List, slice_get, slice_set, Option, Some, None}
use Rattle.std.specs.Prelude.{option_map}
use Rattle.std.specs.List.{list_any}
use Rattle.cap_words.specs.declared.Word.{Word}
use Rattle.cap_words.specs.declared.Word.TheVariants.{Int}
use Rattle.lcm_isa.specs.declared.Operand.{Operand}
use Rattle.lcm_isa.specs.declared.Operand.TheVariants.{R, Imm}
use Rattle.lcm_isa.specs.declared.Instr.{Instr}
use Rattle.lcm_isa.specs.declared.Instr.TheVariants.{Move, Cca, Restrict, Lt, Plus, Minus, Split}
use Rattle.lcm_isa.specs.Numbers.{number_of, decode_of}
use Rattle.lcm_isa.specs.Texts.{operands_of}

abbrev pub is_immediate : Operand → Bool
is_immediate (R r) = false
is_immediate (Imm n) = true

abbrev pub has_immediate : Instr → Bool
has_immediate i = list_any is_immediate (operands_of i)

-- the instruction with this immediate in the place of its own, if it has one
abbrev pub with_immediate : ℤ → Instr → Instr
with_immediate z (Move a (Imm n)) = Move a (Imm z)
with_immediate z (Cca a (Imm n)) = Cca a (Imm z)
with_immediate z (Restrict a (Imm n)) = Restrict a (Imm z)
with_immediate z (Lt a b (Imm n)) = Lt a b (Imm z)
with_immediate z (Plus a b (Imm n)) = Plus a b (Imm z)
with_immediate z (Minus a b (Imm n)) = Minus a b (Imm z)
with_immediate z (Split a b c (Imm n)) = Split a b c (Imm z)
with_immediate z i = i

-- the instruction that a word of code is
abbrev pub instr_in : Option Word → Option Instr
instr_in (Some (Int n)) = decode_of n
instr_in _ = None

abbrev pub some_immediate : Option Instr → Bool
some_immediate (Some i) = has_immediate i
some_immediate None = false

-- an instruction with an immediate stands at the offset
abbrev pub has_immediate_at : List Word → ℕ → Bool
has_immediate_at code at = some_immediate (instr_in (slice_get code at))

abbrev pub with_instr_at : List Word → ℕ → Option Instr → List Word
with_instr_at code at (Some i) = slice_set code at (Int (pos (number_of i)))
with_instr_at code at None = code

-- the code, with the immediate of the instruction at the offset replaced
abbrev pub code_patched : List Word → ℕ → ℤ → List Word
code_patched code at z = with_instr_at code at (option_map (with_immediate z) (instr_in (slice_get code at)))
