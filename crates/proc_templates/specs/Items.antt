-- What the compiler writes, piece by piece, and the words that it comes to.
use Rattle.std.specs.Prelude.{Bool, false, ◌==◌, ℕ, ◌+◌, ℤ, pos, List, [], ◌∷◌, ◌++◌, length, map}
use Rattle.std.specs.Prelude.{if◌then◌else◌}
use Rattle.cap_words.specs.declared.Word.{Word}
use Rattle.cap_words.specs.declared.Word.TheVariants.{Int}
use Rattle.lcm_isa.specs.declared.Reg.{Reg}
use Rattle.lcm_isa.specs.declared.Reg.TheVariants.{Pc, Rcode, Rdata, T2, C1, C2, A1, A2, A3, G0, G1, G2}
use Rattle.lcm_isa.specs.declared.Operand.TheVariants.{R, Imm}
use Rattle.lcm_isa.specs.declared.Instr.{Instr}
use Rattle.lcm_isa.specs.declared.Instr.TheVariants.{Jmp, Jnz, Move, Cca, Xjmp}
use Rattle.lcm_isa.specs.Numbers.{number_of}
use Rattle.call_sequence.specs.declared.TheConstants.{CALL_WORDS}
use Rattle.call_sequence.specs.Sequences.{distance, call_code, return_code, entry_code}

pub data Item : Type 0 where
  -- an instruction that neither jumps nor calls
  does : Instr → Item
  -- instructions during which t2 leads to the `fail`
  guards : List Instr → Item
  -- a jump by so many words, counted from its own first; in any case, or where a register isn't 0
  goes : ℤ → Item
  goes_if : ℤ → Reg → Item
  -- a jump to the epilogue
  finishes : Item
  -- a place to which jumps lead
  label : Item
  -- a call with its return
  site : Item
  -- a procedure's entry
  entry : Item
  -- the last words of a procedure
  leaves : Item

-- where the code has its `fail`, and the literal of its return seals
abbrev pub FAIL_AT : ℕ
FAIL_AT = 0

abbrev pub LITERAL_AT : ℕ
LITERAL_AT = 1

abbrev pub zero_of : Reg → Instr
zero_of r = Move r (Imm (pos 0))

-- the registers that a procedure hands back as 0
abbrev pub wiped : List Reg
wiped = C1 ∷ C2 ∷ A1 ∷ A2 ∷ A3 ∷ G0 ∷ G1 ∷ G2 ∷ []

abbrev pub leading : ℤ → Instr → List Instr
leading far jump = Move T2 (R Pc) ∷ Cca T2 (Imm far) ∷ jump ∷ []

-- where a procedure's code stands in its part: where the stack begins, and the epilogue's offset
pub record Spot : Type 0 where
  pub stack_base : ℕ
  pub epilogue : ℕ

-- the instructions of an item at an offset, before which so many calls stand
unfoldable pub instrs : Spot → ℕ → ℕ → Item → List Instr
instrs spot o k (does i) = i ∷ []
instrs spot o k (guards is) = Move T2 (R Pc) ∷ Cca T2 (Imm (distance o FAIL_AT)) ∷ (is ++ (zero_of T2 ∷ []))
instrs spot o k (goes far) = leading far (Jmp T2)
instrs spot o k (goes_if far r) = leading far (Jnz T2 r)
instrs spot o k finishes = leading (distance o spot.epilogue) (Jmp T2)
instrs spot o k label = []
instrs spot o k site = call_code LITERAL_AT o k ++ return_code FAIL_AT (o + CALL_WORDS) spot.stack_base
instrs spot o k entry = entry_code FAIL_AT o spot.stack_base
instrs spot o k leaves = zero_of T2 ∷ (map zero_of wiped ++ (Xjmp Rcode Rdata ∷ []))

-- what is written so far: the words, and the offsets of calls, of entries and of labels
pub record Laid : Type 0 where
  pub code : List Word
  pub sites : List ℕ
  pub entries : List ℕ
  pub labels : List ℕ

abbrev pub word_of : Instr → Word
word_of i = Int (pos (number_of i))

abbrev pub is_last : List ℕ → ℕ → Bool
is_last [] o = false
is_last (x ∷ []) o = x == o
is_last (x ∷ y ∷ ys) o = is_last (y ∷ ys) o

-- an offset at the end, unless it stands there already
abbrev pub with_label : List ℕ → ℕ → List ℕ
with_label labels o = if is_last labels o then labels else labels ++ (o ∷ [])

abbrev pub sites_with : List ℕ → ℕ → Item → List ℕ
sites_with sites o site = sites ++ (o ∷ [])
sites_with sites o _ = sites

abbrev pub entries_with : List ℕ → ℕ → Item → List ℕ
entries_with entries o entry = entries ++ (o ∷ [])
entries_with entries o _ = entries

abbrev pub labels_with : List ℕ → ℕ → Item → List ℕ
labels_with labels o label = with_label labels o
labels_with labels o _ = labels

unfoldable pub put : Spot → Laid → Item → Laid
put spot l i = record {
  code = l.code ++ map word_of (instrs spot (length l.code) (length l.sites) i);
  sites = sites_with l.sites (length l.code) i;
  entries = entries_with l.entries (length l.code) i;
  labels = labels_with l.labels (length l.code) i;
}

abbrev pub lay : Spot → Laid → List Item → Laid
lay spot l [] = l
lay spot l (i ∷ is) = lay spot (put spot l i) is
