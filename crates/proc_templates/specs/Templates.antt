-- The templates, twice: how many words each has, and the words. docs/LANGUAGE.md has the same as a table.
use Rattle.std.specs.Prelude.{ℕ, zero, suc, ◌+◌, ◌-◌, ◌*◌, pos, Bool, true, false, List, [], ◌∷◌, ◌++◌}
use Rattle.std.specs.Prelude.{map, take, drop, replicate, slice_index_or}
use Rattle.lcm_isa.specs.declared.Reg.{Reg}
use Rattle.lcm_isa.specs.declared.Reg.TheVariants.{Rcode, Rdata, Stk, Dat, T1, T2, C1, C2, A0, A1, A2, A3, G0}
use Rattle.lcm_isa.specs.declared.Reg.TheVariants.{G1, G2}
use Rattle.lcm_isa.specs.declared.Operand.TheVariants.{R, Imm}
use Rattle.lcm_isa.specs.declared.Instr.{Instr}
use Rattle.lcm_isa.specs.declared.Instr.TheVariants as instr
use Rattle.lcm_isa.specs.declared.Instr.TheVariants.{Jnz, Gettype, Getlin, Move, Store, Cca, Lt, Plus, Minus}
use Rattle.call_sequence.specs.declared.TheConstants.{SITE_WORDS, ENTRY_WORDS}
use Rattle.call_sequence.specs.Sequences.{distance}
use Rattle.proc_language.specs.declared.tree.Op.{Op}
use Rattle.proc_language.specs.declared.tree.Op.TheVariants as operator
use Rattle.proc_program.specs.declared.program.Location.{Location}
use Rattle.proc_program.specs.declared.program.Location.TheVariants.{Local, Global}
use Rattle.proc_program.specs.declared.program.Handle.{Handle}
use Rattle.proc_program.specs.declared.program.Handle.TheVariants.{Given, Own, Imported}
use Rattle.proc_program.specs.declared.program.Array.{Array}
use Rattle.proc_program.specs.Program.{Exp, Number, Load, Element, Call, Binary, Args, no_args, value, pass}
use Rattle.proc_program.specs.Program.{Statement, Set, SetAt, Do, If, While, Return, Halt}
use Rattle.proc_program.specs.Program.{Block, no_steps, step}
use Rattle.proc_program.specs.Limits.{register_count, registers_of, arg_registers}
use Rattle.proc_templates.specs.declared.FrameShape.{FrameShape}
use Rattle.proc_templates.specs.Items.{Item, does, guards, goes, goes_if, finishes, label, site, entry}
use Rattle.proc_templates.specs.Items.{leaves, zero_of}

-- ---- sizes: how many words

-- the pair of a handle comes into two registers
abbrev pub pair_words : Handle → ℕ
pair_words (Given i) = 6
pair_words (Own j) = 5
pair_words (Imported k) = 5

abbrev pub op_words : Op → ℕ
op_words operator.Plus = 8
op_words operator.Minus = 8
op_words operator.Less = 8
op_words operator.Equal = 12

abbrev mutual
  pub exp_words : Exp → ℕ
  exp_words (Number n) = 1
  exp_words (Load x) = 3
  exp_words (Element r e) = exp_words e + 15
  exp_words (Call n h xs) = args_words xs + (4 - arg_registers xs) + pair_words h + (SITE_WORDS + 4)
  exp_words (Binary o a b) = exp_words a + exp_words b + op_words o

  pub args_words : Args → ℕ
  args_words no_args = 0
  args_words (value e xs) = exp_words e + 6 + args_words xs
  args_words (pass h xs) = pair_words h + args_words xs

abbrev mutual
  pub step_words : Statement → ℕ
  step_words (Set x e) = exp_words e + 3
  step_words (SetAt r i e) = exp_words i + exp_words e + 21
  step_words (Do e) = exp_words e
  step_words (If c a b) = exp_words c + block_words a + block_words b + 9
  step_words (While c b) = exp_words c + block_words b + 9
  step_words (Return e) = exp_words e + 4
  step_words (Halt e) = exp_words e + 2

  pub block_words : Block → ℕ
  block_words no_steps = 0
  block_words (step s b) = step_words s + block_words b

-- ---- slots of the frame, and words of the data

abbrev pub at_slot : FrameShape → ℕ → Instr → List Item
at_slot f j i =
    does (Cca Stk (Imm (distance j f.words))) ∷ does i ∷ does (Cca Stk (Imm (distance f.words j))) ∷ []

abbrev pub at_glob : ℕ → Instr → List Item
at_glob o i = does (Cca Dat (Imm (pos o))) ∷ does i ∷ does (Cca Dat (Imm (distance o 0))) ∷ []

abbrev pub load_slot : FrameShape → ℕ → Reg → List Item
load_slot f j r = at_slot f j (instr.Load r Stk)

abbrev pub store_slot : FrameShape → ℕ → Reg → List Item
store_slot f j r = at_slot f j (Store Stk r)

-- the two words of the return come first in a frame, the words of pairs first among the data
abbrev pub load_var : FrameShape → Location → List Item
load_var f (Local i) = load_slot f (i + 2) G0
load_var f (Global o) = at_glob (f.pairs + o) (instr.Load G0 Dat)

abbrev pub store_var : FrameShape → Location → List Item
store_var f (Local i) = store_slot f (i + 2) G0
store_var f (Global o) = at_glob (f.pairs + o) (Store Dat G0)

-- the index in g0 is within an array
abbrev pub check_index : ℕ → Item
check_index length =
    guards (
    Lt G1 G0 (Imm (pos 0)) ∷ Jnz T2 G1
    ∷ Lt G1 G0 (Imm (pos length)) ∷ Minus G1 G1 (Imm (pos 1)) ∷ Jnz T2 G1 ∷ [])

-- the data's cursor is set back from the element whose offset is in g0
abbrev pub from_element : List Item
from_element = does (zero_of G2) ∷ does (Minus G2 G2 (R G0)) ∷ does (Cca Dat (R G2)) ∷ []

-- an instruction at the element whose index is in g0, of an array that begins at an offset
abbrev pub at_element : ℕ → ℕ → Instr → List Item
at_element o length i =
    check_index length ∷ does (Plus G0 G0 (Imm (pos o))) ∷ does (Cca Dat (R G0)) ∷ does i ∷ from_element

abbrev pub at_row : FrameShape → Array → Instr → List Item
at_row f r i = at_element (f.pairs + r.first) r.length i

-- the pair in two words of the data
abbrev pub load_linked : ℕ → Reg → Reg → List Item
load_linked s r q =
    does (Cca Dat (Imm (pos s))) ∷ does (instr.Load r Dat) ∷ does (Cca Dat (Imm (pos 1)))
    ∷ does (instr.Load q Dat) ∷ does (Cca Dat (Imm (distance (s + 1) 0))) ∷ []

-- the pairs of imports come first, then those of own procedures
abbrev pub load_pair : FrameShape → Handle → Reg → Reg → List Item
load_pair f (Given i) r q = load_slot f (i + 2) r ++ load_slot f (i + 3) q
load_pair f (Own j) r q = load_linked (2 * (f.imports + j)) r q
load_pair f (Imported k) r q = load_linked (2 * k) r q

-- ---- expressions

abbrev pub op_code : Op → List Item
op_code operator.Plus = does (Plus G0 G0 (R G1)) ∷ []
op_code operator.Minus = does (Minus G0 G0 (R G1)) ∷ []
op_code operator.Less = does (Lt G0 G0 (R G1)) ∷ []
op_code operator.Equal =
    does (Lt G2 G0 (R G1)) ∷ does (Lt G0 G1 (R G0)) ∷ does (Plus G0 G0 (R G2))
    ∷ does (Move G1 (Imm (pos 1))) ∷ does (Minus G0 G1 (R G0)) ∷ []

abbrev pub arguments : List Reg
arguments = A0 ∷ A1 ∷ A2 ∷ A3 ∷ []

abbrev pub argument : ℕ → Reg
argument i = slice_index_or arguments i A3

-- arguments come into their registers, values from the slots from t on
abbrev pub load_args : FrameShape → ℕ → ℕ → Args → List Item
load_args f t i no_args = []
load_args f t i (value e xs) = load_slot f (t + i) (argument i) ++ load_args f t (i + 1) xs
load_args f t i (pass h xs) = load_pair f h (argument i) (argument (i + 1)) ++ load_args f t (i + 2) xs

abbrev pub zeros : List Reg → List Item
zeros rs = map (λ r. does (zero_of r)) rs

-- a call, once the values of its arguments stand in slots from t on
abbrev pub call_items : FrameShape → ℕ → Handle → Args → List Item
call_items f t h xs =
    load_args f t 0 xs ++ (zeros (drop (arg_registers xs) arguments)
    ++ (load_pair f h C1 C2 ++ (zeros (G0 ∷ G1 ∷ G2 ∷ []) ++ (site ∷ does (Plus G0 A0 (Imm (pos 0))) ∷ []))))

-- an expression's value comes into g0; t is the first slot that is free
abbrev mutual
  pub code : FrameShape → ℕ → Exp → List Item
  code f t (Number n) = does (Move G0 (Imm (pos n))) ∷ []
  code f t (Load x) = load_var f x
  code f t (Element r e) = code f t e ++ (at_row f r (instr.Load G1 Dat) ++ (does (Move G0 (R G1)) ∷ []))
  code f t (Call n h xs) = args_code f t 0 xs ++ call_items f t h xs
  code f t (Binary o a b) =
      code f t a ++ (store_slot f t G0 ++ (code f (t + 1) b
      ++ (does (Move G1 (R G0)) ∷ (load_slot f t G0 ++ op_code o))))

  -- the values of arguments, each in its slot
  pub args_code : FrameShape → ℕ → ℕ → Args → List Item
  args_code f t i no_args = []
  args_code f t i (value e xs) =
      code f (t + i) e ++ (store_slot f (t + i) G0 ++ args_code f t (i + 1) xs)
  args_code f t i (pass h xs) = args_code f t (i + 2) xs

-- ---- statements

abbrev pub answer : Instr
answer = Move A0 (R G0)

-- a condition, and two blocks with their sizes
abbrev pub if_code : List Item → List Item → ℕ → List Item → ℕ → List Item
if_code c a m b n =
    c ++ (goes_if (pos 6) G0 ∷ goes (pos (m + 6))
    ∷ label ∷ (a ++ (goes (pos (n + 3))
    ∷ label ∷ (b ++ (label ∷ [])))))

-- a condition and a block, with their sizes
abbrev pub while_code : List Item → ℕ → List Item → ℕ → List Item
while_code c k b m =
    label ∷ (c ++ (goes_if (pos 6) G0 ∷ goes (pos (m + 6))
    ∷ label ∷ (b ++ (goes (distance (k + 6 + m) 0)
    ∷ label ∷ []))))

abbrev mutual
  pub step_code : FrameShape → Statement → List Item
  step_code f (Set x e) = code f f.temps e ++ store_var f x
  step_code f (SetAt r i e) =
      code f f.temps i ++ (store_slot f f.temps G0 ++ (code f (f.temps + 1) e
      ++ (does answer ∷ (load_slot f f.temps G0 ++ at_row f r (Store Dat A0)))))
  step_code f (Do e) = code f f.temps e
  step_code f (If c a b) =
      if_code (code f f.temps c) (block_code f a) (block_words a) (block_code f b) (block_words b)
  step_code f (While c b) = while_code (code f f.temps c) (exp_words c) (block_code f b) (block_words b)
  step_code f (Return e) = code f f.temps e ++ (does answer ∷ finishes ∷ [])
  step_code f (Halt e) = code f f.temps e ++ (does answer ∷ does instr.Halt ∷ [])

  pub block_code : FrameShape → Block → List Item
  block_code f no_steps = []
  block_code f (step s b) = step_code f s ++ block_code f b

-- ---- a procedure, by which of its parameters are callbacks

-- one half of a pair is sealed and not linear
abbrev pub check_half : Reg → List Instr
check_half r =
    Gettype T1 r ∷ Minus T1 T1 (Imm (pos 3)) ∷ Jnz T2 T1
    ∷ Getlin T1 r ∷ Jnz T2 T1 ∷ []

-- the check of a parameter, the first of whose registers is this one
abbrev pub check_param : ℕ → Bool → Item
check_param i false = does (Plus (argument i) (argument i) (Imm (pos 0)))
check_param i true = guards (check_half (argument i) ++ check_half (argument (i + 1)))

abbrev pub check_params : ℕ → List Bool → List Item
check_params i [] = []
check_params i (b ∷ bs) = check_param i b ∷ check_params (i + register_count b) bs

abbrev pub check_words : Bool → ℕ
check_words false = 1
check_words true = 13

abbrev pub checks_words : List Bool → ℕ
checks_words [] = 0
checks_words (b ∷ bs) = check_words b + checks_words bs

-- what the prologue stores, slot by slot
abbrev pub pushed : ℕ → ℕ → List Reg
pushed params w = Rcode ∷ Rdata ∷ (take params arguments ++ replicate (w - (2 + params)) T1)

abbrev pub push : List Reg → List Item
push [] = []
push (r ∷ rs) = does (Store Stk r) ∷ does (Cca Stk (Imm (distance 1 0))) ∷ push rs

-- so many slots are wiped
abbrev pub wipe : ℕ → List Item
wipe zero = []
wipe (suc n) = does (Cca Stk (Imm (pos 1))) ∷ does (Store Stk T1) ∷ wipe n

abbrev pub take_back : Reg → List Item
take_back r = does (Cca Stk (Imm (pos 1))) ∷ does (instr.Load r Stk) ∷ does (Store Stk T1) ∷ []

abbrev pub epilogue : ℕ → List Item
epilogue w = does (zero_of T1) ∷ (wipe (w - 2) ++ (take_back Rdata ++ (take_back Rcode ++ (leaves ∷ []))))

abbrev pub proc_code : FrameShape → List Bool → Block → List Item
proc_code f params body =
    entry ∷ (check_params 0 params ++ (push (pushed (registers_of params) f.words)
    ++ (block_code f body ++ (does (zero_of A0) ∷ label ∷ epilogue f.words))))

-- the words before the epilogue, and all
unfoldable pub before_epilogue : FrameShape → List Bool → Block → ℕ
before_epilogue f params body = ENTRY_WORDS + checks_words params + 2 * f.words + block_words body + 1

-- with a frame of so many words
abbrev pub proc_words : ℕ → List Bool → Block → ℕ
proc_words w params body = 34 + checks_words params + 4 * w + block_words body
