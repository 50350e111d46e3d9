-- What the program of a module keeps: its numbers are those that its module's limits allow.
use Rattle.std.specs.Prelude.{ℕ, ◌+◌, ◌≤◌, ◌<◌, IsTrue, Bool, true, false, List, length, sum_by}
use Rattle.std.specs.Int.{w64}
use Rattle.std.specs.Int.RustNames.{FitsSigned}
use Rattle.cap_words.specs.declared.TheConstants.{LAST_PLACE}
use Rattle.proc_language.specs.declared.TheConstants.{MOST_ITEMS, MOST_REGISTERS, MOST_LOCALS}
use Rattle.proc_language.specs.declared.TheConstants.{LARGEST_LITERAL}
use Rattle.proc_language.specs.Words.{is_source_name}
use Rattle.proc_language.specs.Limits.{Each, SealsFit}
use Rattle.proc_names.specs.declared.scope.Variable.{Variable}
use Rattle.proc_names.specs.declared.scope.Variable.TheVariants as named
use Rattle.proc_names.specs.declared.scope.Callee.{Callee}
use Rattle.proc_names.specs.declared.scope.Callee.TheVariants as called
use Rattle.proc_language.specs.declared.module.Proc.{Proc}
use Rattle.proc_language.specs.declared.module.ModuleFields.{ModuleFields}
use Rattle.proc_program.specs.declared.program.Handle.{Handle}
use Rattle.proc_program.specs.declared.program.Handle.TheVariants.{Given, Own, Imported}
use Rattle.proc_program.specs.declared.program.Location.{Location}
use Rattle.proc_program.specs.declared.program.Location.TheVariants.{Local, Global}
use Rattle.proc_program.specs.declared.program.Array.{Array}
use Rattle.proc_program.specs.declared.program.ProgramImport.{ProgramImport}
use Rattle.proc_program.specs.declared.program.Procedure.{Procedure}
use Rattle.proc_program.specs.declared.program.Header.{Header}
use Rattle.proc_program.specs.declared.program.Program.{Program}
use Rattle.proc_program.specs.Program.{Exp, Number, Load, Element, Call, Binary, Args, no_args, value, pass}
use Rattle.proc_program.specs.Program.{Statement, Set, SetAt, Do, If, While, Return, Halt}
use Rattle.proc_program.specs.Program.{Block, no_steps, step}
use Rattle.proc_program.specs.StepView.{block_of}

-- ---- what names lead to is there

abbrev pub VariableWithin : ModuleFields → Proc → Variable → Type 0
VariableWithin m p (named.Param i) = i < length p.params
VariableWithin m p (named.Local k) = k < length p.locals
VariableWithin m p (named.Global k) = k < length m.globals
VariableWithin m p (named.Array k) = k < length m.globals
VariableWithin m p named.Other = Unit {0}
VariableWithin m p named.Missing = Unit {0}

abbrev pub CalleeWithin : ModuleFields → Proc → Callee → Type 0
CalleeWithin m p (called.Callback i) = i < length p.params
CalleeWithin m p (called.Import k) = k < length m.imports
CalleeWithin m p (called.Proc j) = j < length m.procs
CalleeWithin m p called.Other = Unit {0}
CalleeWithin m p called.Missing = Unit {0}

-- ---- registers with arguments: a callback takes two, all else one

abbrev pub register_count : Bool → ℕ
register_count true = 2
register_count false = 1

abbrev pub registers_of : List Bool → ℕ
registers_of callbacks = sum_by register_count callbacks

abbrev pub arg_registers : Args → ℕ
arg_registers no_args = 0
arg_registers (value e xs) = arg_registers xs + 1
arg_registers (pass h xs) = arg_registers xs + 2

-- ---- a part with so many imports, procedures and words of globals

pub record Scope : Type 0 where
  pub imports : ℕ
  pub procs : ℕ
  pub words : ℕ

abbrev pub scope_of : Program → Scope
scope_of part =
    record { imports = length part.imports; procs = length part.procs; words = length part.globals }

module _ (s : Scope) where
  abbrev pub PlaceFits : Location → Type 0
  PlaceFits (Local i) = i ≤ MOST_REGISTERS + MOST_LOCALS
  PlaceFits (Global o) = o ≤ s.words

  abbrev pub RowFits : Array → Type 0
  RowFits r = r.first + r.length ≤ s.words

  abbrev pub HandleFits : Handle → Type 0
  HandleFits (Given i) = i ≤ MOST_REGISTERS
  HandleFits (Own j) = j < s.procs
  HandleFits (Imported k) = k < s.imports

  abbrev mutual
    pub ExpFits : Exp → Type 0
    ExpFits (Number n) = n ≤ LARGEST_LITERAL
    ExpFits (Load x) = PlaceFits x
    ExpFits (Element r e) = RowFits r × ExpFits e
    ExpFits (Call site h xs) = (arg_registers xs ≤ MOST_REGISTERS) × HandleFits h × ArgsFit xs
    ExpFits (Binary o a b) = ExpFits a × ExpFits b

    pub ArgsFit : Args → Type 0
    ArgsFit no_args = Unit {0}
    ArgsFit (value e xs) = ExpFits e × ArgsFit xs
    ArgsFit (pass h xs) = HandleFits h × ArgsFit xs

  abbrev mutual
    pub StepFits : Statement → Type 0
    StepFits (Set x e) = PlaceFits x × ExpFits e
    StepFits (SetAt r i e) = RowFits r × ExpFits i × ExpFits e
    StepFits (Do e) = ExpFits e
    StepFits (If c a b) = ExpFits c × BlockFits a × BlockFits b
    StepFits (While c b) = ExpFits c × BlockFits b
    StepFits (Return e) = ExpFits e
    StepFits (Halt e) = ExpFits e

    pub BlockFits : Block → Type 0
    BlockFits no_steps = Unit {0}
    BlockFits (step s' b) = StepFits s' × BlockFits b

  -- a procedure; its frame has room for more than what is handed over
  pub record ProcedureFits (p : Procedure) : Type 0 where
    pub name : IsTrue (is_source_name p.name)
    pub registers : registers_of p.callbacks ≤ MOST_REGISTERS
    pub locals : p.locals ≤ MOST_LOCALS
    pub frame : 2 + registers_of p.callbacks + p.locals ≤ p.need
    pub body : BlockFits (block_of p.body)

pub record LoweredImportFits (i : ProgramImport) : Type 0 where
  pub part : IsTrue (is_source_name i.part)
  pub name : IsTrue (is_source_name i.name)

pub record HeaderFits (head : Header) : Type 0 where
  pub code : head.code ≤ LAST_PLACE
  pub data_base : head.data_base ≤ LAST_PLACE
  pub closure : head.closure ≤ LAST_PLACE
  pub returns : SealsFit head.returns head.return_count

pub record IsProgram (part : Program) : Type 0 where
  pub name : IsTrue (is_source_name part.name)
  pub stack : part.stack ≤ LAST_PLACE
  pub header : HeaderFits part.header
  pub imports : (length part.imports ≤ MOST_ITEMS) × Each LoweredImportFits part.imports
  pub globals : Each (FitsSigned w64) part.globals
  pub some : 1 ≤ length part.procs
  pub procs : (length part.procs ≤ MOST_ITEMS) × Each (ProcedureFits (scope_of part)) part.procs
