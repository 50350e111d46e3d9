-- What a module is: the limits of its names, numbers and counts.
use Rattle.std.specs.Prelude.{ℕ, ◌+◌, ◌≤◌, IsTrue, List, [], ◌∷◌, length, sum_by, Option, Some, None, IfSome}
use Rattle.std.specs.Int.{w64}
use Rattle.std.specs.Int.RustNames.{FitsSigned}
use Rattle.cap_words.specs.declared.TheConstants.{LAST_PLACE}
use Rattle.proc_language.specs.declared.TheConstants.{MOST_SEALS, MOST_ITEMS, MOST_REGISTERS}
use Rattle.proc_language.specs.declared.TheConstants.{MOST_LOCALS, LONGEST_ARRAY, LARGEST_LITERAL}
use Rattle.proc_language.specs.declared.tree.Name.{Name}
use Rattle.proc_language.specs.declared.module.Import.{Import}
use Rattle.proc_language.specs.declared.module.Global.{Global}
use Rattle.proc_language.specs.declared.module.Param.{Param}
use Rattle.proc_language.specs.declared.module.Proc.{Proc}
use Rattle.proc_language.specs.declared.module.ModuleFields.{ModuleFields}
use Rattle.proc_language.specs.Words.{is_source_name}
use Rattle.proc_language.specs.Tree.{Expr, number, var, element, call, op, Args, no_args, value, proc}
use Rattle.proc_language.specs.Tree.{Stmt, set, set_at, do_call, if_then, if_else, while, return, halt}
use Rattle.proc_language.specs.Tree.{Block, no_stmts, stmt}
use Rattle.proc_language.specs.StmtView.{block_of}

-- it holds of each
abbrev pub Each : {A : Type 0} → (A → Type 0) → List A → Type 0
Each P [] = Unit {0}
Each P (x ∷ xs) = P x × Each P xs

-- ---- registers with arguments: a callback takes two, all else one

abbrev pub param_registers : Option ℕ → ℕ
param_registers None = 1
param_registers (Some arity) = 2

abbrev pub params_registers : List Param → ℕ
params_registers params = sum_by (λ p. param_registers p.arity) params

abbrev pub arg_registers : Args → ℕ
arg_registers no_args = 0
arg_registers (value e args) = arg_registers args + 1
arg_registers (proc f args) = arg_registers args + 2

-- ---- expressions and statements

abbrev pub NameFits : Name → Type 0
NameFits x = IsTrue (is_source_name x.text)

abbrev pub CallFits : Name → Args → Type 0
CallFits f args = NameFits f × (arg_registers args ≤ MOST_REGISTERS)

abbrev mutual
  pub ExprFits : Expr → Type 0
  ExprFits (number at n) = n ≤ LARGEST_LITERAL
  ExprFits (var at x) = NameFits x
  ExprFits (element at x e) = NameFits x × ExprFits e
  ExprFits (call at f args) = CallFits f args × ArgsFit args
  ExprFits (op at o a b) = ExprFits a × ExprFits b

  pub ArgsFit : Args → Type 0
  ArgsFit no_args = Unit {0}
  ArgsFit (value e args) = ExprFits e × ArgsFit args
  ArgsFit (proc f args) = NameFits f × ArgsFit args

abbrev mutual
  pub StmtFits : Stmt → Type 0
  StmtFits (set at x e) = NameFits x × ExprFits e
  StmtFits (set_at at x i e) = NameFits x × ExprFits i × ExprFits e
  StmtFits (do_call at f args) = CallFits f args × ArgsFit args
  StmtFits (if_then at c b) = ExprFits c × BlockFits b
  StmtFits (if_else at c b d) = ExprFits c × BlockFits b × BlockFits d
  StmtFits (while at c b) = ExprFits c × BlockFits b
  StmtFits (return at e) = ExprFits e
  StmtFits (halt at e) = ExprFits e

  pub BlockFits : Block → Type 0
  BlockFits no_stmts = Unit {0}
  BlockFits (stmt s b) = StmtFits s × BlockFits b

-- ---- items

abbrev pub ArityFits : Option ℕ → Type 0
ArityFits arity = IfSome arity (λ n. n ≤ MOST_REGISTERS)

abbrev pub ImportFits : Import → Type 0
ImportFits i = NameFits i.part × NameFits i.name × (i.arity ≤ MOST_REGISTERS)

abbrev pub LengthFits : ℕ → Type 0
LengthFits n = (1 ≤ n) × (n ≤ LONGEST_ARRAY)

abbrev pub GlobalFits : Global → Type 0
GlobalFits g = NameFits g.name × IfSome g.length LengthFits × IfSome g.initial (FitsSigned w64)

abbrev pub ParamFits : Param → Type 0
ParamFits p = NameFits p.name × ArityFits p.arity

pub record ProcFits (p : Proc) : Type 0 where
  pub name : NameFits p.name
  pub params : Each ParamFits p.params
  pub registers : params_registers p.params ≤ MOST_REGISTERS
  pub locals : (length p.locals ≤ MOST_LOCALS) × Each NameFits p.locals
  pub body : BlockFits (block_of p.body)

-- the first return seal and how many there are; the last of them is a seal
abbrev pub SealsFit : ℕ → ℕ → Type 0
SealsFit first count = (first ≤ LAST_PLACE) × (count ≤ MOST_SEALS) × (first + count ≤ LAST_PLACE + 1)

pub record IsModule (m : ModuleFields) : Type 0 where
  pub name : NameFits m.name
  pub code : m.code ≤ LAST_PLACE
  pub data_base : m.data_base ≤ LAST_PLACE
  pub closure : m.closure ≤ LAST_PLACE
  pub returns : SealsFit m.returns m.return_count
  pub stack : m.stack ≤ LAST_PLACE
  pub imports : (length m.imports ≤ MOST_ITEMS) × Each ImportFits m.imports
  pub globals : (length m.globals ≤ MOST_ITEMS) × Each GlobalFits m.globals
  pub some : 1 ≤ length m.procs
  pub procs : (length m.procs ≤ MOST_ITEMS) × Each ProcFits m.procs
