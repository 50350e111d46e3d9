-- From the tree of a module to the program that it runs as. docs/LANGUAGE.md has the rules of names in words.
use Rattle.std.specs.Prelude.{ℕ, ◌+◌, ℤ, pos, List, [], ◌∷◌, ◌++◌, map, length, take, replicate, slice_get}
use Rattle.std.specs.Prelude.{sum_by, unwrap_or, is_some}
use Rattle.std.specs.Option.{option_map_or}
use Rattle.proc_language.specs.declared.tree.Name.{Name}
use Rattle.proc_language.specs.declared.module.Import.{Import}
use Rattle.proc_language.specs.declared.module.Global.{Global}
use Rattle.proc_language.specs.declared.module.Param.{Param}
use Rattle.proc_language.specs.declared.module.Proc.{Proc}
use Rattle.proc_language.specs.declared.module.ModuleFields.{ModuleFields}
use Rattle.proc_language.specs.Tree as tree
use Rattle.proc_language.specs.Tree.{Expr, Args, Stmt, number, var, element, call, op, no_args, value, proc}
use Rattle.proc_language.specs.Tree.{set, set_at, do_call, if_then, if_else, while, return, halt, no_stmts}
use Rattle.proc_language.specs.Tree.{stmt}
use Rattle.proc_language.specs.Limits.{params_registers}
use Rattle.proc_language.specs.StmtView.{block_of as stmts_of}
use Rattle.proc_names.specs.declared.scope.Variable.{Variable}
use Rattle.proc_names.specs.declared.scope.Variable.TheVariants as named
use Rattle.proc_names.specs.declared.scope.Callee.{Callee}
use Rattle.proc_names.specs.declared.scope.Callee.TheVariants as called
use Rattle.proc_names.specs.Names.{variable_named, callee_named, passed_named}
use Rattle.proc_names.specs.Need.{need}
use Rattle.proc_names.specs.Calls.{calls, args_calls, stmt_calls, block_calls, proc_calls}
use Rattle.proc_program.specs.declared.program.Handle.{Handle}
use Rattle.proc_program.specs.declared.program.Handle.TheVariants.{Given, Own, Imported}
use Rattle.proc_program.specs.declared.program.Location.{Location}
use Rattle.proc_program.specs.declared.program.Location.TheVariants as place
use Rattle.proc_program.specs.declared.program.Array.{Array}
use Rattle.proc_program.specs.declared.program.ArgExp.{ArgExp}
use Rattle.proc_program.specs.declared.program.ArgExp.TheVariants as arg
use Rattle.proc_program.specs.declared.program.ProgramImport.{ProgramImport as RunImport}
use Rattle.proc_program.specs.declared.program.Procedure.{Procedure}
use Rattle.proc_program.specs.declared.program.Header.{Header}
use Rattle.proc_program.specs.declared.program.Program.{Program}
use Rattle.proc_program.specs.Program as run
use Rattle.proc_program.specs.Program.{Exp, Statement}
use Rattle.proc_program.specs.View.{args_of as args_view}
use Rattle.proc_program.specs.StepView.{block_of as block_view}

-- ---- what names stand for; where a name leads nowhere, which no resolved module has, it is the first of all

-- the words of a global: those of its elements, or one
abbrev pub words : Global → ℕ
words g = unwrap_or g.length 1

abbrev pub words_in : List Global → ℕ
words_in gs = sum_by words gs

-- the first word of the global of an index
abbrev pub first_word_of : List Global → ℕ → ℕ
first_word_of gs k = words_in (take k gs)

-- the place of the parameter of an index: a callback takes two places, all else one
abbrev pub param_place : List Param → ℕ → ℕ
param_place params i = params_registers (take i params)

-- parameters come first, then locals
abbrev pub place_by : ModuleFields → Proc → Variable → Location
place_by m p (named.Param i) = place.Local (param_place p.params i)
place_by m p (named.Local k) = place.Local (params_registers p.params + k)
place_by m p (named.Global k) = place.Global (first_word_of m.globals k)
place_by m p (named.Array k) = place.Global (first_word_of m.globals k)
place_by m p named.Other = place.Global 0
place_by m p named.Missing = place.Global 0

abbrev pub variable_of : ModuleFields → Proc → Name → Location
variable_of m p x = place_by m p (variable_named m p x)

abbrev pub row_at : List Global → ℕ → Array
row_at gs k = record { first = first_word_of gs k; length = option_map_or words (slice_get gs k) 0 }

abbrev pub no_row : Array
no_row = record { first = 0; length = 0 }

abbrev pub row_by : List Global → Variable → Array
row_by gs (named.Array k) = row_at gs k
row_by gs (named.Param i) = no_row
row_by gs (named.Local k) = no_row
row_by gs (named.Global k) = no_row
row_by gs named.Other = no_row
row_by gs named.Missing = no_row

abbrev pub row_of : ModuleFields → Proc → Name → Array
row_of m p x = row_by m.globals (variable_named m p x)

abbrev pub handle_by : List Param → Callee → Handle
handle_by params (called.Callback i) = Given (param_place params i)
handle_by params (called.Import k) = Imported k
handle_by params (called.Proc j) = Own j
handle_by params called.Other = Own 0
handle_by params called.Missing = Own 0

-- what is called
abbrev pub handle_of : ModuleFields → Proc → Name → Handle
handle_of m p f = handle_by p.params (callee_named m p f)

-- what is passed on
abbrev pub passed_handle : ModuleFields → Proc → Name → Handle
passed_handle m p f = handle_by p.params (passed_named m p f)

-- ---- expressions and statements, from the number of the next call on

module _ (m : ModuleFields) (p : Proc) where
  abbrev mutual
    pub exp_of : ℕ → Expr → Exp
    exp_of n (number at v) = run.Number v
    exp_of n (var at x) = run.Load (variable_of m p x)
    exp_of n (element at x e) = run.Element (row_of m p x) (exp_of n e)
    exp_of n (call at f xs) = run.Call (n + args_calls xs) (handle_of m p f) (args_view (args_of n xs))
    exp_of n (op at o a b) = run.Binary o (exp_of n a) (exp_of (n + calls a) b)

    pub args_of : ℕ → Args → List ArgExp
    args_of n no_args = []
    args_of n (value e xs) = arg.Value (exp_of n e) ∷ args_of (n + calls e) xs
    args_of n (proc f xs) = arg.Pass (passed_handle m p f) ∷ args_of n xs

  abbrev pub call_of : ℕ → Name → Args → Exp
  call_of n f xs = run.Call (n + args_calls xs) (handle_of m p f) (args_view (args_of n xs))

  abbrev mutual
    pub step_of : ℕ → Stmt → Statement
    step_of n (set at x e) = run.Set (variable_of m p x) (exp_of n e)
    step_of n (set_at at x i e) = run.SetAt (row_of m p x) (exp_of n i) (exp_of (n + calls i) e)
    step_of n (do_call at f xs) = run.Do (call_of n f xs)
    step_of n (if_then at c a) = run.If (exp_of n c) (block_view (steps_of (n + calls c) a)) run.no_steps
    step_of n (if_else at c a b) =
        run.If (exp_of n c) (block_view (steps_of (n + calls c) a))
        (block_view (steps_of (n + calls c + block_calls a) b))
    step_of n (while at c b) = run.While (exp_of n c) (block_view (steps_of (n + calls c) b))
    step_of n (return at e) = run.Return (exp_of n e)
    step_of n (halt at e) = run.Halt (exp_of n e)

    pub steps_of : ℕ → tree.Block → List Statement
    steps_of n no_stmts = []
    steps_of n (stmt s ss) = step_of n s ∷ steps_of (n + stmt_calls s) ss

-- ---- procedures and modules

abbrev pub procedure_of : ModuleFields → ℕ → Proc → Procedure
procedure_of m n p = record {
  name = p.name.text;
  shared = p.shared;
  callbacks = map (λ q. is_some q.arity) p.params;
  locals = length p.locals;
  need = need p;
  body = steps_of m p n (stmts_of p.body);
}

abbrev pub procedures_of : ModuleFields → ℕ → List Proc → List Procedure
procedures_of m n [] = []
procedures_of m n (p ∷ ps) = procedure_of m n p ∷ procedures_of m (n + proc_calls p) ps

abbrev pub globals_of : List Global → List ℤ
globals_of [] = []
globals_of (g ∷ gs) = replicate (words g) (unwrap_or g.initial (pos 0)) ++ globals_of gs

abbrev pub import_of : Import → RunImport
import_of i = record { part = i.part.text; name = i.name.text }

abbrev pub header_of : ModuleFields → Header
header_of m = record {
  code = m.code;
  data_base = m.data_base;
  closure = m.closure;
  returns = m.returns;
  return_count = m.return_count;
  movable = m.movable;
}

abbrev pub part_of : ModuleFields → Program
part_of m = record {
  name = m.name.text;
  stack = m.stack;
  header = header_of m;
  imports = map import_of m.imports;
  globals = globals_of m.globals;
  procs = procedures_of m 0 m.procs;
}
