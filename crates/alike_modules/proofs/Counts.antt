-- Places count nothing: calls, temporaries, registers and words.
use Rattle.std.proofs.Common.{◌≡◌, refl, ◌∙◌, ap, ℕ, ◌+◌, max, List, [], ◌∷◌, map, take}
use Rattle.std.specs.Prelude.{sum_by}
use Rattle.std.specs.List.{take-map}
use Rattle.std.proofs.lemmas.List.{length-map}
use Rattle.proc_language.specs.declared.module.Global.{Global}
use Rattle.proc_language.specs.declared.module.Param.{Param}
use Rattle.proc_language.specs.declared.module.Proc.{Proc}
use Rattle.proc_language.specs.declared.module.ModuleFields.{ModuleFields}
use Rattle.proc_language.specs.Limits.{param_registers, params_registers, arg_registers}
use Rattle.proc_language.specs.Tree.{Expr, number, var, element, call, op, Args, no_args, value, proc}
use Rattle.proc_language.specs.Tree.{Stmt, set, set_at, do_call, if_then, if_else, while, return, halt}
use Rattle.proc_language.specs.Tree.{Block, no_stmts, stmt}
use Rattle.proc_language.specs.StmtView.{block_of}
use Rattle.proc_language.specs.Unplaced.{unplaced_name, unplaced_expr, unplaced_args, unplaced_stmt}
use Rattle.proc_language.specs.Unplaced.{unplaced_block, unplaced_global, unplaced_param, unplaced_proc}
use Rattle.proc_language.specs.Unplaced.{unplaced}
use Rattle.proc_names.specs.Calls.{calls, args_calls, stmt_calls, block_calls, proc_calls, module_calls}
use Rattle.proc_names.specs.Need.{depth, args_depth, stmt_depth, block_depth, need}
use Rattle.proc_program.specs.Lower.{words, words_in, first_word_of, param_place}
use Rattle.alike_modules.proofs.Lists.{sum_of}

-- ---- statements

pub block_alike : (stmts : List Stmt) → block_of (map unplaced_stmt stmts) ≡ unplaced_block (block_of stmts)
block_alike [] = refl
block_alike (s ∷ stmts) = ap (λ b. stmt (unplaced_stmt s) b) (block_alike stmts)

-- ---- calls

mutual
  pub calls_alike : (e : Expr) → calls (unplaced_expr e) ≡ calls e
  calls_alike (number at n) = refl
  calls_alike (var at x) = refl
  calls_alike (element at x e) = calls_alike e
  calls_alike (call at f args) = λ i. args_calls_alike args i + 1
  calls_alike (op at o a b) = λ i. calls_alike a i + calls_alike b i

  pub args_calls_alike : (args : Args) → args_calls (unplaced_args args) ≡ args_calls args
  args_calls_alike no_args = refl
  args_calls_alike (value e args) = λ i. calls_alike e i + args_calls_alike args i
  args_calls_alike (proc f args) = args_calls_alike args

mutual
  pub stmt_calls_alike : (s : Stmt) → stmt_calls (unplaced_stmt s) ≡ stmt_calls s
  stmt_calls_alike (set at x e) = calls_alike e
  stmt_calls_alike (set_at at x k e) = λ i. calls_alike k i + calls_alike e i
  stmt_calls_alike (do_call at f args) = λ i. args_calls_alike args i + 1
  stmt_calls_alike (if_then at c b) = λ i. calls_alike c i + block_calls_alike b i
  stmt_calls_alike (if_else at c b d) =
      λ i. calls_alike c i + (block_calls_alike b i + block_calls_alike d i)
  stmt_calls_alike (while at c b) = λ i. calls_alike c i + block_calls_alike b i
  stmt_calls_alike (return at e) = calls_alike e
  stmt_calls_alike (halt at e) = calls_alike e

  pub block_calls_alike : (b : Block) → block_calls (unplaced_block b) ≡ block_calls b
  block_calls_alike no_stmts = refl
  block_calls_alike (stmt s b) = λ i. stmt_calls_alike s i + block_calls_alike b i

pub proc_calls_alike : (p : Proc) → proc_calls (unplaced_proc p) ≡ proc_calls p
proc_calls_alike p = ap block_calls (block_alike p.body) ∙ block_calls_alike (block_of p.body)

-- a sum whose terms are equal
sum_same : {A : Type 0} (f g : A → ℕ) → ((x : A) → f x ≡ g x) → (xs : List A) → sum_by f xs ≡ sum_by g xs
sum_same f g e xs = ap (λ h. sum_by h xs) (λ i. λ x. e x i)

pub module_calls_alike : (m : ModuleFields) → module_calls (unplaced m) ≡ module_calls m
module_calls_alike m =
    sum_of unplaced_proc proc_calls m.procs
    ∙ sum_same (λ p. proc_calls (unplaced_proc p)) proc_calls proc_calls_alike m.procs

-- ---- temporaries

mutual
  pub depth_alike : (e : Expr) → depth (unplaced_expr e) ≡ depth e
  depth_alike (number at n) = refl
  depth_alike (var at x) = refl
  depth_alike (element at x e) = depth_alike e
  depth_alike (call at f args) = args_depth_alike args 0
  depth_alike (op at o a b) = λ i. max (depth_alike a i) (1 + depth_alike b i)

  pub args_depth_alike : (args : Args) (k : ℕ) → args_depth k (unplaced_args args) ≡ args_depth k args
  args_depth_alike no_args k = refl
  args_depth_alike (value e args) k = λ i. max (k + depth_alike e i) (args_depth_alike args (k + 1) i)
  args_depth_alike (proc f args) k = args_depth_alike args (k + 2)

mutual
  stmt_depth_alike : (s : Stmt) → stmt_depth (unplaced_stmt s) ≡ stmt_depth s
  stmt_depth_alike (set at x e) = depth_alike e
  stmt_depth_alike (set_at at x k e) = λ i. max (depth_alike k i) (1 + depth_alike e i)
  stmt_depth_alike (do_call at f args) = args_depth_alike args 0
  stmt_depth_alike (if_then at c b) = λ i. max (depth_alike c i) (block_depth_alike b i)
  stmt_depth_alike (if_else at c b d) =
      λ i. max (depth_alike c i) (max (block_depth_alike b i) (block_depth_alike d i))
  stmt_depth_alike (while at c b) = λ i. max (depth_alike c i) (block_depth_alike b i)
  stmt_depth_alike (return at e) = depth_alike e
  stmt_depth_alike (halt at e) = depth_alike e

  block_depth_alike : (b : Block) → block_depth (unplaced_block b) ≡ block_depth b
  block_depth_alike no_stmts = refl
  block_depth_alike (stmt s b) = λ i. max (stmt_depth_alike s i) (block_depth_alike b i)

-- ---- registers and words

pub arg_registers_alike : (args : Args) → arg_registers (unplaced_args args) ≡ arg_registers args
arg_registers_alike no_args = refl
arg_registers_alike (value e args) = λ i. arg_registers_alike args i + 1
arg_registers_alike (proc f args) = λ i. arg_registers_alike args i + 2

pub params_registers_alike : (ps : List Param) →
    params_registers (map unplaced_param ps) ≡ params_registers ps
params_registers_alike ps = sum_of unplaced_param (λ p. param_registers p.arity) ps

pub param_place_alike : (ps : List Param) (k : ℕ) → param_place (map unplaced_param ps) k ≡ param_place ps k
param_place_alike ps k = ap params_registers (take-map unplaced_param k ps) ∙
    params_registers_alike (take k ps)

words_in_alike : (gs : List Global) → words_in (map unplaced_global gs) ≡ words_in gs
words_in_alike gs = sum_of unplaced_global words gs

pub word_at_alike : (gs : List Global) (k : ℕ) → first_word_of (map unplaced_global gs) k ≡ first_word_of gs k
word_at_alike gs k = ap words_in (take-map unplaced_global k gs) ∙ words_in_alike (take k gs)

pub need_alike : (p : Proc) → need (unplaced_proc p) ≡ need p
need_alike p = λ i.
    2 + params_registers_alike p.params i + length-map p.locals unplaced_name i + body i
  where
    body : block_depth (block_of (map unplaced_stmt p.body)) ≡ block_depth (block_of p.body)
    body = ap block_depth (block_alike p.body) ∙ block_depth_alike (block_of p.body)
