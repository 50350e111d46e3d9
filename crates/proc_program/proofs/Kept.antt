-- The program of a module keeps the limits of programs.
use Rattle.std.proofs.Common.{◌≡◌, ℕ, zero, suc, ◌+◌, ◌≤◌, ℤ, pos, List, [], ◌∷◌, ◌++◌, length, map, take}
use Rattle.std.proofs.Common.{Option, Some, None, IfSome, unwrap_or, refl, ap, ◌∙◌, arith, length-append}
use Rattle.std.specs.Prelude.{replicate, slice_get, is_some}
use Rattle.std.specs.Option.{option_map_or}
use Rattle.std.specs.Int.{w64}
use Rattle.std.specs.Int.RustNames.{FitsSigned}
use Rattle.std.proofs.lemmas.List.{length-map, length-replicate}
use Rattle.std.proofs.lemmas.List.Sums.{sum_by-cons}
use Rattle.proc_language.specs.declared.module.Import.{Import}
use Rattle.proc_language.specs.declared.module.Global.{Global}
use Rattle.proc_language.specs.declared.module.Param.{Param}
use Rattle.proc_language.specs.declared.module.Proc.{Proc}
use Rattle.proc_language.specs.declared.module.ModuleFields.{ModuleFields}
use Rattle.proc_language.specs.Tree.{Expr, Args, Stmt, Block, number, var, element, call, op, no_args, value}
use Rattle.proc_language.specs.Tree.{proc, set, set_at, do_call, if_then, if_else, while, return, halt}
use Rattle.proc_language.specs.Tree.{no_stmts, stmt}
use Rattle.proc_language.specs.StmtView.{block_of as stmts_of}
use Rattle.proc_language.specs.Limits as language
use Rattle.proc_language.specs.Limits.{Each, IsModule, ProcFits, GlobalFits, param_registers}
use Rattle.proc_language.specs.Limits.{params_registers}
use Rattle.proc_names.specs.declared.scope.Variable.{Variable}
use Rattle.proc_names.specs.declared.scope.Variable.TheVariants as named
use Rattle.proc_names.specs.declared.scope.Callee.{Callee}
use Rattle.proc_names.specs.declared.scope.Callee.TheVariants as called
use Rattle.proc_names.specs.Names.{variable_named, callee_named, passed_named}
use Rattle.proc_names.specs.Calls.{calls, stmt_calls, block_calls, proc_calls}
use Rattle.proc_program.specs.Lower.{words, words_in, first_word_of, place_by, row_by, handle_by, exp_of}
use Rattle.proc_program.specs.Lower.{args_of, step_of, steps_of, procedure_of, procedures_of, globals_of}
use Rattle.proc_program.specs.Lower.{import_of, part_of}
use Rattle.proc_program.specs.Limits.{VariableWithin, CalleeWithin, register_count, registers_of}
use Rattle.proc_program.specs.Limits.{arg_registers, Scope, scope_of, PlaceFits, RowFits, HandleFits, ExpFits}
use Rattle.proc_program.specs.Limits.{ArgsFit, StepFits, BlockFits, ProcedureFits, LoweredImportFits}
use Rattle.proc_program.specs.Limits.{IsProgram}
use Rattle.proc_program.specs.View.{args_of as args_view}
use Rattle.proc_program.specs.StepView.{block_of as block_view}
use Rattle.proc_program.proofs.Limits.{words_before, registers_before, variable_within, callee_within}
use Rattle.proc_program.proofs.Limits.{passed_within}

-- ---- lengths

pub globals-length : (gs : List Global) → length (globals_of gs) ≡ words_in gs
globals-length [] = refl
globals-length (g ∷ gs) =
    length-append (replicate (words g) (unwrap_or g.initial (pos 0))) (globals_of gs)
    ∙ (let a = length-replicate (words g) (unwrap_or g.initial (pos 0)) in let b = globals-length gs in
    let e = sum_by-cons words g gs in omega (arith, a, b, e))

pub procs-length : (m : ModuleFields) (n : ℕ) (ps : List Proc) → length (procedures_of m n ps) ≡ length ps
procs-length m n [] = refl
procs-length m n (p ∷ ps) = ap suc (procs-length m (n + proc_calls p) ps)

pub row_within : (gs : List Global) (k : ℕ)
    → first_word_of gs k + option_map_or words (slice_get gs k) 0 ≤ words_in gs
row_within [] zero = omega arith
row_within [] (suc k) = omega arith
row_within (g ∷ gs) zero = let e = sum_by-cons words g gs in omega (arith, e)
row_within (g ∷ gs) (suc k) =
    let a = sum_by-cons words g (take k gs) in
    let b = sum_by-cons words g gs in
    let h = row_within gs k in
    omega (arith, a, b, h)

pub count_same : (a : Option ℕ) → register_count (is_some a) ≡ param_registers a
count_same None = refl
count_same (Some n) = refl

registers_same : (ps : List Param) → registers_of (map (λ q. is_some q.arity) ps) ≡ params_registers ps
registers_same [] = refl
registers_same (p ∷ ps) =
    let a = sum_by-cons register_count (is_some p.arity) (map (λ q. is_some q.arity) ps) in
    let b = sum_by-cons (λ (q : Param). param_registers q.arity) p ps in
    let c = count_same p.arity in
    let h = registers_same ps in
    omega (arith, a, b, c, h)

-- ---- names

module _ (m : ModuleFields) (limits : IsModule m) where
  s : Scope
  s = scope_of (part_of m)

  procs_some : length (procedures_of m 0 m.procs) ≡ length m.procs
  procs_some = procs-length m 0 m.procs

  module _ (p : Proc) (fits : ProcFits p) where
    place_fits : (v : Variable) → VariableWithin m p v → PlaceFits s (place_by m p v)
    unfolding s
    place_fits (named.Param i) h =
        let a = registers_before p.params i in let b = fits.registers in omega (arith, a, b)
    place_fits (named.Local k) h =
        let a = fits.registers in let b = fits.locals.0 in omega (arith, a, b, h)
    place_fits (named.Global k) h =
        let a = words_before m.globals k in let b = globals-length m.globals in omega (arith, a, b)
    place_fits (named.Array k) h =
        let a = words_before m.globals k in let b = globals-length m.globals in omega (arith, a, b)
    place_fits named.Other h = omega arith
    place_fits named.Missing h = omega arith

    row_fits : (v : Variable) → RowFits s (row_by m.globals v)
    unfolding s
    row_fits (named.Array k) =
        let a = row_within m.globals k in let b = globals-length m.globals in omega (arith, a, b)
    row_fits (named.Param i) = omega arith
    row_fits (named.Local k) = omega arith
    row_fits (named.Global k) = omega arith
    row_fits named.Other = omega arith
    row_fits named.Missing = omega arith

    handle_fits : (c : Callee) → CalleeWithin m p c → HandleFits s (handle_by p.params c)
    unfolding s
    handle_fits (called.Callback i) h =
        let a = registers_before p.params i in let b = fits.registers in omega (arith, a, b)
    handle_fits (called.Import k) h = let e = length-map m.imports import_of in omega (arith, e, h)
    handle_fits (called.Proc j) h = let e = procs_some in omega (arith, e, h)
    handle_fits called.Other h = let e = procs_some in let n = limits.some in omega (arith, e, n)
    handle_fits called.Missing h = let e = procs_some in let n = limits.some in omega (arith, e, n)

    -- ---- expressions and statements

    registers_kept : (xs : Args) (n : ℕ)
        → arg_registers (args_view (args_of m p n xs)) ≡ language.arg_registers xs
    registers_kept no_args n = refl
    registers_kept (value e xs) n = ap (λ k. k + 1) (registers_kept xs (n + calls e))
    registers_kept (proc f xs) n = ap (λ k. k + 2) (registers_kept xs n)

    few : (xs : Args) (n : ℕ) → language.arg_registers xs ≤ 4
        → arg_registers (args_view (args_of m p n xs)) ≤ 4
    few xs n h = let e = registers_kept xs n in omega (arith, e, h)

    mutual
      exp_fits : (e : Expr) (n : ℕ) → language.ExprFits e → ExpFits s (exp_of m p n e)
      exp_fits (number at v) n w = w
      exp_fits (var at x) n w = place_fits (variable_named m p x) (variable_within m p x)
      exp_fits (element at x e) n w = (row_fits (variable_named m p x), exp_fits e n w.1)
      exp_fits (call at f xs) n w =
          (few xs n w.0.1, handle_fits (callee_named m p f) (callee_within m p f), args_fit xs n w.1)
      exp_fits (op at o a b) n w = (exp_fits a n w.0, exp_fits b (n + calls a) w.1)

      args_fit : (xs : Args) (n : ℕ) → language.ArgsFit xs → ArgsFit s (args_view (args_of m p n xs))
      args_fit no_args n w = tt
      args_fit (value e xs) n w = (exp_fits e n w.0, args_fit xs (n + calls e) w.1)
      args_fit (proc f xs) n w = (handle_fits (passed_named m p f) (passed_within m p f), args_fit xs n w.1)

    mutual
      stmt_fits : (t : Stmt) (n : ℕ) → language.StmtFits t → StepFits s (step_of m p n t)
      stmt_fits (set at x e) n w = (
        place_fits (variable_named m p x) (variable_within m p x),
        exp_fits e n w.1,
      )
      stmt_fits (set_at at x i e) n w =
          (row_fits (variable_named m p x), exp_fits i n w.1, exp_fits e (n + calls i) w.2)
      stmt_fits (do_call at f xs) n w =
          (few xs n w.0.1, handle_fits (callee_named m p f) (callee_within m p f), args_fit xs n w.1)
      stmt_fits (if_then at c b) n w = (exp_fits c n w.0, block_fits b (n + calls c) w.1, tt)
      stmt_fits (if_else at c a b) n w =
          (exp_fits c n w.0, block_fits a (n + calls c) w.1, block_fits b (n + calls c + block_calls a) w.2)
      stmt_fits (while at c b) n w = (exp_fits c n w.0, block_fits b (n + calls c) w.1)
      stmt_fits (return at e) n w = exp_fits e n w
      stmt_fits (halt at e) n w = exp_fits e n w

      block_fits : (b : Block) (n : ℕ) → language.BlockFits b → BlockFits s (block_view (steps_of m p n b))
      block_fits no_stmts n w = tt
      block_fits (stmt t b) n w = (stmt_fits t n w.0, block_fits b (n + stmt_calls t) w.1)

    procedure_fits : (n : ℕ) → ProcedureFits s (procedure_of m n p)
    procedure_fits n =
        let e = registers_same p.params in
        let r = fits.registers in
        record {
          name = fits.name;
          registers = omega (arith, e, r);
          locals = fits.locals.0;
          frame = omega (arith, e);
          body = block_fits (stmts_of p.body) n fits.body;
        }

  procs_fit : (ps : List Proc) (n : ℕ) → Each ProcFits ps → Each (ProcedureFits s) (procedures_of m n ps)
  procs_fit [] n w = tt
  procs_fit (p ∷ ps) n w = (procedure_fits p w.0 n, procs_fit ps (n + proc_calls p) w.1)

-- ---- modules

imports_fit : (xs : List Import) → Each language.ImportFits xs
    → Each LoweredImportFits (map import_of xs)
imports_fit [] w = tt
imports_fit (x ∷ xs) w = (record { part = w.0.0; name = w.0.1 }, imports_fit xs w.1)

each_same : (n : ℕ) (z : ℤ) (zs : List ℤ) → FitsSigned w64 z → Each (FitsSigned w64) zs
    → Each (FitsSigned w64) (replicate n z ++ zs)
each_same zero z zs f w = w
each_same (suc n) z zs f w = (f, each_same n z zs f w)

initial_fits : (z : Option ℤ) → IfSome z (FitsSigned w64) → FitsSigned w64 (unwrap_or z (pos 0))
initial_fits None f = record { sfits = omega arith }
initial_fits (Some z) f = f

globals_fit : (gs : List Global) → Each GlobalFits gs → Each (FitsSigned w64) (globals_of gs)
globals_fit [] w = tt
globals_fit (g ∷ gs) w = each_same (words g) _ (globals_of gs) (initial_fits g.initial w.0.2)
    (globals_fit gs w.1)

pub part_fits : (m : ModuleFields) → IsModule m → IsProgram (part_of m)
unfolding s
part_fits m limits =
    let n = procs-length m 0 m.procs in
    let k = length-map m.imports import_of in
    let a = limits.imports.0 in
    let b = limits.procs.0 in
    let some = limits.some in
    record {
      name = limits.name;
      stack = limits.stack;
      header = record {
        code = limits.code;
        data_base = limits.data_base;
        closure = limits.closure;
        returns = limits.returns;
      };
      imports = (omega (arith, k, a), imports_fit m.imports limits.imports.1);
      globals = globals_fit m.globals limits.globals.1;
      some = omega (arith, n, some);
      procs = (omega (arith, n, b), procs_fit m limits m.procs 0 limits.procs.1);
    }
