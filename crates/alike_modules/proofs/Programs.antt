-- Modules that are alike run as the same program.
use Rattle.std.proofs.Common.{◌≡◌, refl, ◌∙◌, ap, sym, ℕ, ◌+◌, List, [], ◌∷◌, ◌++◌, map, pos, replicate}
use Rattle.std.specs.Prelude.{is_some, unwrap_or}
use Rattle.std.proofs.lemmas.List.{length-map}
use Rattle.proc_language.specs.declared.tree.Name.{Name}
use Rattle.proc_language.specs.declared.module.Global.{Global}
use Rattle.proc_language.specs.declared.module.Proc.{Proc}
use Rattle.proc_language.specs.declared.module.ModuleFields.{ModuleFields}
use Rattle.proc_language.specs.Tree.{Expr, number, var, element, call, op, Args, no_args, value, proc}
use Rattle.proc_language.specs.Tree.{Stmt, set, set_at, do_call, if_then, if_else, while, return, halt}
use Rattle.proc_language.specs.Tree.{Block, no_stmts, stmt}
use Rattle.proc_language.specs.StmtView.{block_of as stmts_of}
use Rattle.proc_language.specs.Unplaced.{unplaced_name, unplaced_expr, unplaced_args, unplaced_stmt}
use Rattle.proc_language.specs.Unplaced.{unplaced_block, unplaced_import, unplaced_global, unplaced_param}
use Rattle.proc_language.specs.Unplaced.{unplaced_proc, unplaced, IsAlike}
use Rattle.proc_names.specs.declared.scope.Variable.{Variable}
use Rattle.proc_names.specs.declared.scope.Variable.TheVariants as named
use Rattle.proc_names.specs.declared.scope.Callee.{Callee}
use Rattle.proc_names.specs.declared.scope.Callee.TheVariants as called
use Rattle.proc_program.specs.declared.program.Handle.TheVariants.{Given}
use Rattle.proc_program.specs.declared.program.Location.TheVariants as place
use Rattle.proc_program.specs.declared.program.ArgExp.TheVariants as arg
use Rattle.proc_program.specs.Program as run
use Rattle.proc_program.specs.View.{args_of as args_view}
use Rattle.proc_program.specs.StepView.{block_of as block_view}
use Rattle.proc_program.specs.Lower.{words, place_by, variable_of, row_by, row_of, handle_by, handle_of}
use Rattle.proc_program.specs.Lower.{passed_handle, exp_of, args_of, step_of, steps_of, procedure_of}
use Rattle.proc_program.specs.Lower.{procedures_of, globals_of, import_of, header_of, part_of}
use Rattle.alike_modules.proofs.Lists.{map_of, get_of}
use Rattle.alike_modules.proofs.Counts.{block_alike, calls_alike, args_calls_alike, stmt_calls_alike}
use Rattle.alike_modules.proofs.Counts.{block_calls_alike, proc_calls_alike, params_registers_alike}
use Rattle.alike_modules.proofs.Counts.{param_place_alike, word_at_alike, need_alike}
use Rattle.alike_modules.proofs.Names.{variable_alike, callee_alike, passed_alike}

module _ (m : ModuleFields) (p : Proc) where
  -- ---- what names stand for

  place_alike : (v : Variable) → place_by (unplaced m) (unplaced_proc p) v ≡ place_by m p v
  place_alike (named.Param k) = λ i. place.Local (param_place_alike p.params k i)
  place_alike (named.Local k) = λ i. place.Local (params_registers_alike p.params i + k)
  place_alike (named.Global k) = λ i. place.Global (word_at_alike m.globals k i)
  place_alike (named.Array k) = λ i. place.Global (word_at_alike m.globals k i)
  place_alike named.Other = refl
  place_alike named.Missing = refl

  variable_of_alike : (x : Name)
      → variable_of (unplaced m) (unplaced_proc p) (unplaced_name x) ≡ variable_of m p x
  variable_of_alike x = λ i. place_alike (variable_alike m p x i) i

  row_alike : (v : Variable) → row_by (map unplaced_global m.globals) v ≡ row_by m.globals v
  row_alike (named.Array k) =
      λ i. record {
        first =
            word_at_alike m.globals k i;
        length = get_of unplaced_global words 0 m.globals k i;
      }
  row_alike (named.Param k) = refl
  row_alike (named.Local k) = refl
  row_alike (named.Global k) = refl
  row_alike named.Other = refl
  row_alike named.Missing = refl

  row_of_alike : (x : Name) → row_of (unplaced m) (unplaced_proc p) (unplaced_name x) ≡ row_of m p x
  row_of_alike x = λ i. row_alike (variable_alike m p x i) i

  handle_alike : (c : Callee) → handle_by (map unplaced_param p.params) c ≡ handle_by p.params c
  handle_alike (called.Callback k) = λ i. Given (param_place_alike p.params k i)
  handle_alike (called.Import k) = refl
  handle_alike (called.Proc k) = refl
  handle_alike called.Other = refl
  handle_alike called.Missing = refl

  handle_of_alike : (f : Name) → handle_of (unplaced m) (unplaced_proc p) (unplaced_name f) ≡ handle_of m p f
  handle_of_alike f = λ i. handle_alike (callee_alike m p f i) i

  passed_of_alike : (f : Name) → passed_handle (unplaced m) (unplaced_proc p) (unplaced_name f)
      ≡ passed_handle m p f
  passed_of_alike f = λ i. handle_alike (passed_alike m p f i) i

  -- ---- expressions and statements

  mutual
    exp_alike : (e : Expr) (n : ℕ) →
        exp_of (unplaced m) (unplaced_proc p) n (unplaced_expr e) ≡ exp_of m p n e
    exp_alike (number at v) n = refl
    exp_alike (var at x) n = λ i. run.Load (variable_of_alike x i)
    exp_alike (element at x e) n = λ i. run.Element (row_of_alike x i) (exp_alike e n i)
    exp_alike (call at f xs) n = λ i.
        run.Call (n + args_calls_alike xs i) (handle_of_alike f i) (args_view (args_alike xs n i))
    exp_alike (op at o a b) n = λ i.
        run.Binary o (exp_alike a n i) (exp_alike b (n + calls_alike a i) i)

    args_alike : (xs : Args) (n : ℕ)
        → args_of (unplaced m) (unplaced_proc p) n (unplaced_args xs) ≡ args_of m p n xs
    args_alike no_args n = refl
    args_alike (value e xs) n = λ i.
        arg.Value (exp_alike e n i) ∷ args_alike xs (n + calls_alike e i) i
    args_alike (proc f xs) n = λ i. arg.Pass (passed_of_alike f i) ∷ args_alike xs n i

  mutual
    step_alike : (s : Stmt) (n : ℕ)
        → step_of (unplaced m) (unplaced_proc p) n (unplaced_stmt s) ≡ step_of m p n s
    step_alike (set at x e) n = λ i. run.Set (variable_of_alike x i) (exp_alike e n i)
    step_alike (set_at at x k e) n = λ i.
        run.SetAt (row_of_alike x i) (exp_alike k n i) (exp_alike e (n + calls_alike k i) i)
    step_alike (do_call at f xs) n = λ i.
        run.Do (run.Call (n + args_calls_alike xs i) (handle_of_alike f i) (args_view (args_alike xs n i)))
    step_alike (if_then at c a) n = λ i.
        run.If (exp_alike c n i) (block_view (steps_alike a (n + calls_alike c i) i)) run.no_steps
    step_alike (if_else at c a b) n = λ i.
        run.If (exp_alike c n i) (block_view (steps_alike a (n + calls_alike c i) i))
        (block_view (steps_alike b (n + calls_alike c i + block_calls_alike a i) i))
    step_alike (while at c b) n = λ i.
        run.While (exp_alike c n i) (block_view (steps_alike b (n + calls_alike c i) i))
    step_alike (return at e) n = λ i. run.Return (exp_alike e n i)
    step_alike (halt at e) n = λ i. run.Halt (exp_alike e n i)

    steps_alike : (b : Block) (n : ℕ)
        → steps_of (unplaced m) (unplaced_proc p) n (unplaced_block b) ≡ steps_of m p n b
    steps_alike no_stmts n = refl
    steps_alike (stmt s b) n = λ i. step_alike s n i ∷ steps_alike b (n + stmt_calls_alike s i) i

  body_alike : (n : ℕ)
      → steps_of (unplaced m) (unplaced_proc p) n (stmts_of (map unplaced_stmt p.body))
      ≡ steps_of m p n (stmts_of p.body)
  body_alike n =
      ap (steps_of (unplaced m) (unplaced_proc p) n) (block_alike p.body) ∙ steps_alike (stmts_of p.body) n

  procedure_alike : (n : ℕ) → procedure_of (unplaced m) n (unplaced_proc p) ≡ procedure_of m n p
  procedure_alike n = λ i. record {
    name = p.name.text;
    shared = p.shared;
    callbacks = map_of unplaced_param (λ q. is_some q.arity) p.params i;
    locals = length-map p.locals unplaced_name i;
    need = need_alike p i;
    body = body_alike n i;
  }

procedures_alike : (m : ModuleFields) (ps : List Proc) (n : ℕ)
    → procedures_of (unplaced m) n (map unplaced_proc ps) ≡ procedures_of m n ps
procedures_alike m [] n = refl
procedures_alike m (p ∷ ps) n = λ i.
    procedure_alike m p n i ∷ procedures_alike m ps (n + proc_calls_alike p i) i

globals_alike : (gs : List Global) → globals_of (map unplaced_global gs) ≡ globals_of gs
globals_alike [] = refl
globals_alike (g ∷ gs) = ap (λ zs. replicate (words g) (unwrap_or g.initial (pos 0)) ++ zs) (globals_alike gs)

pub part_alike : (m : ModuleFields) → part_of (unplaced m) ≡ part_of m
part_alike m = λ i. record {
  name = m.name.text;
  stack = m.stack;
  header = header_of m;
  imports = map_of unplaced_import import_of m.imports i;
  globals = globals_alike m.globals i;
  procs = procedures_alike m m.procs 0 i;
}

pub same_program : (a b : ModuleFields) → IsAlike a b → part_of a ≡ part_of b
same_program a b h = sym (part_alike a) ∙ ap part_of h ∙ part_alike b
