-- A program has as many calls as its module.
use Rattle.std.proofs.Common.{◌≡◌, ℕ, ◌+◌, List, [], ◌∷◌, refl, sym, ap, ◌∙◌, arith}
use Rattle.std.specs.Prelude.{sum_by}
use Rattle.std.proofs.lemmas.List.Sums.{sum_by-cons}
use Rattle.proc_language.specs.declared.module.Proc.{Proc}
use Rattle.proc_language.specs.declared.module.ModuleFields.{ModuleFields}
use Rattle.proc_language.specs.Tree.{Expr, Args, Stmt, Block, number, var, element, call, op, no_args, value}
use Rattle.proc_language.specs.Tree.{proc, set, set_at, do_call, if_then, if_else, while, return, halt}
use Rattle.proc_language.specs.Tree.{no_stmts, stmt}
use Rattle.proc_language.specs.StmtView.{block_of as stmts_of}
use Rattle.proc_names.specs.Calls as text
use Rattle.proc_program.specs.Calls.{calls, args_calls, step_calls, block_calls, procedure_calls, part_calls}
use Rattle.proc_program.specs.Lower.{exp_of, args_of, step_of, steps_of, procedure_of, procedures_of, part_of}
use Rattle.proc_program.specs.View.{args_of as args_view}
use Rattle.proc_program.specs.StepView.{block_of as block_view}

module _ (m : ModuleFields) (p : Proc) where
  mutual
    pub exp_calls : (e : Expr) (n : ℕ) → calls (exp_of m p n e) ≡ text.calls e
    exp_calls (number at v) n = refl
    exp_calls (var at x) n = refl
    exp_calls (element at x e) n = exp_calls e n
    exp_calls (call at f xs) n = ap (λ k. k + 1) (among xs n)
    exp_calls (op at o a b) n = let x = exp_calls a n in let y = exp_calls b (n + text.calls a) in
        omega (arith, x, y)

    pub among : (xs : Args) (n : ℕ) → args_calls (args_view (args_of m p n xs)) ≡ text.args_calls xs
    among no_args n = refl
    among (value e xs) n = let x = exp_calls e n in let y = among xs (n + text.calls e) in omega (arith, x, y)
    among (proc f xs) n = among xs n

  mutual
    pub stmt_kept : (s : Stmt) (n : ℕ) → step_calls (step_of m p n s) ≡ text.stmt_calls s
    stmt_kept (set at x e) n = exp_calls e n
    stmt_kept (set_at at x i e) n =
        let x = exp_calls i n in let y = exp_calls e (n + text.calls i) in omega (arith, x, y)
    stmt_kept (do_call at f xs) n = ap (λ k. k + 1) (among xs n)
    stmt_kept (if_then at c b) n =
        let x = exp_calls c n in let y = block_kept b (n + text.calls c) in omega (arith, x, y)
    stmt_kept (if_else at c a b) n =
        let x = exp_calls c n in let y = block_kept a (n + text.calls c) in
        let z = block_kept b (n + text.calls c + text.block_calls a) in omega (arith, x, y, z)
    stmt_kept (while at c b) n =
        let x = exp_calls c n in let y = block_kept b (n + text.calls c) in omega (arith, x, y)
    stmt_kept (return at e) n = exp_calls e n
    stmt_kept (halt at e) n = exp_calls e n

    pub block_kept : (b : Block) (n : ℕ) → block_calls (block_view (steps_of m p n b)) ≡ text.block_calls b
    block_kept no_stmts n = refl
    block_kept (stmt s b) n = let x = stmt_kept s n in let y = block_kept b (n + text.stmt_calls s) in
        omega (arith, x, y)

procs_kept : (m : ModuleFields) (ps : List Proc) (n : ℕ)
    → sum_by procedure_calls (procedures_of m n ps) ≡ sum_by text.proc_calls ps
procs_kept m [] n = refl
procs_kept m (p ∷ ps) n =
    let x = block_kept m p (stmts_of p.body) n in
    let y = procs_kept m ps (n + text.proc_calls p) in
    sum_by-cons procedure_calls (procedure_of m n p) (procedures_of m (n + text.proc_calls p) ps)
    ∙ (let e : procedure_calls (procedure_of m n p) + sum_by procedure_calls
    (procedures_of m (n + text.proc_calls p) ps)
    ≡ text.proc_calls p + sum_by text.proc_calls ps = omega (arith, x, y) in
    e)
    ∙ sym (sum_by-cons text.proc_calls p ps)

pub calls_kept : (m : ModuleFields) → part_calls (part_of m) ≡ text.module_calls m
calls_kept m = procs_kept m m.procs 0
