-- The calls of a lowered module are numbered in their order.
use Rattle.std.proofs.Common.{ℕ, ◌+◌, sym, ap, subst, arith}
use Rattle.proc_language.specs.declared.module.Proc.{Proc}
use Rattle.proc_language.specs.declared.module.ModuleFields.{ModuleFields}
use Rattle.proc_language.specs.Tree.{Expr, Args, Stmt, Block, number, var, element, call, op, no_args, value}
use Rattle.proc_language.specs.Tree.{proc, set, set_at, do_call, if_then, if_else, while, return, halt}
use Rattle.proc_language.specs.Tree.{no_stmts, stmt}
use Rattle.proc_names.specs.Calls as text
use Rattle.proc_program.specs.Lower.{exp_of, args_of, step_of, steps_of}
use Rattle.proc_program.specs.View.{args_of as args_view}
use Rattle.proc_program.specs.StepView.{block_of as block_view}
use Rattle.proc_program.proofs.Offers.{exp_calls, among, stmt_kept, block_kept}
use Rattle.source_laws.specs.Sites.{Numbered, ArgsNumbered, StepNumbered, BlockNumbered}

module _ (m : ModuleFields) (p : Proc) where
  mutual
    numbered : (e : Expr) (n : ℕ) → Numbered n (exp_of m p n e)
    numbered (number at v) n = tt
    numbered (var at x) n = tt
    numbered (element at x e) n = numbered e n
    numbered (call at f xs) n = (args_numbered xs n, ap (λ k. n + k) (sym (among m p xs n)))
    numbered (op at o a b) n =
        let e = sym (exp_calls m p a n) in (
          numbered a n,
          subst (λ k. Numbered (n + k) (exp_of m p (n + text.calls a) b)) e
              (numbered b (n + text.calls a)),
        )

    args_numbered : (xs : Args) (n : ℕ) → ArgsNumbered n (args_view (args_of m p n xs))
    args_numbered no_args n = tt
    args_numbered (value e xs) n =
        let k = sym (exp_calls m p e n) in (
          numbered e n,
          subst (λ k. ArgsNumbered (n + k) (args_view (args_of m p (n + text.calls e) xs))) k
              (args_numbered xs (n + text.calls e)),
        )
    args_numbered (proc f xs) n = args_numbered xs n

  mutual
    stmt_numbered : (s : Stmt) (n : ℕ) → StepNumbered n (step_of m p n s)
    stmt_numbered (set at x e) n = numbered e n
    stmt_numbered (set_at at x i e) n = (
      numbered i n,
      subst (λ k. Numbered (n + k) (exp_of m p (n + text.calls i) e)) (sym (exp_calls m p i n))
          (numbered e (n + text.calls i)),
    )
    stmt_numbered (do_call at f xs) n = (args_numbered xs n, ap (λ k. n + k) (sym (among m p xs n)))
    stmt_numbered (if_then at c b) n = (
      numbered c n,
      subst (λ k. BlockNumbered (n + k) (block_view (steps_of m p (n + text.calls c) b)))
          (sym (exp_calls m p c n)) (block_numbered b (n + text.calls c)),
      tt,
    )
    stmt_numbered (if_else at c a b) n =
        let x = exp_calls m p c n in
        let y = block_kept m p a (n + text.calls c) in (
          numbered c n,
          subst (λ k. BlockNumbered (n + k) (block_view (steps_of m p (n + text.calls c) a)))
              (sym x) (block_numbered a (n + text.calls c)),
          subst (λ k. BlockNumbered k (block_view (steps_of m p (n + text.calls c + text.block_calls a) b)))
              (omega (arith, x, y)) (block_numbered b (n + text.calls c + text.block_calls a)),
        )
    stmt_numbered (while at c b) n = (
      numbered c n,
      subst (λ k. BlockNumbered (n + k) (block_view (steps_of m p (n + text.calls c) b)))
          (sym (exp_calls m p c n)) (block_numbered b (n + text.calls c)),
    )
    stmt_numbered (return at e) n = numbered e n
    stmt_numbered (halt at e) n = numbered e n

    pub block_numbered : (b : Block) (n : ℕ) → BlockNumbered n (block_view (steps_of m p n b))
    block_numbered no_stmts n = tt
    block_numbered (stmt s b) n = (
      stmt_numbered s n,
      subst (λ k. BlockNumbered (n + k) (block_view (steps_of m p (n + text.stmt_calls s) b)))
          (sym (stmt_kept m p s n)) (block_numbered b (n + text.stmt_calls s)),
    )
