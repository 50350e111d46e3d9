-- The walk through a statement, by what the statement is.
use Rattle.std.proofs.Common.{◌≡◌, ◌∙◌, ℕ, List, Some, Ok, Err, refl, sym, ap}
use Rattle.proc_language.specs.declared.tree.Name.{Name}
use Rattle.token_language.specs.declared.tree.TokenStmtKind.{TokenStmtKind}
use Rattle.token_language.specs.Tree.{Stmt, Expr, Block}
use Rattle.token_language.specs.StmtView.{stmt_at}
use Rattle.token_check.specs.declared.fault.TokenFault.{TokenFault}
use Rattle.token_check.specs.Tokens.{Full}
use Rattle.token_check.specs.Walk.{Walked, FullAfter, walk_on, stmt_walk, expr_walk, block_walk, guarded_walk}

-- a statement of this kind
pub kind_walk : (tokens : List Name) (full : Full) (at end : ℕ) {kind k : TokenStmtKind} {s : Stmt}
    → stmt_at at end kind ≡ s → kind ≡ k
    → stmt_walk tokens (stmt_at at end k) full ≡ stmt_walk tokens s full
kind_walk tokens full at end seen is =
    ap (λ k. stmt_walk tokens (stmt_at at end k) full) (sym is) ∙ ap (λ x. stmt_walk tokens x full) seen

-- what goes on after a condition and what it guards
module _ (tokens : List Name) (c : Expr) (a : Block) (full : Full)
    (f : Full → FullAfter → Walked FullAfter) where
  on : Full × FullAfter → Walked FullAfter
  on g = f g.0 g.1

  after : (t : Full) (w : Walked FullAfter) → walk_on w (f t)
      ≡ walk_on (walk_on w (λ s. let g : Walked (Full × FullAfter) = Ok (t, s) in g)) on
  unfolding on
  after t (Ok s) = refl
  after t (Err e) = refl

  tested : (w : Walked Full) → walk_on w (λ t. walk_on (block_walk tokens a (Some t)) (f t))
      ≡ walk_on (walk_on w (λ t. walk_on (block_walk tokens a (Some t))
      (λ s. let g : Walked (Full × FullAfter) = Ok (t, s) in g))) on
  tested (Ok t) = after t (block_walk tokens a (Some t))
  tested (Err e) = refl

  pub guarded_ok : (t : Full) (s : FullAfter) → Ok (t, s) ≡ guarded_walk tokens c a full
      → f t s ≡ walk_on (expr_walk tokens c full) (λ t. walk_on (block_walk tokens a (Some t)) (f t))
  unfolding on
  guarded_ok t s e = ap (λ w. walk_on w on) e ∙ sym (tested (expr_walk tokens c full))

  pub guarded_err : (e : TokenFault) → Err e ≡ guarded_walk tokens c a full
      → Err e ≡ walk_on (expr_walk tokens c full) (λ t. walk_on (block_walk tokens a (Some t)) (f t))
  unfolding on
  guarded_err e is = ap (λ w. walk_on w on) is ∙ sym (tested (expr_walk tokens c full))
