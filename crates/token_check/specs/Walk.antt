-- Which tokens are full after each statement and expression, in the order of evaluation, or the first rule
-- that is broken.
use Rattle.std.specs.Prelude.{ℕ, true, false, if◌then◌else◌, List, [], ◌∷◌, Option, Some, None, Result}
use Rattle.std.specs.Prelude.{Ok, Err, slice_set}
use Rattle.proc_language.specs.declared.tree.Name.{Name}
use Rattle.token_language.specs.declared.module.TokenProc.{TokenProc}
use Rattle.token_language.specs.declared.module.TokenModuleFields.{TokenModuleFields}
use Rattle.token_language.specs.Tree.{Expr, number, var, element, call, op, Args, no_args, value, proc, token}
use Rattle.token_language.specs.Tree.{Stmt, set, set_at, do_call, if_then, if_else, while, return, halt, make}
use Rattle.token_language.specs.Tree.{spend, Block, no_stmts, stmt}
use Rattle.token_language.specs.StmtView.{block_of}
use Rattle.token_check.specs.declared.fault.TokenFault.{TokenFault}
use Rattle.token_check.specs.declared.fault.TokenFault.TheVariants as fault
use Rattle.proc_language.specs.declared.TheConstants.{MOST_TOKENS}
use Rattle.token_language.specs.Tokens.{tokens_of}
use Rattle.token_check.specs.Tokens.{Full, is_full, is_clear, equal_sets, none_full, params_full, token_at}

abbrev pub Walked : Type 0 → Type 0
Walked A = Result A TokenFault

abbrev pub walk_on : {A B : Type 0} → Walked A → (A → Walked B) → Walked B
walk_on (Ok x) f = f x
walk_on (Err e) f = Err e

-- the set after a statement; None where nothing goes on
abbrev pub FullAfter : Type 0
FullAfter = Option Full

unfoldable pub filled : Option ℕ → ℕ → Full → Walked Full
filled None at full = Err (fault.Full at)
filled (Some i) at full = if is_full full i then Err (fault.Full at) else Ok (slice_set full i true)

unfoldable pub emptied : Option ℕ → ℕ → Full → Walked Full
emptied None at full = Err (fault.Empty at)
emptied (Some i) at full = if is_full full i then Ok (slice_set full i false) else Err (fault.Empty at)

-- no token is full any more
unfoldable pub let_go : ℕ → Full → Walked FullAfter
let_go at full = if is_clear full then Ok None else Err (fault.Kept at)

-- two ways meet
unfoldable pub joined : ℕ → FullAfter → FullAfter → Walked FullAfter
joined at None b = Ok b
joined at (Some s) None = Ok (Some s)
joined at (Some s) (Some t) = if equal_sets s t then Ok (Some s) else Err (fault.Split at)

-- the body of a loop comes back with the set from before the test; after the loop stands that after the test
unfoldable pub comes_back : ℕ → Full → Full → FullAfter → Walked FullAfter
comes_back at before tested None = Ok (Some tested)
comes_back at before tested (Some t) = if equal_sets before t then Ok (Some tested) else Err (fault.Split at)

abbrev pub first_place : Stmt → ℕ
first_place (set at end x e) = at
first_place (set_at at end x i e) = at
first_place (do_call at end f args) = at
first_place (if_then at end c b) = at
first_place (if_else at end c b d) = at
first_place (while at end c b) = at
first_place (return at end e) = at
first_place (halt at end e) = at
first_place (make at end x) = at
first_place (spend at end x) = at

module _ (tokens : List Name) where
  abbrev mutual
    pub expr_walk : Expr → Full → Walked Full
    expr_walk (number at n) full = Ok full
    expr_walk (var at x) full = Ok full
    expr_walk (element at x e) full = expr_walk e full
    expr_walk (call at f args) full = args_walk args full
    expr_walk (op at o a b) full = walk_on (expr_walk a full) (λ full. expr_walk b full)

    pub args_walk : Args → Full → Walked Full
    args_walk no_args full = Ok full
    args_walk (value e args) full = walk_on (expr_walk e full) (λ full. args_walk args full)
    args_walk (proc f args) full = args_walk args full
    args_walk (token x args) full =
        walk_on (emptied (token_at tokens x) x.at full) (λ full. args_walk args full)

  abbrev pub to_after : Walked Full → Walked FullAfter
  to_after w = walk_on w (λ full. Ok (Some full))

  abbrev mutual
    pub stmt_walk : Stmt → Full → Walked FullAfter
    stmt_walk (set at end x e) full = to_after (expr_walk e full)
    stmt_walk (set_at at end x i e) full = walk_on (expr_walk i full) (λ full. to_after (expr_walk e full))
    stmt_walk (do_call at end f args) full = to_after (args_walk args full)
    stmt_walk (if_then at end c a) full =
        walk_on (expr_walk c full) (λ full.
        walk_on (block_walk a (Some full)) (λ s. joined end s (Some full)))
    stmt_walk (if_else at end c a b) full =
        walk_on (expr_walk c full) (λ full.
        walk_on (block_walk a (Some full)) (λ s.
        walk_on (block_walk b (Some full)) (λ t. joined end s t)))
    stmt_walk (while at end c a) full =
        walk_on (expr_walk c full) (λ tested.
        walk_on (block_walk a (Some tested)) (λ s. comes_back end full tested s))
    stmt_walk (return at end e) full = walk_on (expr_walk e full) (λ full. let_go end full)
    stmt_walk (halt at end e) full = walk_on (expr_walk e full) (λ full. let_go end full)
    stmt_walk (make at end x) full = to_after (filled (token_at tokens x) x.at full)
    stmt_walk (spend at end x) full = to_after (emptied (token_at tokens x) x.at full)

    pub block_walk : Block → FullAfter → Walked FullAfter
    block_walk no_stmts after = Ok after
    block_walk (stmt s b) None = Err (fault.Dead (first_place s))
    block_walk (stmt s b) (Some full) = walk_on (stmt_walk s full) (λ after. block_walk b after)

  -- the sets after a condition, and after what it guards
  abbrev pub guarded_walk : Expr → Block → Full → Walked (Full × FullAfter)
  guarded_walk c a full =
      walk_on (expr_walk c full) (λ tested.
      walk_on (block_walk a (Some tested)) (λ after. Ok (tested, after)))

-- a procedure begins with its token parameters full
abbrev pub at_first : TokenProc → Full
at_first p = params_full p.params 0 (none_full MOST_TOKENS)

-- and ends with none full
abbrev pub at_last : ℕ → FullAfter → Walked FullAfter
at_last end None = Ok None
at_last end (Some full) = let_go end full

abbrev pub proc_walk : TokenProc → Walked FullAfter
proc_walk p = walk_on (block_walk (tokens_of p) (block_of p.body) (Some (at_first p))) (at_last p.end)

abbrev pub procs_walk : List TokenProc → Walked (Unit {0})
procs_walk [] = Ok tt
procs_walk (p ∷ ps) = walk_on (proc_walk p) (λ after. procs_walk ps)

abbrev pub module_walk : TokenModuleFields → Walked (Unit {0})
module_walk m = procs_walk m.procs
