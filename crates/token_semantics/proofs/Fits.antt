-- Calls hand over as many tokens as are taken.
use Rattle.std.specs.Prelude.{◌≡◌, ℕ, true, length, slice_get}
use Rattle.std.specs.Option.{option_map_or}
use Rattle.proc_language.specs.declared.tree.Name.{Name}
use Rattle.proc_language.specs.Limits.{Each}
use Rattle.proc_program.specs.declared.program.Handle.{Handle}
use Rattle.proc_program.specs.declared.program.Handle.TheVariants.{Given, Own, Imported}
use Rattle.proc_program.specs.Lower.{handle_of, passed_handle}
use Rattle.token_language.specs.declared.module.TokenProc.{TokenProc}
use Rattle.token_language.specs.declared.module.TokenModuleFields.{TokenModuleFields}
use Rattle.token_language.specs.Tree.{Expr, number, var, element, call, op, Args, no_args, value, proc, token}
use Rattle.token_language.specs.Tree.{Stmt, set, set_at, do_call, if_then, if_else, while, return, halt, make}
use Rattle.token_language.specs.Tree.{spend, Block, no_stmts, stmt}
use Rattle.token_language.specs.StmtView.{block_of}
use Rattle.token_language.specs.Tokens.{param_tokens}
use Rattle.token_language.specs.Erased.{erased, erased_proc}
use Rattle.token_language.specs.TokenFaults.{arg_tokens}

-- how many tokens a call hands over, and how many a procedure takes
abbrev pub tokens_given : Args → ℕ
tokens_given xs = length (arg_tokens xs)

abbrev pub tokens_taken : TokenProc → ℕ
tokens_taken p = length (param_tokens p.params)

-- callbacks and imports take none
abbrev pub taken_by : TokenModuleFields → Handle → ℕ
taken_by m (Given i) = 0
taken_by m (Own j) = option_map_or tokens_taken (slice_get m.procs j) 0
taken_by m (Imported k) = 0

module _ (m : TokenModuleFields) (p : TokenProc) where
  abbrev pub CallFits : Name → Args → Type 0
  CallFits f xs = tokens_given xs ≡ taken_by m (handle_of (erased m) (erased_proc p) f)

  abbrev pub PassFits : Name → Type 0
  PassFits f = taken_by m (passed_handle (erased m) (erased_proc p) f) ≡ 0

  abbrev mutual
    pub ExprFits : Expr → Type 0
    ExprFits (number at v) = Unit {0}
    ExprFits (var at x) = Unit {0}
    ExprFits (element at x e) = ExprFits e
    ExprFits (call at f xs) = CallFits f xs × ArgsFit xs
    ExprFits (op at o a b) = ExprFits a × ExprFits b

    pub ArgsFit : Args → Type 0
    ArgsFit no_args = Unit {0}
    ArgsFit (value e xs) = ExprFits e × ArgsFit xs
    ArgsFit (proc f xs) = PassFits f × ArgsFit xs
    ArgsFit (token x xs) = ArgsFit xs

  abbrev mutual
    pub StmtFits : Stmt → Type 0
    StmtFits (set at end x e) = ExprFits e
    StmtFits (set_at at end x i e) = ExprFits i × ExprFits e
    StmtFits (do_call at end f xs) = CallFits f xs × ArgsFit xs
    StmtFits (if_then at end c a) = ExprFits c × BlockFits a
    StmtFits (if_else at end c a b) = ExprFits c × BlockFits a × BlockFits b
    StmtFits (while at end c a) = ExprFits c × BlockFits a
    StmtFits (return at end e) = ExprFits e
    StmtFits (halt at end e) = ExprFits e
    StmtFits (make at end x) = Unit {0}
    StmtFits (spend at end x) = Unit {0}

    pub BlockFits : Block → Type 0
    BlockFits no_stmts = Unit {0}
    BlockFits (stmt x b) = StmtFits x × BlockFits b

  -- what other parts may import takes none
  pub record ProcFits : Type 0 where
    pub shared : p.shared ≡ true → tokens_taken p ≡ 0
    pub body : BlockFits (block_of p.body)

abbrev pub CallsFit : TokenModuleFields → Type 0
CallsFit m = Each (ProcFits m) m.procs
