-- The typing of tokens where nothing is asked of code that is never reached. Checked modules keep it, and
-- so do modules without tokens.
use Rattle.std.proofs.Common.{◌≡◌, refl, sym, ◌∙◌, ap, ℕ, zero, suc, Bool, true, false, List, [], ◌∷◌, ◌++◌}
use Rattle.std.proofs.Common.{Some, None, ◌⊎◌, inl, inr, if◌then◌else◌}
use Rattle.std.specs.List.{list_any}
use Rattle.proc_language.specs.declared.tree.Name.{Name}
use Rattle.proc_names.specs.declared.fault.NameFault.{NameFault}
use Rattle.proc_names.specs.declared.fault.NameFault.TheVariants.{Unknown, WrongKind}
use Rattle.proc_names.specs.Names.{same}
use Rattle.token_language.specs.declared.module.TokenParam.{TokenParam}
use Rattle.token_language.specs.declared.module.TokenParam.TheVariants as param
use Rattle.token_language.specs.declared.module.TokenProc.{TokenProc}
use Rattle.token_language.specs.declared.module.TokenModuleFields.{TokenModuleFields}
use Rattle.token_language.specs.Tree.{Expr, number, var, element, call, op, Args, no_args, value, proc, token}
use Rattle.token_language.specs.Tree.{Stmt, set, set_at, do_call, if_then, if_else, while, return, halt, make}
use Rattle.token_language.specs.Tree.{spend, Block, no_stmts, stmt}
use Rattle.token_language.specs.StmtView.{block_of}
use Rattle.token_language.specs.Tokens.{tokens_of, param_tokens, local_tokens}
use Rattle.token_language.specs.TokenFaults.{is_plain, token_faults, variable_faults, element_faults}
use Rattle.token_language.specs.TokenFaults.{call_faults, handed_faults, expr_faults, args_faults}
use Rattle.token_language.specs.TokenFaults.{stmt_faults, block_faults}
use Rattle.token_check.specs.Tokens.{Full, is_clear, none_full, params_full, token_at}
use Rattle.token_check.specs.Walk.{FullAfter, at_first}
use Rattle.token_check.specs.Typing.{Fills, Empties, Joins, ComesBack, IsClear, ExprTyped, ArgsTyped}
use Rattle.token_check.specs.Typing.{StmtTyped, BlockTyped, ProcTyped}
use Rattle.proc_language.specs.declared.TheConstants.{MOST_TOKENS}
use Rattle.token_semantics.proofs.Resolved.{filled, parts}

module _ (tokens : List Name) where
  abbrev mutual
    pub StmtGoes : Stmt → Full → FullAfter → Type 0
    StmtGoes (set at end x e) s after = (t : Full) × ExprTyped tokens e s t × (Some t ≡ after)
    StmtGoes (set_at at end x i e) s after =
        (u : Full) × ExprTyped tokens i s u × (t : Full) × ExprTyped tokens e u t × (Some t ≡ after)
    StmtGoes (do_call at end f xs) s after = (t : Full) × ArgsTyped tokens xs s t × (Some t ≡ after)
    StmtGoes (if_then at end c a) s after =
        (t : Full) × ExprTyped tokens c s t × (u : FullAfter) × BlockGoes a (Some t) u
        × Joins u (Some t) after
    StmtGoes (if_else at end c a b) s after =
        (t : Full) × ExprTyped tokens c s t × (u : FullAfter) × BlockGoes a (Some t) u
        × (v : FullAfter) × BlockGoes b (Some t) v × Joins u v after
    StmtGoes (while at end c a) s after =
        (t : Full) × ExprTyped tokens c s t × (u : FullAfter) × BlockGoes a (Some t) u × ComesBack s u
        × (Some t ≡ after)
    StmtGoes (return at end e) s after =
        (t : Full) × ExprTyped tokens e s t × (is_clear t ≡ true) × (None ≡ after)
    StmtGoes (halt at end e) s after =
        (t : Full) × ExprTyped tokens e s t × (is_clear t ≡ true) × (None ≡ after)
    StmtGoes (make at end x) s after = (t : Full) × Fills (token_at tokens x) s t × (Some t ≡ after)
    StmtGoes (spend at end x) s after = (t : Full) × Empties (token_at tokens x) s t × (Some t ≡ after)

    pub BlockGoes : Block → FullAfter → FullAfter → Type 0
    BlockGoes no_stmts before after = before ≡ after
    BlockGoes (stmt x b) None after = None ≡ after
    BlockGoes (stmt x b) (Some s) after = (t : FullAfter) × StmtGoes x s t × BlockGoes b t after

  -- ---- checked code

  mutual
    stmt_goes : (x : Stmt) (s : Full) (after : FullAfter) → StmtTyped tokens x s after → StmtGoes x s after
    stmt_goes (set at end x e) s after h = h
    stmt_goes (set_at at end x i e) s after h = h
    stmt_goes (do_call at end f xs) s after h = h
    stmt_goes (if_then at end c a) s after h = (h.0, h.1, h.2, block_goes a (Some h.0) h.2 h.3, h.4)
    stmt_goes (if_else at end c a b) s after h =
        (h.0, h.1, h.2, block_goes a (Some h.0) h.2 h.3, h.4, block_goes b (Some h.0) h.4 h.5, h.6)
    stmt_goes (while at end c a) s after h = (h.0, h.1, h.2, block_goes a (Some h.0) h.2 h.3, h.4, h.5)
    stmt_goes (return at end e) s after h = h
    stmt_goes (halt at end e) s after h = h
    stmt_goes (make at end x) s after h = h
    stmt_goes (spend at end x) s after h = h

    block_goes : (b : Block) (before after : FullAfter) → BlockTyped tokens b before after
        → BlockGoes b before after
    block_goes no_stmts before after h = h
    block_goes (stmt x b) None after h = absurd h
    block_goes (stmt x b) (Some s) after h = (h.0, stmt_goes x s h.0 h.1, block_goes b h.0 after h.2)

abbrev pub ProcGoes : TokenProc → Type 0
ProcGoes p = (after : FullAfter) × BlockGoes (tokens_of p) (block_of p.body)
    (Some (at_first p)) after × IsClear after

pub checked_goes : (p : TokenProc) → ProcTyped p → ProcGoes p
checked_goes p h = (h.0, block_goes (tokens_of p) (block_of p.body) (Some (at_first p)) h.0 h.1, h.2)

-- ---- code without tokens

-- a name that is to be a token is wrong where there is none
no_token : {P : Type 0} (p : TokenProc) (x : Name) → tokens_of p ≡ [] → token_faults p x ≡ [] → P
no_token p x e h = absurd (by (is_plain p x) (sym (ap faults e) ∙ h))
  where
    wrong : Bool → List NameFault
    wrong b = if b then WrongKind x.at ∷ [] else Unknown x.at ∷ []

    faults : List Name → List NameFault
    faults tokens = if list_any (λ y. same y x) tokens then [] else wrong (is_plain p x)

    by : (b : Bool) → wrong b ≡ [] → ⊥
    by true h = filled _ _ h
    by false h = filled _ _ h

module _ (m : TokenModuleFields) (p : TokenProc) (none : tokens_of p ≡ []) where
  mutual
    expr_stays : (e : Expr) → expr_faults m p e ≡ [] → (s : Full) → ExprTyped (tokens_of p) e s s
    expr_stays (number at v) h s = refl
    expr_stays (var at x) h s = refl
    expr_stays (element at x e) h s = expr_stays e (parts (element_faults m p x) (expr_faults m p e) h).1 s
    expr_stays (call at f xs) h s = args_stay xs (parts (call_faults m p f xs) (args_faults m p xs) h).1 s
    expr_stays (op at o a b) h s =
        let both = parts (expr_faults m p a) (expr_faults m p b) h in
        (s, expr_stays a both.0 s, expr_stays b both.1 s)

    args_stay : (xs : Args) → args_faults m p xs ≡ [] → (s : Full) → ArgsTyped (tokens_of p) xs s s
    args_stay no_args h s = refl
    args_stay (value e xs) h s =
        let both = parts (expr_faults m p e) (args_faults m p xs) h in
        (s, expr_stays e both.0 s, args_stay xs both.1 s)
    args_stay (proc f xs) h s = args_stay xs (parts (handed_faults m p f) (args_faults m p xs) h).1 s
    args_stay (token x xs) h s = no_token p x none (parts (token_faults p x) (args_faults m p xs) h).0

  module _ (s : Full) (clear : is_clear s ≡ true) where
    -- it goes on with the set from before, or it doesn't go on
    abbrev StmtStays : Stmt → Type 0
    StmtStays x = StmtGoes (tokens_of p) x s None ⊎ StmtGoes (tokens_of p) x s (Some s)

    abbrev BlockStays : Block → Type 0
    BlockStays b = BlockGoes (tokens_of p) b (Some s) None ⊎ BlockGoes (tokens_of p) b (Some s) (Some s)

    dead : (b : Block) → BlockGoes (tokens_of p) b None None
    dead no_stmts = refl
    dead (stmt x b) = refl

    if_then_stays : (at end : ℕ) (c : Expr) (a : Block) → ExprTyped (tokens_of p) c s s → BlockStays a
        → StmtStays (if_then at end c a)
    if_then_stays at end c a e (inl h) = inr (s, e, None, h, refl)
    if_then_stays at end c a e (inr h) = inr (s, e, Some s, h, (refl, refl))

    if_else_stays : (at end : ℕ) (c : Expr) (a b : Block) → ExprTyped (tokens_of p) c s s → BlockStays a
        → BlockStays b → StmtStays (if_else at end c a b)
    if_else_stays at end c a b e (inl h) (inl k) = inl (s, e, None, h, None, k, refl)
    if_else_stays at end c a b e (inl h) (inr k) = inr (s, e, None, h, Some s, k, refl)
    if_else_stays at end c a b e (inr h) (inl k) = inr (s, e, Some s, h, None, k, refl)
    if_else_stays at end c a b e (inr h) (inr k) = inr (s, e, Some s, h, Some s, k, (refl, refl))

    while_stays : (at end : ℕ) (c : Expr) (a : Block) → ExprTyped (tokens_of p) c s s → BlockStays a
        → StmtStays (while at end c a)
    while_stays at end c a e (inl h) = inr (s, e, None, h, tt, refl)
    while_stays at end c a e (inr h) = inr (s, e, Some s, h, refl, refl)

    step_stays : (x : Stmt) (b : Block) → StmtStays x → BlockStays b → BlockStays (stmt x b)
    step_stays x b (inl h) k = inl (None, h, dead b)
    step_stays x b (inr h) (inl k) = inl (Some s, h, k)
    step_stays x b (inr h) (inr k) = inr (Some s, h, k)

    mutual
      stmt_stays : (x : Stmt) → stmt_faults m p x ≡ [] → StmtStays x
      stmt_stays (set at end x e) h =
          inr (s, expr_stays e (parts (variable_faults m p x) (expr_faults m p e) h).1 s, refl)
      stmt_stays (set_at at end x i e) h =
          let both = parts (expr_faults m p i) (expr_faults m p e)
          (parts (element_faults m p x) (expr_faults m p i ++ expr_faults m p e) h).1 in
          inr (s, expr_stays i both.0 s, s, expr_stays e both.1 s, refl)
      stmt_stays (do_call at end f xs) h =
          inr (s, args_stay xs (parts (call_faults m p f xs) (args_faults m p xs) h).1 s, refl)
      stmt_stays (if_then at end c a) h =
          let both = parts (expr_faults m p c) (block_faults m p a) h in
          if_then_stays at end c a (expr_stays c both.0 s) (block_stays a both.1)
      stmt_stays (if_else at end c a b) h =
          let both = parts (expr_faults m p c) (block_faults m p a ++ block_faults m p b) h in
          let two = parts (block_faults m p a) (block_faults m p b) both.1 in
          if_else_stays at end c a b (expr_stays c both.0 s) (block_stays a two.0) (block_stays b two.1)
      stmt_stays (while at end c a) h =
          let both = parts (expr_faults m p c) (block_faults m p a) h in
          while_stays at end c a (expr_stays c both.0 s) (block_stays a both.1)
      stmt_stays (return at end e) h = inl (s, expr_stays e h s, clear, refl)
      stmt_stays (halt at end e) h = inl (s, expr_stays e h s, clear, refl)
      stmt_stays (make at end x) h = no_token p x none h
      stmt_stays (spend at end x) h = no_token p x none h

      block_stays : (b : Block) → block_faults m p b ≡ [] → BlockStays b
      block_stays no_stmts h = inr refl
      block_stays (stmt x b) h =
          let both = parts (stmt_faults m p x) (block_faults m p b) h in
          step_stays x b (stmt_stays x both.0) (block_stays b both.1)

-- it begins with no token full
none_clear : (n : ℕ) → is_clear (none_full n) ≡ true
none_clear zero = refl
none_clear (suc n) = none_clear n

no_params : (params : List TokenParam) (n : ℕ) (full : Full) → param_tokens params ≡ []
    → params_full params n full ≡ full
no_params [] n full e = refl
no_params (param.Plain q ∷ params) n full e = no_params params n full e
no_params (param.Token x ∷ params) n full e = absurd (filled _ _ e)

pub tokenless_goes : (m : TokenModuleFields) (p : TokenProc) → tokens_of p ≡ []
    → block_faults m p (block_of p.body) ≡ [] → ProcGoes p
tokenless_goes m p none h = by (block_stays m p none (at_first p) clear (block_of p.body) h)
  where
    clear : is_clear (at_first p) ≡ true
    clear = ap is_clear (no_params p.params 0 (none_full MOST_TOKENS)
        (parts (param_tokens p.params) (local_tokens p.locals) none).0) ∙ none_clear MOST_TOKENS

    by : BlockGoes (tokens_of p) (block_of p.body) (Some (at_first p)) None
        ⊎ BlockGoes (tokens_of p) (block_of p.body) (Some (at_first p)) (Some (at_first p)) → ProcGoes p
    by (inl g) = (None, g, tt)
    by (inr g) = (Some (at_first p), g, clear)
