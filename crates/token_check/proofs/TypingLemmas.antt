-- The walk goes through exactly where the typing holds.
use Rattle.std.proofs.Common.{◌≡◌, refl, sym, ◌∙◌, ap, ℕ, Bool, true, false, if◌then◌else◌, List, [], ◌∷◌}
use Rattle.std.proofs.Common.{Option, Some, None, Ok, Err, IsOk, slice_set}
use Rattle.proc_language.specs.declared.tree.Name.{Name}
use Rattle.proc_language.specs.Limits.{Each}
use Rattle.token_language.specs.declared.module.TokenProc.{TokenProc}
use Rattle.token_language.specs.declared.module.TokenModuleFields.{TokenModuleFields}
use Rattle.token_language.specs.Tree.{Expr, number, var, element, call, op, Args, no_args, value, proc, token}
use Rattle.token_language.specs.Tree.{Stmt, set, set_at, do_call, if_then, if_else, while, return, halt, make}
use Rattle.token_language.specs.Tree.{spend, Block, no_stmts, stmt}
use Rattle.token_language.specs.StmtView.{block_of}
use Rattle.token_check.specs.declared.fault.TokenFault.{TokenFault}
use Rattle.token_check.specs.declared.fault.TokenFault.TheVariants as fault
use Rattle.token_language.specs.Tokens.{tokens_of}
use Rattle.token_check.specs.Tokens.{Full, is_full, is_clear, equal_sets, token_at}
use Rattle.token_check.specs.Walk.{Walked, walk_on, FullAfter, filled, emptied, let_go, joined, comes_back}
use Rattle.token_check.specs.Walk.{to_after, expr_walk, args_walk, stmt_walk, block_walk, at_first, at_last}
use Rattle.token_check.specs.Walk.{proc_walk, procs_walk, module_walk}
use Rattle.token_check.specs.Typing.{Fills, Empties, Joins, ComesBack, IsClear, ExprTyped, ArgsTyped}
use Rattle.token_check.specs.Typing.{StmtTyped, BlockTyped, ProcTyped, IsTyped}
use Rattle.token_check.proofs.SetLemmas.{sets_same, sets_self}

abbrev Goes : {A : Type 0} → Walked A → A → Type 0
Goes w x = w ≡ Ok x

ok_same : {A : Type 0} (x y : A) → Goes (Ok x) y → x ≡ y
ok_same x y h = cc

ok_ap : {A : Type 0} (x y : A) → x ≡ y → Goes (Ok x) y
ok_ap x y h = ap Ok h

not_ok : {A : Type 0} (e : TokenFault) (x : A) → Goes (Err e) x → ⊥
not_ok e x h = cc

-- what went through, went through in its parts
parts : {A B : Type 0} (w : Walked A) (f : A → Walked B) (y : B) → Goes (walk_on w f) y → (x : A) × Goes w x ×
    Goes (f x) y
parts (Ok x) f y h = (x, refl, h)
parts (Err e) f y h = absurd (not_ok e y h)

made : {A B : Type 0} (w : Walked A) (f : A → Walked B) (x : A) (y : B) → Goes w x → Goes (f x) y →
    Goes (walk_on w f) y
made w f x y h k = ap (λ v. walk_on v f) h ∙ k

-- ---- the rules

fills : (i : Option ℕ) (at : ℕ) (s t : Full) → Goes (filled i at s) t → Fills i s t
unfolding filled
fills None at s t h = absurd (not_ok _ t h)
fills (Some i) at s t h = by (is_full s i) refl h
  where
    by : (b : Bool) → is_full s i ≡ b → Goes (if b then Err (fault.Full at) else Ok (slice_set s i true)) t →
        Fills (Some i) s t
    by true e k = absurd (not_ok _ t k)
    by false e k = (e, ok_same _ t k)

fills_back : (i : Option ℕ) (at : ℕ) (s t : Full) → Fills i s t → Goes (filled i at s) t
unfolding filled
fills_back None at s t h = absurd h
fills_back (Some i) at s t h = ap (λ b. if b then Err (fault.Full at) else Ok (slice_set s i true)) h.0 ∙
    ok_ap _ t h.1

empties : (i : Option ℕ) (at : ℕ) (s t : Full) → Goes (emptied i at s) t → Empties i s t
unfolding emptied
empties None at s t h = absurd (not_ok _ t h)
empties (Some i) at s t h = by (is_full s i) refl h
  where
    by : (b : Bool) → is_full s i ≡ b →
        Goes (if b then Ok (slice_set s i false) else Err (fault.Empty at)) t → Empties (Some i) s t
    by true e k = (e, ok_same _ t k)
    by false e k = absurd (not_ok _ t k)

empties_back : (i : Option ℕ) (at : ℕ) (s t : Full) → Empties i s t → Goes (emptied i at s) t
unfolding emptied
empties_back None at s t h = absurd h
empties_back (Some i) at s t h = ap (λ b. if b then Ok (slice_set s i false) else Err (fault.Empty at)) h.0 ∙
    ok_ap _ t h.1

lets_go : (at : ℕ) (s : Full) (after : FullAfter) → Goes (let_go at s) after → (is_clear s ≡ true) ×
    (None ≡ after)
unfolding let_go
lets_go at s after h = by (is_clear s) refl h
  where
    by : (b : Bool) → is_clear s ≡ b → Goes (if b then Ok None else Err (fault.Kept at)) after →
        (is_clear s ≡ true) × (None ≡ after)
    by true e k = (e, ok_same None after k)
    by false e k = absurd (not_ok _ after k)

lets_go_back : (at : ℕ) (s : Full) (after : FullAfter) → is_clear s ≡ true → None ≡ after →
    Goes (let_go at s) after
unfolding let_go
lets_go_back at s after e h = ap (λ b. if b then Ok None else Err (fault.Kept at)) e ∙ ok_ap None after h

joins : (at : ℕ) (a b after : FullAfter) → Goes (joined at a b) after → Joins a b after
unfolding joined
joins at None b after h = ok_same b after h
joins at (Some s) None after h = ok_same (Some s) after h
joins at (Some s) (Some t) after h = by (equal_sets s t) refl h
  where
    by : (b : Bool) → equal_sets s t ≡ b → Goes (if b then Ok (Some s) else Err (fault.Split at)) after →
        Joins (Some s) (Some t) after
    by true e k = (sets_same s t e, ok_same (Some s) after k)
    by false e k = absurd (not_ok _ after k)

joins_back : (at : ℕ) (a b after : FullAfter) → Joins a b after → Goes (joined at a b) after
unfolding joined
joins_back at None b after h = ok_ap b after h
joins_back at (Some s) None after h = ok_ap (Some s) after h
joins_back at (Some s) (Some t) after h =
    ap (λ b. if b then Ok (Some s) else Err (fault.Split at)) (ap (equal_sets s) (sym h.0) ∙ sets_self s) ∙
    ok_ap (Some s) after h.1

comes : (at : ℕ) (s t : Full) (u after : FullAfter) → Goes (comes_back at s t u) after → ComesBack s u ×
    (Some t ≡ after)
unfolding comes_back
comes at s t None after h = (tt, ok_same (Some t) after h)
comes at s t (Some v) after h = by (equal_sets s v) refl h
  where
    by : (b : Bool) → equal_sets s v ≡ b → Goes (if b then Ok (Some t) else Err (fault.Split at)) after →
        ComesBack s (Some v) × (Some t ≡ after)
    by true e k = (sets_same s v e, ok_same (Some t) after k)
    by false e k = absurd (not_ok _ after k)

comes_again : (at : ℕ) (s t : Full) (u after : FullAfter) → ComesBack s u → Some t ≡ after →
    Goes (comes_back at s t u) after
unfolding comes_back
comes_again at s t None after h k = ok_ap (Some t) after k
comes_again at s t (Some v) after h k =
    ap (λ b. if b then Ok (Some t) else Err (fault.Split at)) (ap (equal_sets s) (sym h) ∙ sets_self s) ∙
    ok_ap (Some t) after k

module _ (tokens : List Name) where
  -- ---- what goes through is typed

  mutual
    expr_typed : (e : Expr) (s t : Full) → Goes (expr_walk tokens e s) t → ExprTyped tokens e s t
    expr_typed (number at n) s t h = ok_same s t h
    expr_typed (var at x) s t h = ok_same s t h
    expr_typed (element at x e) s t h = expr_typed e s t h
    expr_typed (call at f args) s t h = args_typed args s t h
    expr_typed (op at o a b) s t h =
        let p = parts (expr_walk tokens a s) (λ u. expr_walk tokens b u) t h in
        (p.0, expr_typed a s p.0 p.1, expr_typed b p.0 t p.2)

    args_typed : (args : Args) (s t : Full) → Goes (args_walk tokens args s) t → ArgsTyped tokens args s t
    args_typed no_args s t h = ok_same s t h
    args_typed (value e args) s t h =
        let p = parts (expr_walk tokens e s) (λ u. args_walk tokens args u) t h in
        (p.0, expr_typed e s p.0 p.1, args_typed args p.0 t p.2)
    args_typed (proc f args) s t h = args_typed args s t h
    args_typed (token x args) s t h =
        let p = parts (emptied (token_at tokens x) x.at s) (λ u. args_walk tokens args u) t h in
        (p.0, empties (token_at tokens x) x.at s p.0 p.1, args_typed args p.0 t p.2)

  then_on : (w : Walked Full) (after : FullAfter) → Goes (to_after tokens w) after → (t : Full) × Goes w t ×
      (Some t ≡ after)
  then_on w after h = let p = parts w (λ t. Ok (Some t)) after h in (p.0, p.1, ok_same (Some p.0) after p.2)

  on_then : (w : Walked Full) (t : Full) (after : FullAfter) → Goes w t → Some t ≡ after →
      Goes (to_after tokens w) after
  on_then w t after h k = made w (λ t. Ok (Some t)) t after h (ok_ap (Some t) after k)

  mutual
    stmt_typed : (x : Stmt) (s : Full) (after : FullAfter) → Goes (stmt_walk tokens x s) after →
        StmtTyped tokens x s after
    stmt_typed (set at end x e) s after h =
        let p = then_on (expr_walk tokens e s) after h in (p.0, expr_typed e s p.0 p.1, p.2)
    stmt_typed (set_at at end x i e) s after h =
        let p = parts (expr_walk tokens i s) (λ u. to_after tokens (expr_walk tokens e u)) after h in
        let q = then_on (expr_walk tokens e p.0) after p.2 in
        (p.0, expr_typed i s p.0 p.1, q.0, expr_typed e p.0 q.0 q.1, q.2)
    stmt_typed (do_call at end f args) s after h =
        let p = then_on (args_walk tokens args s) after h in (p.0, args_typed args s p.0 p.1, p.2)
    stmt_typed (if_then at end c a) s after h =
        let p = parts (expr_walk tokens c s) _ after h in
        let q = parts (block_walk tokens a (Some p.0)) (λ u. joined end u (Some p.0)) after p.2 in (
          p.0,
          expr_typed c s p.0 p.1,
          q.0,
          block_typed a (Some p.0) q.0 q.1,
          joins end q.0 (Some p.0) after q.2,
        )
    stmt_typed (if_else at end c a b) s after h =
        let p = parts (expr_walk tokens c s) _ after h in
        let q = parts (block_walk tokens a (Some p.0)) _ after p.2 in
        let r = parts (block_walk tokens b (Some p.0)) (λ v. joined end q.0 v) after q.2 in (
          p.0,
          expr_typed c s p.0 p.1,
          q.0,
          block_typed a (Some p.0) q.0 q.1,
          r.0,
          block_typed b (Some p.0) r.0 r.1,
          joins end q.0 r.0 after r.2,
        )
    stmt_typed (while at end c a) s after h =
        let p = parts (expr_walk tokens c s) _ after h in
        let q = parts (block_walk tokens a (Some p.0)) (λ u. comes_back end s p.0 u) after p.2 in
        let r = comes end s p.0 q.0 after q.2 in
        (p.0, expr_typed c s p.0 p.1, q.0, block_typed a (Some p.0) q.0 q.1, r.0, r.1)
    stmt_typed (return at end e) s after h =
        let p = parts (expr_walk tokens e s) (λ t. let_go end t) after h in
        let q = lets_go end p.0 after p.2 in
        (p.0, expr_typed e s p.0 p.1, q.0, q.1)
    stmt_typed (halt at end e) s after h =
        let p = parts (expr_walk tokens e s) (λ t. let_go end t) after h in
        let q = lets_go end p.0 after p.2 in
        (p.0, expr_typed e s p.0 p.1, q.0, q.1)
    stmt_typed (make at end x) s after h =
        let p = then_on (filled (token_at tokens x) x.at s) after h in
        (p.0, fills (token_at tokens x) x.at s p.0 p.1, p.2)
    stmt_typed (spend at end x) s after h =
        let p = then_on (emptied (token_at tokens x) x.at s) after h in
        (p.0, empties (token_at tokens x) x.at s p.0 p.1, p.2)

    block_typed : (b : Block) (before after : FullAfter) → Goes (block_walk tokens b before) after →
        BlockTyped tokens b before after
    block_typed no_stmts before after h = ok_same before after h
    block_typed (stmt x b) None after h = absurd (not_ok _ after h)
    block_typed (stmt x b) (Some s) after h =
        let p = parts (stmt_walk tokens x s) (λ t. block_walk tokens b t) after h in
        (p.0, stmt_typed x s p.0 p.1, block_typed b p.0 after p.2)

  -- ---- what is typed goes through

  mutual
    expr_goes : (e : Expr) (s t : Full) → ExprTyped tokens e s t → Goes (expr_walk tokens e s) t
    expr_goes (number at n) s t h = ok_ap s t h
    expr_goes (var at x) s t h = ok_ap s t h
    expr_goes (element at x e) s t h = expr_goes e s t h
    expr_goes (call at f args) s t h = args_go args s t h
    expr_goes (op at o a b) s t h =
        made (expr_walk tokens a s) _ h.0 t (expr_goes a s h.0 h.1) (expr_goes b h.0 t h.2)

    args_go : (args : Args) (s t : Full) → ArgsTyped tokens args s t → Goes (args_walk tokens args s) t
    args_go no_args s t h = ok_ap s t h
    args_go (value e args) s t h =
        made (expr_walk tokens e s) _ h.0 t (expr_goes e s h.0 h.1) (args_go args h.0 t h.2)
    args_go (proc f args) s t h = args_go args s t h
    args_go (token x args) s t h =
        made (emptied (token_at tokens x) x.at s) _ h.0 t (empties_back (token_at tokens x) x.at s h.0 h.1)
        (args_go args h.0 t h.2)

  mutual
    stmt_goes : (x : Stmt) (s : Full) (after : FullAfter) → StmtTyped tokens x s after →
        Goes (stmt_walk tokens x s) after
    stmt_goes (set at end x e) s after h = on_then _ h.0 after (expr_goes e s h.0 h.1) h.2
    stmt_goes (set_at at end x i e) s after h =
        made (expr_walk tokens i s) _ h.0 after (expr_goes i s h.0 h.1)
        (on_then _ h.2 after (expr_goes e h.0 h.2 h.3) h.4)
    stmt_goes (do_call at end f args) s after h = on_then _ h.0 after (args_go args s h.0 h.1) h.2
    stmt_goes (if_then at end c a) s after h =
        made (expr_walk tokens c s) _ h.0 after (expr_goes c s h.0 h.1)
        (made (block_walk tokens a (Some h.0)) _ h.2 after (block_goes a (Some h.0) h.2 h.3)
        (joins_back end h.2 (Some h.0) after h.4))
    stmt_goes (if_else at end c a b) s after h =
        made (expr_walk tokens c s) _ h.0 after (expr_goes c s h.0 h.1)
        (made (block_walk tokens a (Some h.0)) _ h.2 after (block_goes a (Some h.0) h.2 h.3)
        (made (block_walk tokens b (Some h.0)) _ h.4 after (block_goes b (Some h.0) h.4 h.5)
        (joins_back end h.2 h.4 after h.6)))
    stmt_goes (while at end c a) s after h =
        made (expr_walk tokens c s) _ h.0 after (expr_goes c s h.0 h.1)
        (made (block_walk tokens a (Some h.0)) _ h.2 after (block_goes a (Some h.0) h.2 h.3)
        (comes_again end s h.0 h.2 after h.4 h.5))
    stmt_goes (return at end e) s after h =
        made (expr_walk tokens e s) _ h.0 after (expr_goes e s h.0 h.1) (lets_go_back end h.0 after h.2 h.3)
    stmt_goes (halt at end e) s after h =
        made (expr_walk tokens e s) _ h.0 after (expr_goes e s h.0 h.1) (lets_go_back end h.0 after h.2 h.3)
    stmt_goes (make at end x) s after h =
        on_then _ h.0 after (fills_back (token_at tokens x) x.at s h.0 h.1) h.2
    stmt_goes (spend at end x) s after h =
        on_then _ h.0 after (empties_back (token_at tokens x) x.at s h.0 h.1) h.2

    block_goes : (b : Block) (before after : FullAfter) → BlockTyped tokens b before after →
        Goes (block_walk tokens b before) after
    block_goes no_stmts before after h = ok_ap before after h
    block_goes (stmt x b) None after h = absurd h
    block_goes (stmt x b) (Some s) after h =
        made (stmt_walk tokens x s) _ h.0 after (stmt_goes x s h.0 h.1) (block_goes b h.0 after h.2)

-- ---- procedures

last_clear : (end : ℕ) (u after : FullAfter) → Goes (at_last end u) after → IsClear u
last_clear end None after h = tt
last_clear end (Some s) after h = (lets_go end s after h).0

clear_last : (end : ℕ) (u : FullAfter) → IsClear u → Goes (at_last end u) None
clear_last end None h = refl
clear_last end (Some s) h = lets_go_back end s None h refl

proc_typed : (p : TokenProc) (after : FullAfter) → Goes (proc_walk p) after → ProcTyped p
proc_typed p after h =
    let w = block_walk (tokens_of p) (block_of p.body) (Some (at_first p)) in
    let q = parts w (at_last p.end) after h in (
      q.0,
      block_typed (tokens_of p) (block_of p.body) (Some (at_first p)) q.0 q.1,
      last_clear p.end q.0 after q.2,
    )

proc_goes : (p : TokenProc) → ProcTyped p → Goes (proc_walk p) None
proc_goes p h =
    made (block_walk (tokens_of p) (block_of p.body) (Some (at_first p))) (at_last p.end) h.0 None
    (block_goes (tokens_of p) (block_of p.body) (Some (at_first p)) h.0 h.1) (clear_last p.end h.0 h.2)

pub procs_typed : (ps : List TokenProc) (u : Unit {0}) → procs_walk ps ≡ Ok u → Each ProcTyped ps
procs_typed [] u h = tt
procs_typed (p ∷ ps) u h =
    let q = parts (proc_walk p) (λ after. procs_walk ps) u h in
    (proc_typed p q.0 q.1, procs_typed ps u q.2)

pub procs_go : (ps : List TokenProc) → Each ProcTyped ps → procs_walk ps ≡ Ok tt
procs_go [] h = refl
procs_go (p ∷ ps) h = made (proc_walk p) (λ after. procs_walk ps) None tt (proc_goes p h.0) (procs_go ps h.1)

-- the answer is Ok exactly where the typing holds
pub answered : (ps : List TokenProc) (r : Walked (Unit {0})) → r ≡ procs_walk ps →
    (IsOk r → Each ProcTyped ps) × (Each ProcTyped ps → IsOk r)
answered ps (Ok u) e = ((λ ok. procs_typed ps u (sym e)), λ typed. refl)
answered ps (Err f) e =
    ((λ ok. absurd (let k : false ≡ true = ok in cc)), λ typed. absurd (not_ok f tt (e ∙ procs_go ps typed)))

pub walks : (m : TokenModuleFields) → (module_walk m ≡ Ok tt → IsTyped m) ×
    (IsTyped m → module_walk m ≡ Ok tt)
walks m = (procs_typed m.procs tt, procs_go m.procs)
