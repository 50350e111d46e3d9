-- Trees as ghost values: each is told from every other.
use Rattle.std.specs.Prelude.{◌≡◌, refl, ℕ, zero, suc, List, [], ◌∷◌}
use Rattle.std.specs.Coded.{Coded}
use Rattle.std.proofs.Common.{sym, ◌∙◌, ap}
use base.Stored.{Gv, gnil, gnum, gcons}
use Rattle.proc_language.specs.declared.tree.Name.{Name}
use Rattle.proc_language.specs.declared.tree.Op.{Op}
use Rattle.proc_language.specs.declared.tree.Op.TheVariants.{Plus, Minus, Less, Equal}
use Rattle.proc_language.specs.Tree.{Expr, number, var, element, call, op, Args, no_args, value, proc}
use Rattle.proc_language.specs.Tree.{Stmt, set, set_at, do_call, if_then, if_else, while, return, halt}
use Rattle.proc_language.specs.Tree.{Block, no_stmts, stmt}

-- ---- names and operators

abbrev numbers : List ℕ → Gv
numbers [] = gnil
numbers (n ∷ ns) = gcons (gnum n) (numbers ns)

abbrev numbers_in : Gv → List ℕ
numbers_in (gcons (gnum n) rest) = n ∷ numbers_in rest
numbers_in _ = []

numbers_back : (ns : List ℕ) → numbers_in (numbers ns) ≡ ns
numbers_back [] = refl
numbers_back (n ∷ ns) = ap (λ ms. n ∷ ms) (numbers_back ns)

abbrev name : Name → Gv
name x = gcons (gnum x.at) (numbers x.text)

abbrev name_in : Gv → Name
name_in (gcons (gnum at) text) = record { text = numbers_in text; at = at }
name_in _ = record { text = []; at = 0 }

name_back : (x : Name) → name_in (name x) ≡ x
name_back x = ap (λ ns. let y : Name = record { text = ns; at = x.at } in y) (numbers_back x.text)

abbrev pub sign : Op → Gv
sign Plus = gnum 0
sign Minus = gnum 1
sign Less = gnum 2
sign Equal = gnum 3

abbrev pub sign_in : Gv → Op
sign_in (gnum zero) = Plus
sign_in (gnum (suc zero)) = Minus
sign_in (gnum (suc (suc zero))) = Less
sign_in _ = Equal

pub sign_back : (o : Op) → sign_in (sign o) ≡ o
sign_back Plus = refl
sign_back Minus = refl
sign_back Less = refl
sign_back Equal = refl

-- ---- expressions

abbrev mutual
  expr : Expr → Gv
  expr (number at n) = gcons (gnum at) (gnum n)
  expr (var at x) = gcons (gnum at) (gcons gnil (name x))
  expr (element at x e) = gcons (gnum at) (gcons (gcons gnil (name x)) (expr e))
  expr (call at f args) = gcons gnil (gcons (gnum at) (gcons (name f) (args_code args)))
  expr (op at o a b) = gcons (gcons (gnum at) (sign o)) (gcons (expr a) (expr b))

  args_code : Args → Gv
  args_code no_args = gnil
  args_code (value e args) = gcons (gcons gnil (expr e)) (args_code args)
  args_code (proc f args) = gcons (gcons (gnum 0) (name f)) (args_code args)

abbrev mutual
  expr_in : Gv → Expr
  expr_in (gcons (gnum at) (gnum n)) = number at n
  expr_in (gcons (gnum at) (gcons gnil x)) = var at (name_in x)
  expr_in (gcons (gnum at) (gcons (gcons gnil x) e)) = element at (name_in x) (expr_in e)
  expr_in (gcons gnil (gcons (gnum at) (gcons f args))) = call at (name_in f) (args_in args)
  expr_in (gcons (gcons (gnum at) o) (gcons a b)) = op at (sign_in o) (expr_in a) (expr_in b)
  expr_in _ = number 0 0

  args_in : Gv → Args
  args_in (gcons (gcons gnil e) args) = value (expr_in e) (args_in args)
  args_in (gcons (gcons (gnum n) f) args) = proc (name_in f) (args_in args)
  args_in _ = no_args

mutual
  expr_back : (e : Expr) → expr_in (expr e) ≡ e
  expr_back (number at n) = refl
  expr_back (var at x) = ap (λ y. var at y) (name_back x)
  expr_back (element at x e) = λ i. element at (name_back x i) (expr_back e i)
  expr_back (call at f args) = λ i. call at (name_back f i) (args_back args i)
  expr_back (op at o a b) = λ i. op at (sign_back o i) (expr_back a i) (expr_back b i)

  args_back : (args : Args) → args_in (args_code args) ≡ args
  args_back no_args = refl
  args_back (value e args) = λ i. value (expr_back e i) (args_back args i)
  args_back (proc f args) = λ i. proc (name_back f i) (args_back args i)

pub expr_inj : (x y : Expr) → expr x ≡ expr y → x ≡ y
expr_inj x y same = sym (expr_back x) ∙ ap expr_in same ∙ expr_back y

abbrev pub coded_expr : Coded Expr
coded_expr = record { code = expr; inj = expr_inj }

-- ---- statements

abbrev mutual
  stmt_code : Stmt → Gv
  stmt_code (set at x e) = gcons (gnum at) (gcons (name x) (expr e))
  stmt_code (set_at at x i e) = gcons (gcons gnil (gnum at)) (gcons (name x) (gcons (expr i) (expr e)))
  stmt_code (do_call at f args) = gcons (gcons (gnum 0) (gnum at)) (gcons (name f) (args_code args))
  stmt_code (if_then at c b) = gcons (gcons (gcons gnil gnil) (gnum at)) (gcons (expr c) (block_code b))
  stmt_code (if_else at c b d) =
      gcons gnil (gcons (gnum at) (gcons (expr c) (gcons (block_code b) (block_code d))))
  stmt_code (while at c b) = gcons (gcons gnil gnil) (gcons (gnum at) (gcons (expr c) (block_code b)))
  stmt_code (return at e) = gcons (gcons (gnum 0) gnil) (gcons (gnum at) (expr e))
  stmt_code (halt at e) = gcons (gcons (gcons gnil gnil) gnil) (gcons (gnum at) (expr e))

  block_code : Block → Gv
  block_code no_stmts = gnil
  block_code (stmt s b) = gcons (stmt_code s) (block_code b)

abbrev mutual
  stmt_in : Gv → Stmt
  stmt_in (gcons (gnum at) (gcons x e)) = set at (name_in x) (expr_in e)
  stmt_in (gcons (gcons gnil (gnum at)) (gcons x (gcons i e))) = set_at at (name_in x) (expr_in i) (expr_in e)
  stmt_in (gcons (gcons (gnum n) (gnum at)) (gcons f args)) = do_call at (name_in f) (args_in args)
  stmt_in (gcons (gcons (gcons g h) (gnum at)) (gcons c b)) = if_then at (expr_in c) (block_in b)
  stmt_in (gcons gnil (gcons (gnum at) (gcons c (gcons b d)))) =
      if_else at (expr_in c) (block_in b) (block_in d)
  stmt_in (gcons (gcons gnil gnil) (gcons (gnum at) (gcons c b))) = while at (expr_in c) (block_in b)
  stmt_in (gcons (gcons (gnum n) gnil) (gcons (gnum at) e)) = return at (expr_in e)
  stmt_in (gcons (gcons (gcons g h) gnil) (gcons (gnum at) e)) = halt at (expr_in e)
  stmt_in _ = return 0 (number 0 0)

  block_in : Gv → Block
  block_in (gcons s b) = stmt (stmt_in s) (block_in b)
  block_in _ = no_stmts

mutual
  stmt_back : (s : Stmt) → stmt_in (stmt_code s) ≡ s
  stmt_back (set at x e) = λ i. set at (name_back x i) (expr_back e i)
  stmt_back (set_at at x e f) = λ i. set_at at (name_back x i) (expr_back e i) (expr_back f i)
  stmt_back (do_call at f args) = λ i. do_call at (name_back f i) (args_back args i)
  stmt_back (if_then at c b) = λ i. if_then at (expr_back c i) (block_back b i)
  stmt_back (if_else at c b d) = λ i. if_else at (expr_back c i) (block_back b i) (block_back d i)
  stmt_back (while at c b) = λ i. while at (expr_back c i) (block_back b i)
  stmt_back (return at e) = ap (λ f. return at f) (expr_back e)
  stmt_back (halt at e) = ap (λ f. halt at f) (expr_back e)

  block_back : (b : Block) → block_in (block_code b) ≡ b
  block_back no_stmts = refl
  block_back (stmt s b) = λ i. stmt (stmt_back s i) (block_back b i)

pub stmt_inj : (x y : Stmt) → stmt_code x ≡ stmt_code y → x ≡ y
stmt_inj x y same = sym (stmt_back x) ∙ ap stmt_in same ∙ stmt_back y

abbrev pub coded_stmt : Coded Stmt
coded_stmt = record { code = stmt_code; inj = stmt_inj }
