-- Trees as their code has them.
use Rattle.std.specs.Prelude.{ℕ, List, [], ◌∷◌}
use Rattle.token_language.specs.declared.tree.TokenExprKind.{TokenExprKind}
use Rattle.token_language.specs.declared.tree.TokenExprKind.TheVariants.{Number, Var, Element, Call, Op}
use Rattle.token_language.specs.declared.tree.TokenArg.{TokenArg}
use Rattle.token_language.specs.declared.tree.TokenArg.TheVariants.{Value, Proc, Token}
use Rattle.token_language.specs.Tree.{Expr, number, var, element, call, op, Args, no_args, value, proc, token}

abbrev pub args_of : List TokenArg → Args
args_of [] = no_args
args_of (Value e ∷ args) = value e (args_of args)
args_of (Proc f ∷ args) = proc f (args_of args)
args_of (Token x ∷ args) = token x (args_of args)

abbrev pub expr_at : ℕ → TokenExprKind → Expr
expr_at at (Number n) = number at n
expr_at at (Var x) = var at x
expr_at at (Element x e) = element at x e.value
expr_at at (Call c) = call at c.name (args_of c.args)
expr_at at (Op o a b) = op at o a.value b.value
