-- Trees as their code has them.
use Rattle.std.specs.Prelude.{ℕ, List, [], ◌∷◌}
use Rattle.proc_language.specs.declared.tree.ExprKind.{ExprKind}
use Rattle.proc_language.specs.declared.tree.ExprKind.TheVariants.{Number, Var, Element, Call, Op}
use Rattle.proc_language.specs.declared.tree.Arg.{Arg}
use Rattle.proc_language.specs.declared.tree.Arg.TheVariants.{Value, Proc}
use Rattle.proc_language.specs.Tree.{Expr, number, var, element, call, op, Args, no_args, value, proc}

abbrev pub args_of : List Arg → Args
args_of [] = no_args
args_of (Value e ∷ args) = value e (args_of args)
args_of (Proc f ∷ args) = proc f (args_of args)

abbrev pub expr_at : ℕ → ExprKind → Expr
expr_at at (Number n) = number at n
expr_at at (Var x) = var at x
expr_at at (Element x e) = element at x e.value
expr_at at (Call c) = call at c.name (args_of c.args)
expr_at at (Op o a b) = op at o a.value b.value
