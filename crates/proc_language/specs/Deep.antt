-- The parts of a tree are smaller than the whole.
use Rattle.std.specs.Prelude.{ℕ, ◌≤◌, max, List, [], ◌∷◌}
use Rattle.std.proofs.Common.{arith}
use denote.Param.Weighed.{most}
use Rattle.proc_language.specs.declared.tree.ExprKind.{ExprKind}
use Rattle.proc_language.specs.declared.tree.ExprKind.TheVariants.{Number, Var, Element, Call, Op}
use Rattle.proc_language.specs.declared.tree.Arg.{Arg}
use Rattle.proc_language.specs.declared.tree.Arg.TheVariants.{Value, Proc}
use Rattle.proc_language.specs.declared.tree.Expr.TheDeep.{deep-ExprKind, deep-Arg}
use Rattle.proc_language.specs.Tree.{size_of, size_of_args}
use Rattle.proc_language.specs.View.{expr_at, args_of}

args_deep : (args : List Arg) → most deep-Arg args ≤ size_of_args (args_of args)
args_deep [] = omega arith
args_deep (Value e ∷ args) = omega (arith, args_deep args)
args_deep (Proc f ∷ args) = omega (arith, args_deep args)

pub depth_le-size : (at : ℕ) (kind : ExprKind) → max (deep-ExprKind kind) 0 ≤ size_of (expr_at at kind)
depth_le-size at (Number n) = omega arith
depth_le-size at (Var x) = omega arith
depth_le-size at (Element x e) = omega arith
depth_le-size at (Call c) = omega (arith, args_deep c.args)
depth_le-size at (Op o a b) = omega arith
