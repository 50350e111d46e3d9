-- The parts of a tree are smaller than the whole.
use Rattle.std.specs.Prelude.{ℕ, ◌≤◌, max, List, [], ◌∷◌}
use Rattle.std.proofs.Common.{arith}
use denote.Param.Weighed.{most}
use Rattle.token_language.specs.declared.tree.TokenExprKind.{TokenExprKind}
use Rattle.token_language.specs.declared.tree.TokenExprKind.TheVariants.{Number, Var, Element, Call, Op}
use Rattle.token_language.specs.declared.tree.TokenArg.{TokenArg}
use Rattle.token_language.specs.declared.tree.TokenArg.TheVariants.{Value, Proc, Token}
use Rattle.token_language.specs.declared.tree.TokenExpr.TheDeep.{deep-TokenExprKind, deep-TokenArg}
use Rattle.token_language.specs.Tree.{size_of, size_of_args}
use Rattle.token_language.specs.View.{expr_at, args_of}

args_deep : (args : List TokenArg) → most deep-TokenArg args ≤ size_of_args (args_of args)
args_deep [] = omega arith
args_deep (Value e ∷ args) = omega (arith, args_deep args)
args_deep (Proc f ∷ args) = omega (arith, args_deep args)
args_deep (Token x ∷ args) = omega (arith, args_deep args)

pub depth_le-size : (at : ℕ) (kind : TokenExprKind)
    → max (deep-TokenExprKind kind) 0 ≤ size_of (expr_at at kind)
depth_le-size at (Number n) = omega arith
depth_le-size at (Var x) = omega arith
depth_le-size at (Element x e) = omega arith
depth_le-size at (Call c) = omega (arith, args_deep c.args)
depth_le-size at (Op o a b) = omega arith
