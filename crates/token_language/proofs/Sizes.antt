-- Some arguments are no larger than all.
use Rattle.std.proofs.Common.{◌≤◌, arith, List, ◌∷◌}
use Rattle.token_language.specs.declared.tree.TokenArg.{TokenArg}
use Rattle.token_language.specs.declared.tree.TokenArg.TheVariants.{Value, Proc, Token}
use Rattle.token_language.specs.Tree.{size_of_args}
use Rattle.token_language.specs.View.{args_of}

-- those after one
pub rest_le : (arg : TokenArg) (rest : List TokenArg)
    → size_of_args (args_of rest) ≤ size_of_args (args_of (arg ∷ rest))
rest_le (Value e) rest = omega arith
rest_le (Proc f) rest = omega arith
rest_le (Token x) rest = omega arith
