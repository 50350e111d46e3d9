-- Trees that are built from the front.
use Rattle.std.specs.Prelude.{List, [], ◌∷◌, Option, Some, None}
use Rattle.proc_language.specs.declared.tree.Arg.{Arg}
use Rattle.proc_language.specs.declared.tree.Arg.TheVariants.{Value, Proc}
use Rattle.proc_language.specs.Tree.{Args, value, proc, Stmt, Block, stmt}

-- some arguments, and after them the rest
abbrev pub args_before : List Arg → Args → Args
args_before [] rest = rest
args_before (Value e ∷ args) rest = value e (args_before args rest)
args_before (Proc f ∷ args) rest = proc f (args_before args rest)

-- some statements, and after them the rest
abbrev pub stmts_before : List Stmt → Block → Block
stmts_before [] rest = rest
stmts_before (s ∷ stmts) rest = stmt s (stmts_before stmts rest)

-- one, or none
abbrev pub at_most_one : {A : Type 0} → Option A → List A
at_most_one None = []
at_most_one (Some x) = x ∷ []
