-- Trees that are built from the front.
use Rattle.std.proofs.Common.{◌≡◌, refl, ap, List, [], ◌∷◌, ◌++◌}
use Rattle.proc_language.specs.declared.tree.Arg.{Arg}
use Rattle.proc_language.specs.declared.tree.Arg.TheVariants.{Value, Proc}
use Rattle.proc_language.specs.Tree.{Args, no_args, value, proc, Stmt, Block, no_stmts, stmt}
use Rattle.proc_language.specs.View.{args_of}
use Rattle.proc_language.specs.StmtView.{block_of}
use Rattle.token_language.specs.Fronts.{args_before, stmts_before}

pub args_end : (args : List Arg) → args_before args no_args ≡ args_of args
args_end [] = refl
args_end (Value e ∷ args) = ap (value e) (args_end args)
args_end (Proc f ∷ args) = ap (proc f) (args_end args)

pub args-append : (args more : List Arg) (rest : Args)
    → args_before (args ++ more) rest ≡ args_before args (args_before more rest)
args-append [] more rest = refl
args-append (Value e ∷ args) more rest = ap (value e) (args-append args more rest)
args-append (Proc f ∷ args) more rest = ap (proc f) (args-append args more rest)

pub stmts_end : (stmts : List Stmt) → stmts_before stmts no_stmts ≡ block_of stmts
stmts_end [] = refl
stmts_end (s ∷ stmts) = ap (stmt s) (stmts_end stmts)

pub stmts-append : (stmts more : List Stmt) (rest : Block)
    → stmts_before (stmts ++ more) rest ≡ stmts_before stmts (stmts_before more rest)
stmts-append [] more rest = refl
stmts-append (s ∷ stmts) more rest = ap (stmt s) (stmts-append stmts more rest)

pub ruleset fronts = (args_end, args-append, stmts_end, stmts-append)
