-- Expressions as their code has them.
use Rattle.std.specs.Prelude.{List, [], ◌∷◌}
use Rattle.proc_program.specs.declared.program.ExpKind.{ExpKind}
use Rattle.proc_program.specs.declared.program.ExpKind.TheVariants as code
use Rattle.proc_program.specs.declared.program.ArgExp.{ArgExp}
use Rattle.proc_program.specs.declared.program.ArgExp.TheVariants.{Value, Pass}
use Rattle.proc_program.specs.Program.{Exp, Number, Load, Element, Call, Binary, Args, no_args, value, pass}

abbrev pub args_of : List ArgExp → Args
args_of [] = no_args
args_of (Value e ∷ xs) = value e (args_of xs)
args_of (Pass h ∷ xs) = pass h (args_of xs)

abbrev pub exp_of : ExpKind → Exp
exp_of (code.Number n) = Number n
exp_of (code.Load x) = Load x
exp_of (code.Element a e) = Element a e.value
exp_of (code.Call c) = Call c.site c.handle (args_of c.args)
exp_of (code.Binary o a b) = Binary o a.value b.value
