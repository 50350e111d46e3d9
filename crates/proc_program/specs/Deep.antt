-- The parts of an expression are smaller than the whole.
use Rattle.std.specs.Prelude.{◌≤◌, max, List, [], ◌∷◌}
use Rattle.std.proofs.Common.{arith}
use denote.Param.Weighed.{most}
use Rattle.proc_program.specs.declared.program.ExpKind.{ExpKind}
use Rattle.proc_program.specs.declared.program.ExpKind.TheVariants.{Number, Load, Element, Call, Binary}
use Rattle.proc_program.specs.declared.program.ArgExp.{ArgExp}
use Rattle.proc_program.specs.declared.program.ArgExp.TheVariants.{Value, Pass}
use Rattle.proc_program.specs.declared.program.Exp.TheDeep.{deep-ExpKind, deep-ArgExp}
use Rattle.proc_program.specs.Program.{size_of, size_among}
use Rattle.proc_program.specs.View.{exp_of, args_of}

args_deep : (args : List ArgExp) → most deep-ArgExp args ≤ size_among (args_of args)
args_deep [] = omega arith
args_deep (Value e ∷ args) = omega (arith, args_deep args)
args_deep (Pass h ∷ args) = omega (arith, args_deep args)

pub depth_le-size : (kind : ExpKind) → max (deep-ExpKind kind) 0 ≤ size_of (exp_of kind)
depth_le-size (Number n) = omega arith
depth_le-size (Load x) = omega arith
depth_le-size (Element a e) = omega arith
depth_le-size (Call c) = omega (arith, args_deep c.args)
depth_le-size (Binary o a b) = omega arith
