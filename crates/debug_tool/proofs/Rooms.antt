-- There is room for the steps of a script.
use Rattle.std.proofs.Common.{◌*◌, ◌≤◌, List, [], ◌∷◌, length, arith}
use Rattle.std.specs.Prelude.{All}
use Rattle.std.proofs.lemmas.List.Elements.{All-head, All-tail}
use Rattle.debug_script.specs.declared.command.DebugCommand.{DebugCommand}
use Rattle.debug_script.specs.declared.command.DebugCommand.TheVariants.{Forward, Back, StopAt, Clear, Cell}
use Rattle.debug_script.specs.declared.command.DebugCommand.TheVariants.{Register}
use Rattle.debug_script.specs.declared.TheConstants.{MOST_STEPS}
use Rattle.debug_script.specs.Commands.{Fits}
use Rattle.debug_tool.specs.Replies.{steps_of, steps_in}

few_steps : (c : DebugCommand) → Fits c → steps_of c ≤ MOST_STEPS
few_steps (Forward n) h = h.1
few_steps (Back n) h = omega arith
few_steps (StopAt a) h = omega arith
few_steps (Clear a) h = omega arith
few_steps (Cell a) h = omega arith
few_steps (Register r) h = omega arith

pub few_steps_in : (cs : List DebugCommand) → All Fits cs → steps_in cs ≤ MOST_STEPS * length cs
few_steps_in [] h = omega arith
few_steps_in (c ∷ cs) h =
    omega (arith, few_steps c (All-head Fits c cs h), few_steps_in cs (All-tail Fits c cs h))
