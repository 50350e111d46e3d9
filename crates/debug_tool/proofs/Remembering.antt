-- What debuggers remember between commands.
use Rattle.std.proofs.Common.{◌≡◌, ℕ, List, [], ◌∷◌, refl, subst}
use Rattle.lcm_machine.specs.Run.{Run}
use Rattle.step_back.specs.Seen.{Debugging}
use Rattle.step_back.specs.Debug.{debugging_from}
use Rattle.step_back.specs.Calls.{Call, StopAt as SetStop, Clear as ClearStop, Go, GoBack, after_all}
use Rattle.step_back.specs.Calls.{Remembers}
use Rattle.step_back.proofs.Offers.{calls_remember}
use Rattle.debug_script.specs.declared.command.DebugCommand.{DebugCommand}
use Rattle.debug_script.specs.declared.command.DebugCommand.TheVariants.{Forward, Back, StopAt, Clear, Cell}
use Rattle.debug_script.specs.declared.command.DebugCommand.TheVariants.{Register}
use Rattle.debug_tool.specs.Replies.{after_command, after_commands}

-- the calls of commands
calls_in : List DebugCommand → List Call
calls_in [] = []
calls_in (Forward n ∷ cs) = Go n ∷ calls_in cs
calls_in (Back n ∷ cs) = GoBack n ∷ calls_in cs
calls_in (StopAt a ∷ cs) = SetStop a ∷ calls_in cs
calls_in (Clear a ∷ cs) = ClearStop a ∷ calls_in cs
calls_in (Cell a ∷ cs) = calls_in cs
calls_in (Register r ∷ cs) = calls_in cs

are_calls : (cs : List DebugCommand) (d : Debugging) → after_all (calls_in cs) d ≡ after_commands cs d
unfolding calls_in
are_calls [] d = refl
are_calls (Forward n ∷ cs) d = are_calls cs (after_command (Forward n) d)
are_calls (Back n ∷ cs) d = are_calls cs (after_command (Back n) d)
are_calls (StopAt a ∷ cs) d = are_calls cs (after_command (StopAt a) d)
are_calls (Clear a ∷ cs) d = are_calls cs (after_command (Clear a) d)
are_calls (Cell a ∷ cs) d = are_calls cs d
are_calls (Register r ∷ cs) d = are_calls cs d

pub commands_remember : (s : Run) (depth : ℕ) (cs : List DebugCommand) → s.count ≡ 0
    → Remembers s (after_commands cs (debugging_from s depth))
commands_remember s depth cs e =
    subst (Remembers s) (are_calls cs (debugging_from s depth)) (calls_remember s depth (calls_in cs) e)
