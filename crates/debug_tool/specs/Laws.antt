-- What debuggers remember between commands.
use Rattle.std.specs.Prelude.{◌≡◌, ℕ, List}
use Rattle.lcm_machine.specs.Run.{Run}
use Rattle.step_back.specs.Debug.{debugging_from}
use Rattle.step_back.specs.Calls.{Remembers}
use Rattle.debug_script.specs.declared.command.DebugCommand.{DebugCommand}
use Rattle.debug_tool.specs.Replies.{after_commands}

-- from a state that has made no step
abbrev pub CommandsRemember : Type 0
CommandsRemember =
    (s : Run) (depth : ℕ) (cs : List DebugCommand) → s.count ≡ 0 → Remembers s
    (after_commands cs (debugging_from s depth))
