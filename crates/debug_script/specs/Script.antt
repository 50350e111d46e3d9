-- A script, line by line.
use Rattle.std.specs.Prelude.{ℕ, ◌+◌, nat_le, List, [], ◌∷◌, Option, Some, None, Result, Ok, Err}
use Rattle.std.specs.Prelude.{if◌then◌else◌}
use Rattle.line_fields.specs.Fields.{lines}
use Rattle.debug_script.specs.declared.command.DebugCommand.{DebugCommand}
use Rattle.debug_script.specs.declared.fault.ScriptFault.{ScriptFault}
use Rattle.debug_script.specs.declared.fault.ScriptFault.TheVariants.{Line}
use Rattle.debug_script.specs.declared.TheConstants.{MOST_LINES}
use Rattle.debug_script.specs.Commands.{command_in}

-- of a line with this number: after the most lines that there may be, there is none
abbrev pub command_at : ℕ → List ℕ → Option DebugCommand
command_at n line = if nat_le n MOST_LINES then command_in line else None

-- what stands after the last newline has to be nothing
abbrev pub at_end : ℕ → List ℕ → Result (List DebugCommand) ScriptFault
at_end n [] = Ok []
at_end n (b ∷ bs) = Err (Line n)

abbrev pub with_command : ℕ → Option DebugCommand → Result (List DebugCommand) ScriptFault
    → Result (List DebugCommand) ScriptFault
with_command n None more = Err (Line n)
with_command n (Some c) (Ok cs) = Ok (c ∷ cs)
with_command n (Some c) (Err e) = Err e

-- of what stands before, between and after newlines, where the first line has this number
unfoldable pub scripted_from : ℕ → List (List ℕ) → Result (List DebugCommand) ScriptFault
scripted_from n [] = Ok []
scripted_from n (last ∷ []) = at_end n last
scripted_from n (line ∷ next ∷ rest) =
    with_command n (command_at n line) (scripted_from (n + 1) (next ∷ rest))

-- the commands of a text, or its first bad line
unfoldable pub scripted : List ℕ → Result (List DebugCommand) ScriptFault
scripted text = scripted_from 1 (lines text)
