-- Debugging: what links, and the script of a file.
use Rattle.std.specs.Prelude.{ℕ, List}
use Rattle.debug_script.specs.declared.command.DebugCommand.{DebugCommand}
use Rattle.debug_script.specs.declared.fault.ScriptFault.{ScriptFault}
use Rattle.debug_script.specs.declared.fault.ScriptFault.TheVariants.{Line, NoMemory}
use Rattle.debug_script.specs.Script.{scripted}
use Rattle.file_plans.specs.declared.refusal.Refusal.{Refusal}
use Rattle.file_plans.specs.declared.refusal.Refusal.TheVariants as refusal
use Rattle.file_plans.specs.Plans.{Plan, ◌>>=◌, file, unless}

-- the first bad line of a script
abbrev pub script_line : ScriptFault → ℕ
script_line (Line n) = n
script_line NoMemory = 0

abbrev pub unscripted : ScriptFault → Refusal
unscripted f = refusal.Script (script_line f)

-- the script of a file, with the index that a refusal tells of it
unfoldable pub script_at : List ℕ → ℕ → Plan (List DebugCommand)
script_at name index = do
  text ← file name index
  unless unscripted (scripted text)
