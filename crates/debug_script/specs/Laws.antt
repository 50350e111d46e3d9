-- Scripts and their texts.
use Rattle.std.specs.Prelude.{◌≡◌, ◌≢◌, ◌⊎◌, ◌↔◌, ◌≤◌, ◌+◌, ℕ, List, [], ◌∷◌, ◌++◌, length, flat_map, Some}
use Rattle.std.specs.Prelude.{Ok, Err, All}
use Rattle.debug_script.specs.declared.command.DebugCommand.{DebugCommand}
use Rattle.debug_script.specs.declared.fault.ScriptFault.TheVariants.{Line}
use Rattle.debug_script.specs.declared.TheConstants.{MOST_LINES}
use Rattle.debug_script.specs.Commands.{Fits, command_text, command_in}
use Rattle.debug_script.specs.Script.{scripted}

abbrev pub command_line : DebugCommand → List ℕ
command_line c = command_text c ++ 10 ∷ []

-- the text of commands, a line for each
abbrev pub script_text : List DebugCommand → List ℕ
script_text cs = flat_map command_line cs

-- commands that a script may have
pub record AreCommands (cs : List DebugCommand) : Type 0 where
  pub fit : All Fits cs
  pub few : length cs ≤ MOST_LINES

-- The line of this number is the first bad one of a text. Before it stand commands, a line for each. At it
-- something stands that is no command's line with what follows, or comes after the most lines that there
-- may be.
pub record IsFirstBad (text : List ℕ) (line : ℕ) : Type 0 where
  pub before : List DebugCommand
  pub rest : List ℕ
  pub are : AreCommands before
  pub split : text ≡ script_text before ++ rest
  pub number : line ≡ length before + 1
  pub some : rest ≢ []
  pub bad : (length before ≡ MOST_LINES) ⊎
      ((c : DebugCommand) (more : List ℕ) → Fits c → rest ≢ command_line c ++ more)

-- ---- laws

abbrev pub CommandsAreRead : Type 0
CommandsAreRead =
    (line : List ℕ) (c : DebugCommand) → (command_in line ≡ Some c) ↔ (Fits c × (line ≡ command_text c))

abbrev pub ScriptsAreRead : Type 0
ScriptsAreRead = (text : List ℕ) (cs : List DebugCommand)
    → (scripted text ≡ Ok cs) ↔ (AreCommands cs × (text ≡ script_text cs))

abbrev pub FirstBadIsTold : Type 0
FirstBadIsTold = (text : List ℕ) (n : ℕ) → (scripted text ≡ Err (Line n)) ↔ IsFirstBad text n
