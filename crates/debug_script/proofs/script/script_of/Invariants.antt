use Rattle.std.proofs.Common.{◌≡◌, ◌+◌, ◌≤◌, length}
use Rattle.std.specs.Prelude.{All}
use Rattle.line_fields.specs.Fields.{lines}
use Rattle.debug_script.specs.declared.TheConstants.{MOST_LINES}
use Rattle.debug_script.specs.Commands.{Fits}
use Rattle.debug_script.specs.Script.{scripted_from, scripted}
use Rattle.debug_script.proofs.ScriptLemmas.{behind_commands}
use Rattle.debug_script.proofs.script.script_of.Given as goal

abbrev pub invariant-loop-line : goal.invariant-loop-line
invariant-loop-line l = record {
  number : l.number ≡ length l.commands.items + 1;
  few : length l.commands.items ≤ MOST_LINES;
  fit : All Fits l.commands.items;
  so_far : behind_commands l.commands.items (scripted_from l.number (lines l.rest)) ≡ scripted l.text;
}

abbrev pub decreases-loop-line : goal.decreases-loop-line
decreases-loop-line l = length l.rest
