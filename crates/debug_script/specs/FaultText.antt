-- How the faults of a script print.
use Rattle.std.specs.Prelude.{ℕ, ◌++◌, List, codes, decimal}
use Rattle.debug_script.specs.declared.fault.ScriptFault.{ScriptFault}
use Rattle.debug_script.specs.declared.fault.ScriptFault.TheVariants.{Line, NoMemory}

abbrev pub script_fault_text : ScriptFault → List ℕ
script_fault_text (Line line) = codes "line " ++ decimal line ++ codes " is no command of a script"
script_fault_text NoMemory = codes "out of memory"
