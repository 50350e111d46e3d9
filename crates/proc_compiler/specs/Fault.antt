-- The faults of compiling by number, and when each comes.
use Rattle.std.specs.Prelude.{ℕ, ◌<◌, ◌≤◌, ◌⊎◌}
use Rattle.component_file.specs.declared.TheConstants.{MOST_WORDS}
use Rattle.proc_language.specs.declared.module.ModuleFields.{ModuleFields}
use Rattle.proc_names.specs.Calls.{module_calls}
use Rattle.proc_program.specs.declared.program.Program.{Program}
use Rattle.proc_program.specs.Lower.{part_of}
use Rattle.proc_templates.specs.Compiled.{code_words, data_count}
use Rattle.proc_compiler.specs.declared.fault.CompileFault.{CompileFault}
use Rattle.proc_compiler.specs.declared.fault.CompileFault.TheVariants.{TooLarge, SealsShort, NoMemory}

abbrev pub fault_number : CompileFault → ℕ
fault_number TooLarge = 10
fault_number SealsShort = 11
fault_number NoMemory = 12

abbrev pub fault_place : CompileFault → ℕ
fault_place f = 0

-- neither code nor data has too many words
abbrev pub IsSmall : Program → Type 0
IsSmall m = (code_words m ≤ MOST_WORDS) × (data_count m ≤ MOST_WORDS)

abbrev pub IsTooLarge : Program → Type 0
IsTooLarge m = (MOST_WORDS < code_words m) ⊎ (MOST_WORDS < data_count m)

-- of a program with so many calls and return seals
abbrev pub CompilesWith : Program → ℕ → ℕ → Type 0
CompilesWith m calls seals = IsSmall m × (calls ≤ seals)

-- what is shown by each fault; nothing by want of memory
abbrev pub CausesWith : Program → ℕ → ℕ → CompileFault → Type 0
CausesWith m calls seals TooLarge = IsTooLarge m
CausesWith m calls seals SealsShort = IsSmall m × (seals < calls)
CausesWith m calls seals NoMemory = Unit {0}

-- a module whose words aren't too many, with a return seal for each call in its text
abbrev pub Compiles : ModuleFields → Type 0
Compiles m = CompilesWith (part_of m) (module_calls m) m.return_count

abbrev pub CausesFault : ModuleFields → CompileFault → Type 0
CausesFault m f = CausesWith (part_of m) (module_calls m) m.return_count f
