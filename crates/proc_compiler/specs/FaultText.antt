-- How the faults of compiling print.
use Rattle.std.specs.Prelude.{ℕ, List, codes}
use Rattle.proc_compiler.specs.declared.fault.CompileFault.{CompileFault}
use Rattle.proc_compiler.specs.declared.fault.CompileFault.TheVariants.{TooLarge, SealsShort, NoMemory}

abbrev pub compile_fault_text : CompileFault → List ℕ
compile_fault_text TooLarge = codes "the module has too many words"
compile_fault_text SealsShort = codes "the module has more calls than return seals"
compile_fault_text NoMemory = codes "out of memory"
