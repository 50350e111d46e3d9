-- How a fault of words prints.
use Rattle.std.specs.Prelude.{ℕ, List, codes}
use Rattle.command_words.specs.declared.fault.WordsFault.{WordsFault}
use Rattle.command_words.specs.declared.fault.WordsFault.TheVariants.{Usage, NoMemory}

abbrev pub words_fault_text : WordsFault → List ℕ
words_fault_text Usage = codes "usage"
words_fault_text NoMemory = codes "out of memory"
