-- What faults print as.
use Rattle.std.specs.Prelude.{ℕ, List, codes}
use Rattle.outside_io.specs.declared.outside.Failed.{Failed}
use Rattle.outside_io.specs.declared.whole.ReadEnd.{ReadEnd}
use Rattle.outside_io.specs.declared.whole.ReadEnd.TheVariants.{Fault, TooLong, NoMemory}

abbrev pub failed_text : Failed → List ℕ
failed_text f = codes "a call to the outside failed"

abbrev pub read_end_text : ReadEnd → List ℕ
read_end_text Fault = codes "the file could not be read"
read_end_text TooLong = codes "the file is too long"
read_end_text NoMemory = codes "out of memory"
