-- What the arguments of a process hand to its program's call.
use Rattle.std.specs.Prelude.{◌≡◌, ◌≢◌, ℕ, List, [], drop, Result, Ok, Err, String, ⊤}
use Rattle.std.specs.IoError.{error_kind}
use Rattle.std.specs.Vec.Iter.{into_iter_items}
use Rattle.std.specs.declared.alloc.Global.{Global}
use Rattle.std.specs.declared.io.Error.{Error}
use Rattle.std.specs.declared.io.ErrorKind.TheVariants.{OutOfMemory}
use Rattle.std.specs.declared.vec.IntoIter.{IntoIter}
use Rattle.outside_io.specs.FilesSeen.{FilesSeen}
use Rattle.outside_io.specs.SinkSeen.{SinkSeen}
use Rattle.command_words.specs.Texts.{Text, texts}

-- the arguments, the program's own name first; or why there are none
abbrev pub Arguments : Type 0
Arguments = Result (IntoIter (String Global) Global) Error

-- the words of a call: those after the program's name, and none if an argument is no text
abbrev pub AreWords : Arguments → List (String Global) → Type 0
AreWords (Ok args) words = words ≡ drop 1 (into_iter_items args)
AreWords (Err e) words = (error_kind e ≢ OutOfMemory) × (words ≡ [])

-- memory may be refused for the words, or was for the arguments
abbrev pub MayLack : Arguments → Type 0
MayLack (Ok args) = ⊤
MayLack (Err e) = error_kind e ≡ OutOfMemory

-- the program is called, and this holds of its words; or memory was refused before
pub data Handed (args : Arguments) (Called : List Text → Type 0) (Uncalled : Type 0) : Type 0 where
  called : (words : List (String Global)) → AreWords args words → Called (texts words)
      → Handed args Called Uncalled
  uncalled : MayLack args → Uncalled → Handed args Called Uncalled

-- the number is this, and nothing was read, put or written
pub record IsUncalled (refused : ℕ) (files : FilesSeen) (sink : SinkSeen) (number : ℕ)
    (files_then : FilesSeen) (sink_then : SinkSeen) : Type 0 where
  pub number_is : number ≡ refused
  pub files_are : files_then ≡ files
  pub sink_is : sink_then ≡ sink
