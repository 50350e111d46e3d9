-- Words as a command takes them.
use Rattle.std.specs.Prelude.{List, [], ◌∷◌, Option, Some, None}
use Rattle.clap.specs.Words.{App, Kinds, Row, fault_of, matches_of}
use Rattle.command_words.specs.Texts.{Text}

-- the matches of a parse that has no fault
abbrev pub unless_faults : Kinds → List Row → Option (List Row)
unless_faults [] rows = Some rows
unless_faults (k ∷ ks) rows = None

-- the words by their options, where the command takes them
abbrev pub rows_by : App → List Text → Option (List Row)
rows_by command words = unless_faults (fault_of command words) (matches_of command words)
