-- Files and a sink in memory, as contracts see them.
use Rattle.std.specs.Prelude.{◌≡◌, ℕ, ◌-◌, List, [], ◌++◌, length, min, map, string_bytes}
use Rattle.std.specs.Prelude.{Option, Some, None, IsSomeAnd}
use Rattle.std.specs.Ordering.{nat_cmp}
use Rattle.std.specs.Cmp.Lexicographic.{slice_cmp}
use Rattle.std.specs.FinMap as finite
use Rattle.outside_io.specs.Counts.{raised}
use Rattle.outside_io.specs.FileCounts.{FileCounts, no_counts, seen_with}
use Rattle.outside_io.specs.FileCounts.{with_given, with_failed_read, with_put, with_failed_put}
use Rattle.outside_io.specs.FilesSeen.{FilesSeen}
use Rattle.outside_io.specs.SinkSeen.{SinkSeen}
use Rattle.std.specs.declared.alloc.Global.{Global}
use Rattle.std.specs.declared.string.String.{String}
use Rattle.std.specs.declared.vec.Vec.{Vec}

-- how many calls there were, and the number of the one that is to fail, where one is set
pub record CallNumbers : Type 0 where
  pub made : ℕ
  pub failing : Option ℕ

-- no call yet, and none that is to fail
abbrev pub no_calls : CallNumbers
no_calls = record { made = 0; failing = None }

-- one more call was made
abbrev pub with_call : CallNumbers → CallNumbers
with_call calls = record calls { made = raised calls.made 1 }

-- the call of this number is to fail
abbrev pub with_failing : CallNumbers → ℕ → CallNumbers
with_failing calls number = record calls { failing = Some number }

-- the next call is the one that is to fail
abbrev pub NextFails : CallNumbers → Type 0
NextFails calls = calls.failing ≡ Some (raised calls.made 1)

-- the bytes of each file, by its name
abbrev pub FilesByName : Type 0
FilesByName = finite.FinMap (slice_cmp nat_cmp) (List ℕ)

-- the files of a map's entries
abbrev pub files_of : List (String Global × Vec ℕ Global) → FilesByName
files_of entries = finite.from_entries (map (λ e. (string_bytes e.0, e.1.items)) entries)

-- files in memory, with their calls and counts
pub record HeldFiles : Type 0 where
  pub files : FilesByName
  pub calls : CallNumbers
  pub counts : FileCounts

-- no files, and no call yet
abbrev pub no_files : HeldFiles
no_files = record { files = finite.empty; calls = no_calls; counts = no_counts }

-- the file of this name, where there is one
abbrev pub file_named : HeldFiles → List ℕ → Option (List ℕ)
file_named held name = finite.get held.files name

-- the file of this name holds these bytes, and the others are as they were
abbrev pub with_file : HeldFiles → List ℕ → List ℕ → HeldFiles
with_file held name bytes = record held { files = finite.insert held.files name bytes }

-- after a read that gave n bytes
abbrev pub after_read : HeldFiles → ℕ → HeldFiles
after_read held n = record held { calls = with_call held.calls; counts = with_given held.counts n }

-- after a read of this name that failed
abbrev pub after_failed_read : HeldFiles → List ℕ → HeldFiles
after_failed_read held name =
    record held { calls = with_call held.calls; counts = with_failed_read held.counts name }

-- after a put of these bytes under this name
abbrev pub after_put : HeldFiles → List ℕ → List ℕ → HeldFiles
after_put held name bytes =
    record (with_file held name bytes) { calls = with_call held.calls; counts = with_put held.counts }

-- after a put under this name that failed
abbrev pub after_failed_put : HeldFiles → List ℕ → HeldFiles
after_failed_put held name =
    record held { calls = with_call held.calls; counts = with_failed_put held.counts name }

-- a read gives as many bytes of the file of this name, from a place on, as there are and as there is room for
abbrev pub GivesAll : HeldFiles → List ℕ → ℕ → ℕ → ℕ → Type 0
GivesAll held name at room n =
    IsSomeAnd (file_named held name) (λ file. n ≡ min room (length file - at))

-- files in memory tell all that they hold
abbrev pub seen_of_files : HeldFiles → FilesSeen
seen_of_files held = seen_with (Some (file_named held)) held.counts

-- the bytes that a sink in memory took, with its calls and its faults
pub record HeldBytes : Type 0 where
  pub bytes : List ℕ
  pub calls : CallNumbers
  pub faults : ℕ

-- no bytes, and no call yet
abbrev pub no_bytes : HeldBytes
no_bytes = record { bytes = []; calls = no_calls; faults = 0 }

-- after a write of these bytes
abbrev pub after_write : HeldBytes → List ℕ → HeldBytes
after_write held piece = record held { bytes = held.bytes ++ piece; calls = with_call held.calls }

-- after a write that failed
abbrev pub after_failed_write : HeldBytes → HeldBytes
after_failed_write held = record held { calls = with_call held.calls; faults = raised held.faults 1 }

-- a sink in memory tells all that it took
abbrev pub seen_of_bytes : HeldBytes → SinkSeen
seen_of_bytes held = record { written = Some held.bytes; writes = held.calls.made; faults = held.faults }
