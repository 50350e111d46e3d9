-- Files in memory that was reserved before, as contracts see them.
use Rattle.std.specs.Prelude.{ℕ, ◌+◌, ◌≤◌, List, length, Some, sum_by}
use Rattle.std.specs.FinMap as finite
use Rattle.outside_io.specs.FileCounts.{FileCounts, no_counts, seen_with}
use Rattle.outside_io.specs.FilesSeen.{FilesSeen}
use Rattle.outside_io.specs.Memory.{FilesByName}
use Rattle.outside_io.specs.Shelf.{Shelved}

-- the files, how many of them there may be, how many bytes their names and contents may have together, and
-- what was counted
pub record SafeHeld : Type 0 where
  pub files : FilesByName
  pub names : ℕ
  pub room : ℕ
  pub counts : FileCounts

-- no files yet, and nothing counted
abbrev pub none_held : ℕ → ℕ → SafeHeld
none_held names room = record { files = finite.empty; names = names; room = room; counts = no_counts }

-- the files that lie there, with these counts
abbrev pub held_of : Shelved → FileCounts → SafeHeld
held_of shelf counts = record {
  files = finite.from_entries shelf.files;
  names = shelf.names;
  room = shelf.room;
  counts = counts;
}

-- the bytes of all names and contents
abbrev pub bytes_in : FilesByName → ℕ
bytes_in files = sum_by (λ f. length f.0 + length f.1) (finite.entries files)

-- the files pass none of the two numbers
pub record KeepsNumbers (held : SafeHeld) : Type 0 where
  pub names : finite.len held.files ≤ held.names
  pub room : bytes_in held.files ≤ held.room

-- files that pass none of the two numbers
pub record KeptFiles : Type 0 where
  pub held : SafeHeld
  pub kept : KeepsNumbers held

-- the file of this name holds these bytes, and all else is as it was
abbrev pub holding : SafeHeld → List ℕ → List ℕ → SafeHeld
holding held name bytes = record held { files = finite.insert held.files name bytes }

-- such files tell all that they hold
abbrev pub seen_of_safe_files : KeptFiles → FilesSeen
seen_of_safe_files files = seen_with (Some (finite.get files.held.files)) files.held.counts
