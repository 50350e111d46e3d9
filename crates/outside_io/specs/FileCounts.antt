-- What an object of files counts.
use Rattle.std.specs.Prelude.{ℕ, List, [], Option}
use Rattle.outside_io.specs.Counts.{raised}
use Rattle.outside_io.specs.FilesSeen.{FilesSeen}

-- the reads and the puts, those of them that failed, the names that the last of these had, and how many bytes
-- reads gave
pub record FileCounts : Type 0 where
  pub reads : ℕ
  pub failed_reads : ℕ
  pub last_failed_read : List ℕ
  pub puts : ℕ
  pub failed_puts : ℕ
  pub last_failed_put : List ℕ
  pub given : ℕ

-- nothing was read or put, nothing failed and nothing was given
abbrev pub no_counts : FileCounts
no_counts = record {
  reads = 0;
  failed_reads = 0;
  last_failed_read = [];
  puts = 0;
  failed_puts = 0;
  last_failed_put = [];
  given = 0;
}

-- one more read, which gave n bytes
abbrev pub with_given : FileCounts → ℕ → FileCounts
with_given counts n = record counts { reads = raised counts.reads 1; given = raised counts.given n }

-- one more read, of this name, which failed
abbrev pub with_failed_read : FileCounts → List ℕ → FileCounts
with_failed_read counts name = record counts {
  reads = raised counts.reads 1;
  failed_reads = raised counts.failed_reads 1;
  last_failed_read = name;
}

-- one more put, which went
abbrev pub with_put : FileCounts → FileCounts
with_put counts = record counts { puts = raised counts.puts 1 }

-- one more put, of this name, which failed
abbrev pub with_failed_put : FileCounts → List ℕ → FileCounts
with_failed_put counts name = record counts {
  puts = raised counts.puts 1;
  failed_puts = raised counts.failed_puts 1;
  last_failed_put = name;
}

-- these counts, beside what is told of the contents
abbrev pub seen_with : Option (List ℕ → Option (List ℕ)) → FileCounts → FilesSeen
seen_with contents counts = record {
  contents = contents;
  reads = counts.reads;
  failed_reads = counts.failed_reads;
  last_failed_read = counts.last_failed_read;
  puts = counts.puts;
  failed_puts = counts.failed_puts;
  last_failed_put = counts.last_failed_put;
  given = counts.given;
}
