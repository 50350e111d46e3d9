-- What the files and the standard output of the system tell: their counts, and nothing of what they hold.
use Rattle.std.specs.Prelude.{ℕ, None}
use Rattle.outside_io.specs.Counts.{raised}
use Rattle.outside_io.specs.FilesSeen.{FilesSeen}
use Rattle.outside_io.specs.SinkSeen.{SinkSeen}
use Rattle.outside_io.specs.FileCounts.{FileCounts, seen_with}

abbrev pub seen_of_host_files : FileCounts → FilesSeen
seen_of_host_files = seen_with None

-- the writes, and those that failed
pub record SinkCounts : Type 0 where
  pub writes : ℕ
  pub faults : ℕ

abbrev pub no_writes : SinkCounts
no_writes = record { writes = 0; faults = 0 }

abbrev pub seen_of_host_sink : SinkCounts → SinkSeen
seen_of_host_sink counts = record { written = None; writes = counts.writes; faults = counts.faults }

-- after a write, and after one that failed
abbrev pub with_write : SinkCounts → SinkCounts
with_write counts = record counts { writes = raised counts.writes 1 }

abbrev pub with_failed_write : SinkCounts → SinkCounts
with_failed_write counts = record { writes = raised counts.writes 1; faults = raised counts.faults 1 }
