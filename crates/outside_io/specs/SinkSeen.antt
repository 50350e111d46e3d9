-- What a sink tells of itself, and what a write does to it.
use Rattle.std.specs.Prelude.{◌≡◌, ℕ, ◌≤◌, List, ◌++◌, length, take, Option, option_map}
use Rattle.outside_io.specs.Counts.{raised, Rose}

-- `written` is all the bytes that the sink took, and None where it doesn't tell them; `writes` is how many
-- writes were called, those that failed too
pub record SinkSeen : Type 0 where
  pub written : Option (List ℕ)
  pub writes : ℕ
  pub faults : ℕ

-- what is told as written, with these bytes after it
abbrev pub written_after : SinkSeen → List ℕ → Option (List ℕ)
written_after sink bytes = option_map (λ w. w ++ bytes) sink.written

-- the sink took all of a text, and nothing else changed but how many writes there were
abbrev pub Adds : SinkSeen → List ℕ → SinkSeen → Type 0
Adds old bytes new = new ≡ record old { written = written_after old bytes; writes = new.writes }

-- a write failed: the sink took some front of the text, which may be none or all of it
pub record FailsToWrite (old : SinkSeen) (piece : List ℕ) (new : SinkSeen) : Type 0 where
  pub rose : Rose old.faults new.faults
  pub front : (k : ℕ) × (k ≤ length piece) × (new.written ≡ written_after old (take k piece))

-- there was one write
abbrev pub IsOneWrite : SinkSeen → SinkSeen → Type 0
IsOneWrite old new = new.writes ≡ raised old.writes 1
