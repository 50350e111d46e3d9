-- A sink over memory that was reserved before, as contracts see it.
use Rattle.std.specs.Prelude.{◌≡◌, ℕ, ◌+◌, ◌-◌, ◌<◌, ◌≤◌, List, [], ◌++◌, length, take, Some}
use Rattle.outside_io.specs.Host.{SinkCounts, no_writes, with_write, with_failed_write}
use Rattle.outside_io.specs.SinkSeen.{SinkSeen}

-- the bytes that a sink took, with its counts
pub record TakenBytes : Type 0 where
  pub bytes : List ℕ
  pub counts : SinkCounts

abbrev pub taken_of : List ℕ → ℕ → ℕ → TakenBytes
taken_of bytes writes faults = record { bytes = bytes; counts = record { writes = writes; faults = faults } }

-- the bytes keep within the room, and a write failed only where they fill it
pub record KeepsRoom (room : ℕ) (taken : TakenBytes) : Type 0 where
  pub within : length taken.bytes ≤ room
  pub full : 0 < taken.counts.faults → length taken.bytes ≡ room

-- a sink of this room
pub record SafeBytes (room : ℕ) : Type 0 where
  pub taken : TakenBytes
  pub kept : KeepsRoom room taken

-- no bytes, and no write yet
abbrev pub nothing_taken : TakenBytes
nothing_taken = record { bytes = []; counts = no_writes }

-- there is room for a piece
abbrev pub HasRoom : ℕ → TakenBytes → List ℕ → Type 0
HasRoom room taken piece = length taken.bytes + length piece ≤ room

-- after a write of a piece that fits
abbrev pub with_piece : TakenBytes → List ℕ → TakenBytes
with_piece taken piece = record { bytes = taken.bytes ++ piece; counts = with_write taken.counts }

-- after a write of another piece: the bytes of it that fit stand, and the write failed
abbrev pub with_front : ℕ → TakenBytes → List ℕ → TakenBytes
with_front room taken piece = record {
  bytes = taken.bytes ++ take (room - length taken.bytes) piece;
  counts = with_failed_write taken.counts;
}

-- such a sink tells all that it took
abbrev pub seen_of_safe_sink : {room : ℕ} → SafeBytes room → SinkSeen
seen_of_safe_sink sink = record {
  written = Some sink.taken.bytes;
  writes = sink.taken.counts.writes;
  faults = sink.taken.counts.faults;
}
