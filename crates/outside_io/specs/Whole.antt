-- What a read of a whole file does.
use Rattle.std.specs.Prelude.{◌≡◌, ℕ, ◌+◌, ◌<◌, ◌≤◌, List, length, Some, MatchOption}
use Rattle.outside_io.specs.Counts.{raised, Rose}
use Rattle.outside_io.specs.FilesSeen.{FilesSeen}
use Rattle.outside_io.specs.declared.whole.ReadEnd.{ReadEnd}
use Rattle.outside_io.specs.declared.whole.ReadEnd.TheVariants.{Fault, TooLong, NoMemory}

-- the bytes that came of a file: all of it where the contents are told, and else as many as were given
abbrev pub Came : FilesSeen → List ℕ → List ℕ → FilesSeen → Type 0
Came old name bytes new =
    MatchOption old.contents (new.given ≡ raised old.given (length bytes)) (λ bytes_of.
    bytes_of name ≡ Some bytes)

-- reads gave n bytes, by one call at least and by so many at most
pub record Took (old : FilesSeen) (n most : ℕ) (new : FilesSeen) : Type 0 where
  pub given : new.given ≡ raised old.given n
  pub calls : ℕ
  pub some : 1 ≤ calls
  pub few : calls ≤ most
  pub counted : new.reads ≡ raised old.reads calls

-- nothing changed but how many reads there were and how many bytes they gave
abbrev pub OnlyGave : FilesSeen → FilesSeen → Type 0
OnlyGave old new = new ≡ record old { reads = new.reads; given = new.given }

-- the whole file came, within the limit; each read but the last gave some of it
pub record GivesWhole (old : FilesSeen) (name : List ℕ) (limit : ℕ) (bytes : List ℕ) (new : FilesSeen)
    : Type 0 where
  pub came : Came old name bytes new
  pub fits : length bytes ≤ limit
  pub took : Took old (length bytes) (length bytes + 1) new
  pub quiet : OnlyGave old new

-- the file is longer than the limit, which the last of the reads passed
pub record IsTooLong (old : FilesSeen) (name : List ℕ) (limit : ℕ) (new : FilesSeen) : Type 0 where
  pub came : (bytes : List ℕ) × Came old name bytes new × (limit < length bytes)
  pub took : (n : ℕ) × (limit < n) × Took old n (limit + 1) new
  pub quiet : OnlyGave old new

-- the last of the reads failed, and each before it gave some bytes, within the limit
pub record Faults (old : FilesSeen) (name : List ℕ) (limit : ℕ) (new : FilesSeen) : Type 0 where
  pub rose : Rose old.failed_reads new.failed_reads
  pub took : (n : ℕ) × (n ≤ limit) × Took old n (n + 1) new
  pub stays : new ≡ record old {
    reads = new.reads;
    given = new.given;
    failed_reads = new.failed_reads;
    last_failed_read = name;
  }

-- memory was refused to bytes within the limit, of which each read gave some
pub record RunsOut (old : FilesSeen) (limit : ℕ) (new : FilesSeen) : Type 0 where
  pub took : (n : ℕ) × (n ≤ limit) × Took old n n new
  pub quiet : OnlyGave old new

-- why the whole file did not come, and what the files tell then
abbrev pub EndsRead : FilesSeen → List ℕ → ℕ → FilesSeen → ReadEnd → Type 0
EndsRead old name limit new Fault = Faults old name limit new
EndsRead old name limit new TooLong = IsTooLong old name limit new
EndsRead old name limit new NoMemory = RunsOut old limit new
