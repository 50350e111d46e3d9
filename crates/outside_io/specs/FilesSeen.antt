-- What an object of files tells of itself, and what a read and a put do to it.
use Rattle.std.specs.Prelude.{◌≡◌, ◌≢◌, ℕ, ◌-◌, ◌<◌, ◌≤◌, List, length, take, drop, ⊤}
use Rattle.std.specs.Prelude.{Option, Some, IsNone, IsSomeAnd, IfSome, MatchOption}
use Rattle.outside_io.specs.Counts.{raised, Rose}
use Rattle.outside_io.specs.declared.outside.TheConstants.{LONGEST_NAME}

-- `contents` is, by name, the bytes of the file where there is one, and None where the object doesn't tell
-- them; `reads` and `puts` are how many reads and puts were called, those that failed too, and `given` is how
-- many bytes reads gave
pub record FilesSeen : Type 0 where
  pub contents : Option (List ℕ → Option (List ℕ))
  pub reads : ℕ
  pub failed_reads : ℕ
  pub last_failed_read : List ℕ
  pub puts : ℕ
  pub failed_puts : ℕ
  pub last_failed_put : List ℕ
  pub given : ℕ

-- a file's name has a byte or more, up to the longest
abbrev pub IsFileName : List ℕ → Type 0
IsFileName name = (0 < length name) × (length name ≤ LONGEST_NAME)

-- the first n bytes of the buffer are the file's from a place on, and there are none only at the file's end
-- or past it
pub record IsPieceAt (file : List ℕ) (at n : ℕ) (buffer : List ℕ) : Type 0 where
  pub within : n ≤ length file - at
  pub same : take n buffer ≡ take n (drop at file)
  pub ended : n ≡ 0 → length file ≤ at

-- a read gave n bytes: those of the file, where the contents are told, and only `reads` and `given` changed
pub record GivesPart (old new : FilesSeen) (name : List ℕ) (at n : ℕ) (buffer : List ℕ) : Type 0 where
  pub fits : n ≤ length buffer
  pub told : MatchOption old.contents ⊤ (λ bytes_of.
      IsSomeAnd (bytes_of name) (λ file. IsPieceAt file at n buffer))
  pub stays : new ≡ record old { reads = raised old.reads 1; given = raised old.given n }

-- a read failed, and left all but the reads and the failed reads as it was
pub record FailsToRead (old new : FilesSeen) (name : List ℕ) : Type 0 where
  pub rose : Rose old.failed_reads new.failed_reads
  pub stays : new ≡ record old {
    reads = raised old.reads 1;
    failed_reads = new.failed_reads;
    last_failed_read = name;
  }

-- where the contents are told they stay told, with every file but the one of that name as it was; else they
-- stay untold
abbrev pub KeepsOthers : FilesSeen → FilesSeen → List ℕ → Type 0
KeepsOthers old new name =
    MatchOption old.contents (IsNone new.contents) (λ bytes_of.
    IsSomeAnd new.contents (λ now. (q : List ℕ) → q ≢ name → now q ≡ bytes_of q))

-- one put went: the file of that name holds these bytes, where the contents are told, and nothing else
-- changed but `puts`
pub record Puts (old new : FilesSeen) (name bytes : List ℕ) : Type 0 where
  pub told : IfSome new.contents (λ now. now name ≡ Some bytes)
  pub others : KeepsOthers old new name
  pub stays : new ≡ record old { contents = new.contents; puts = raised old.puts 1 }

-- one put failed: nothing is said of the file of that name, and all but it, the puts and the failed puts
-- stays
pub record FailsToPut (old new : FilesSeen) (name : List ℕ) : Type 0 where
  pub rose : Rose old.failed_puts new.failed_puts
  pub others : KeepsOthers old new name
  pub stays : new ≡ record old {
    contents = new.contents;
    puts = raised old.puts 1;
    failed_puts = new.failed_puts;
    last_failed_put = name;
  }
