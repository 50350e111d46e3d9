-- How far spans are listed.
use Rattle.std.specs.Prelude.{◌≡◌, ◌≢◌, ℕ, ◌+◌, ◌<◌, ◌≤◌, nat_lt, ◌&&◌, List}
use Rattle.std.specs.List.{All}
use Rattle.cap_words.specs.declared.TheConstants.{LAST_PLACE}
use Rattle.authority_report.specs.declared.spans.Rights.{Rights}
use Rattle.authority_report.specs.declared.spans.ReachSpan.{ReachSpan}
use Rattle.authority_report.specs.Has.{has}
use Rattle.authority_report.specs.Spans.{rights_of, allows, AreTidy}

-- the rights of a place: in which of three sets it is
abbrev pub rights_in : List ℕ → List ℕ → List ℕ → ℕ → Rights
rights_in read write run a = record { read = has read a; write = has write a; run = has run a }

-- a span that ended before a place: where it ended right before it, the place has other rights
pub record Ended (read write run : List ℕ) (at : ℕ) (s : ReachSpan) : Type 0 where
  pub before : s.end < at
  pub other : s.end + 1 ≡ at → at ≤ LAST_PLACE → rights_of s ≢ rights_in read write run at

-- the spans of the places before this one
pub record Listed (read write run : List ℕ) (at : ℕ) (spans : List ReachSpan) : Type 0 where
  pub tidy : AreTidy spans
  pub ended : All (Ended read write run at) spans
  pub read_is : (a : ℕ) → allows (λ r. r.read) spans a ≡ (nat_lt a at && has read a)
  pub write_is : (a : ℕ) → allows (λ r. r.write) spans a ≡ (nat_lt a at && has write a)
  pub run_is : (a : ℕ) → allows (λ r. r.run) spans a ≡ (nat_lt a at && has run a)
