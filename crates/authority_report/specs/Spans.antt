-- The spans of places with the same rights.
use Rattle.std.specs.Prelude.{◌≡◌, ◌≢◌, ℕ, ◌+◌, ◌<◌, ◌≤◌, nat_le, Bool, true, ◌&&◌, ◌||◌, List}
use Rattle.std.specs.List.{list_any, All, AllPairs}
use Rattle.cap_words.specs.declared.TheConstants.{LAST_PLACE}
use Rattle.authority_report.specs.declared.spans.Rights.{Rights}
use Rattle.authority_report.specs.declared.spans.ReachSpan.{ReachSpan}

abbrev pub rights_of : ReachSpan → Rights
rights_of s = record { read = s.read; write = s.write; run = s.run }

abbrev pub span_has : ReachSpan → ℕ → Bool
span_has s a = nat_le s.base a && nat_le a s.end

-- whether a span has the right and is over the place
abbrev pub allows : (Rights → Bool) → List ReachSpan → ℕ → Bool
allows right spans a = list_any (λ s. right (rights_of s) && span_has s a) spans

abbrev pub any_right : Rights → Bool
any_right r = r.read || (r.write || r.run)

-- a span is not empty, is within the places, and has a right
pub record IsSpan (s : ReachSpan) : Type 0 where
  pub some : s.base ≤ s.end
  pub inside : s.end ≤ LAST_PLACE
  pub right : any_right (rights_of s) ≡ true

-- the one is before the other, and they don't meet with the same rights
pub record Before (s t : ReachSpan) : Type 0 where
  pub below : s.end < t.base
  pub maximal : s.end + 1 ≡ t.base → rights_of s ≢ rights_of t

-- maximal, disjoint, ascending
pub record AreTidy (spans : List ReachSpan) : Type 0 where
  pub each : All IsSpan spans
  pub apart : AllPairs Before spans
