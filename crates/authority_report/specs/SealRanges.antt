-- The seals of a report.
use Rattle.std.specs.Prelude.{ℕ, ◌+◌, ◌-◌, ◌<◌, ◌≤◌, Bool, IsTrue, List}
use Rattle.std.specs.List.{list_any, All, AllPairs}
use Rattle.cap_words.specs.declared.Word.{Word}
use Rattle.cap_words.specs.declared.TheConstants.{LAST_PLACE, LONGEST_STRETCH}
use Rattle.cap_words.specs.Stretch.{Stretch}
use Rattle.seal_space.specs.Seals.{has_seal}
use Rattle.lcm_machine.specs.Maps.{State}
use Rattle.linked_starts.specs.declared.owners.Owner.{Owner}
use Rattle.authority_report.specs.declared.set.Stretch.{Stretch as FromTo}
use Rattle.authority_report.specs.Reaches.{SealsWith}

-- a seal of one of the ranges
abbrev pub is_in : List Stretch → ℕ → Bool
is_in ranges n = list_any (λ r. has_seal r n) ranges

-- not empty, and within the seals
pub record IsRange (r : Stretch) : Type 0 where
  pub some : 1 ≤ r.count
  pub inside : r.base + r.count ≤ LAST_PLACE + 1

-- maximal, disjoint, ascending: at least one seal lies between two
pub record AreRanges (ranges : List Stretch) : Type 0 where
  pub each : All IsRange ranges
  pub apart : AllPairs (λ r q. r.base + r.count < q.base) ranges

-- each seal that a part can seal by is one of its return seals
abbrev pub SealsAreOwn : State Word → Owner → Type 0
SealsAreOwn m o = (n : ℕ) → SealsWith m o n → IsTrue (has_seal o.seals n)

-- ---- from stretches of places

abbrev pub range_of : FromTo → Stretch
range_of s = record { base = s.base; count = s.end - s.base + 1 }

-- not empty, within the seals, and no more than a range may have
pub record Fits (s : FromTo) : Type 0 where
  pub some : s.base ≤ s.end
  pub inside : s.end ≤ LAST_PLACE
  pub few : s.end < s.base + LONGEST_STRETCH
