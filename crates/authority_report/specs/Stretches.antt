-- The stretches of a set.
use Rattle.std.specs.Prelude.{◌≡◌, ℕ, ◌+◌, ◌<◌, ◌≤◌, nat_lt, ◌&&◌, List, false}
use Rattle.std.specs.List.{All, AllPairs}
use Rattle.cap_words.specs.declared.TheConstants.{LAST_PLACE}
use Rattle.authority_report.specs.declared.set.Stretch.{Stretch}
use Rattle.authority_report.specs.Has.{has}
use Rattle.authority_report.specs.Takes.{is_left}

-- not empty, and within the places
pub record IsStretch (s : Stretch) : Type 0 where
  pub some : s.base ≤ s.end
  pub inside : s.end ≤ LAST_PLACE

-- maximal, disjoint, ascending: at least one place lies between two
pub record AreStretches (list : List Stretch) : Type 0 where
  pub each : All IsStretch list
  pub apart : AllPairs (λ s t. s.end + 1 < t.base) list

-- a stretch that ended before a place: where it ended right before it, the place isn't in the set
pub record EndedBefore (set : List ℕ) (at : ℕ) (s : Stretch) : Type 0 where
  pub before : s.end < at
  pub other : s.end + 1 ≡ at → at ≤ LAST_PLACE → has set at ≡ false

-- the stretches of the places before this one
pub record Found (set : List ℕ) (at : ℕ) (list : List Stretch) : Type 0 where
  pub apart : AreStretches list
  pub closed : All (EndedBefore set at) list
  pub are : (a : ℕ) → is_left list a ≡ (nat_lt a at && has set a)
