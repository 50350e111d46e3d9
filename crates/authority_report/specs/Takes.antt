-- Stretches that were taken into a set and are left to be looked at.
use Rattle.std.specs.Prelude.{◌≡◌, ℕ, ◌+◌, ◌≤◌, nat_le, nat_lt, Bool, ◌&&◌, ◌||◌, not, List, length}
use Rattle.std.specs.List.{list_any}
use Rattle.cap_words.specs.declared.TheConstants.{LAST_PLACE}
use Rattle.authority_report.specs.declared.set.Stretch.{Stretch}
use Rattle.authority_report.specs.Has.{has}
use Rattle.authority_report.specs.Free.{free_below}

abbrev pub is_left : List Stretch → ℕ → Bool
is_left left a = list_any (λ s. nat_le s.base a && nat_le a s.end) left

-- some places were taken, and those of them that are new are left beside the others
pub record Takes (some : ℕ → Bool) (old : List ℕ) (left : List Stretch) (new : List ℕ)
    (more : List Stretch) : Type 0 where
  pub taken : (a : ℕ) → has new a ≡ (some a || has old a)
  pub listed : (a : ℕ) → is_left more a ≡ (is_left left a || (has new a && not (has old a)))
  pub fewer : free_below new (LAST_PLACE + 1) + length more ≤ free_below old (LAST_PLACE + 1) + length left

-- the places of a stretch before one of its places were taken so
abbrev pub TakesFront : ℕ → ℕ → List ℕ → List Stretch → List ℕ → List Stretch → Type 0
TakesFront base end old left new more =
    (place : ℕ) × (base ≤ place) × (place ≤ end)
    × Takes (λ a. nat_le base a && nat_lt a place) old left new more
