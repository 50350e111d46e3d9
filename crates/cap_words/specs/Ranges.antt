-- Ranges of addresses or of seals, by their first and last ones.
use Rattle.std.specs.Prelude.{ℕ, ◌≤◌, nat_le, Bool, false, ◌&&◌, ℤ, pos, negsuc}
use Rattle.cap_words.specs.declared.TheConstants.{LAST_PLACE}

-- a range that is not empty, within the addresses or seals that there are
abbrev pub IsRange : ℕ → ℕ → Type 0
IsRange base end = (base ≤ end) × (end ≤ LAST_PLACE)

-- within a range, both ends included
abbrev pub in_range : ℕ → ℕ → ℤ → Bool
in_range base end (pos n) = nat_le base n && nat_le n end
in_range base end (negsuc n) = false
