-- A table of 65,536 bits, and the linear area's addresses that are marked in it.
use Rattle.std.specs.Prelude.{◌≡◌, ℕ, ◌+◌, ◌/◌, ◌%◌, ◌<◌, ◌≤◌, ◌==◌, nat_le, nat_lt, Bool, false, ◌&&◌, ◌||◌}
use Rattle.std.specs.Prelude.{List, slice_index, Option, Some, None, is_some}
use Rattle.std.specs.Int.{bit_at}
use Rattle.cap_words.specs.declared.TheConstants.{LONGEST_STRETCH}
use Rattle.cap_words.specs.declared.CapFields.{CapFields}
use Rattle.cap_words.specs.Face.{SomeCapInOrder}
use Rattle.component_file.specs.declared.component.ComponentFields.{ComponentFields}
use Rattle.component_check.specs.Places.{first_below}
use Rattle.component_check.specs.Rules.{linear_at}

-- the bit of this number is set
abbrev pub is_marked : List ℕ → ℕ → Bool
is_marked bits k = bit_at (slice_index bits (k / 64)) (k % 64) == 1

-- the numbers from one on, and below another
abbrev pub is_among : ℕ → ℕ → ℕ → Bool
is_among from to k = nat_le from k && nat_lt k to

-- marked are those that were, and each number that the test tells
abbrev pub MarkedToo : List ℕ → List ℕ → (ℕ → Bool) → Type 0
MarkedToo old new test = (k : ℕ) → k < LONGEST_STRETCH → is_marked new k ≡ (test k || is_marked old k)

-- the address is one of the capability's
abbrev pub has_address : Option CapFields → ℕ → Bool
has_address (Some m) address = nat_le m.base address && nat_le address m.end
has_address None address = false

-- one of the linear capabilities before index j is over the address
abbrev pub is_taken : ComponentFields → ℕ → ℕ → Bool
is_taken c j address = is_some (first_below (λ i. has_address (linear_at c i) address) j)

-- marked are the addresses of the linear capabilities before index j, counted from the linear area's first
pub record Taken (c : ComponentFields) (bits : List ℕ) (j : ℕ) : Type 0 where
  pub marks : (k : ℕ) → k < LONGEST_STRETCH → is_marked bits k ≡ is_taken c j (c.linear.base + k)
  pub in_order : (i : ℕ) → i < j → SomeCapInOrder (linear_at c i)

-- it lies in the linear area
abbrev pub IsInArea : ComponentFields → CapFields → Type 0
IsInArea c m = (c.linear.base ≤ m.base) × (m.base ≤ m.end) × (m.end < c.linear.base + LONGEST_STRETCH)
