-- Where a list that ascends by a key passes a bound.
use Rattle.std.specs.Prelude.{ℕ, ◌<◌, ◌≤◌, List, length, slice_index_or}

-- the items before this index are below the bound, and the others are not
pub record IsSplitAt {A : Type 0} (key : A → ℕ) (bound : ℕ) (items : List A) (index : ℕ) : Type 0 where
  pub within : index ≤ length items
  pub below : (i : ℕ) (d : A) → i < index → key (slice_index_or items i d) < bound
  pub others : (i : ℕ) (d : A) → index ≤ i → i < length items → bound ≤ key (slice_index_or items i d)
