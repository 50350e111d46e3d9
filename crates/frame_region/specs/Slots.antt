-- How the frames lie in the two vectors.
use Rattle.std.specs.Prelude.{◌≡◌, ◌≤◌, ◌<◌, ◌^◌, ℕ, ◌+◌, List, [], ◌∷◌, take, drop, length, reverse}
use Rattle.std.specs.Vec.{vec_capacity}
use Rattle.frame_region.specs.Frames.{FrameSeen}
use Rattle.frame_region.specs.declared.Slot.{Slot}
use Rattle.frame_region.specs.declared.Region.TheInside.{Inside}

-- the frames of slots, the newest first, over all items, the oldest first
abbrev pub stacked : {H T : Type 0} → List (Slot H) → List T → List (FrameSeen H T)
stacked [] ts = []
stacked (s ∷ ss) ts =
    record { head = s.head; size = s.size; items = take s.size (drop s.start ts) } ∷ stacked ss ts

-- slots, the newest first, lie one on the other up to an index, none of them empty
abbrev pub Lie : {H : Type 0} → List (Slot H) → ℕ → Type 0
Lie [] top = top ≡ 0
Lie (s ∷ ss) top = (s.start + s.size ≡ top) × (1 ≤ s.size) × Lie ss s.start

-- the items fill all frames but the newest, and that up to some place
abbrev pub Fill : {H : Type 0} → List (Slot H) → ℕ → ℕ → Type 0
Fill [] top n = n ≡ 0
Fill (s ∷ ss) top n = (s.start ≤ n) × (n ≤ top)

-- both vectors have room for as many as there are cells: a frame has at least one cell
pub record IsStored {H T : Type 0} (r : Inside H T) : Type 0 where
  pub lie : Lie (reverse r.slots.items) r.used
  pub fill : Fill (reverse r.slots.items) r.used (length r.items.items)
  pub within : r.used ≤ r.cells
  pub fits : r.cells < 2 ^ 32
  pub slots_room : r.cells ≤ vec_capacity r.slots
  pub items_room : r.cells ≤ vec_capacity r.items
