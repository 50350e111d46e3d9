-- Frames as a list, the newest first, each with its head, its size and the items that it has so far.
use Rattle.std.specs.Prelude.{◌≡◌, ◌<◌, ℕ, ◌+◌, List, [], ◌∷◌, ◌++◌, length, Option, Some, None, option_map}
use Rattle.std.specs.Prelude.{slice_get, refl}
use Rattle.std.specs.Coded.{Coded, code_by, coded×, coded_ℕ, coded_list}

pub record FrameSeen (H : Type 0) (T : Type 0) : Type 0 where
  pub head : H
  pub size : ℕ
  pub items : List T

-- the frames, and how many cells there are for the items of all of them
pub record RegionSeen (H : Type 0) (T : Type 0) : Type 0 where
  pub frames : List (FrameSeen H T)
  pub cells : ℕ

abbrev pub frame_code : {H T : Type 0} → Coded H → Coded T → Coded (FrameSeen H T)
frame_code {H} {T} h t =
    code_by (H × (ℕ × List T)) (coded× h (coded× coded_ℕ (coded_list t)))
    (λ f. (f.head, (f.size, f.items))) (λ p. record { head = p.0; size = p.1.0; items = p.1.1 }) (λ _. refl)

abbrev pub region_code : {H T : Type 0} → Coded H → Coded T → Coded (RegionSeen H T)
region_code {H} {T} h t =
    code_by (List (FrameSeen H T) × ℕ) (coded× (coded_list (frame_code h t)) coded_ℕ)
    (λ r. (r.frames, r.cells)) (λ p. record { frames = p.0; cells = p.1 }) (λ _. refl)

-- the sizes of all frames together
abbrev pub sizes : {H T : Type 0} → List (FrameSeen H T) → ℕ
sizes [] = 0
sizes (f ∷ fs) = f.size + sizes fs

-- there is no frame, or the newest has as many items as its size
abbrev pub IsNewestFull : {H T : Type 0} → List (FrameSeen H T) → Type 0
IsNewestFull [] = Unit {0}
IsNewestFull (f ∷ fs) = length f.items ≡ f.size

-- there is a frame, and the newest has fewer items than its size
abbrev pub IsNewestOpen : {H T : Type 0} → List (FrameSeen H T) → Type 0
IsNewestOpen [] = ⊥
IsNewestOpen (f ∷ fs) = length f.items < f.size

-- there is a frame, and the newest has items
abbrev pub HasNewestItem : {H T : Type 0} → List (FrameSeen H T) → Type 0
HasNewestItem [] = ⊥
HasNewestItem (f ∷ fs) = 0 < length f.items

-- there is a frame, and the newest has none
abbrev pub IsNewestEmpty : {H T : Type 0} → List (FrameSeen H T) → Type 0
IsNewestEmpty [] = ⊥
IsNewestEmpty (f ∷ fs) = f.items ≡ []

-- a new newest frame, without items
abbrev pub with_frame : {H T : Type 0} → List (FrameSeen H T) → H → ℕ → List (FrameSeen H T)
with_frame fs h n = record { head = h; size = n; items = [] } ∷ fs

-- one more item in the newest frame, after those that it has
abbrev pub with_item : {H T : Type 0} → List (FrameSeen H T) → T → List (FrameSeen H T)
with_item [] x = []
with_item (f ∷ fs) x = record f { items = f.items ++ x ∷ [] } ∷ fs

-- the head and the size of the newest frame
abbrev pub newest_of : {H T : Type 0} → List (FrameSeen H T) → Option (H × ℕ)
newest_of [] = None
newest_of (f ∷ fs) = Some (f.head, f.size)

abbrev pub newest_head : {H T : Type 0} → List (FrameSeen H T) → Option H
newest_head [] = None
newest_head (f ∷ fs) = Some f.head

-- the frames but the newest
abbrev pub older : {H T : Type 0} → List (FrameSeen H T) → List (FrameSeen H T)
older [] = []
older (f ∷ fs) = fs

-- an item of the newest frame
abbrev pub item_of : {H T : Type 0} → List (FrameSeen H T) → ℕ → Option T
item_of [] i = None
item_of (f ∷ fs) i = slice_get f.items i

-- the head of a frame, counted from the newest
abbrev pub head_of : {H T : Type 0} → List (FrameSeen H T) → ℕ → Option H
head_of fs i = option_map (λ f. f.head) (slice_get fs i)

-- an item of a frame, the frame counted from the newest
abbrev pub item_there : {H T : Type 0} → Option (FrameSeen H T) → ℕ → Option T
item_there None i = None
item_there (Some f) i = slice_get f.items i

abbrev pub item_at : {H T : Type 0} → List (FrameSeen H T) → ℕ → ℕ → Option T
item_at fs k i = item_there (slice_get fs k) i
