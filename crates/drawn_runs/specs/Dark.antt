-- What is dark in the picture of a text: the boxes of frames that stand after a line.
use Rattle.std.specs.Prelude.{◌≡◌, ℕ, ◌+◌, ◌<◌, ◌≤◌, nat_le, Bool, false, ◌&&◌, List, filter, flat_map}
use Rattle.std.specs.List.{Contains}
use Rattle.run_picture.specs.Shapes.{Shape, box, line, label, Group}
use Rattle.run_picture.specs.Events.{events}
use Rattle.run_picture.specs.Page.{PageSeen, x, y}
use Rattle.run_picture.specs.HeightLaws.{IsCut}
use Rattle.run_picture.specs.Picture.{page_for}
use Rattle.run_picture.specs.Laws.{is_frame, boxes_of, groups_of}

abbrev pub page : List ℕ → PageSeen
page text = page_for (events text)

-- a box that reaches from the m-th line to the next
abbrev pub stands_behind : PageSeen → ℕ → Shape → Bool
stands_behind p m (box c left top right low) = nat_le left (x p m) && nat_le (x p (m + 1)) right
stands_behind p m (line c x1 y1 x2 y2) = false
stands_behind p m (label c left top s) = false

-- of the boxes of frames in the picture of a text, those that do, in the order of their lines
abbrev pub boxes_behind : List ℕ → ℕ → List Shape
boxes_behind text m =
    filter (stands_behind (page text) m)
    (flat_map (λ (g : Group). boxes_of is_frame g.shapes) (groups_of (events text)))

-- a box that is drawn over a range of addresses
abbrev pub IsOver : PageSeen → Shape → ℕ → ℕ → Type 0
IsOver p (box c left top right low) base last = (top ≡ y p (last + 1)) × (low ≡ y p base)
IsOver p (line c x1 y1 x2 y2) base last = ⊥
IsOver p (label c left top s) base last = ⊥

-- an address has a row, the stretch between the marks of the page around it, where it isn't below them all
abbrev pub HasRow : PageSeen → ℕ → Type 0
HasRow p a = (c : ℕ) × IsCut c p.cuts × (c ≤ a)

-- its row lies in a box, by the low edge
abbrev pub IsIn : PageSeen → Shape → ℕ → Type 0
IsIn p (box c left top right low) a = (top < y p a) × (y p a ≤ low)
IsIn p (line c x1 y1 x2 y2) a = ⊥
IsIn p (label c left top s) a = ⊥

-- after the m-th line an address is dark: its row lies in a box of a frame that stands there
pub record IsDark (text : List ℕ) (m a : ℕ) : Type 0 where
  pub row : HasRow (page text) a
  pub frame : Shape
  pub stands : Contains (boxes_behind text m) frame
  pub within : IsIn (page text) frame a
