-- Shapes, and the text of each. Lengths are in px; x grows to the right and y downwards.
use Rattle.std.specs.Prelude.{ℕ, ◌==◌, List, [], ◌∷◌, ◌++◌, codes, decimal, flat_map, Option, Some, None}
use Rattle.std.specs.Prelude.{if◌then◌else◌}
use Rattle.std.specs.Str.{bytes_eq}
use Rattle.run_picture.specs.declared.class.Class.{Class}
use Rattle.run_picture.specs.Class.{class_name}

-- ---- bytes in a text

-- & < > " as references
abbrev pub escaped_byte : ℕ → List ℕ
escaped_byte b =
    if b == 38 then codes "&amp;"
    else if b == 60 then codes "&lt;"
    else if b == 62 then codes "&gt;"
    else if b == 34 then codes "&quot;"
    else b ∷ []

abbrev pub escaped : List ℕ → List ℕ
escaped s = flat_map escaped_byte s

-- the byte that a reference names
abbrev pub named : List ℕ → ℕ
named name =
    if bytes_eq name (codes "amp") then 38
    else if bytes_eq name (codes "lt") then 60
    else if bytes_eq name (codes "gt") then 62
    else 34

-- from left to right, with the name of the reference that was begun, if any
abbrev pub unescaped_behind : Option (List ℕ) → List ℕ → List ℕ
unescaped_behind o [] = []
unescaped_behind None (b ∷ bs) =
    if b == 38 then unescaped_behind (Some []) bs else b ∷ unescaped_behind None bs
unescaped_behind (Some name) (b ∷ bs) =
    if b == 59 then named name ∷ unescaped_behind None bs
    else unescaped_behind (Some (name ++ b ∷ [])) bs

-- what a reader of SVG takes a text for
abbrev pub unescaped : List ℕ → List ℕ
unescaped s = unescaped_behind None s

-- ---- shapes

pub data Shape : Type 0 where
  -- a rectangle by its left, top, right and low edge
  box : Class → ℕ → ℕ → ℕ → ℕ → Shape
  -- from a point to a point
  line : Class → ℕ → ℕ → ℕ → ℕ → Shape
  -- a text that begins at a point
  label : Class → ℕ → ℕ → List ℕ → Shape

-- the front of an element, with its class
abbrev pub front_text : List ℕ → Class → List ℕ
front_text front c = front ++ class_name c

-- a mark, and a number
abbrev pub marked : List ℕ → ℕ → List ℕ
marked mark n = mark ++ decimal n

unfoldable pub box_text : Class → ℕ → ℕ → ℕ → ℕ → List ℕ
box_text c left top right low =
    front_text (codes "<path class=\"") c ++ marked (codes "\" d=\"M") left ++ marked (codes " ") top
    ++ marked (codes "H") right ++ marked (codes "V") low ++ marked (codes "H") left ++ codes "z\"/>"

unfoldable pub line_text : Class → ℕ → ℕ → ℕ → ℕ → List ℕ
line_text c x1 y1 x2 y2 =
    front_text (codes "<path class=\"") c ++ marked (codes "\" d=\"M") x1 ++ marked (codes " ") y1
    ++ marked (codes "L") x2 ++ marked (codes " ") y2 ++ codes "\"/>"

unfoldable pub label_text : Class → ℕ → ℕ → List ℕ → List ℕ
label_text c x y s =
    front_text (codes "<text class=\"") c ++ marked (codes "\" x=\"") x ++ marked (codes "\" y=\"") y
    ++ codes "\">" ++ escaped s ++ codes "</text>"

abbrev pub shape_text : Shape → List ℕ
shape_text (box c left top right low) = box_text c left top right low
shape_text (line c x1 y1 x2 y2) = line_text c x1 y1 x2 y2
shape_text (label c x y s) = label_text c x y s

abbrev pub shapes_text : List Shape → List ℕ
shapes_text [] = []
shapes_text (s ∷ ss) = shape_text s ++ shapes_text ss

-- the front of a group, with its title
abbrev pub title_text : List ℕ → List ℕ
title_text title = codes "<g><title>" ++ escaped title ++ codes "</title>"

-- shapes under a title
pub record Group : Type 0 where
  pub title : List ℕ
  pub shapes : List Shape

unfoldable pub group_text : List ℕ → List Shape → List ℕ
group_text title shapes = title_text title ++ shapes_text shapes ++ codes "</g>\n"

abbrev pub groups_text : List Group → List ℕ
groups_text [] = []
groups_text (g ∷ gs) = group_text g.title g.shapes ++ groups_text gs
