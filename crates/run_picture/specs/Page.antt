-- Where things stand on the page, in px.
use Rattle.std.specs.Prelude.{ℕ, ◌+◌, ◌*◌, ◌≤◌, nat_le, List, length, if◌then◌else◌}
use Rattle.run_picture.specs.declared.heights.Scale.{Scale}
use Rattle.run_picture.specs.declared.turn.Side.{Side}
use Rattle.run_picture.specs.declared.turn.Side.TheVariants.{Trusted, Outside}
use Rattle.run_picture.specs.Heights.{below, scale_of}

-- how wide the column of a line is, how many lines there are, the scale of addresses, and the cuts
pub record PageSeen : Type 0 where
  pub column : ℕ
  pub count : ℕ
  pub scale : Scale
  pub cuts : List ℕ

-- it is of at most 16,384 lines
abbrev pub IsPage : ℕ → ℕ → ℕ → ℕ → ℕ → Type 0
IsPage column count most px cuts =
    (column ≤ 216) × (count ≤ 16384) × (most ≤ 16) × (px ≤ 16) × (cuts ≤ 32768)

-- the fewer lines, the wider
abbrev pub column_of : ℕ → ℕ
column_of count =
    if nat_le count 5 then 216
    else if nat_le count 12 then 136
    else if nat_le count 30 then 92
    else if nat_le count 80 then 44
    else if nat_le count 400 then 16
    else if nat_le count 2000 then 6
    else 2

abbrev pub page_of : List ℕ → ℕ → PageSeen
page_of cs count = record { column = column_of count; count = count; scale = scale_of cs; cuts = cs }

-- the left edge of the n-th line
abbrev pub x : PageSeen → ℕ → ℕ
x p n = 132 + p.column * n

-- the low edge of an address above, and the top edge of the one below
abbrev pub y : PageSeen → ℕ → ℕ
y p a = 284 + p.scale.px * below p.scale.most p.cuts a

-- below all that is drawn
abbrev pub bottom : PageSeen → ℕ
bottom p = y p 0 + 44

unfoldable pub width : PageSeen → ℕ
width p = x p p.count + 400

unfoldable pub height : PageSeen → ℕ
height p = bottom p + 16

-- the middle of a lane
abbrev pub middle : Side → ℕ
middle Trusted = 115
middle Outside = 235
