-- The shapes of each line of a run.
use Rattle.std.specs.Prelude.{ℕ, ◌+◌, ◌*◌, ◌/◌, ◌%◌, ◌==◌, nat_lt, nat_le, ◌||◌, List, [], ◌∷◌, ◌++◌, length}
use Rattle.std.specs.Prelude.{take, decimal, Option, Some, None, unwrap_or, if◌then◌else◌}
use Rattle.line_fields.specs.Cuts.{cut}
use Rattle.line_fields.specs.Fields.{fields}
use Rattle.run_picture.specs.declared.class.Class.{Class}
use Rattle.run_picture.specs.declared.class.Class.TheVariants as class
use Rattle.run_picture.specs.declared.turn.Side.{Side}
use Rattle.run_picture.specs.declared.turn.Side.TheVariants.{Trusted, Outside}
use Rattle.run_picture.specs.declared.turn.Extent.{Extent}
use Rattle.run_picture.specs.declared.turn.Turn.{Turn}
use Rattle.run_picture.specs.declared.turn.Turn.TheVariants.{Call, Ret, Enter, Leave, Other}
use Rattle.run_picture.specs.Shapes.{Shape, box, line, label, Group}
use Rattle.run_picture.specs.Turns.{side_before, side_behind}
use Rattle.run_picture.specs.Events.{EventSeen, closing}
use Rattle.run_picture.specs.Held.{HeldSeen, held_after, shown}
use Rattle.run_picture.specs.Page.{PageSeen, x, y, bottom, middle}

abbrev pub class_of : Side → Class
class_of Trusted = class.Trusted
class_of Outside = class.Outside

-- ---- in the lanes

-- who acts after a line
unfoldable pub acts : PageSeen → ℕ → Turn → List Shape
acts p n t =
    line class.Acts (x p n) (middle (side_behind t)) (x p (n + 1)) (middle (side_behind t)) ∷ []

abbrev pub arrow_between : ℕ → Side → Side → List Shape
arrow_between at Trusted Outside = line class.Arrow at 115 at 229 ∷ []
arrow_between at Outside Trusted = line class.Arrow at 235 at 121 ∷ []
arrow_between at Trusted Trusted = []
arrow_between at Outside Outside = []

-- control crosses the border
unfoldable pub arrow : PageSeen → ℕ → Turn → List Shape
arrow p n t = arrow_between (x p n) (side_before t) (side_behind t)

-- the line's number, of each line or of each fiftieth
unfoldable pub number : PageSeen → ℕ → List Shape
number p n =
    if nat_le 44 p.column || n % 50 == 0 then label class.Note (x p n) 92 (decimal n) ∷ [] else []

-- fields below one another, as far as they fit: each byte takes 8 px
abbrev pub rows : ℕ → ℕ → ℕ → List (List ℕ) → List Shape
rows bytes at top [] = []
rows bytes at top (f ∷ fs) =
    if nat_lt top 210 then label class.Note at top (take bytes f) ∷ rows bytes at (top + 14) fs else []

-- the line's first fields
unfoldable pub told_beside : PageSeen → ℕ → List ℕ → List Shape
told_beside p n l = if nat_le 44 p.column then rows (p.column / 8) (x p n + 6) 146 (fields l) else []

-- ---- on the stack

abbrev pub area_below : PageSeen → ℕ → Side → Option ℕ → List Shape
area_below p n side None = []
area_below p n side (Some top) = box (class_of side) (x p n) (y p top) (x p (n + 1)) (bottom p) ∷ []

-- what was handed over to who acts after a line
unfoldable pub area : PageSeen → ℕ → Turn → Option ℕ → List Shape
area p n t top = area_below p n (side_behind t) top

-- a frame, from its call to the line that closes it, so many lines after
abbrev pub frame_box : PageSeen → ℕ → Extent → Option ℕ → Shape
frame_box p n span (Some k) = box class.Closed (x p n) (y p (span.last + 1)) (x p (n + k)) (y p span.base)
frame_box p n span None = box class.Open (x p n) (y p (span.last + 1)) (x p p.count + 14) (y p span.base)

abbrev pub behind_blank : Option (List ℕ × List ℕ) → List ℕ
behind_blank None = []
behind_blank (Some both) = both.1

-- what a call line tells after its direction
abbrev pub told_of : List ℕ → List ℕ
told_of l = behind_blank (cut 32 (behind_blank (cut 32 l)))

-- in a frame that is so many columns wide, where it is high enough
unfoldable pub told_inside : PageSeen → ℕ → Extent → ℕ → List ℕ → List Shape
told_inside p n span k l =
    if nat_le (y p (span.last + 1) + 14) (y p span.base) then
    label class.Inside (x p n + 4) (y p (span.last + 1) + 12) (take (p.column * k / 8) (told_of l)) ∷ []
    else []

unfoldable pub call_frame : PageSeen → ℕ → Extent → List ℕ → List EventSeen → List Shape
call_frame p n span l es =
    if nat_le span.base span.last then
    frame_box p n span (closing es)
    ∷ told_inside p n span (unwrap_or (closing es) (length es)) l
    else []

unfoldable pub ret_edge : PageSeen → ℕ → Extent → List Shape
ret_edge p n span =
    if nat_le span.base span.last then
    line class.Edge (x p n) (y p (span.last + 1)) (x p n) (y p span.base) ∷ []
    else []

-- a call's frame where its range isn't empty, or the edge by which its return closes it
abbrev pub frame : PageSeen → ℕ → Turn → List ℕ → List EventSeen → List Shape
frame p n (Call side span) l es = call_frame p n span l es
frame p n (Ret side span) l es = ret_edge p n span
frame p n (Enter end) l es = []
frame p n Leave l es = []
frame p n Other l es = []

-- ---- lines

-- of the n-th line, where this is handed over, and these lines come after it
unfoldable pub line_shapes : PageSeen → ℕ → Turn → List ℕ → Option ℕ → List EventSeen → List Shape
line_shapes p n t l top es =
    area p n t top ++ acts p n t ++ arrow p n t ++ number p n ++ told_beside p n l ++ frame p n t l es

-- of the end line
unfoldable pub end_shapes : PageSeen → ℕ → List ℕ → List Shape
end_shapes p n l = line class.End (x p n) 80 (x p n) (bottom p) ∷ rows 48 (x p n + 8) 146 (fields l)

abbrev pub group_of : List ℕ → List Shape → Group
group_of title shapes = record { title = title; shapes = shapes }

-- of lines from the n-th on, where this is held before them
abbrev pub groups : PageSeen → ℕ → HeldSeen → List EventSeen → List Group
groups p n h [] = []
groups p n h (e ∷ []) = group_of e.line (end_shapes p n e.line) ∷ []
groups p n h (e ∷ f ∷ es) =
    let after = held_after h e.turn in
    group_of e.line (line_shapes p n e.turn e.line (shown after) (f ∷ es)) ∷ groups p (n + 1) after (f ∷ es)
