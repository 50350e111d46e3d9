-- What holds of every picture.
use Rattle.std.specs.Prelude.{◌≡◌, ◌↔◌, ℕ, ◌+◌, ◌<◌, ◌≤◌, nat_le, Bool, true, false, List, [], ◌∷◌, ◌++◌, map}
use Rattle.std.specs.Prelude.{length, Option, Some, None, if◌then◌else◌}
use Rattle.run_picture.specs.declared.class.Class.{Class}
use Rattle.run_picture.specs.declared.class.Class.TheVariants.{Trusted, Outside, Closed, Open, Edge, Acts}
use Rattle.run_picture.specs.declared.class.Class.TheVariants.{Arrow, Rule, End, Note, Inside}
use Rattle.run_picture.specs.declared.turn.Turn.{Turn}
use Rattle.run_picture.specs.declared.turn.Turn.TheVariants.{Call, Ret, Enter, Leave, Other}
use Rattle.run_picture.specs.Shapes.{escaped, unescaped, Shape, box, line, label, Group}
use Rattle.line_fields.specs.Fields.{lines}
use Rattle.run_picture.specs.Events.{EventSeen, closing, events}
use Rattle.run_picture.specs.Turns.{side_behind}
use Rattle.run_picture.specs.Held.{HeldSeen, nothing_held, held_after, shown}
use Rattle.run_picture.specs.Page.{PageSeen}
use Rattle.run_picture.specs.Groups.{frame_box, area_below, groups}
use Rattle.run_picture.specs.Picture.{page_for}

-- ---- titles

-- a text is taken for what was written
abbrev pub EscapesAreRead : Type 0
EscapesAreRead = (s : List ℕ) → unescaped (escaped s) ≡ s

-- the groups of lines
abbrev pub groups_of : List EventSeen → List Group
groups_of es = groups (page_for es) 1 nothing_held es

-- one for each line, which is its title
abbrev pub TitlesAreLines : Type 0
TitlesAreLines = (es : List EventSeen) → map (λ (g : Group). g.title) (groups_of es)
    ≡ map (λ (e : EventSeen). e.line) es

-- lines, each with its newline
abbrev pub ended_text : List (List ℕ) → List ℕ
ended_text [] = []
ended_text (t ∷ ts) = t ++ 10 ∷ ended_text ts

-- what stands after the last newline of a text
abbrev pub last_of : List (List ℕ) → List ℕ
last_of [] = []
last_of (t ∷ []) = t
last_of (t ∷ u ∷ us) = last_of (u ∷ us)

-- the titles, each with a newline, are the text
abbrev pub TitlesAreTheText : Type 0
TitlesAreTheText = (text : List ℕ)
    → ended_text (map (λ (g : Group). g.title) (groups_of (events text))) ++ last_of (lines text) ≡ text

-- ---- boxes

abbrev pub is_frame : Class → Bool
is_frame Trusted = false
is_frame Outside = false
is_frame Closed = true
is_frame Open = true
is_frame Edge = false
is_frame Acts = false
is_frame Arrow = false
is_frame Rule = false
is_frame End = false
is_frame Note = false
is_frame Inside = false

abbrev pub is_area : Class → Bool
is_area Trusted = true
is_area Outside = true
is_area Closed = false
is_area Open = false
is_area Edge = false
is_area Acts = false
is_area Arrow = false
is_area Rule = false
is_area End = false
is_area Note = false
is_area Inside = false

-- those of shapes that are boxes of such a class
abbrev pub boxes_of : (Class → Bool) → List Shape → List Shape
boxes_of test [] = []
boxes_of test (box c left top right low ∷ ss) =
    if test c then box c left top right low ∷ boxes_of test ss else boxes_of test ss
boxes_of test (line c x1 y1 x2 y2 ∷ ss) = boxes_of test ss
boxes_of test (label c x y s ∷ ss) = boxes_of test ss

-- the box of a line after which these come: of a call whose range isn't empty, from its line to the one
-- that closes it
abbrev pub box_due : PageSeen → ℕ → Turn → List EventSeen → List Shape
box_due p n (Call side span) es =
    if nat_le span.base span.last then frame_box p n span (closing es) ∷ [] else []
box_due p n (Ret side span) es = []
box_due p n (Enter end) es = []
box_due p n Leave es = []
box_due p n Other es = []

-- those of lines from the n-th on, of which the last is the end line
abbrev pub boxes_due : PageSeen → ℕ → List EventSeen → List (List Shape)
boxes_due p n [] = []
boxes_due p n (e ∷ []) = [] ∷ []
boxes_due p n (e ∷ f ∷ es) = box_due p n e.turn (f ∷ es) ∷ boxes_due p (n + 1) (f ∷ es)

abbrev pub OneBoxEach : Type 0
OneBoxEach = (es : List EventSeen) → map (λ (g : Group). boxes_of is_frame g.shapes) (groups_of es)
    ≡ boxes_due (page_for es) 1 es

-- the areas of lines from the n-th on: what is handed over to who acts after each, below the newest frame
abbrev pub areas_due : PageSeen → ℕ → HeldSeen → List EventSeen → List (List Shape)
areas_due p n h [] = []
areas_due p n h (e ∷ []) = [] ∷ []
areas_due p n h (e ∷ f ∷ es) =
    let after = held_after h e.turn in
    area_below p n (side_behind e.turn) (shown after) ∷ areas_due p (n + 1) after (f ∷ es)

abbrev pub OneAreaEach : Type 0
OneAreaEach = (es : List EventSeen) → map (λ (g : Group). boxes_of is_area g.shapes) (groups_of es)
    ≡ areas_due (page_for es) 1 nothing_held es

-- ---- where a call is closed

abbrev pub IsCall : Turn → Type 0
IsCall (Call side span) = Unit {0}
IsCall (Ret side span) = ⊥
IsCall (Enter end) = ⊥
IsCall Leave = ⊥
IsCall Other = ⊥

abbrev pub IsRet : Turn → Type 0
IsRet (Call side span) = ⊥
IsRet (Ret side span) = Unit {0}
IsRet (Enter end) = ⊥
IsRet Leave = ⊥
IsRet Other = ⊥

abbrev pub IsNeither : Turn → Type 0
IsNeither (Call side span) = ⊥
IsNeither (Ret side span) = ⊥
IsNeither (Enter end) = Unit {0}
IsNeither Leave = Unit {0}
IsNeither Other = Unit {0}

-- each call has its return, and each return its call
pub data Closes : List EventSeen → Type 0 where
  none : Closes []
  other : {e : EventSeen} {es : List EventSeen} → IsNeither e.turn → Closes es → Closes (e ∷ es)
  pair : {c : EventSeen} {inner es : List EventSeen} (r : EventSeen) → IsCall c.turn → Closes inner
      → IsRet r.turn
      → Closes es → Closes (c ∷ (inner ++ r ∷ es))

-- the k-th of these lines is the return of the call before them
pub record ClosesAt (es : List EventSeen) (k : ℕ) : Type 0 where
  pub inner : List EventSeen
  pub ret : EventSeen
  pub back : List EventSeen
  pub are : es ≡ inner ++ ret ∷ back
  pub closed : Closes inner
  pub is_ret : IsRet ret.turn
  pub place : k ≡ length inner + 1

-- a box ends at the line that closes its call, and is open exactly where none does
abbrev pub ClosingIsTheReturn : Type 0
ClosingIsTheReturn = (es : List EventSeen) (k : ℕ) → (closing es ≡ Some k) ↔ ClosesAt es k
