-- A group for each line, and in it the box that is due.
use Rattle.std.proofs.Common.{◌≡◌, ℕ, ◌+◌, Bool, true, false, List, [], ◌∷◌, ◌++◌, Option, Some, None}
use Rattle.std.proofs.Common.{refl, ap, ◌∙◌, map, append-nil, append_assoc}
use Rattle.std.specs.Prelude.{nat_le, nat_lt, nat_eq, ◌||◌, if◌then◌else◌, unwrap_or, length, ◌%◌, ◌/◌}
use Rattle.std.specs.List.{join_with_byte}
use Rattle.std.proofs.lemmas.List.Splits.{join_with_byte-slice_split}
use Rattle.line_fields.specs.Cuts.{parts}
use Rattle.line_fields.specs.Fields.{fields, lines}
use Rattle.run_picture.specs.declared.class.Class.{Class}
use Rattle.run_picture.specs.declared.turn.Side.{Side}
use Rattle.run_picture.specs.declared.turn.Side.TheVariants.{Trusted, Outside}
use Rattle.run_picture.specs.declared.turn.Extent.{Extent}
use Rattle.run_picture.specs.declared.turn.Turn.{Turn}
use Rattle.run_picture.specs.declared.turn.Turn.TheVariants.{Call, Ret, Enter, Leave, Other}
use Rattle.run_picture.specs.Shapes.{Shape, box, line, label, Group}
use Rattle.run_picture.specs.Turns.{side_before, side_behind}
use Rattle.run_picture.specs.Events.{EventSeen, closing, events_in, events}
use Rattle.run_picture.specs.Held.{HeldSeen, held_after, nothing_held, shown}
use Rattle.run_picture.specs.Page.{PageSeen, x, y}
use Rattle.run_picture.specs.Groups.{acts, arrow_between, arrow, number, rows, told_beside, area_below, area}
use Rattle.run_picture.specs.Groups.{frame_box, told_inside, call_frame, ret_edge, frame, line_shapes}
use Rattle.run_picture.specs.Groups.{end_shapes, groups}
use Rattle.run_picture.specs.Laws.{is_frame, is_area, boxes_of, box_due, boxes_due, areas_due, OneBoxEach}
use Rattle.run_picture.specs.Laws.{OneAreaEach, TitlesAreLines, TitlesAreTheText, ended_text, last_of}

titles : (p : PageSeen) (n : ℕ) (h : HeldSeen) (es : List EventSeen)
    → map (λ (g : Group). g.title) (groups p n h es) ≡ map (λ (e : EventSeen). e.line) es
titles p n h [] = refl
titles p n h (e ∷ []) = refl
titles p n h (e ∷ f ∷ es) = ap (λ ts. e.line ∷ ts) (titles p (n + 1) (held_after h e.turn) (f ∷ es))

pub titles_are_lines : TitlesAreLines
titles_are_lines es = titles _ 1 nothing_held es

joined : (ts : List (List ℕ))
    → ended_text (map (λ (e : EventSeen). e.line) (events_in ts)) ++ last_of ts ≡ join_with_byte 10 ts
joined [] = refl
joined (t ∷ []) = refl
joined (t ∷ u ∷ us) =
    let rest = ended_text (map (λ (e : EventSeen). e.line) (events_in (u ∷ us))) in
    append_assoc t (10 ∷ rest) (last_of (u ∷ us)) ∙ ap (λ r. t ++ 10 ∷ r) (joined (u ∷ us))

pub titles_are_the_text : TitlesAreTheText
unfolding parts
titles_are_the_text text =
    ap (λ ts. ended_text ts ++ last_of (lines text)) (titles_are_lines (events text))
    ∙ joined (lines text) ∙ join_with_byte-slice_split 10 text

-- ---- boxes among shapes

module _ (test : Class → Bool) where
  box_or : (b : Bool) (s : Shape) (xs ys : List Shape)
      → (if b then s ∷ (boxes_of test xs ++ boxes_of test ys) else boxes_of test xs ++ boxes_of test ys)
      ≡ (if b then s ∷ boxes_of test xs else boxes_of test xs) ++ boxes_of test ys
  box_or true s xs ys = refl
  box_or false s xs ys = refl

  append : (xs ys : List Shape) → boxes_of test (xs ++ ys) ≡ boxes_of test xs ++ boxes_of test ys
  append [] ys = refl
  append (box c left top right low ∷ xs) ys =
      ap (λ zs. if test c then box c left top right low ∷ zs else zs) (append xs ys)
      ∙ box_or (test c) (box c left top right low) xs ys
  append (line c a b d e ∷ xs) ys = append xs ys
  append (label c a b s ∷ xs) ys = append xs ys

  -- shapes without a box, in front of others and after them
  bare : (xs ys : List Shape) → boxes_of test xs ≡ [] → boxes_of test (xs ++ ys) ≡ boxes_of test ys
  bare xs ys h = append xs ys ∙ ap (λ zs. zs ++ boxes_of test ys) h

  bare_behind : (xs ys : List Shape) → boxes_of test ys ≡ [] → boxes_of test (xs ++ ys) ≡ boxes_of test xs
  bare_behind xs ys h =
      append xs ys ∙ ap (λ zs. boxes_of test xs ++ zs) h ∙ append-nil (boxes_of test xs)

  no_box : (xs ys : List Shape) → boxes_of test xs ≡ [] → boxes_of test ys ≡ []
      → boxes_of test (xs ++ ys) ≡ []
  no_box xs ys h k = bare xs ys h ∙ k

  if_bare : (b : Bool) (xs : List Shape) → boxes_of test xs ≡ [] → boxes_of test (if b then xs else []) ≡ []
  if_bare true xs h = h
  if_bare false xs h = refl

  arrow_bare : (at : ℕ) (a b : Side) → boxes_of test (arrow_between at a b) ≡ []
  arrow_bare at Trusted Trusted = refl
  arrow_bare at Trusted Outside = refl
  arrow_bare at Outside Trusted = refl
  arrow_bare at Outside Outside = refl

  rows_bare : (bytes at top : ℕ) (fs : List (List ℕ)) → boxes_of test (rows bytes at top fs) ≡ []
  rows_bare bytes at top [] = refl
  rows_bare bytes at top (f ∷ fs) = if_bare (nat_lt top 210) _ (rows_bare bytes at (top + 14) fs)

  acts_bare : (p : PageSeen) (n : ℕ) (t : Turn) → boxes_of test (acts p n t) ≡ []
  unfolding acts
  acts_bare p n t = refl

  number_bare : (p : PageSeen) (n : ℕ) → boxes_of test (number p n) ≡ []
  unfolding number
  number_bare p n = if_bare (nat_le 44 p.column || nat_eq (n % 50) 0) _ refl

  told_bare : (p : PageSeen) (n : ℕ) (l : List ℕ) → boxes_of test (told_beside p n l) ≡ []
  unfolding told_beside
  told_bare p n l = if_bare (nat_le 44 p.column) _ (rows_bare (p.column / 8) (x p n + 6) 146 (fields l))

  inside_bare : (p : PageSeen) (n : ℕ) (s : Extent) (k : ℕ) (l : List ℕ)
      → boxes_of test (told_inside p n s k l) ≡ []
  unfolding told_inside
  inside_bare p n s k l = if_bare (nat_le (y p (s.last + 1) + 14) (y p s.base)) _ refl

  edge_bare : (p : PageSeen) (n : ℕ) (s : Extent) → boxes_of test (ret_edge p n s) ≡ []
  unfolding ret_edge
  edge_bare p n s = if_bare (nat_le s.base s.last) _ refl

  end_bare : (p : PageSeen) (n : ℕ) (l : List ℕ) → boxes_of test (end_shapes p n l) ≡ []
  unfolding end_shapes
  end_bare p n l = rows_bare 48 (x p n + 8) 146 (fields l)

  -- between an area and a frame there is none
  between : (p : PageSeen) (n : ℕ) (t : Turn) (l : List ℕ) (top : Option ℕ) (es : List EventSeen)
      → boxes_of test (line_shapes p n t l top es)
      ≡ boxes_of test (area p n t top) ++ boxes_of test (frame p n t l es)
  unfolding line_shapes arrow
  between p n t l top es =
      let a = area p n t top in
      let b = acts p n t in
      let d = arrow p n t in
      let e = number p n in
      let f = told_beside p n l in
      append (a ++ b ++ d ++ e ++ f) (frame p n t l es)
      ∙ ap (λ zs. zs ++ boxes_of test (frame p n t l es))
      (bare_behind (a ++ b ++ d ++ e) f (told_bare p n l)
      ∙ bare_behind (a ++ b ++ d) e (number_bare p n)
      ∙ bare_behind (a ++ b) d (arrow_bare (x p n) (side_before t) (side_behind t))
      ∙ bare_behind a b (acts_bare p n t))

-- ---- frames

no_frame : (p : PageSeen) (n : ℕ) (s : Side) (top : Option ℕ) → boxes_of is_frame (area_below p n s top) ≡ []
no_frame p n Trusted None = refl
no_frame p n Outside None = refl
no_frame p n Trusted (Some top) = refl
no_frame p n Outside (Some top) = refl

with_box : (p : PageSeen) (n : ℕ) (s : Extent) (o : Option ℕ) (xs : List Shape) → boxes_of is_frame xs ≡ []
    → boxes_of is_frame (frame_box p n s o ∷ xs) ≡ frame_box p n s o ∷ []
with_box p n s None xs h = ap (λ zs. frame_box p n s None ∷ zs) h
with_box p n s (Some k) xs h = ap (λ zs. frame_box p n s (Some k) ∷ zs) h

if_box : (b : Bool) (xs : List Shape) (s : Shape) → boxes_of is_frame xs ≡ s ∷ []
    → boxes_of is_frame (if b then xs else []) ≡ (if b then s ∷ [] else [])
if_box true xs s h = h
if_box false xs s h = refl

frame_is : (p : PageSeen) (n : ℕ) (t : Turn) (l : List ℕ) (es : List EventSeen)
    → boxes_of is_frame (frame p n t l es) ≡ box_due p n t es
unfolding call_frame
frame_is p n (Call side s) l es =
    if_box (nat_le s.base s.last) _ _
    (with_box p n s (closing es) _ (inside_bare is_frame p n s (unwrap_or (closing es) (length es)) l))
frame_is p n (Ret side s) l es = edge_bare is_frame p n s
frame_is p n (Enter end) l es = refl
frame_is p n Leave l es = refl
frame_is p n Other l es = refl

line_frame : (p : PageSeen) (n : ℕ) (t : Turn) (l : List ℕ) (top : Option ℕ) (es : List EventSeen)
    → boxes_of is_frame (line_shapes p n t l top es) ≡ box_due p n t es
unfolding area
line_frame p n t l top es =
    between is_frame p n t l top es
    ∙ ap (λ zs. zs ++ boxes_of is_frame (frame p n t l es)) (no_frame p n (side_behind t) top)
    ∙ frame_is p n t l es

frames_are : (p : PageSeen) (n : ℕ) (h : HeldSeen) (es : List EventSeen)
    → map (λ (g : Group). boxes_of is_frame g.shapes) (groups p n h es) ≡ boxes_due p n es
frames_are p n h [] = refl
frames_are p n h (e ∷ []) = ap (λ b. b ∷ []) (end_bare is_frame p n e.line)
frames_are p n h (e ∷ f ∷ es) =
    let after = held_after h e.turn in
    ap (λ b. b ∷ map (λ (g : Group). boxes_of is_frame g.shapes) (groups p (n + 1) after (f ∷ es)))
    (line_frame p n e.turn e.line (shown after) (f ∷ es))
    ∙ ap (λ bs. box_due p n e.turn (f ∷ es) ∷ bs) (frames_are p (n + 1) after (f ∷ es))

pub one_box_each : OneBoxEach
one_box_each es = frames_are _ 1 nothing_held es

-- ---- areas

area_is : (p : PageSeen) (n : ℕ) (s : Side) (top : Option ℕ)
    → boxes_of is_area (area_below p n s top) ≡ area_below p n s top
area_is p n Trusted None = refl
area_is p n Outside None = refl
area_is p n Trusted (Some top) = refl
area_is p n Outside (Some top) = refl

no_area_box : (p : PageSeen) (n : ℕ) (s : Extent) (o : Option ℕ) (xs : List Shape)
    → boxes_of is_area (frame_box p n s o ∷ xs) ≡ boxes_of is_area xs
no_area_box p n s None xs = refl
no_area_box p n s (Some k) xs = refl

no_area : (p : PageSeen) (n : ℕ) (t : Turn) (l : List ℕ) (es : List EventSeen)
    → boxes_of is_area (frame p n t l es) ≡ []
unfolding call_frame
no_area p n (Call side s) l es =
    let k = unwrap_or (closing es) (length es) in
    if_bare is_area (nat_le s.base s.last) (frame_box p n s (closing es) ∷ told_inside p n s k l)
    (no_area_box p n s (closing es) (told_inside p n s k l) ∙ inside_bare is_area p n s k l)
no_area p n (Ret side s) l es = edge_bare is_area p n s
no_area p n (Enter end) l es = refl
no_area p n Leave l es = refl
no_area p n Other l es = refl

line_area : (p : PageSeen) (n : ℕ) (t : Turn) (l : List ℕ) (top : Option ℕ) (es : List EventSeen)
    → boxes_of is_area (line_shapes p n t l top es) ≡ area_below p n (side_behind t) top
unfolding area
line_area p n t l top es =
    between is_area p n t l top es
    ∙ ap (λ zs. boxes_of is_area (area_below p n (side_behind t) top) ++ zs) (no_area p n t l es)
    ∙ append-nil (boxes_of is_area (area_below p n (side_behind t) top))
    ∙ area_is p n (side_behind t) top

areas_are : (p : PageSeen) (n : ℕ) (h : HeldSeen) (es : List EventSeen)
    → map (λ (g : Group). boxes_of is_area g.shapes) (groups p n h es) ≡ areas_due p n h es
areas_are p n h [] = refl
areas_are p n h (e ∷ []) = ap (λ b. b ∷ []) (end_bare is_area p n e.line)
areas_are p n h (e ∷ f ∷ es) =
    let after = held_after h e.turn in
    ap (λ b. b ∷ map (λ (g : Group). boxes_of is_area g.shapes) (groups p (n + 1) after (f ∷ es)))
    (line_area p n e.turn e.line (shown after) (f ∷ es))
    ∙ ap (λ bs. area_below p n (side_behind e.turn) (shown after) ∷ bs) (areas_are p (n + 1) after (f ∷ es))

pub one_area_each : OneAreaEach
one_area_each es = areas_are _ 1 nothing_held es
