-- How long a picture is.
use Rattle.std.proofs.Common.{◌≡◌, ℕ, ◌+◌, ◌-◌, ◌*◌, ◌<◌, ◌≤◌, true, false, List, [], ◌∷◌, ◌++◌, length}
use Rattle.std.proofs.Common.{take, Option, Some, None, refl, sym, ap, ◌∙◌, arith, length-append}
use Rattle.std.specs.Prelude.{codes, decimal, nat_le, nat_lt, nat_eq, ◌||◌, ◌/◌, ◌%◌, unwrap_or}
use Rattle.std.proofs.lemmas.Bool.{cond_both, ltb-true}
use Rattle.line_fields.specs.Cuts.{cut}
use Rattle.line_fields.specs.Fields.{fields, lines}
use Rattle.run_picture.specs.declared.TheConstants.{STYLE}
use Rattle.run_picture.specs.declared.class.Class.{Class}
use Rattle.run_picture.specs.declared.class.Class.TheVariants as class
use Rattle.run_picture.specs.declared.turn.Side.{Side}
use Rattle.run_picture.specs.declared.turn.Side.TheVariants.{Trusted, Outside}
use Rattle.run_picture.specs.declared.turn.Extent.{Extent}
use Rattle.run_picture.specs.declared.turn.Turn.{Turn}
use Rattle.run_picture.specs.declared.turn.Turn.TheVariants.{Call, Ret, Enter, Leave, Other}
use Rattle.run_picture.specs.Shapes.{Shape, box, line, label, shapes_text, groups_text, group_text}
use Rattle.run_picture.specs.Turns.{side_before, side_behind}
use Rattle.run_picture.specs.Events.{EventSeen, closing, events}
use Rattle.run_picture.specs.Held.{HeldSeen, nothing_held, held_after, shown}
use Rattle.run_picture.specs.Page.{PageSeen, x, y, bottom, width, height, middle}
use Rattle.run_picture.specs.Groups.{class_of, acts, arrow_between, arrow, number, rows, told_beside}
use Rattle.run_picture.specs.Groups.{area_below, area, frame_box, behind_blank, told_of, told_inside}
use Rattle.run_picture.specs.Groups.{call_frame, ret_edge, frame, line_shapes, end_shapes, groups}
use Rattle.run_picture.specs.Picture.{lanes, mark, mark_above, marks_text, front, page_text, page_for}
use Rattle.run_picture.specs.Picture.{picture}
use Rattle.run_picture.specs.LengthLaws.{PicturesAreShort}
use Rattle.run_picture.proofs.Closing.{closing_is_the_return}
use Rattle.run_picture.proofs.Stands.{Under, under_more}
use Rattle.run_picture.proofs.Weights.{weight, weight_is, weight_take, weight_behind, weight_decimal, weights}
use Rattle.run_picture.proofs.Weights.{weights_parts, lines_weight, weights_events}
use Rattle.run_picture.proofs.Sizes.{digits, digits_are, two, three, five, ten, class_len, size, size_is}
use Rattle.run_picture.proofs.Sizes.{size_none, size_append, size_box, size_line, size_label, size_if}
use Rattle.run_picture.proofs.Sizes.{group_len}
use Rattle.run_picture.proofs.Bounds.{Within, within, events_small, cuts_under, cuts_len}

-- ---- in the lanes

middle_digits : (s : Side) → digits (middle s) ≤ 3
middle_digits Trusted = three 115 (omega arith)
middle_digits Outside = three 235 (omega arith)

-- a number written as a label
number_weight : (n : ℕ) → n ≤ 4294967295 → weight (decimal n) ≡ digits n
number_weight n h = weight_decimal n (omega arith) ∙ sym (digits_are n)

-- fields below one another, from a height on above which so many stand
rows_size : (bytes at top k : ℕ) (fs : List (List ℕ)) → at ≤ 99999 → 210 ≤ top + 14 * k
    → size (rows bytes at top fs) ≤ 41 * k + weights fs
rows_size bytes at top k [] h enough = omega (arith, size_none)
rows_size bytes at top k (f ∷ fs) h enough =
    cond_both (nat_lt top 210) _ _ (λ ss. size ss ≤ 41 * k + weights (f ∷ fs))
    (λ e. let lt = ltb-true top 210 e in
    let j = k - 1 in
    omega (
      arith,
      size_label class.Note at top (take bytes f) (rows bytes at (top + 14) fs),
      five at h,
      three top (omega arith),
      weight_take bytes f,
      rows_size bytes at (top + 14) j fs h (omega arith),
    ))
    (λ e. omega (arith, size_none))

module _ (p : PageSeen) (w : Within p) where
  -- the digits of what stands on the page
  across : (n : ℕ) → n ≤ p.count → digits (x p n) ≤ 5
  across n h = let k = w.right n h in five (x p n) (omega arith)

  down : (a : ℕ) → digits (y p a) ≤ 5
  down a = let k = w.low a in five (y p a) (omega arith)

  lowest : digits (bottom p) ≤ 5
  lowest = let k = w.low 0 in five (bottom p) (omega arith)

  acts_size : (n : ℕ) (t : Turn) → n < p.count → size (acts p n t) ≤ 44
  unfolding acts
  acts_size n t h =
      let m = middle (side_behind t) in
      omega (
        arith,
        size_line class.Acts (x p n) m (x p (n + 1)) m [],
        across n (omega arith),
        across (n + 1) (omega arith),
        middle_digits (side_behind t),
        size_none,
      )

  between_size : (n : ℕ) (a b : Side) → n ≤ p.count → size (arrow_between (x p n) a b) ≤ 42
  between_size n Trusted Outside h =
      omega (
        arith,
        size_line class.Arrow (x p n) 115 (x p n) 229 [],
        across n h,
        three 115 (omega arith),
        three 229 (omega arith),
        size_none,
      )
  between_size n Outside Trusted h =
      omega (
        arith,
        size_line class.Arrow (x p n) 235 (x p n) 121 [],
        across n h,
        three 235 (omega arith),
        three 121 (omega arith),
        size_none,
      )
  between_size n Trusted Trusted h = omega (arith, size_none)
  between_size n Outside Outside h = omega (arith, size_none)

  arrow_size : (n : ℕ) (t : Turn) → n ≤ p.count → size (arrow p n t) ≤ 42
  unfolding arrow
  arrow_size n t h = between_size n (side_before t) (side_behind t) h

  number_size : (n : ℕ) → n ≤ p.count → size (number p n) ≤ 45
  unfolding number
  number_size n h =
      let few = w.few in
      size_if (nat_le 44 p.column || nat_eq (n % 50) 0) _ 45
      (omega (
        arith,
        size_label class.Note (x p n) 92 (decimal n) [],
        across n h,
        two 92 (omega arith),
        number_weight n (omega arith),
        five n (omega arith),
        size_none,
      ))

  told_size : (n : ℕ) (l : List ℕ) → n ≤ p.count → size (told_beside p n l) ≤ 205 + weight l
  unfolding told_beside
  told_size n l h =
      let k = w.right n h in
      let rs = rows_size (p.column / 8) (x p n + 6) 146 5 (fields l) (omega arith) (omega arith) in
      size_if (nat_le 44 p.column) _ (205 + weight l) (omega (arith, rs, weights_parts 32 l))

  -- ---- on the stack

  below_size : (n : ℕ) (s : Side) (top : Option ℕ) → n < p.count → size (area_below p n s top) ≤ 55
  below_size n s None h = omega (arith, size_none)
  below_size n s (Some top) h =
      omega (
        arith,
        size_box (class_of s) (x p n) (y p top) (x p (n + 1)) (bottom p) [],
        class_len (class_of s),
        across n (omega arith),
        across (n + 1) (omega arith),
        down top,
        lowest,
        size_none,
      )

  area_size : (n : ℕ) (t : Turn) (top : Option ℕ) → n < p.count → size (area p n t top) ≤ 55
  unfolding area
  area_size n t top h = below_size n (side_behind t) top h

  box_size : (n : ℕ) (s : Extent) (o : Option ℕ) (ss : List Shape) → n ≤ p.count
      → ((k : ℕ) → o ≡ Some k → n + k ≤ p.count) → size (frame_box p n s o ∷ ss) ≤ 54 + size ss
  box_size n s None ss h f =
      let k = w.right p.count (omega arith) in
      omega (
        arith,
        size_box class.Open (x p n) (y p (s.last + 1)) (x p p.count + 14) (y p s.base) ss,
        across n h,
        five (x p p.count + 14) (omega arith),
        down (s.last + 1),
        down s.base,
      )
  box_size n s (Some k) ss h f =
      omega (
        arith,
        size_box class.Closed (x p n) (y p (s.last + 1)) (x p (n + k)) (y p s.base) ss,
        across n h,
        across (n + k) (f k refl),
        down (s.last + 1),
        down s.base,
      )

  inside_size : (n : ℕ) (s : Extent) (k : ℕ) (l : List ℕ) → n ≤ p.count
      → size (told_inside p n s k l) ≤ 43 + weight l
  unfolding told_inside
  inside_size n s k l h =
      let r = w.right n h in
      let d = w.low (s.last + 1) in
      let m = p.column * k / 8 in
      let once = behind_blank (cut 32 l) in
      size_if (nat_le (y p (s.last + 1) + 14) (y p s.base)) _ (43 + weight l)
      (omega (
        arith,
        size_label class.Inside (x p n + 4) (y p (s.last + 1) + 12) (take m (told_of l)) [],
        five (x p n + 4) (omega arith),
        five (y p (s.last + 1) + 12) (omega arith),
        weight_take m (told_of l),
        weight_behind once,
        weight_behind l,
        size_none,
      ))

  closing_inside : (n : ℕ) (es : List EventSeen) → n + length es ≤ p.count → (k : ℕ) → closing es ≡ Some k
      → n + k ≤ p.count
  closing_inside n es h k is =
      let c = (closing_is_the_return es k).0 is in
      omega (arith, ap length c.are, length-append c.inner (c.ret ∷ c.back), c.place)

  call_size : (n : ℕ) (s : Extent) (l : List ℕ) (es : List EventSeen) → n + length es ≤ p.count
      → size (call_frame p n s l es) ≤ 97 + weight l
  unfolding call_frame
  call_size n s l es h =
      let k = unwrap_or (closing es) (length es) in
      size_if (nat_le s.base s.last) _ (97 + weight l)
      (omega (
        arith,
        box_size n s (closing es) (told_inside p n s k l) (omega arith) (closing_inside n es h),
        inside_size n s k l (omega arith),
      ))

  edge_size : (n : ℕ) (s : Extent) → n ≤ p.count → size (ret_edge p n s) ≤ 47
  unfolding ret_edge
  edge_size n s h =
      size_if (nat_le s.base s.last) _ 47
      (omega (
        arith,
        size_line class.Edge (x p n) (y p (s.last + 1)) (x p n) (y p s.base) [],
        across n h,
        down (s.last + 1),
        down s.base,
        size_none,
      ))

  frame_size : (n : ℕ) (t : Turn) (l : List ℕ) (es : List EventSeen) → n + length es ≤ p.count
      → size (frame p n t l es) ≤ 97 + weight l
  frame_size n (Call side s) l es h = call_size n s l es h
  frame_size n (Ret side s) l es h = omega (arith, edge_size n s (omega arith))
  frame_size n (Enter end) l es h = omega (arith, size_none)
  frame_size n Leave l es h = omega (arith, size_none)
  frame_size n Other l es h = omega (arith, size_none)

  -- ---- lines

  line_size : (n : ℕ) (t : Turn) (l : List ℕ) (top : Option ℕ) (es : List EventSeen) → n + length es ≤ p.count
      → 0 < length es → size (line_shapes p n t l top es) ≤ 488 + 2 * weight l
  unfolding line_shapes
  line_size n t l top es h some =
      let a = area p n t top in
      let b = acts p n t in
      let c = arrow p n t in
      let d = number p n in
      let e = told_beside p n l in
      let f = frame p n t l es in
      omega (
        arith,
        size_append (a ++ b ++ c ++ d ++ e) f,
        size_append (a ++ b ++ c ++ d) e,
        size_append (a ++ b ++ c) d,
        size_append (a ++ b) c,
        size_append a b,
        area_size n t top (omega arith),
        acts_size n t (omega arith),
        arrow_size n t (omega arith),
        number_size n (omega arith),
        told_size n l (omega arith),
        frame_size n t l es h,
      )

  end_size : (n : ℕ) (l : List ℕ) → n ≤ p.count → size (end_shapes p n l) ≤ 248 + weight l
  unfolding end_shapes
  end_size n l h =
      let k = w.right n h in
      let rs = rows 48 (x p n + 8) 146 (fields l) in
      omega (
        arith,
        size_line class.End (x p n) 80 (x p n) (bottom p) rs,
        across n h,
        two 80 (omega arith),
        lowest,
        rows_size 48 (x p n + 8) 146 5 (fields l) (omega arith) (omega arith),
        weights_parts 32 l,
      )

  groups_len : (n : ℕ) (h : HeldSeen) (es : List EventSeen) → n + length es ≤ p.count + 1
      → length (groups_text (groups p n h es)) ≤ 511 * length es + 3 * lines_weight es
  groups_len n h [] le = omega arith
  groups_len n h (e ∷ []) le =
      let ss = end_shapes p n e.line in
      omega (
        arith,
        length-append (group_text e.line ss) [],
        group_len e.line ss,
        end_size n e.line (omega arith),
      )
  groups_len n h (e ∷ f ∷ es) le =
      let after = held_after h e.turn in
      let ss = line_shapes p n e.turn e.line (shown after) (f ∷ es) in
      omega (
        arith,
        length-append (group_text e.line ss) (groups_text (groups p (n + 1) after (f ∷ es))),
        group_len e.line ss,
        line_size n e.turn e.line (shown after) (f ∷ es) (omega arith) (omega arith),
        groups_len (n + 1) after (f ∷ es) (omega arith),
      )

  -- ---- what stands after them

  lanes_size : size (lanes p) ≤ 133
  unfolding lanes
  lanes_size =
      let r = x p p.count in
      let low : Shape = line class.Rule 12 214 r 214 in
      let outside : Shape = box class.Outside 132 220 r 250 in
      omega (
        arith,
        size_box class.Trusted 132 100 r 130 (outside ∷ low ∷ []),
        size_box class.Outside 132 220 r 250 (low ∷ []),
        size_line class.Rule 12 214 r 214 [],
        size_none,
        across p.count (omega arith),
        two 12 (omega arith),
        three 100 (omega arith),
        three 130 (omega arith),
        three 132 (omega arith),
        three 214 (omega arith),
        three 220 (omega arith),
        three 250 (omega arith),
      )

  mark_size : (c : ℕ) → c < 4294967297 → size (mark p c) ≤ 94
  unfolding mark
  mark_size c h =
      let k = w.low c in
      let r = x p p.count in
      let note : Shape = label class.Note 12 (y p c + 12) (decimal (c - 1)) in
      omega (
        arith,
        size_line class.Rule 12 (y p c) r (y p c) (note ∷ []),
        size_label class.Note 12 (y p c + 12) (decimal (c - 1)) [],
        size_none,
        two 12 (omega arith),
        down c,
        across p.count (omega arith),
        five (y p c + 12) (omega arith),
        number_weight (c - 1) (omega arith),
        ten (c - 1) (omega arith),
      )

  above_size : (c d : ℕ) → c < 4294967297 → size (mark_above p c d) ≤ 94
  unfolding mark_above
  above_size c d h = size_if _ (mark p c) 94 (mark_size c h)

  marks_len : (cs : List ℕ) → Under 4294967297 cs → length (marks_text p cs) ≤ 94 * length cs
  marks_len [] u = omega arith
  marks_len (c ∷ []) u = let lt = u.0 in omega (arith, mark_size c lt, size_is (mark p c))
  marks_len (c ∷ d ∷ cs) u =
      let lt : c < 4294967297 = u.0 in
      let le : c ≤ 4294967297 = omega arith in
      omega (
        arith,
        length-append (shapes_text (mark_above p c d)) (marks_text p (d ∷ cs)),
        above_size c d lt,
        size_is (mark_above p c d),
        marks_len (d ∷ cs) (under_more c 4294967297 (d ∷ cs) le u.1),
      )

  wide : digits (width p) ≤ 5
  unfolding width
  wide = let r = w.right p.count (omega arith) in five (width p) (omega arith)

  high : digits (height p) ≤ 5
  unfolding height
  high = let d = w.low 0 in five (height p) (omega arith)

  front_len : length (front p) ≤ 96
  unfolding front
  front_len =
      let a : digits (width p) ≤ 5 = wide in
      let b : digits (height p) ≤ 5 = high in
      simp length-append (omega (arith, digits_are (width p), digits_are (height p)))

-- ---- the whole

style_len : length STYLE.now ≡ 1529
style_len = refl

page_len : (es : List EventSeen) (p : PageSeen) → Within p → length es ≡ p.count → Under 4294967297 p.cuts
    → length (page_text p es) ≤ 1765 + 511 * length es + 3 * lines_weight es + 94 * length p.cuts
page_len es p w all u =
    let gs = groups_text (groups p 1 nothing_held es) in
    let ms = marks_text p p.cuts in
    let ls = shapes_text (lanes p) in
    omega (
      arith,
      length-append (front p ++ STYLE.now ++ ls ++ ms ++ gs) (codes "</svg>\n"),
      length-append (front p ++ STYLE.now ++ ls ++ ms) gs,
      length-append (front p ++ STYLE.now ++ ls) ms,
      length-append (front p ++ STYLE.now) ls,
      length-append (front p) STYLE.now,
      front_len p w,
      style_len,
      lanes_size p w,
      size_is (lanes p),
      marks_len p w p.cuts u,
      groups_len p w 1 nothing_held es (omega arith),
    )

pub pictures_are_short : PicturesAreShort
unfolding picture
pictures_are_short text few =
    let es = events text in
    let w = within es few in
    omega (
      arith,
      page_len es (page_for es) w refl (cuts_under es [] (events_small (lines text)) tt),
      cuts_len es [],
      weights_events (lines text),
      weights_parts 10 text,
      weight_is text,
    )
