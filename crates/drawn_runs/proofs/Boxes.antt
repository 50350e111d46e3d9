-- The boxes of frames that stand after a line are those of the calls that are open there.
use Rattle.std.proofs.Common.{◌≡◌, ℕ, ◌+◌, ◌<◌, Bool, true, false, List, [], ◌∷◌, ◌++◌, length, Option, Some}
use Rattle.std.proofs.Common.{None, refl, sym, ap, ◌∙◌, subst, arith, map, append-nil}
use Rattle.std.specs.Prelude.{nat_le, if◌then◌else◌, filter, flat_map, reverse}
use Rattle.std.specs.List.{AllZip}
use Rattle.std.proofs.lemmas.List.{reverse-append}
use Rattle.std.proofs.lemmas.List.Elements.{filter-append}
use Rattle.run_lines.specs.Lines.{Line, call, ret, enter, pass, leave}
use Rattle.headline.specs.OpenCalls.{LineTold, open_behind}
use Rattle.run_picture.specs.declared.turn.Side.{Side}
use Rattle.run_picture.specs.declared.turn.Extent.{Extent}
use Rattle.run_picture.specs.declared.turn.Turn.{Turn}
use Rattle.run_picture.specs.declared.turn.Turn.TheVariants.{Call, Ret, Enter, Leave, Other}
use Rattle.run_picture.specs.Shapes.{Shape, Group}
use Rattle.run_picture.specs.Events.{EventSeen, closing, events}
use Rattle.run_picture.specs.Page.{PageSeen}
use Rattle.run_picture.specs.Groups.{frame_box}
use Rattle.run_picture.specs.Picture.{page_for}
use Rattle.run_picture.specs.Laws.{is_frame, boxes_of, box_due, boxes_due, groups_of, IsNeither, OneBoxEach}
use Rattle.run_picture.specs.HeightLaws.{ColumnsRise}
use Rattle.run_picture.specs.OpenLaws.{BoxesFollow}
use Rattle.drawn_runs.specs.Dark.{page, stands_behind, boxes_behind, IsOver}
use Rattle.drawn_runs.proofs.Lines.{Tells, as_many, Begins, within}
use Rattle.drawn_runs.proofs.Stays.{IsBetween, goes_by, ends_with, opened_one}
use Rattle.drawn_runs.proofs.Stands.{is_over, not_yet, stands, has_gone}

-- its range isn't empty
abbrev pub has_range : LineTold → Bool
has_range c = nat_le c.base c.last

flat_of_map : {A B : Type 0} (f : A → List B) (xs : List A)
    → flat_map f xs ≡ flat_map (λ (ys : List B). ys) (map f xs)
flat_of_map f [] = refl
flat_of_map f (x ∷ xs) = ap (λ ys. f x ++ ys) (flat_of_map f xs)

module _ (test : Shape → Bool) where
  if_not : (b : Bool) (s : Shape) (rest : List Shape) → test s ≡ false
      → filter test ((if b then s ∷ [] else []) ++ rest) ≡ filter test rest
  if_not true s rest h = rw h refl
  if_not false s rest h = refl

  if_so : (b : Bool) (s : Shape) (rest : List Shape) → test s ≡ true
      → filter test ((if b then s ∷ [] else []) ++ rest) ≡ (if b then s ∷ [] else []) ++ filter test rest
  if_so true s rest h = rw h refl
  if_so false s rest h = refl

module _ (R : Shape → LineTold → Type 0) where
  one_more : (b : Bool) (s : Shape) (c : LineTold) (xs : List Shape) (ys : List LineTold) → R s c
      → AllZip R xs (reverse ys)
      → AllZip R ((if b then s ∷ [] else []) ++ xs) (reverse (ys ++ (if b then c ∷ [] else [])))
  one_more true s c xs ys r h =
      subst (AllZip R (s ∷ xs)) (sym (reverse-append ys (c ∷ []))) (r, h)
  one_more false s c xs ys r h = subst (λ zs. AllZip R xs (reverse zs)) (sym (append-nil ys)) h

module _ (es0 : List EventSeen) (rises : ColumnsRise) (follow : BoxesFollow) (m : ℕ)
    (within : m < length es0) where
  abbrev p : PageSeen
  p = page_for es0

  abbrev test : Shape → Bool
  test s = stands_behind p m s

  abbrev Over : Shape → LineTold → Type 0
  Over s c = IsOver p s c.base c.last

  abbrev flat : List (List Shape) → List Shape
  flat ss = flat_map (λ (s : List Shape). s) ss

  -- those of lines from the n-th on
  abbrev standing : ℕ → List EventSeen → List Shape
  standing n es = filter test (flat (boxes_due p n es))

  one_due : (n : ℕ) (e : EventSeen) (es : List EventSeen) (r : EventSeen) (rs : List EventSeen)
      → boxes_due p n (e ∷ (es ++ r ∷ rs))
      ≡ box_due p n e.turn (es ++ r ∷ rs) ∷ boxes_due p (n + 1) (es ++ r ∷ rs)
  one_due n e [] r rs = refl
  one_due n e (f ∷ es) r rs = refl

  by_turn : (n : ℕ) (e : EventSeen) (es : List EventSeen) (r : EventSeen) (rs : List EventSeen) (t : Turn)
      → e.turn ≡ t
      → standing n (e ∷ (es ++ r ∷ rs))
      ≡ filter test (box_due p n t (es ++ r ∷ rs) ++ flat (boxes_due p (n + 1) (es ++ r ∷ rs)))
  by_turn n e es r rs t is =
      ap (λ bs. filter test (flat bs)) (one_due n e es r rs)
      ∙ ap (λ u. filter test (box_due p n u (es ++ r ∷ rs) ++ flat (boxes_due p (n + 1) (es ++ r ∷ rs)))) is

  -- a line whose box doesn't stand there
  skipped : (t : Turn) (n : ℕ) (back : List EventSeen) (rest : List Shape)
      → ((span : Extent) → test (frame_box p n span (closing back)) ≡ false)
      → filter test (box_due p n t back ++ rest) ≡ filter test rest
  skipped (Call side span) n back rest h =
      if_not test (nat_le span.base span.last) (frame_box p n span (closing back)) rest (h span)
  skipped (Ret side span) n back rest h = refl
  skipped (Enter end) n back rest h = refl
  skipped Leave n back rest h = refl
  skipped Other n back rest h = refl

  later : (n : ℕ) (es : List EventSeen) → m < n → standing n es ≡ []
  later n [] lt = refl
  later n (e ∷ []) lt = refl
  later n (e ∷ f ∷ es) lt =
      skipped e.turn n (f ∷ es) (flat (boxes_due p (n + 1) (f ∷ es)))
      (λ span. not_yet es0 rises m n span (closing (f ∷ es)) lt)
      ∙ later (n + 1) (f ∷ es) (omega (arith, lt))

  -- ---- one line

  module _ (n : ℕ) (e : EventSeen) (es : List EventSeen) (r : EventSeen) (rs : List EventSeen)
      (ls : List Line) (told : Tells ls es)
      (rec : AllZip Over (standing (n + 1) (es ++ r ∷ rs))
      (reverse (filter has_range (open_behind [] ls)))) where
    abbrev back : List EventSeen
    back = es ++ r ∷ rs

    abbrev rest : List Shape
    rest = flat (boxes_due p (n + 1) back)

    other : (l : Line) (t : Turn) → e.turn ≡ t → box_due p n t back ≡ []
        → open_behind [] (l ∷ ls) ≡ open_behind [] ls
        → AllZip Over (standing n (e ∷ back)) (reverse (filter has_range (open_behind [] (l ∷ ls))))
    other l t is none same =
        let left : standing n (e ∷ back) ≡ filter test rest =
        by_turn n e es r rs t is ∙ ap (λ bs. filter test (bs ++ rest)) none in
        subst (λ bs. AllZip Over bs (reverse (filter has_range (open_behind [] (l ∷ ls))))) (sym left)
        (subst (λ cs. AllZip Over (filter test rest) (reverse (filter has_range cs))) (sym same) rec)

    neither : (l : Line) (t : Turn) → e.turn ≡ t → IsNeither t → IsBetween l
        → AllZip Over (standing n (e ∷ back)) (reverse (filter has_range (open_behind [] (l ∷ ls))))
    neither l (Call side span) is o b = absurd o
    neither l (Ret side span) is o b = absurd o
    neither l (Enter end) is o b = other l (Enter end) is refl (goes_by [] l ls b)
    neither l Leave is o b = other l Leave is refl (goes_by [] l ls b)
    neither l Other is o b = other l Other is refl (goes_by [] l ls b)

    a_call : (c : LineTold) (side : Side) → e.turn ≡ Call side (record { base = c.base; last = c.last })
        → n + length es ≡ m → (o : Option ℕ) → closing es ≡ o
        → AllZip Over (standing n (e ∷ back)) (reverse (filter has_range (open_behind (c ∷ []) ls)))
    a_call c side is at None none =
        let span : Extent = record { base = c.base; last = c.last } in
        let drawn = frame_box p n span (closing back) in
        let left : standing n (e ∷ back) ≡ (if has_range c then drawn ∷ [] else []) ++ filter test rest =
        by_turn n e es r rs (Call side span) is
        ∙ if_so test (has_range c) drawn rest (stands es0 rises follow m within n span es r rs at none) in
        let right : filter has_range (open_behind (c ∷ []) ls)
        ≡ filter has_range (open_behind [] ls) ++ (if has_range c then c ∷ [] else []) =
        ap (filter has_range) (opened_one c ls es told
        ∙ ap (λ o. ends_with o c (open_behind [] ls)) none)
        ∙ filter-append has_range (open_behind [] ls) (c ∷ []) in
        subst (λ bs. AllZip Over bs (reverse (filter has_range (open_behind (c ∷ []) ls)))) (sym left)
        (subst (λ cs. AllZip Over ((if has_range c then drawn ∷ [] else []) ++ filter test rest) (reverse cs))
        (sym right)
        (one_more Over (has_range c) drawn c (filter test rest) (filter has_range (open_behind [] ls))
        (is_over p n span (closing back)) rec))
    a_call c side is at (Some k) some =
        let span : Extent = record { base = c.base; last = c.last } in
        let drawn = frame_box p n span (closing back) in
        let left : standing n (e ∷ back) ≡ filter test rest =
        by_turn n e es r rs (Call side span) is
        ∙ if_not test (has_range c) drawn rest
        (has_gone es0 rises follow m within n span es r rs at k some) in
        let same : open_behind (c ∷ []) ls ≡ open_behind [] ls =
        opened_one c ls es told ∙ ap (λ o. ends_with o c (open_behind [] ls)) some in
        subst (λ bs. AllZip Over bs (reverse (filter has_range (open_behind (c ∷ []) ls)))) (sym left)
        (subst (λ cs. AllZip Over (filter test rest) (reverse (filter has_range cs))) (sym same) rec)

  -- ---- all lines

  over_from : (ls : List Line) (es : List EventSeen) → Tells ls es → (r : EventSeen) (rs : List EventSeen)
      (n : ℕ) → n + length es ≡ m + 1
      → AllZip Over (standing n (es ++ r ∷ rs)) (reverse (filter has_range (open_behind [] ls)))
  over_from [] [] h r rs n at =
      subst (λ bs. AllZip Over bs []) (sym (later n (r ∷ rs) (omega (arith, at)))) tt
  over_from [] (e ∷ es) h r rs n at = absurd h
  over_from (l ∷ ls) [] h r rs n at = absurd h
  over_from (call inward part site base last args words ∷ ls) (e ∷ es) h r rs n at =
      a_call n e es r rs ls h.1 (over_from ls es h.1 r rs (n + 1) (omega (arith, at)))
      (record { part = part; site = site; base = base; last = last; words = words }) h.0.0 h.0.1
      (omega (arith, at)) (closing es) refl
  over_from (ret inward part site base last a0 words ∷ ls) (e ∷ es) h r rs n at =
      other n e es r rs ls h.1 (over_from ls es h.1 r rs (n + 1) (omega (arith, at)))
      (ret inward part site base last a0 words) (Ret h.0.0 (record { base = base; last = last })) h.0.1 refl
      refl
  over_from (enter part export stk args back ∷ ls) (e ∷ es) h r rs n at =
      neither n e es r rs ls h.1 (over_from ls es h.1 r rs (n + 1) (omega (arith, at)))
      (enter part export stk args back) e.turn refl h.0 tt
  over_from (pass p0 p1 p2 ∷ ls) (e ∷ es) h r rs n at =
      neither n e es r rs ls h.1 (over_from ls es h.1 r rs (n + 1) (omega (arith, at)))
      (pass p0 p1 p2) e.turn refl h.0 tt
  over_from (leave part a0 ∷ ls) (e ∷ es) h r rs n at =
      neither n e es r rs ls h.1 (over_from ls es h.1 r rs (n + 1) (omega (arith, at)))
      (leave part a0) e.turn refl h.0 tt

-- ---- in the words of the law

pub boxes_over : (rises : ColumnsRise) (follow : BoxesFollow) (each : OneBoxEach) (text : List ℕ)
    (ls : List Line) (b : Begins (events text) ls) {now : List LineTold}
    → filter has_range now ≡ now → open_behind [] ls ≡ now
    → AllZip (λ (s : Shape) (c : LineTold). IsOver (page text) s c.base c.last)
    (boxes_behind text (length ls)) (reverse (open_behind [] ls))
boxes_over rises follow each text ls b ranges open_now =
    let m = length ls in
    let es = events text in
    let many : m ≡ length b.front = as_many ls b.front b.told in
    let over = over_from es rises follow m (within text ls b) ls b.front b.told b.next b.rest 1
    (omega (arith, many)) in
    let boxes : boxes_behind text m
    ≡ filter (stands_behind (page text) m) (flat_map (λ (ss : List Shape). ss) (boxes_due (page text) 1
    (b.front ++ b.next ∷ b.rest))) =
    ap (filter (stands_behind (page text) m))
    (flat_of_map (λ (g : Group). boxes_of is_frame g.shapes) (groups_of es)
    ∙ ap (flat_map (λ (ss : List Shape). ss)) (each es)
    ∙ ap (λ xs. flat_map (λ (ss : List Shape). ss) (boxes_due (page text) 1 xs)) b.are) in
    let same : filter has_range (open_behind [] ls) ≡ open_behind [] ls =
    ap (filter has_range) open_now ∙ ranges ∙ sym open_now in
    subst (λ bs. AllZip (λ (s : Shape) (c : LineTold). IsOver (page text) s c.base c.last) bs
    (reverse (open_behind [] ls))) (sym boxes)
    (subst (λ cs. AllZip (λ (s : Shape) (c : LineTold). IsOver (page text) s c.base c.last)
    (filter (stands_behind (page text) m) (flat_map (λ (ss : List Shape). ss) (boxes_due (page text) 1
    (b.front ++ b.next ∷ b.rest)))) (reverse cs)) same over)
