-- After a line just the addresses of the ranges of open calls are dark.
use Rattle.std.proofs.Common.{◌≡◌, ℕ, zero, suc, ◌+◌, ◌-◌, ◌*◌, ◌<◌, ◌≤◌, true, false, List, [], ◌∷◌, ◌++◌}
use Rattle.std.proofs.Common.{length, Option, Some, None, refl, sym, ap, ◌∙◌, subst, arith, inl, inr}
use Rattle.std.proofs.Common.{append_assoc}
use Rattle.std.specs.Prelude.{min, nat_lt, reverse}
use Rattle.std.specs.List.{AllZip, Contains}
use Rattle.std.proofs.lemmas.Bool.{cases_lt, lt-ltb, le-ltb}
use Rattle.std.proofs.lemmas.List.{reverse-append, reverse-reverse}
use Rattle.std.proofs.lemmas.List.Elements.{Contains-push_cases}
use Rattle.overlay_machine.proofs.Offers.{contains_first, contains_rest}
use Rattle.run_lines.specs.Lines.{Line, call, ret, enter, pass, leave}
use Rattle.headline.specs.OpenCalls.{LineTold, open_behind}
use Rattle.run_picture.specs.declared.turn.Side.{Side}
use Rattle.run_picture.specs.declared.turn.Turn.TheVariants.{Call}
use Rattle.run_picture.specs.Shapes.{Shape, box, line, label}
use Rattle.run_picture.specs.Events.{EventSeen, closing, events}
use Rattle.run_picture.specs.Heights.{below}
use Rattle.run_picture.specs.Page.{PageSeen, y}
use Rattle.run_picture.specs.Picture.{page_for}
use Rattle.run_picture.specs.HeightLaws.{IsCut, HeightsFall, CutsFall, FramesEndAtCuts}
use Rattle.drawn_runs.specs.Dark.{page, boxes_behind, IsOver, HasRow, IsIn, IsDark}
use Rattle.drawn_runs.proofs.Lines.{Tells, Begins}
use Rattle.drawn_runs.proofs.Stays.{goes_by, ends_with, opened_one}

-- ---- rows

-- an address is drawn where a mark is that isn't above it
abbrev Floor : ℕ → List ℕ → ℕ → Type 0
Floor most cs a = (d : ℕ) × IsCut d cs × (d ≤ a) × (below most cs a ≡ below most cs d)

behind_first : (most c d : ℕ) (cs : List ℕ) (l a : ℕ) → (IsCut l (d ∷ cs) → Floor most (d ∷ cs) a)
    → IsCut l (c ∷ d ∷ cs) → l ≤ a → a < c → Floor most (c ∷ d ∷ cs) a
behind_first most c d cs l a rec (inl e) le lt = absurd (omega (arith, e, le, lt))
behind_first most c d cs l a rec (inr k) le lt =
    let f = rec k in
    let low : f.0 ≤ a = f.2 in
    let one : nat_lt a c ≡ true = lt-ltb a c lt in
    let two : nat_lt f.0 c ≡ true = lt-ltb f.0 c (omega (arith, lt, low)) in
    (f.0, inr f.1, low, rw (one, two) (ap (λ n. min (c - d) most + n) f.3))

floor : (most : ℕ) (cs : List ℕ) (l a : ℕ) → IsCut l cs → l ≤ a → Floor most cs a
floor most [] l a h le = absurd h
floor most (c ∷ []) l a (inl e) le = (c, inl refl, omega (arith, e, le), refl)
floor most (c ∷ []) l a (inr h) le = absurd h
floor most (c ∷ d ∷ cs) l a h le = elim (cases_lt a c) as (λ _. Floor most (c ∷ d ∷ cs) a) [
  | inl lt ↦ behind_first most c d cs l a (λ k. floor most (d ∷ cs) l a k le) h le lt
  | inr ge ↦
      let one : nat_lt a c ≡ false = le-ltb a c ge in
      let two : nat_lt c c ≡ false = le-ltb c c (omega arith) in
      (c, inl refl, ge, rw (one, two) refl)
]

-- so an address that has a row is drawn below each mark above it
rows_fall : (fall : CutsFall) (es : List EventSeen) (a b : ℕ) → HasRow (page_for es) a
    → IsCut b (page_for es).cuts → a < b → y (page_for es) b < y (page_for es) a
rows_fall fall es a b row cut lt =
    let p : PageSeen = page_for es in
    let f = floor p.scale.most p.cuts row.0 a row.1 row.2 in
    let low : f.0 ≤ a = f.2 in
    let same : y p a ≡ y p f.0 = ap (λ n. 284 + p.scale.px * n) f.3 in
    subst (λ n. y p b < n) (sym same) (fall es f.0 b (omega (arith, lt, low)) f.1 cut)

-- ---- a box over a range, whose ends are marks, has just the rows of the range

module _ (fall : CutsFall) (heights : HeightsFall) (es : List EventSeen) (base last : ℕ)
    (ends : IsCut base (page_for es).cuts × IsCut (last + 1) (page_for es).cuts) where
  abbrev p : PageSeen
  p = page_for es

  in_range : (s : Shape) (a : ℕ) → HasRow p a → IsOver p s base last → IsIn p s a
      → (base ≤ a) × (a ≤ last)
  in_range (box c left top right low) a row over inside = (from_base, to_last)
    where
      from_base : base ≤ a
      from_base = elim (cases_lt a base) as (λ _. base ≤ a) [
        | inl lt ↦
            let k : y p base < y p a = rows_fall fall es a base row ends.0 lt in
            let le : y p a ≤ y p base = subst (λ n. y p a ≤ n) over.1 inside.1 in
            absurd (omega (arith, k, le))
        | inr ge ↦ ge
      ]

      to_last : a ≤ last
      to_last = elim (cases_lt last a) as (λ _. a ≤ last) [
        | inl lt ↦
            let k : y p a ≤ y p (last + 1) = heights es (last + 1) a (omega (arith, lt)) in
            let gt : y p (last + 1) < y p a = subst (λ n. n < y p a) over.0 inside.0 in
            absurd (omega (arith, k, gt))
        | inr ge ↦ ge
      ]
  in_range (line c x1 y1 x2 y2) a row over inside = absurd over
  in_range (label c left top s) a row over inside = absurd over

  in_box : (s : Shape) (a : ℕ) → IsOver p s base last → base ≤ a → a ≤ last → HasRow p a × IsIn p s a
  in_box (box c left top right low) a over from to =
      let row : HasRow p a = (base, ends.0, from) in
      let k : y p (last + 1) < y p a = rows_fall fall es a (last + 1) row ends.1 (omega (arith, to)) in
      let le : y p a ≤ y p base = heights es base a from in
      (row, (subst (λ n. n < y p a) (sym over.0) k, subst (λ n. y p a ≤ n) (sym over.1) le))
  in_box (line c x1 y1 x2 y2) a over from to = absurd over
  in_box (label c left top s) a over from to = absurd over

-- ---- an open call is of a line that no line closes

pub record IsUnclosed (es : List EventSeen) (c : LineTold) : Type 0 where
  pub front : List EventSeen
  pub call : EventSeen
  pub inner : List EventSeen
  pub are : es ≡ front ++ call ∷ inner
  pub side : Side
  pub calls : call.turn ≡ Call side (record { base = c.base; last = c.last })
  pub none : closing inner ≡ None

behind_one : (e : EventSeen) (es : List EventSeen) (c : LineTold) → IsUnclosed es c → IsUnclosed (e ∷ es) c
behind_one e es c u = record {
  front = e ∷ u.front;
  call = u.call;
  inner = u.inner;
  are = ap (λ xs. e ∷ xs) u.are;
  side = u.side;
  calls = u.calls;
  none = u.none;
}

newest_or : (e : EventSeen) (es : List EventSeen) (t c : LineTold) (xs : List LineTold) (side : Side)
    → e.turn ≡ Call side (record { base = t.base; last = t.last })
    → (Contains xs c → IsUnclosed es c) → (o : Option ℕ) → closing es ≡ o → Contains (ends_with o t xs) c
    → IsUnclosed (e ∷ es) c
newest_or e es t c xs side is rec None none h =
    elim (Contains-push_cases xs t c h) as (λ _. IsUnclosed (e ∷ es) c) [
      | inl k ↦ behind_one e es c (rec k)
      | inr same ↦ record {
        front = [];
        call = e;
        inner = es;
        are = refl;
        side = side;
        calls = is ∙ ap (λ (x : LineTold). Call side (record { base = x.base; last = x.last })) same;
        none = none;
      }
    ]
newest_or e es t c xs side is rec (Some k) some h = behind_one e es c (rec h)

unclosed : (ls : List Line) (es : List EventSeen) → Tells ls es → (c : LineTold)
    → Contains (open_behind [] ls) c → IsUnclosed es c
unclosed [] [] h c k = absurd (let lt = k.1 in omega (arith, lt))
unclosed [] (e ∷ es) h c k = absurd h
unclosed (l ∷ ls) [] h c k = absurd h
unclosed (call inward part site base last args words ∷ ls) (e ∷ es) h c k =
    let t : LineTold = record { part = part; site = site; base = base; last = last; words = words } in
    newest_or e es t c (open_behind [] ls) h.0.0 h.0.1 (unclosed ls es h.1 c) (closing es) refl
    (subst (λ os. Contains os c) (opened_one t ls es h.1) k)
unclosed (ret inward part site base last a0 words ∷ ls) (e ∷ es) h c k =
    behind_one e es c (unclosed ls es h.1 c k)
unclosed (enter part export stk args back ∷ ls) (e ∷ es) h c k =
    behind_one e es c (unclosed ls es h.1 c
    (subst (λ os. Contains os c) (goes_by [] (enter part export stk args back) ls tt) k))
unclosed (pass p0 p1 p2 ∷ ls) (e ∷ es) h c k =
    behind_one e es c
    (unclosed ls es h.1 c (subst (λ os. Contains os c) (goes_by [] (pass p0 p1 p2) ls tt) k))
unclosed (leave part a0 ∷ ls) (e ∷ es) h c k =
    behind_one e es c
    (unclosed ls es h.1 c (subst (λ os. Contains os c) (goes_by [] (leave part a0) ls tt) k))

-- ---- members of lists

of_reverse : {A : Type 0} (xs : List A) (x : A) → Contains (reverse xs) x → Contains xs x
of_reverse [] x h = h
of_reverse (y ∷ ys) x h =
    elim (Contains-push_cases (reverse ys) y x
    (subst (λ zs. Contains zs x) (reverse-append (y ∷ []) ys) h))
    as (λ _. Contains (y ∷ ys) x) [
      | inl k ↦ contains_rest y x ys (of_reverse ys x k)
      | inr same ↦ subst (λ z. Contains (y ∷ ys) z) same (contains_first y ys)
    ]

to_reverse : {A : Type 0} (xs : List A) (x : A) → Contains xs x → Contains (reverse xs) x
to_reverse xs x h = of_reverse (reverse xs) x (subst (λ zs. Contains zs x) (sym (reverse-reverse xs)) h)

module _ {A B : Type 0} (R : A → B → Type 0) where
  beside_first : (xs : List A) (ys : List B) → AllZip R xs ys → (x : A) → Contains xs x
      → (y : B) × Contains ys y × R x y
  beside_first [] [] h x k = absurd (let lt = k.1 in omega (arith, lt))
  beside_first [] (y ∷ ys) h x k = absurd h
  beside_first (z ∷ xs) [] h x k = absurd h
  beside_first (z ∷ xs) (y ∷ ys) h x (zero, lt, e) = (y, contains_first y ys, subst (λ w. R w y) e h.0)
  beside_first (z ∷ xs) (y ∷ ys) h x (suc k, lt, e) =
      let r = beside_first xs ys h.1 x (k, omega (arith, lt), e) in
      (r.0, contains_rest y r.0 ys r.1, r.2)

  beside_second : (xs : List A) (ys : List B) → AllZip R xs ys → (y : B) → Contains ys y
      → (x : A) × Contains xs x × R x y
  beside_second [] [] h y k = absurd (let lt = k.1 in omega (arith, lt))
  beside_second [] (z ∷ ys) h y k = absurd h
  beside_second (x ∷ xs) [] h y k = absurd h
  beside_second (x ∷ xs) (z ∷ ys) h y (zero, lt, e) = (x, contains_first x xs, subst (λ w. R x w) e h.0)
  beside_second (x ∷ xs) (z ∷ ys) h y (suc k, lt, e) =
      let r = beside_second xs ys h.1 y (k, omega (arith, lt), e) in
      (r.0, contains_rest x r.0 xs r.1, r.2)

-- ---- both

-- an open call over whose range a box is drawn, with an address of it
pub record IsOfBox (text : List ℕ) (ls : List Line) (s : Shape) (a : ℕ) : Type 0 where
  pub told : LineTold
  pub is_open : Contains (open_behind [] ls) told
  pub over : IsOver (page text) s told.base told.last
  pub low : told.base ≤ a
  pub high : a ≤ told.last

module _ (fall : CutsFall) (heights : HeightsFall) (frames : FramesEndAtCuts) (text : List ℕ) (ls : List Line)
    (b : Begins (events text) ls)
    (over : AllZip (λ (s : Shape) (c : LineTold). IsOver (page text) s c.base c.last)
    (boxes_behind text (length ls)) (reverse (open_behind [] ls))) where
  abbrev Over : Shape → LineTold → Type 0
  Over s c = IsOver (page text) s c.base c.last

  ends_of : (c : LineTold) → Contains (open_behind [] ls) c
      → IsCut c.base (page text).cuts × IsCut (c.last + 1) (page text).cuts
  ends_of c k =
      let u = unclosed ls b.front b.told c k in
      frames (events text) u.front (u.inner ++ b.next ∷ b.rest) u.call u.side
      (record { base = c.base; last = c.last })
      (b.are ∙ ap (λ es. es ++ b.next ∷ b.rest) u.are
      ∙ append_assoc u.front (u.call ∷ u.inner) (b.next ∷ b.rest)) u.calls

  pub dark_there : (a : ℕ) (d : IsDark text (length ls) a) → IsOfBox text ls d.frame a
  dark_there a d =
      let now = open_behind [] ls in
      let z = beside_first Over (boxes_behind text (length ls)) (reverse now) over d.frame d.stands in
      let c : LineTold = z.0 in
      let k : Contains now c = of_reverse now c z.1 in
      let r = in_range fall heights (events text) c.base c.last (ends_of c k) d.frame a d.row z.2 d.within in
      record { told = c; is_open = k; over = z.2; low = r.0; high = r.1 }

  pub open_dark : (a : ℕ) (c : LineTold) → Contains (open_behind [] ls) c → c.base ≤ a → a ≤ c.last
      → IsDark text (length ls) a
  open_dark a c k low high =
      let now = open_behind [] ls in
      let z = beside_second Over (boxes_behind text (length ls)) (reverse now) over c (to_reverse now c k) in
      let i = in_box fall heights (events text) c.base c.last (ends_of c k) z.0 a z.2 low high in
      record { row = i.0; frame = z.0; stands = z.1; within = i.1 }
