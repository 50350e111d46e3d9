-- Which boxes of frames stand after a line.
use Rattle.std.proofs.Common.{◌≡◌, ℕ, ◌+◌, ◌<◌, ◌≤◌, Bool, true, false, List, ◌∷◌, ◌++◌, length, Option, Some}
use Rattle.std.proofs.Common.{None, refl, ap, ◌∙◌, subst, arith, inl, inr}
use Rattle.std.specs.Prelude.{nat_le, ◌&&◌}
use Rattle.std.proofs.lemmas.Bool.{cases_lt, le-leb, lt-leb}
use Rattle.run_picture.specs.declared.turn.Extent.{Extent}
use Rattle.run_picture.specs.Events.{EventSeen, closing}
use Rattle.run_picture.specs.Page.{PageSeen, x}
use Rattle.run_picture.specs.Groups.{frame_box}
use Rattle.run_picture.specs.Picture.{page_for}
use Rattle.run_picture.specs.HeightLaws.{ColumnsRise}
use Rattle.run_picture.specs.OpenLaws.{BoxesFollow}
use Rattle.drawn_runs.specs.Dark.{stands_behind, IsOver}
use Rattle.drawn_runs.proofs.Stays.{closed_later}

pub is_over : (p : PageSeen) (n : ℕ) (span : Extent) (o : Option ℕ)
    → IsOver p (frame_box p n span o) span.base span.last
is_over p n span None = (refl, refl)
is_over p n span (Some k) = (refl, refl)

and_false : (b : Bool) → (b && false) ≡ false
and_false true = refl
and_false false = refl

module _ (es : List EventSeen) (rises : ColumnsRise) (m : ℕ) where
  abbrev p : PageSeen
  p = page_for es

  no_left : (a b : ℕ) → a ≤ b → x p a ≤ x p b
  no_left a b le = elim (cases_lt a b) as (λ _. x p a ≤ x p b) [
    | inl lt ↦ (let h : x p a < x p b = rises es a b lt in omega (arith, h))
    | inr ge ↦ (let is : a ≡ b = omega (arith, le, ge) in subst (λ k. x p a ≤ x p k) is (omega arith))
  ]

  begun : (n : ℕ) → n ≤ m → nat_le (x p n) (x p m) ≡ true
  begun n le = le-leb (x p n) (x p m) (no_left n m le)

  pub closed_stands : (n k : ℕ) (span : Extent) → n ≤ m → m < n + k
      → stands_behind p m (frame_box p n span (Some k)) ≡ true
  closed_stands n k span le lt =
      let a = begun n le in
      let b : nat_le (x p (m + 1)) (x p (n + k)) ≡ true =
      le-leb (x p (m + 1)) (x p (n + k)) (no_left (m + 1) (n + k) (omega (arith, lt))) in
      rw (a, b) refl

  pub open_stands : (n : ℕ) (span : Extent) → n ≤ m → m < length es
      → stands_behind p m (frame_box p n span None) ≡ true
  open_stands n span le lt =
      let a = begun n le in
      let k : x p (m + 1) ≤ x p (length es) = no_left (m + 1) (length es) (omega (arith, lt)) in
      let b : nat_le (x p (m + 1)) (x p (length es) + 14) ≡ true =
      le-leb (x p (m + 1)) (x p (length es) + 14) (omega (arith, k)) in
      rw (a, b) refl

  pub not_yet : (n : ℕ) (span : Extent) (o : Option ℕ) → m < n
      → stands_behind p m (frame_box p n span o) ≡ false
  not_yet n span None lt =
      let a : nat_le (x p n) (x p m) ≡ false = lt-leb (x p n) (x p m) (rises es m n lt) in rw a refl
  not_yet n span (Some k) lt =
      let a : nat_le (x p n) (x p m) ≡ false = lt-leb (x p n) (x p m) (rises es m n lt) in rw a refl

  pub no_more : (n k : ℕ) (span : Extent) → n + k ≤ m
      → stands_behind p m (frame_box p n span (Some k)) ≡ false
  no_more n k span le =
      let lt : n + k < m + 1 = omega (arith, le) in
      let b : nat_le (x p (m + 1)) (x p (n + k)) ≡ false =
      lt-leb (x p (m + 1)) (x p (n + k)) (rises es (n + k) (m + 1) lt) in
      rw b (and_false (nat_le (x p n) (x p m)))

-- ---- the box of a call, of which so many lines stand after it up to there

module _ (es : List EventSeen) (rises : ColumnsRise) (follow : BoxesFollow) (m : ℕ) (within : m < length es)
    (n : ℕ) (span : Extent) (inner : List EventSeen) (r : EventSeen) (rs : List EventSeen)
    (at : n + length inner ≡ m) where
  stands_by : (o : Option ℕ) → closing inner ≡ None → closing (inner ++ r ∷ rs) ≡ o
      → stands_behind (page_for es) m (frame_box (page_for es) n span o) ≡ true
  stands_by None none h = open_stands es rises m n span (omega (arith, at)) within
  stands_by (Some j) none h =
      let lt = closed_later inner (r ∷ rs) j none h in
      closed_stands es rises m n j span (omega (arith, at)) (omega (arith, at, lt))

  -- none of them closes it
  pub stands : closing inner ≡ None
      → stands_behind (page_for es) m (frame_box (page_for es) n span (closing (inner ++ r ∷ rs))) ≡ true
  stands none = stands_by (closing (inner ++ r ∷ rs)) none refl

  -- one of them closes it
  pub has_gone : (k : ℕ) → closing inner ≡ Some k
      → stands_behind (page_for es) m (frame_box (page_for es) n span (closing (inner ++ r ∷ rs))) ≡ false
  has_gone k h =
      let f = follow inner rs r k h in
      let lt : k < length inner + 1 = f.1 in
      ap (λ o. stands_behind (page_for es) m (frame_box (page_for es) n span o)) f.0
      ∙ no_more es rises m n k span (omega (arith, at, lt))
