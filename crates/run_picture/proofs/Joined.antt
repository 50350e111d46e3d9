-- Texts that are made piece by piece.
use Rattle.std.proofs.Common.{◌≡◌, ℕ, ◌<◌, ◌≤◌, Bool, true, false, List, [], ◌∷◌, ◌++◌, Result, Ok, Err}
use Rattle.std.proofs.Common.{refl, sym, ap, ◌∙◌, append_assoc, append-nil, arith}
use Rattle.std.specs.Prelude.{OnOk, nat_lt}
use Rattle.std.proofs.lemmas.Bool.{ltb-true}
use Rattle.run_picture.specs.Shapes.{Shape, shape_text, shapes_text}
use Rattle.run_picture.specs.Groups.{rows}

pub on_ok : {E A B : Type 0} (r : Result (Unit {0}) E) → (A → B) → OnOk r A → OnOk r B
on_ok (Ok x) f h = f h
on_ok (Err e) f h = tt

pub shapes_append : (xs ys : List Shape) → shapes_text (xs ++ ys) ≡ shapes_text xs ++ shapes_text ys
shapes_append [] ys = refl
shapes_append (x ∷ xs) ys =
    ap (λ t. shape_text x ++ t) (shapes_append xs ys)
    ∙ sym (append_assoc (shape_text x) (shapes_text xs) (shapes_text ys))

-- a piece, and one after it
pub piece : (a b old mid new : List ℕ) → mid ≡ old ++ a → new ≡ mid ++ b → new ≡ old ++ (a ++ b)
piece a b old mid new h k = k ∙ ap (λ t. t ++ b) h ∙ append_assoc old a b

-- shapes, and shapes after them
pub then : (xs ys : List Shape) (old mid new : List ℕ) → mid ≡ old ++ shapes_text xs
    → new ≡ mid ++ shapes_text ys → new ≡ old ++ shapes_text (xs ++ ys)
then xs ys old mid new h k =
    piece (shapes_text xs) (shapes_text ys) old mid new h k
    ∙ ap (λ t. old ++ t) (sym (shapes_append xs ys))

-- no row stands so low
pub no_rows : (bytes x y : ℕ) (fs : List (List ℕ)) → 210 ≤ y → rows bytes x y fs ≡ []
no_rows bytes x y [] h = refl
no_rows bytes x y (f ∷ fs) h = by_bool (nat_lt y 210) refl
  where
    by_bool : (b : Bool) → nat_lt y 210 ≡ b → rows bytes x y (f ∷ fs) ≡ []
    by_bool true e = let lt : y < 210 = ltb-true _ _ e in absurd (omega arith)
    by_bool false e = rw e refl

pub rows_over : (bytes x y : ℕ) (fs : List (List ℕ)) (text whole : List ℕ) → 210 ≤ y
    → text ++ shapes_text (rows bytes x y fs) ≡ whole → text ≡ whole
rows_over bytes x y fs text whole h k =
    sym (ap (λ rs. text ++ shapes_text rs) (no_rows bytes x y fs h) ∙ append-nil text) ∙ k
