-- How long the texts of shapes are.
use Rattle.std.proofs.Common.{◌≡◌, ℕ, ◌+◌, ◌*◌, ◌≤◌, Bool, true, false, List, [], ◌∷◌, ◌++◌, length}
use Rattle.std.proofs.Common.{refl, ap, ◌∙◌, arith, length-append}
use Rattle.std.specs.Prelude.{decimal, if◌then◌else◌}
use Rattle.std.proofs.lemmas.Fmt.{length-decimal-le}
use Rattle.run_picture.specs.declared.class.Class.{Class}
use Rattle.run_picture.specs.declared.class.Class.TheVariants.{Trusted, Outside, Closed, Open, Edge, Acts}
use Rattle.run_picture.specs.declared.class.Class.TheVariants.{Arrow, Rule, End, Note, Inside}
use Rattle.run_picture.specs.Class.{class_name}
use Rattle.run_picture.specs.Shapes.{escaped, Shape, box, line, label, box_text, line_text, label_text}
use Rattle.run_picture.specs.Shapes.{shapes_text, group_text}
use Rattle.run_picture.proofs.Joined.{shapes_append}
use Rattle.run_picture.proofs.Weights.{weight}

-- ---- digits

unfoldable pub digits : ℕ → ℕ
digits n = length (decimal n)

pub digits_are : (n : ℕ) → digits n ≡ length (decimal n)
unfolding digits
digits_are n = refl

pub two : (n : ℕ) → n ≤ 99 → digits n ≤ 2
unfolding digits
two n h = length-decimal-le 2 n (omega arith) (omega arith) (omega arith)

pub three : (n : ℕ) → n ≤ 999 → digits n ≤ 3
unfolding digits
three n h = length-decimal-le 3 n (omega arith) (omega arith) (omega arith)

pub five : (n : ℕ) → n ≤ 99999 → digits n ≤ 5
unfolding digits
five n h = length-decimal-le 5 n (omega arith) (omega arith) (omega arith)

pub ten : (n : ℕ) → n ≤ 4294967295 → digits n ≤ 10
unfolding digits
ten n h = length-decimal-le 10 n (omega arith) (omega arith) (omega arith)

-- ---- one shape

pub class_len : (c : Class) → length (class_name c) ≤ 3
class_len Trusted = omega arith
class_len Outside = omega arith
class_len Closed = omega arith
class_len Open = omega arith
class_len Edge = omega arith
class_len Acts = omega arith
class_len Arrow = omega arith
class_len Rule = omega arith
class_len End = omega arith
class_len Note = omega arith
class_len Inside = omega arith

box_len : (c : Class) (left top right low : ℕ) → length (box_text c left top right low)
    ≡ 27 + length (class_name c) + 2 * digits left + digits top + digits right + digits low
unfolding box_text digits
box_len c left top right low = simp length-append (omega arith)

line_len : (c : Class) (x1 y1 x2 y2 : ℕ) → length (line_text c x1 y1 x2 y2)
    ≡ 25 + length (class_name c) + digits x1 + digits y1 + digits x2 + digits y2
unfolding line_text digits
line_len c x1 y1 x2 y2 = simp length-append (omega arith)

label_len : (c : Class) (x y : ℕ) (s : List ℕ) → length (label_text c x y s)
    ≡ 32 + length (class_name c) + digits x + digits y + length (escaped s)
unfolding label_text digits
label_len c x y s = simp length-append (omega arith)

-- ---- shapes

unfoldable pub size : List Shape → ℕ
size ss = length (shapes_text ss)

pub size_is : (ss : List Shape) → size ss ≡ length (shapes_text ss)
unfolding size
size_is ss = refl

pub size_none : size [] ≡ 0
unfolding size
size_none = refl

pub size_append : (xs ys : List Shape) → size (xs ++ ys) ≡ size xs + size ys
unfolding size
size_append xs ys = ap length (shapes_append xs ys) ∙ length-append (shapes_text xs) (shapes_text ys)

pub size_box : (c : Class) (left top right low : ℕ) (ss : List Shape) → size (box c left top right low ∷ ss)
    ≡ 27 + length (class_name c) + 2 * digits left + digits top + digits right + digits low + size ss
unfolding size
size_box c left top right low ss =
    length-append (box_text c left top right low) (shapes_text ss)
    ∙ ap (λ n. n + length (shapes_text ss)) (box_len c left top right low)

pub size_line : (c : Class) (x1 y1 x2 y2 : ℕ) (ss : List Shape) → size (line c x1 y1 x2 y2 ∷ ss)
    ≡ 25 + length (class_name c) + digits x1 + digits y1 + digits x2 + digits y2 + size ss
unfolding size
size_line c x1 y1 x2 y2 ss =
    length-append (line_text c x1 y1 x2 y2) (shapes_text ss)
    ∙ ap (λ n. n + length (shapes_text ss)) (line_len c x1 y1 x2 y2)

pub size_label : (c : Class) (x y : ℕ) (s : List ℕ) (ss : List Shape) → size (label c x y s ∷ ss)
    ≡ 32 + length (class_name c) + digits x + digits y + weight s + size ss
unfolding size weight
size_label c x y s ss =
    length-append (label_text c x y s) (shapes_text ss)
    ∙ ap (λ n. n + length (shapes_text ss)) (label_len c x y s)

-- shapes that are there or not
pub size_if : (b : Bool) (xs : List Shape) (k : ℕ) → size xs ≤ k → size (if b then xs else []) ≤ k
size_if true xs k h = h
size_if false xs k h = omega (arith, size_none)

-- ---- a group

pub group_len : (title : List ℕ) (ss : List Shape)
    → length (group_text title ss) ≡ 23 + weight title + size ss
unfolding group_text size weight
group_len title ss = simp length-append (omega arith)
