-- A text is taken for what was written.
use Rattle.std.proofs.Common.{◌≡◌, ℕ, Bool, true, false, List, [], ◌∷◌, ◌++◌, None}
use Rattle.std.proofs.Common.{refl, sym, ap, ◌∙◌, eqb-true}
use Rattle.std.specs.Prelude.{nat_eq}
use Rattle.run_picture.specs.Shapes.{escaped_byte, escaped, unescaped_behind}
use Rattle.run_picture.specs.Laws.{EscapesAreRead}

one_byte : (b : ℕ) (rest : List ℕ)
    → unescaped_behind None (escaped_byte b ++ rest) ≡ b ∷ unescaped_behind None rest
one_byte b rest = amp (nat_eq b 38) refl
  where
    quot : nat_eq b 38 ≡ false → nat_eq b 60 ≡ false → nat_eq b 62 ≡ false → (t : Bool) → nat_eq b 34 ≡ t
        → unescaped_behind None (escaped_byte b ++ rest) ≡ b ∷ unescaped_behind None rest
    quot n1 n2 n3 true e =
        rw (n1, n2, n3, e) (ap (λ c. c ∷ unescaped_behind None rest) (sym (eqb-true b 34 e)))
    quot n1 n2 n3 false e = rw (n1, n2, n3, e) (rw n1 refl)

    gt : nat_eq b 38 ≡ false → nat_eq b 60 ≡ false → (t : Bool) → nat_eq b 62 ≡ t
        → unescaped_behind None (escaped_byte b ++ rest) ≡ b ∷ unescaped_behind None rest
    gt n1 n2 true e = rw (n1, n2, e) (ap (λ c. c ∷ unescaped_behind None rest) (sym (eqb-true b 62 e)))
    gt n1 n2 false e = quot n1 n2 e (nat_eq b 34) refl

    lt : nat_eq b 38 ≡ false → (t : Bool) → nat_eq b 60 ≡ t
        → unescaped_behind None (escaped_byte b ++ rest) ≡ b ∷ unescaped_behind None rest
    lt n1 true e = rw (n1, e) (ap (λ c. c ∷ unescaped_behind None rest) (sym (eqb-true b 60 e)))
    lt n1 false e = gt n1 e (nat_eq b 62) refl

    amp : (t : Bool) → nat_eq b 38 ≡ t
        → unescaped_behind None (escaped_byte b ++ rest) ≡ b ∷ unescaped_behind None rest
    amp true e = rw e (ap (λ c. c ∷ unescaped_behind None rest) (sym (eqb-true b 38 e)))
    amp false e = lt e (nat_eq b 60) refl

pub escapes_are_read : EscapesAreRead
escapes_are_read [] = refl
escapes_are_read (b ∷ bs) = one_byte b (escaped bs) ∙ ap (λ s. b ∷ s) (escapes_are_read bs)
