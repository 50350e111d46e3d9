-- What the test for disjoint ranges tells.
use Rattle.std.proofs.Common.{◌≡◌, Bool, true, false, refl, sym, ◌∙◌, arith}
use Rattle.std.specs.Prelude.{max}
use Rattle.std.specs.Bool.{Decides}
use Rattle.std.proofs.lemmas.Bool.Decides.{nat_tests}
use Rattle.cap_words.specs.Stretch.{Stretch}
use Rattle.seal_space.specs.Seals.{NoneInBoth, are_disjoint}

apart : (a b : Stretch) → are_disjoint a b ≡ true → NoneInBoth a b
apart a b e seal in_a in_b = grind (arith, nat_tests)

together : (a b : Stretch) → are_disjoint a b ≡ false → NoneInBoth a b → ⊥
together a b e none = none (max a.base b.base) (grind (arith, nat_tests)) (grind (arith, nat_tests))

pub decides : (a b : Stretch) (r : Bool) → r ≡ are_disjoint a b → Decides r (NoneInBoth a b)
decides a b r e = (λ is. apart a b (sym e ∙ is), λ none. by_test (are_disjoint a b) refl none)
  where
    by_test : (t : Bool) → are_disjoint a b ≡ t → NoneInBoth a b → r ≡ true
    by_test true is none = e ∙ is
    by_test false is none = absurd (together a b is none)
