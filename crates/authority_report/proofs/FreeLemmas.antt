-- A set that has more has fewer free places.
use Rattle.std.proofs.Common.{◌≡◌, ℕ, zero, suc, ◌+◌, ◌<◌, ◌≤◌, Bool, true, false, List, refl, sym, ap, ◌∙◌}
use Rattle.std.proofs.Common.{arith, inl, inr}
use Rattle.std.specs.Prelude.{if◌then◌else◌}
use Rattle.std.proofs.lemmas.Bool.{cases_lt}
use Rattle.authority_report.specs.Has.{has}
use Rattle.authority_report.specs.Free.{free_below}

module _ (f g : List ℕ) (more : (a : ℕ) → has f a ≡ true → has g a ≡ true) where
  here : (x y : Bool) → (x ≡ true → y ≡ true) → (if y then 0 else 1) ≤ (if x then 0 else 1)
  here true true h = omega arith
  here true false h = absurd (let e : false ≡ true = h refl in cc)
  here false true h = omega arith
  here false false h = omega arith

  pub no_more_free : (n : ℕ) → free_below g n ≤ free_below f n
  unfolding free_below
  no_more_free zero = omega arith
  no_more_free (suc n) = let a = here (has f n) (has g n) (more n) in let b = no_more_free n in
      omega (arith, a, b)

  one_less : (x y : Bool) → x ≡ false → y ≡ true → (if y then 0 else 1) + 1 ≤ (if x then 0 else 1)
  one_less true y e h = absurd cc
  one_less false true e h = omega arith
  one_less false false e h = absurd cc

  pub fewer_free : (n a : ℕ) → a < n → has f a ≡ false → has g a ≡ true → free_below g n + 1 ≤ free_below f n
  unfolding free_below
  fewer_free zero a lt e h = absurd (omega (arith, lt))
  fewer_free (suc n) a lt e h = elim (cases_lt a n) as (λ _. free_below g (suc n) + 1 ≤ free_below f
      (suc n)) [
        | inl below ↦ (let k = fewer_free n a below e h in let b = here (has f n) (has g n) (more n) in
            omega (arith, k, b))
        | inr above ↦ (
            let same : a ≡ n = omega (arith, lt, above) in
            let k = one_less (has f n) (has g n) (sym (ap (has f) same) ∙ e) (sym (ap (has g) same) ∙ h) in
            let b = no_more_free n in
            omega (arith, k, b)
            )
      ]
