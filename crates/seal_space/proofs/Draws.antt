-- What many draws give.
use Rattle.std.proofs.Common.{◌≡◌, ℕ, zero, suc, ◌+◌, ◌-◌, ◌<◌, ◌≤◌, Bool, true, false, Some, None, refl, sym}
use Rattle.std.proofs.Common.{ap, ◌∙◌, arith, subst}
use Rattle.std.specs.Prelude.{◌==◌}
use Rattle.std.proofs.lemmas.Bool.Decides.{nat_tests}
use Rattle.std.proofs.lemmas.Bool.{eqb-true}
use Rattle.cap_words.specs.Stretch.{Stretch}
use Rattle.seal_space.specs.Seals.{next_of, after_draw, after_draws}

is_not_zero : (n : ℕ) → 0 < n → (n == 0) ≡ false
is_not_zero n lt = grind (arith, nat_tests)

drawn : (lot : Stretch) → 0 < lot.count
    → after_draw lot ≡ record { base = lot.base + 1; count = lot.count - 1 }
drawn lot lt = rw (is_not_zero lot.count lt) refl

pub gives : (n : ℕ) (lot : Stretch) → n < lot.count → next_of (after_draws n lot) ≡ Some (lot.base + n)
unfolding after_draws
gives zero lot lt = rw (is_not_zero lot.count lt) (ap Some (omega arith))
gives (suc n) lot lt =
    let P : Stretch → Type 0 = λ r. next_of (after_draws n r) ≡ Some (lot.base + suc n) in
    subst P (sym (drawn lot (omega arith)))
    (gives n (record { base = lot.base + 1; count = lot.count - 1 }) (omega arith)
    ∙ ap Some (omega arith))

fewer : (lot : Stretch) (n : ℕ) → lot.count ≤ suc n → (b : Bool) → (lot.count == 0) ≡ b
    → (after_draw lot).count ≤ n
fewer lot n le true e = rw e (let zero_left : lot.count ≡ 0 = eqb-true lot.count 0 e in omega arith)
fewer lot n le false e = rw e (omega arith)

pub ends : (n : ℕ) (lot : Stretch) → lot.count ≤ n → next_of (after_draws n lot) ≡ None
unfolding after_draws
ends zero lot le = let e : lot.count ≡ 0 = omega arith in rw e refl
ends (suc n) lot le = ends n (after_draw lot) (fewer lot n le (lot.count == 0) refl)
