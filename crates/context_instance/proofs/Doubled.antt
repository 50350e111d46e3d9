-- A number that is doubled: in the end the sum has more than 64 bits, unless it is 0.
use Rattle.std.proofs.Common.{◌≡◌, ℕ, suc, ◌+◌, ◌^◌, ◌≤◌, ℤ, pos, negsuc, ◌+ℤ◌, Some, None, Bool, true, false}
use Rattle.std.proofs.Common.{refl, sym, ap, ◌∙◌, subst, arith}
use Rattle.std.specs.Prelude.{nat_lt, if◌then◌else◌}
use Rattle.std.proofs.lemmas.Int.{ints}
use Rattle.std.proofs.lemmas.Bool.Decides.{nat_tests}
use Rattle.proc_language.specs.declared.tree.Op.TheVariants.{Plus}
use Rattle.proc_semantics.specs.Values.{fits_64}
use Rattle.proc_semantics.specs.Rules.{result_of, checked}

-- doubled so often it has more than 64 bits
abbrev pub Grows : ℕ → ℤ → Type 0
Grows n (pos k) = (1 ≤ k) × (2 ^ 63 ≤ n + k)
Grows n (negsuc k) = 2 ^ 63 ≤ n + k

by_fits : (z w : ℤ) (b : Bool) → fits_64 z ≡ b → (if b then Some z else None) ≡ Some w → z ≡ w
by_fits z w true e f = cc
by_fits z w false e f = absurd cc

twice_pos : (k : ℕ) → pos k +ℤ pos k ≡ pos (k + k)
twice_pos k = omega (arith, ints)

twice_neg : (k : ℕ) → negsuc k +ℤ negsuc k ≡ negsuc (k + k + 1)
twice_neg k = omega (arith, ints)

pub doubled : (n : ℕ) (v w : ℤ) → Grows (suc n) v → result_of Plus v v ≡ Some w → Grows n w
doubled n (pos k) w g e =
    let a = g.0 in
    let b = g.1 in
    subst (Grows n) (sym (twice_pos k) ∙ by_fits (pos k +ℤ pos k) w _ refl e)
    (omega (arith, a), omega (arith, a, b))
doubled n (negsuc k) w g e =
    subst (Grows n) (sym (twice_neg k) ∙ by_fits (negsuc k +ℤ negsuc k) w _ refl e) (omega (arith, g))

too_large : (n : ℕ) → 2 ^ 63 ≤ n → nat_lt n (2 ^ 63) ≡ false
too_large n le = grind (arith, nat_tests)

pub at_last : (v : ℤ) → Grows 0 v → result_of Plus v v ≡ None
at_last (pos k) g =
    let b = g.1 in
    ap checked (twice_pos k)
    ∙ ap (λ b. if b then Some (pos (k + k)) else None) (too_large (k + k) (omega (arith, b)))
at_last (negsuc k) g =
    ap checked (twice_neg k)
    ∙ ap (λ b. if b then Some (negsuc (k + k + 1)) else None) (too_large (k + k + 1) (omega (arith, g)))
