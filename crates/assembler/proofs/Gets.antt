-- What readers read: facts of every value that a reader gives.
use Rattle.std.proofs.Common.{◌≡◌, ℕ, ◌≤◌, Bool, true, false, cond, Option, Some, Ok, refl, subst, arith}
use Rattle.std.proofs.lemmas.Bool.Decides.{nat_tests}
use Rattle.std.specs.Prelude.{ℤ, pos, negsuc, nat_abs, int_le, IsTrue, FitsSigned}
use Rattle.std.specs.Int.{w32, w64}
use Rattle.std.proofs.lemmas.Bool.{and_parts}
use Rattle.readers.proofs.Offers.{goes_on_ok, ok_value, some_ok}
use Rattle.asm_fields.specs.declared.fault.AsmFault.{AsmFault}
use Rattle.asm_fields.specs.declared.fault.AsmFault.TheVariants.{Range}
use Rattle.readers.specs.Readers.{Reader, ◌>>=◌, done, unless_none, holds}
use Rattle.asm_fields.specs.Fields.{Input, place, sign_at, number_from, signed, minus, integer_at, natural_at}

-- whatever the reader gives keeps the fact
pub record Gets {A : Type 0} (P : A → Type 0) (r : Reader Input AsmFault A) : Type 0 where
  pub gets : (i : Input) (x : A) (j : Input) → r i ≡ Ok (x, j) → P x

abbrev pub Any : {A : Type 0} → A → Type 0
Any x = Unit {0}

pub gets_any : {A : Type 0} (r : Reader Input AsmFault A) → Gets Any r
gets_any r = record { gets = λ i x j h. tt }

pub gets_then : {A B : Type 0} (P : A → Type 0) (Q : B → Type 0) (r : Reader Input AsmFault A)
    (f : A → Reader Input AsmFault B) → Gets P r → ((x : A) → P x → Gets Q (f x)) → Gets Q (r >>= f)
gets_then P Q r f first then = record {
  gets = λ i y k h.
      let x = goes_on_ok (r i) f (y, k) h in
      (then x.0.0 (first.gets i x.0.0 x.0.1 x.1)).gets x.0.1 y k x.2;
}

pub gets_done : {A : Type 0} (P : A → Type 0) (x : A) → P x → Gets P (done x)
gets_done P x p = record { gets = λ i y k h. subst P (ok_value x y i k h).0 p }

on_holds : (b : Bool) (fault : AsmFault) (i : Input) (x : Unit {0}) (j : Input)
    → holds b fault i ≡ Ok (x, j) → b ≡ true
on_holds true fault i x j h = refl
on_holds false fault i x j h = absurd cc

pub gets_holds : (b : Bool) (fault : AsmFault) → Gets (λ _. b ≡ true) (holds b fault)
gets_holds b fault = record { gets = on_holds b fault }

pub gets_some : {A : Type 0} (fault : AsmFault) (o : Option A)
    → Gets (λ x. o ≡ Some x) (unless_none fault o)
gets_some fault o = record { gets = λ i x j h. (some_ok fault o i x j h).0 }

pub gets_if : {A : Type 0} (P : A → Type 0) (b : Bool) (r s : Reader Input AsmFault A)
    → (b ≡ true → Gets P r) → (b ≡ false → Gets P s) → Gets P (cond b r s)
gets_if P true r s holding failing = holding refl
gets_if P false r s holding failing = failing refl

-- a reader that looks at its input first
pub gets_looking : {A : Type 0} (P : A → Type 0) (r : Input → Reader Input AsmFault A)
    → ((i : Input) → Gets P (r i)) → Gets P (λ i. r i i)
gets_looking P r each = record { gets = λ i x j h. (each i).gets i x j h }

-- ---- numbers

abbrev pub Within : ℤ → ℤ → ℤ → Type 0
Within low high z = IsTrue (int_le low z) × IsTrue (int_le z high)

pub integer_within : (low high : ℤ) → Gets (Within low high) (integer_at low high)
unfolding integer_at
integer_within low high =
    gets_then Any (Within low high) _ _ (gets_any place) (λ at _.
    gets_then Any (Within low high) _ _ (gets_any (sign_at minus)) (λ negative _.
    gets_then Any (Within low high) _ _ (gets_any (number_from at)) (λ n _.
    gets_then _ (Within low high) _ _ (gets_holds _ (Range at)) (λ _ h.
    gets_done (Within low high) (signed negative n) (and_parts _ _ h)))))

abs_within : (low high : ℕ) (z : ℤ) → Within (pos low) (pos high) z → (low ≤ nat_abs z) × (nat_abs z ≤ high)
abs_within low high (pos n) h = (grind (arith, nat_tests, h.0), grind (arith, nat_tests, h.1))
abs_within low high (negsuc n) h = absurd cc

pub natural_within : (low high : ℕ) → Gets (λ n. (low ≤ n) × (n ≤ high)) (natural_at low high)
unfolding natural_at
natural_within low high =
    gets_then _ (λ n. (low ≤ n) × (n ≤ high)) _ _ (integer_within (pos low) (pos high)) (λ z h.
    gets_done (λ n. (low ≤ n) × (n ≤ high)) (nat_abs z) (abs_within low high z h))

pub fits_64 : (z : ℤ) → Within (negsuc 9223372036854775807) (pos 9223372036854775807) z → FitsSigned w64 z
fits_64 (pos n) h = record { sfits = grind (arith, nat_tests, h.1) }
fits_64 (negsuc n) h = record { sfits = grind (arith, nat_tests, h.0) }

pub fits_32 : (z : ℤ) → Within (negsuc 2147483647) (pos 2147483647) z → FitsSigned w32 z
fits_32 (pos n) h = record { sfits = grind (arith, nat_tests, h.1) }
fits_32 (negsuc n) h = record { sfits = grind (arith, nat_tests, h.0) }
