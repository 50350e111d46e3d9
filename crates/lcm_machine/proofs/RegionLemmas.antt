-- Regions lie apart, and what of them a capability has.
use Rattle.std.proofs.Common.{◌≡◌, ◌⊎◌, inl, inr, ℕ, zero, suc, ◌+◌, ◌≤◌, true, false, List, [], ◌∷◌, Some}
use Rattle.std.proofs.Common.{refl, ap, ◌∙◌, arith, pos}
use Rattle.std.specs.Prelude.{IsTrue, nat_le}
use Rattle.std.specs.List.{Contains}
use Rattle.std.proofs.lemmas.Bool.{leb-true, and_parts, le-leb}
use Rattle.cap_words.specs.declared.CapFields.{CapFields}
use Rattle.cap_words.specs.declared.Word.{Word}
use Rattle.cap_words.specs.declared.Word.TheVariants.{Int, Mem, Seal, Sealed as SealedWord}
use Rattle.cap_words.specs.declared.Sealable.TheVariants.{Mem as MemIn, Seal as SealIn}
use Rattle.cap_words.specs.Linear.{lin_is, is_linear}
use Rattle.cap_words.specs.Faces.{covers}
use Rattle.lcm_machine.specs.Regions.{Region, AreApart, IsLinearAt, InOneRegion, memory_of}

pub contains_cases : {A : Type 0} (x : A) (xs : List A) (y : A) → Contains (x ∷ xs) y → (x ≡ y)
    ⊎ Contains xs y
contains_cases x xs y (zero, lt, e) = inl e
contains_cases x xs y (suc k, lt, e) = inr (k, omega (arith, lt), e)

pub contains_none : {A : Type 0} (y : A) → Contains [] y → ⊥
contains_none y m = omega (arith, m.1)

pub over_bounds : (c : CapFields) (a : ℕ) → IsTrue (covers c (pos a)) → (c.base ≤ a) × (a ≤ c.end)
over_bounds c a h = let k =
    and_parts (nat_le c.base a) (nat_le a c.end) h in (leb-true c.base a k.0, leb-true a c.end k.1)

pub bounds_over : (c : CapFields) (a : ℕ) → c.base ≤ a → a ≤ c.end → IsTrue (covers c (pos a))
bounds_over c a l h = let k = le-leb c.base a l in let m = le-leb a c.end h in rw (k, m) refl

-- a capability that is not linear is over no address of a linear region
pub normal_apart : (rs : List Region) (c : CapFields) (a : ℕ) → AreApart rs → InOneRegion rs c
    → lin_is c.lin ≡ false → IsLinearAt rs a → IsTrue (covers c (pos a)) → ⊥
normal_apart rs c a h m l n o =
    let k = over_bounds c a o in
    elim (h m.0 n.0 m.1 n.1) as (λ _. ⊥) [
      | inl same ↦ (let e : lin_is c.lin ≡ true = m.5 ∙ ap (λ r. r.linear) same ∙ n.2 in cc)
      | inr (inl low) ↦ omega (arith, k.0, k.1, m.2, m.4, n.3, n.4, low)
      | inr (inr high) ↦ omega (arith, k.0, k.1, m.2, m.4, n.3, n.4, high)
    ]

-- two capabilities over adjacent ranges lie in one region, since regions are not adjacent
pub joined_in : (rs : List Region) (a b : CapFields) → AreApart rs → InOneRegion rs a → InOneRegion rs b
    → a.end + 1 ≡ b.base → InOneRegion rs (record b { base = a.base })
joined_in rs a b h m n meet = elim (h m.0 n.0 m.1 n.1) as (λ _. InOneRegion rs (record b { base = a.base })) [
  | inl same ↦ (n.0, n.1, rw same at m.2, omega (arith, m.3, n.3, meet), n.4, n.5)
  | inr (inl low) ↦ absurd (omega (arith, m.4, n.2, meet, low))
  | inr (inr high) ↦ absurd (omega (arith, m.2, m.3, n.3, n.4, meet, high))
]

pub linear_of : (x : Word) (c : CapFields) → memory_of x ≡ Some c → is_linear x ≡ lin_is c.lin
linear_of (Int n) c e = cc
linear_of (Mem d) c e = let k : d ≡ c = cc in rw k refl
linear_of (Seal s) c e = cc
linear_of (SealedWord o (MemIn d)) c e = let k : d ≡ c = cc in rw k refl
linear_of (SealedWord o (SealIn s)) c e = cc
