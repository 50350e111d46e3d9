-- The first rule of a list that is broken, and its first place.
use Rattle.std.specs.Prelude.{◌≡◌, ℕ, zero, suc, ◌+◌, ◌<◌, ◌⊎◌, List, [], ◌∷◌, Option, Some, None, Result, Ok}
use Rattle.std.specs.Prelude.{Err, slice_get}
use Rattle.component_check.specs.Places.{Test, BrokenAt, first_place}

-- rule number n of a list, counted from 1
abbrev pub rule : {P : Type 0} → List (Test P) → ℕ → Option (Test P)
rule rules zero = None
rule rules (suc n) = slice_get rules n

-- an earlier rule, or the same rule at a smaller index
abbrev pub IsBefore : ℕ → ℕ → ℕ → ℕ → Type 0
IsBefore n i m j = (n < m) ⊎ ((n ≡ m) × (i < j))

-- what is reported: a rule is broken there, and no rule before it, nor it itself before. A report
-- is told by the number of a rule and a place.
pub record IsFirst {P E : Type 0} (told : ℕ → P → E) (rules : List (Test P)) (report : E) : Type 0 where
  pub number : ℕ
  pub test : Test P
  pub is : rule rules number ≡ Some test
  pub index : ℕ
  pub reported : report ≡ told number (test.place index)
  pub broken : BrokenAt test index
  pub first : (n i : ℕ) (t : Test P)
      → rule rules n ≡ Some t → IsBefore n i number index → BrokenAt t i → ⊥

-- no rule is broken at any place
abbrev pub NoneBroken : {P : Type 0} → List (Test P) → Type 0
NoneBroken rules = (n i : ℕ) (t : Test _) → rule rules n ≡ Some t → BrokenAt t i → ⊥

-- what a checker answers: that no rule is broken, or the first that is
abbrev pub IsFirstBroken : {P E : Type 0} → (ℕ → P → E) → List (Test P) → Result (Unit {0}) E → Type 0
IsFirstBroken told rules (Ok u) = NoneBroken rules
IsFirstBroken told rules (Err report) = IsFirst told rules report

-- ---- trying one rule after another

-- the rules from the one of number n on
abbrev pub kept_or : {P E : Type 0}
    → (ℕ → P → E) → ℕ → Option P → Result (Unit {0}) E → Result (Unit {0}) E
kept_or told n None others = others
kept_or told n (Some place) others = Err (told n place)

abbrev pub check_from : {P E : Type 0} → (ℕ → P → E) → ℕ → List (Test P) → Result (Unit {0}) E
check_from told n [] = Ok tt
check_from told n (t ∷ ts) = kept_or told n (first_place t) (check_from told (n + 1) ts)
