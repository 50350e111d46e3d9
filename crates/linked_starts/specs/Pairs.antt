-- Rules over a list of parts: each is tried at the parts in turn, and in a part at some places.
use Rattle.std.specs.Prelude.{◌≡◌, ℕ, zero, suc, ◌+◌, ◌<◌, ◌⊎◌, Bool, false, List, length, Option, Some, None}
use Rattle.std.specs.Prelude.{is_some, unwrap_or, Result, Ok, Err, slice_get}
use Rattle.component_check.specs.Places.{Test, BrokenAt, plainly, first_of, first_place}
use Rattle.component_check.specs.Verdict.{IsBefore}
use Rattle.linked_starts.specs.declared.pairs.PartPlace.{PartPlace}

-- how many parts it is tried at, and what it is within each. A rule of all parts together is tried
-- at the number after the last part.
pub record PairTest : Type 0 where
  pub parts : ℕ
  pub within : ℕ → Test ℕ

-- it is broken in a part, at the place of an index
abbrev pub BrokenIn : PairTest → ℕ → ℕ → Type 0
BrokenIn t part index = (part < t.parts) × BrokenAt (t.within part) index

-- rule number n of a list, counted from 1
abbrev pub rule_of : List PairTest → ℕ → Option PairTest
rule_of rules zero = None
rule_of rules (suc n) = slice_get rules n

-- an earlier rule, or the same in an earlier part, or in the same part at a smaller index
abbrev pub IsBeforeIn : ℕ → ℕ → ℕ → ℕ → ℕ → ℕ → Type 0
IsBeforeIn n p i m q j = (n < m) ⊎ ((n ≡ m) × IsBefore p i q j)

-- what is reported: a rule is broken there, and no rule before it, nor it itself before
pub record IsFirstIn {E : Type 0} (told : ℕ → PartPlace → E) (rules : List PairTest) (report : E) :
    Type 0 where
  pub number : ℕ
  pub test : PairTest
  pub is : rule_of rules number ≡ Some test
  pub part : ℕ
  pub index : ℕ
  pub reported : report ≡ told number (record { part = part; place = (test.within part).place index })
  pub broken : BrokenIn test part index
  pub first : (n p i : ℕ) (t : PairTest) → rule_of rules n ≡ Some t → IsBeforeIn n p i number part index
      → BrokenIn t p i → ⊥

-- no rule is broken in any part at any place
abbrev pub NoneIsBroken : List PairTest → Type 0
NoneIsBroken rules = (n p i : ℕ) (t : PairTest) → rule_of rules n ≡ Some t → BrokenIn t p i → ⊥

-- what a checker answers: that no rule is broken, or the first that is
abbrev pub IsFirstBrokenIn : {E : Type 0} → (ℕ → PartPlace → E) → List PairTest → Result (Unit {0}) E → Type 0
IsFirstBrokenIn told rules (Ok u) = NoneIsBroken rules
IsFirstBrokenIn told rules (Err report) = IsFirstIn told rules report

-- ---- as one rule over the parts, which is broken in a part where it is broken at some place of it

abbrev pub by_part : PairTest → Test PartPlace
by_part t = record {
  count = t.parts;
  broken = λ p. is_some (first_of (t.within p));
  place = λ p. record { part = p; place = unwrap_or (first_place (t.within p)) 0 };
}

abbrev pub first_in : PairTest → Option PartPlace
first_in t = first_place (by_part t)

-- what a search over the parts finds, where Says p o is that o is the answer in part p
abbrev pub InFoundBy : (ℕ → Option ℕ → Type 0) → ℕ → Option PartPlace → Type 0
InFoundBy Says count None = (p : ℕ) → p < count → Says p None
InFoundBy Says count (Some at) =
    (at.part < count) × Says at.part (Some at.place) × ((p : ℕ) → p < at.part → Says p None)

pub record FirstInBy (Says : ℕ → Option ℕ → Type 0) (count : ℕ) (found_at : Option PartPlace) : Type 0 where
  pub found : InFoundBy Says count found_at

-- ---- how rules are written

-- tried at no place
abbrev pub never : Test ℕ
never = plainly 0 (λ i. false)

-- tried once, and told by a number
abbrev pub once : Bool → ℕ → Test ℕ
once broken told = record { count = 1; broken = λ i. broken; place = λ i. told }

-- tried at each item of a list, and told by its index
abbrev pub passes : {A : Type 0} → (A → Bool) → Option A → Bool
passes test None = false
passes test (Some x) = test x

abbrev pub at_each : {A : Type 0} → List A → (A → Bool) → Test ℕ
at_each items broken = plainly (length items) (λ i. passes broken (slice_get items i))

-- within a part what is said of its index and of it, and after the last part what is said of all
abbrev pub within_or : {A : Type 0} → (ℕ → A → Test ℕ) → Test ℕ → ℕ → Option A → Test ℕ
within_or test all p None = all
within_or test all p (Some x) = test p x

abbrev pub each_part : {A : Type 0} → List A → (ℕ → A → Test ℕ) → PairTest
each_part parts test =
    record { parts = length parts; within = λ p. within_or test never p (slice_get parts p) }

abbrev pub each_part_then : {A : Type 0} → List A → (ℕ → A → Test ℕ) → Test ℕ → PairTest
each_part_then parts test all =
    record { parts = length parts + 1; within = λ p. within_or test all p (slice_get parts p) }
