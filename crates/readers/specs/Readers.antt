-- Reading from left to right: a reader takes something from the front of an input, or says what is wrong with
-- it.
use Rattle.std.specs.Prelude.{ℕ, zero, suc, Bool, true, false, List, [], ◌∷◌, Option, Some, None}
use Rattle.std.specs.Prelude.{Result, Ok, Err}

-- what is read and what is left, or what is wrong; of inputs I and faults F
abbrev pub Reader : Type 0 → Type 0 → Type 0 → Type 0
Reader I F A = I → Result (A × I) F

-- the first fault wins: only where something was read is more
abbrev pub goes_on : {I F A B : Type 0} → Result (A × I) F → (A → Reader I F B) → Result (B × I) F
goes_on (Ok x) f = f x.0 x.1
goes_on (Err e) f = Err e

infixl 10 ◌>>=◌
abbrev pub ◌>>=◌ : {I F A B : Type 0} → Reader I F A → (A → Reader I F B) → Reader I F B
(r >>= f) i = goes_on (r i) f

-- the value itself, with nothing read
abbrev pub done : {I F A : Type 0} → A → Reader I F A
done x i = Ok (x, i)

-- ---- with nothing read

-- a value, where there is one
abbrev pub unless_none : {I F A : Type 0} → F → Option A → Reader I F A
unless_none fault None i = Err fault
unless_none fault (Some x) i = Ok (x, i)

-- a test that has to hold here
abbrev pub holds : {I F : Type 0} → Bool → F → Reader I F (Unit {0})
holds true fault i = Ok (tt, i)
holds false fault i = Err fault

-- an answer that was found otherwise
abbrev pub given : {I F A : Type 0} → Result A F → Reader I F A
given (Ok x) i = Ok (x, i)
given (Err e) i = Err e

-- ---- faults of another layer

abbrev pub told_by : {E F A : Type 0} → (E → F) → Result A E → Result A F
told_by told (Ok x) = Ok x
told_by told (Err e) = Err (told e)

-- a reader whose faults are told as others
unfoldable pub telling : {I E F A : Type 0} → (E → F) → Reader I E A → Reader I F A
telling told r i = told_by told (r i)

-- ---- lists

-- so many items one after another; each is told what came of those before it
unfoldable pub items_from : {I F A B : Type 0} → (B → A → B) → (B → Reader I F A) → ℕ → B
    → Reader I F (List A)
items_from next item zero before = done []
items_from next item (suc n) before = do
  first ← item before
  others ← items_from next item n (next before first)
  done (first ∷ others)
