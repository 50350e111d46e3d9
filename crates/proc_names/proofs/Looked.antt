-- What is said of an index of a list, by what is found there.
use Rattle.std.proofs.Common.{◌≡◌, ℕ, ◌<◌, ◌≤◌, List, length, get_or, Option, Some, None, refl, sym, ap}
use Rattle.std.specs.Prelude.{slice_get}
use Rattle.std.proofs.lemmas.Option.{slice_get_read, slice_get_past}

pub there : {A B : Type 0} (of : Option A → B) (xs : List A) (i : ℕ) (x : A) → i < length xs
    → x ≡ get_or xs i x → of (Some x) ≡ of (slice_get xs i)
there of xs i x within is = sym (ap of (slice_get_read xs (length xs) i x refl within is))

pub past : {A B : Type 0} (of : Option A → B) (xs : List A) (i : ℕ) → length xs ≤ i
    → of None ≡ of (slice_get xs i)
past of xs i over = sym (ap of (slice_get_past xs i over))
