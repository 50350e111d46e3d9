-- What a fault says where memory may be refused.
use Rattle.std.proofs.Common.{◌≡◌, Bool, true, false, Result, Ok, Err, refl, sym, ap, ◌∙◌}
use Rattle.readers.specs.Readers.{Reader, told_by, telling}
use Rattle.readers.specs.Answers.{Unless, Fails}

pub unless_then : {P Q : Type 0} (b : Bool) → (P → Q) → Unless b P → Unless b Q
unless_then true f h = tt
unless_then false f h = f h

-- a fault stays what it is where nothing comes of it but itself
pub still_fails : {F A B : Type 0} (is_refusal : F → Bool) (e : F) (r : Result A F) (s : Result B F)
    → (r ≡ Err e → s ≡ Err e) → Fails is_refusal e r → Fails is_refusal e s
still_fails is_refusal e r s f h = unless_then (is_refusal e) f h

pub fails_with : {F A : Type 0} (is_refusal : F → Bool) (e : F) (r : Result A F) → r ≡ Err e
    → Fails is_refusal e r
fails_with is_refusal e r is = by_test (is_refusal e) is
  where
    by_test : {P : Type 0} (b : Bool) → P → Unless b P
    by_test true h = tt
    by_test false h = h

no_fault : {F A : Type 0} (x : A) (e : F) → (let read : Result A F = Ok x in read) ≡ Err e → ⊥
no_fault x e same = absurd cc

-- where something is read, only memory can be refused
pub only_refusal : {F A : Type 0} (is_refusal : F → Bool) (e : F) (x : A) (r : Result A F)
    → Fails is_refusal e r → r ≡ Ok x → is_refusal e ≡ true
only_refusal is_refusal e x r failed is = by_test (is_refusal e) refl failed
  where
    by_test : (b : Bool) → is_refusal e ≡ b → Unless b (r ≡ Err e) → is_refusal e ≡ true
    by_test true at h = at
    by_test false at h = absurd (no_fault x e (sym is ∙ h))

pub told_ok : {E F A : Type 0} (told : E → F) (r : Result A E) (x : A) → told_by told r ≡ Ok x → r ≡ Ok x
told_ok told (Ok y) x e = let is : y ≡ x = cc in ap Ok is
told_ok told (Err e) x h = absurd cc

-- what is read with other faults
pub telling_read : {I E F A : Type 0} (told : E → F) (r : Reader I E A) (i j : I) (x : A) → r i ≡ Ok (x, j)
    → telling told r i ≡ Ok (x, j)
unfolding telling
telling_read told r i j x h = ap (told_by told) h

pub telling_fails : {I E F A : Type 0} (told : E → F) (r : Reader I E A) (i : I) (e : E) → r i ≡ Err e
    → telling told r i ≡ Err (told e)
unfolding telling
telling_fails told r i e h = ap (told_by told) h
