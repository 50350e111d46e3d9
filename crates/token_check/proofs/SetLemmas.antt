-- Sets of tokens: tests and what they say.
use Rattle.std.proofs.Common.{◌≡◌, refl, sym, ◌∙◌, ap, Bool, true, false, ◌&&◌, [], ◌∷◌}
use Rattle.std.proofs.Common.{ℕ, ◌≤◌, length, slice_set}
use Rattle.std.proofs.lemmas.List.{set_past}
use Rattle.token_check.specs.Tokens.{Full, alike, equal_sets}

-- a place after the last is not set
pub stays : (s : Full) (i : ℕ) (b : Bool) → length s ≤ i → s ≡ slice_set s i b
stays s i b h = sym (set_past s i b h)

alike_same : (a b : Bool) → alike a b ≡ true → a ≡ b
alike_same true b h = sym h
alike_same false true h = absurd (let k : false ≡ true = h in cc)
alike_same false false h = refl

alike_self : (a : Bool) → alike a a ≡ true
alike_self true = refl
alike_self false = refl

both : (a b : Bool) → (a && b) ≡ true → (a ≡ true) × (b ≡ true)
both true b h = (refl, h)
both false b h = absurd (let k : false ≡ true = h in cc)

pub sets_same : (s t : Full) → equal_sets s t ≡ true → s ≡ t
sets_same [] [] h = refl
sets_same [] (b ∷ t) h = absurd (let k : false ≡ true = h in cc)
sets_same (a ∷ s) [] h = absurd (let k : false ≡ true = h in cc)
sets_same (a ∷ s) (b ∷ t) h =
    let two = both (alike a b) (equal_sets s t) h in
    λ i. alike_same a b two.0 i ∷ sets_same s t two.1 i

pub sets_self : (s : Full) → equal_sets s s ≡ true
sets_self [] = refl
sets_self (a ∷ s) = ap (λ x. x && equal_sets s s) (alike_self a) ∙ sets_self s
