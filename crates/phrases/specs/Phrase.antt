-- What tokens can spell: a phrase relates tokens, all of them, to what they spell.
use Rattle.std.specs.Prelude.{◌≡◌, IsTrue, Bool, List, [], ◌∷◌, ◌++◌, Option, Some, ◌⊎◌}

-- a meaning of tokens: that of some, and none of the others
abbrev pub Meaning : Type 0 → Type 0 → Type 0
Meaning L A = L → Option A

abbrev pub Phrase : Type 0 → Type 0 → Type 1
Phrase L A = List L → A → Type 0

-- first the one, then what may follow it
abbrev pub then : {L A B : Type 0} → Phrase L A → (A → Phrase L B) → Phrase L B
then {L = L} {A = A} p q tokens y =
    (x : A) × (s : List L) × (t : List L) × (tokens ≡ s ++ t) × p s x × q x t y

infixl 10 ◌>>=◌
abbrev pub ◌>>=◌ : {L A B : Type 0} → Phrase L A → (A → Phrase L B) → Phrase L B
p >>= q = then p q

-- no token
abbrev pub only : {L A : Type 0} → A → Phrase L A
only x tokens y = (tokens ≡ []) × (x ≡ y)

-- a token of this meaning
abbrev pub one : {L A : Type 0} → Meaning L A → Phrase L A
one {L = L} meaning tokens x = (t : L) × (tokens ≡ t ∷ []) × (meaning t ≡ Some x)

infixr 6 ◌or◌
abbrev pub ◌or◌ : {L A : Type 0} → Phrase L A → Phrase L A → Phrase L A
(p or q) tokens x = p tokens x ⊎ q tokens x

-- no token, where the test holds
abbrev pub where_true : {L : Type 0} → Bool → Phrase L (Unit {0})
where_true b tokens u = (tokens ≡ []) × IsTrue b

abbrev pub nothing : {L A : Type 0} → Phrase L A
nothing tokens x = ⊥

-- any number of items, of which each may be told what those before it have come to
abbrev pub many : {L S A : Type 0} → (S → A → S) → (S → Phrase L A) → S → Phrase L (List A)
many next p s tokens [] = tokens ≡ []
many {L = L} next p s tokens (x ∷ xs) =
    (first : List L) × (others : List L) × (tokens ≡ first ++ others) × p s first x
    × many next p (next s x) others xs
