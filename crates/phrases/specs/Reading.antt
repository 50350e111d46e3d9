-- Readers of tokens from left to right, up to the first fault. Tokens L and faults F may be of any kind.
use Rattle.std.specs.Prelude.{ℕ, zero, suc, Bool, true, false, if◌then◌else◌, List, [], ◌∷◌}
use Rattle.std.specs.Prelude.{Option, Some, None, Ok, Err}
use Rattle.readers.specs.Readers as readers
use Rattle.readers.specs.Readers.{◌>>=◌, done}
use Rattle.phrases.specs.Phrase.{Meaning}

-- what is left of the tokens, and the place of the text's end
pub record Input (L : Type 0) : Type 0 where
  pub rest : List L
  pub end : ℕ

-- the place of a token, and what is told of a place: that its token was not expected, or one item too many
pub record Tells (L F : Type 0) : Type 0 where
  pub at : L → ℕ
  pub expected : ℕ → F
  pub too_many : ℕ → F

abbrev pub Reader : Type 0 → Type 0 → Type 0 → Type 0
Reader L F A = readers.Reader (Input L) F A

-- the next token, where there is one
abbrev pub first : {L : Type 0} → List L → Option L
first [] = None
first (t ∷ rest) = Some t

-- what the next token means
abbrev pub meant_in : {L A : Type 0} → Meaning L A → List L → Option A
meant_in meaning [] = None
meant_in meaning (t ∷ rest) = meaning t

abbrev pub behind_in : {L : Type 0} → List L → List L
behind_in [] = []
behind_in (t ∷ rest) = rest

abbrev pub next_means : {L A : Type 0} → Meaning L A → Input L → Option A
next_means meaning i = meant_in meaning i.rest

abbrev pub behind : {L : Type 0} → Input L → Input L
behind i = record { rest = behind_in i.rest; end = i.end }

-- how it goes on after the next token where that means something, else how it goes on at it
abbrev pub going : {L F A B : Type 0} → Option A → (A → Reader L F B) → Reader L F B → Reader L F B
going (Some x) f r i = f x (behind i)
going None f r i = r i

unfoldable pub case_next : {L F A B : Type 0} → Meaning L A → (A → Reader L F B) → Reader L F B → Reader L F B
case_next meaning f r i = going (next_means meaning i) f r i

abbrev pub is_there : {A : Type 0} → Option A → Bool
is_there None = false
is_there (Some x) = true

module _ {L F : Type 0} (tells : Tells L F) where
  abbrev pub place_in : List L → ℕ → ℕ
  place_in [] end = end
  place_in (t ∷ rest) end = tells.at t

  abbrev pub place : Input L → ℕ
  place i = place_in i.rest i.end

  abbrev pub expected : {A : Type 0} → Reader L F A
  expected i = Err (tells.expected (place i))

  -- a token of this meaning
  unfoldable pub one : {A : Type 0} → Meaning L A → Reader L F A
  one meaning = case_next meaning done expected

  -- items, as long as the next token begins one; as many as the first number at most
  unfoldable pub many : {S A B : Type 0} → ℕ → Meaning L B → (S → A → S) → (S → Reader L F A) → S
      → Reader L F (List A)
  many zero begins next r s i =
      if is_there (next_means begins i) then Err (tells.too_many (place i)) else Ok ([], i)
  many (suc fuel) begins next r s i =
      if is_there (next_means begins i)
      then (r s >>= λ x. many fuel begins next r (next s x) >>= λ xs. done (x ∷ xs)) i
      else Ok ([], i)
