-- What tokens mean, and the readers of one token.
use Rattle.std.proofs.Common.{◌≡◌, Bool, true, false, cond, ℕ, zero, suc, ◌+◌, ◌≤◌, ◌<◌, arith, length, List}
use Rattle.std.proofs.Common.{[], ◌∷◌, Option, Some, None, refl, ap, ◌∙◌, inl, inr, ◌⊎◌}
use Rattle.std.specs.Prelude.{◌==◌, ◌||◌, nat_lt}
use Rattle.std.specs.List.{list_any, list_all}
use Rattle.std.specs.Str.{bytes_eq}
use Rattle.std.proofs.lemmas.Bool.{eqb-true, ltb-true, and_parts, or_right, false_from_ne_true, both_ways}
use Rattle.std.proofs.lemmas.Slice.Eq.{bytes_eq-Decides}
use Rattle.text_scan.specs.declared.token.TokenKind.{TokenKind}
use Rattle.text_scan.specs.declared.token.TokenKind.TheVariants as kinds
use Rattle.proc_language.specs.declared.tree.Name.{Name}
use Rattle.proc_language.specs.declared.tree.Op.{Op}
use Rattle.proc_language.specs.declared.tree.Op.TheVariants.{Plus, Minus, Less}
use Rattle.proc_grammar.specs.Lexemes.{Lexeme, Numeral, word, word_in, a_name, a_number, number_in, sign}
use Rattle.proc_grammar.specs.Lexemes.{sign_in, name_in, name_text, taken, adding, added, comparing, compared}
use Rattle.proc_language.specs.Words.{is_reserved, reserved}
use Rattle.phrases.specs.Phrase as phrases
use Rattle.proc_grammar.specs.Reader.{one}
use Rattle.proc_grammar.proofs.Told.{Reads, distinct}
use Rattle.phrases.proofs.Offers.{Any, reads_one}

abbrev pub named : List ℕ → Lexeme
named text = record { kind = kinds.Name; at = 0; text = text }

abbrev pub signed_by : ℕ → Lexeme
signed_by s = record { kind = kinds.Sign s; at = 0; text = [] }

a_one : Lexeme
a_one = record { kind = kinds.Number 1; at = 0; text = [] }

-- ---- what the first token is

chosen : {A : Type 0} (b : Bool) (o : Option A) (a : A) → cond b o None ≡ Some a → b ≡ true
chosen true o a e = refl
chosen false o a e = absurd cc

two_chosen : (b c : Bool) (x y o : Op) → cond b (Some x) (cond c (Some y) None) ≡ Some o → (b ≡ true)
    ⊎ (c ≡ true)
two_chosen true c x y o e = inl refl
two_chosen false true x y o e = inr refl
two_chosen false false x y o e = absurd cc

by_kind : (s : ℕ) (k : TokenKind) (at a : ℕ) → sign_in s k at ≡ Some a → k ≡ kinds.Sign s
by_kind s kinds.Name at a e = absurd cc
by_kind s (kinds.Number n) at a e = absurd cc
by_kind s (kinds.Sign b) at a e = ap (λ n. kinds.Sign n) (eqb-true b s (chosen (b == s) (Some at) a e))
by_kind s kinds.Equal at a e = absurd cc
by_kind s kinds.NewLine at a e = absurd cc

of_number : (k : TokenKind) (at : ℕ) (n : Numeral) → number_in k at ≡ Some n → k ≡ kinds.Number n.value
of_number kinds.Name at n e = absurd cc
of_number (kinds.Number m) at n e =
    let same : record { value = m; at = at } ≡ n = cc in
    ap (λ (x : Numeral). kinds.Number x.value) same
of_number (kinds.Sign b) at n e = absurd cc
of_number kinds.Equal at n e = absurd cc
of_number kinds.NewLine at n e = absurd cc

not_chosen : {A : Type 0} (b : Bool) (o : A) (a : A) → cond b None (Some o) ≡ Some a → b ≡ false
not_chosen true o a e = absurd cc
not_chosen false o a e = refl

of_name : (words : List (List ℕ)) (k : TokenKind) (at : ℕ) (text : List ℕ) (x : Name)
    → name_in words at (name_text k text) ≡ Some x → (k ≡ kinds.Name) × (taken words text ≡ false)
of_name words kinds.Name at text x e = (refl, not_chosen (taken words text) _ x e)
of_name words (kinds.Number m) at text x e = absurd cc
of_name words (kinds.Sign b) at text x e = absurd cc
of_name words kinds.Equal at text x e = absurd cc
of_name words kinds.NewLine at text x e = absurd cc

of_word : (w : List ℕ) (k : TokenKind) (at : ℕ) (text : List ℕ) (a : ℕ)
    → word_in w at (name_text k text) ≡ Some a → (k ≡ kinds.Name) × (text ≡ w)
of_word w kinds.Name at text a e =
    (refl, (bytes_eq-Decides text w).0 (chosen (bytes_eq text w) (Some at) a e))
of_word w (kinds.Number m) at text a e = absurd cc
of_word w (kinds.Sign b) at text a e = absurd cc
of_word w kinds.Equal at text a e = absurd cc
of_word w kinds.NewLine at text a e = absurd cc

pub sign_kind : (s : ℕ) (u : Lexeme) (a : ℕ) → sign s u ≡ Some a → u.kind ≡ kinds.Sign s
unfolding sign
sign_kind s u a e = by_kind s u.kind u.at a e

pub number_kind : (u : Lexeme) (n : Numeral) → a_number u ≡ Some n → u.kind ≡ kinds.Number n.value
unfolding a_number
number_kind u n e = of_number u.kind u.at n e

pub name_kind : (words : List (List ℕ)) (u : Lexeme) (x : Name) → a_name words u ≡ Some x
    → (u.kind ≡ kinds.Name) × (taken words u.text ≡ false)
unfolding a_name
name_kind words u x e = of_name words u.kind u.at u.text x e

pub word_kind : (w : List ℕ) (u : Lexeme) (a : ℕ) → word w u ≡ Some a → (u.kind ≡ kinds.Name) × (u.text ≡ w)
unfolding word
word_kind w u a e = of_word w u.kind u.at u.text a e

adds : (k : TokenKind) (o : Op) → added k ≡ Some o → (k ≡ kinds.Sign 43) ⊎ (k ≡ kinds.Sign 45)
adds kinds.Name o e = absurd cc
adds (kinds.Number n) o e = absurd cc
adds (kinds.Sign b) o e = elim (two_chosen (b == 43) (b == 45) Plus Minus o e) [
  | inl h ↦ inl (ap (λ n. kinds.Sign n) (eqb-true b 43 h))
  | inr h ↦ inr (ap (λ n. kinds.Sign n) (eqb-true b 45 h))
]
adds kinds.Equal o e = absurd cc
adds kinds.NewLine o e = absurd cc

pub adding_kind : (u : Lexeme) (o : Op) → adding u ≡ Some o → (u.kind ≡ kinds.Sign 43)
    ⊎ (u.kind ≡ kinds.Sign 45)
unfolding adding
adding_kind u o e = adds u.kind o e

compares : (k : TokenKind) (o : Op) → compared k ≡ Some o → (k ≡ kinds.Sign 60) ⊎ (k ≡ kinds.Equal)
compares kinds.Name o e = absurd cc
compares (kinds.Number n) o e = absurd cc
compares (kinds.Sign b) o e = inl (ap (λ n. kinds.Sign n) (eqb-true b 60 (chosen (b == 60) (Some Less) o e)))
compares kinds.Equal o e = inr refl
compares kinds.NewLine o e = absurd cc

pub comparing_kind : (u : Lexeme) (o : Op) → comparing u ≡ Some o → (u.kind ≡ kinds.Sign 60)
    ⊎ (u.kind ≡ kinds.Equal)
unfolding comparing
comparing_kind u o e = compares u.kind o e

-- ---- what a token of some kind isn't

pub no_sign : (s : ℕ) (u : Lexeme) (k : TokenKind) → u.kind ≡ k → sign_in s k u.at ≡ None → sign s u ≡ None
unfolding sign
no_sign s u k e h = ap (λ z. sign_in s z u.at) e ∙ h

pub no_adding : (u : Lexeme) (k : TokenKind) → u.kind ≡ k → added k ≡ None → adding u ≡ None
unfolding adding
no_adding u k e h = ap added e ∙ h

pub no_comparing : (u : Lexeme) (k : TokenKind) → u.kind ≡ k → compared k ≡ None → comparing u ≡ None
unfolding comparing
no_comparing u k e h = ap compared e ∙ h

pub no_number : (u : Lexeme) (k : TokenKind) → u.kind ≡ k → number_in k u.at ≡ None → a_number u ≡ None
unfolding a_number
no_number u k e h = ap (λ z. number_in z u.at) e ∙ h

pub no_word_kind : (w : List ℕ) (u : Lexeme) (k : TokenKind) → u.kind ≡ k
    → word_in w u.at (name_text k u.text) ≡ None → word w u ≡ None
unfolding word
no_word_kind w u k e h = ap (λ z. word_in w u.at (name_text z u.text)) e ∙ h

-- a word of the language is reserved, whatever words are added
pub reserved_taken : (words : List (List ℕ)) (w : List ℕ) → is_reserved w ≡ true → taken words w ≡ true
reserved_taken [] w e = e
reserved_taken (v ∷ words) w e = or_right (bytes_eq v w) (taken words w) (reserved_taken words w e)

-- a name is no reserved word
pub no_word_taken : (words : List (List ℕ)) (w : List ℕ) (u : Lexeme) → u.kind ≡ kinds.Name
    → taken words u.text ≡ false → taken words w ≡ true → word w u ≡ None
unfolding word
no_word_taken words w u k free reserved =
    let differs : bytes_eq u.text w ≡ false = false_from_ne_true (bytes_eq u.text w)
    (λ e. both_ways _ free (ap (taken words) ((bytes_eq-Decides u.text w).0 e) ∙ reserved)) in
    ap (λ z. word_in w u.at (name_text z u.text)) k ∙ ap (λ b. cond b (Some u.at) None) differs

pub no_word_name : (words : List (List ℕ)) (w : List ℕ) (u : Lexeme) → u.kind ≡ kinds.Name
    → taken words u.text ≡ false → is_reserved w ≡ true → word w u ≡ None
no_word_name words w u k free reserved = no_word_taken words w u k free (reserved_taken words w reserved)

pub sign_apart : (s s' : ℕ) → (s == s') ≡ false → (u : Lexeme) (a : ℕ) → sign s u ≡ Some a → sign s' u ≡ None
sign_apart s s' h u a e = no_sign s' u (kinds.Sign s) (sign_kind s u a e)
    (ap (λ b. cond b (Some u.at) None) h)

pub number_apart : (s : ℕ) (u : Lexeme) (n : Numeral) → a_number u ≡ Some n → sign s u ≡ None
number_apart s u n e = no_sign s u (kinds.Number n.value) (number_kind u n e) refl

pub name_apart : (words : List (List ℕ)) (s : ℕ) (u : Lexeme) (x : Name) → a_name words u ≡ Some x
    → sign s u ≡ None
name_apart words s u x e = no_sign s u kinds.Name (name_kind words u x e).0 refl

pub word_apart : (s : ℕ) (w : List ℕ) (u : Lexeme) (a : ℕ) → word w u ≡ Some a → sign s u ≡ None
word_apart s w u a e = no_sign s u kinds.Name (word_kind w u a e).0 refl

pub sign_no_word : (w : List ℕ) (s : ℕ) (u : Lexeme) (a : ℕ) → sign s u ≡ Some a → word w u ≡ None
sign_no_word w s u a e = no_word_kind w u (kinds.Sign s) (sign_kind s u a e) refl

pub number_no_word : (w : List ℕ) (u : Lexeme) (n : Numeral) → a_number u ≡ Some n → word w u ≡ None
number_no_word w u n e = no_word_kind w u (kinds.Number n.value) (number_kind u n e) refl

pub name_no_word : (words : List (List ℕ)) (w : List ℕ) → is_reserved w ≡ true → (u : Lexeme) (x : Name)
    → a_name words u ≡ Some x → word w u ≡ None
name_no_word words w reserved u x e = let h = name_kind words u x e in no_word_name words w u h.0 h.1 reserved

pub word_other : (v w : List ℕ) → bytes_eq v w ≡ false → (u : Lexeme) → ((a : ℕ) × (word v u ≡ Some a))
    → word w u ≡ None
unfolding word
word_other v w h u (a, e) =
    let k = word_kind v u a e in
    ap (λ z. word_in w u.at (name_text z u.text)) k.0 ∙ ap (λ z. word_in w u.at (Some z)) k.1
    ∙ ap (λ b. cond b (Some u.at) None) h

-- ---- a name that no list of words has

letters : ℕ → List ℕ
letters zero = []
letters (suc n) = 120 ∷ letters n

letters_length : (n : ℕ) → length (letters n) ≡ n
unfolding letters
letters_length zero = refl
letters_length (suc n) = let e = letters_length n in omega (arith, e)

-- longer than all of them together
abbrev long_for : List (List ℕ) → ℕ
long_for [] = 8
long_for (w ∷ words) = length w + long_for words

differ : (w text : List ℕ) → length w < length text → bytes_eq w text ≡ false
differ w text less = false_from_ne_true (bytes_eq w text) (λ e. let same : length w ≡ length text =
    ap length ((bytes_eq-Decides w text).0 e) in omega (arith, less, same))

none_is : (words : List (List ℕ)) (text : List ℕ) → list_all (λ w. nat_lt (length w) 8) words ≡ true
    → 8 ≤ length text → list_any (λ w. bytes_eq w text) words ≡ false
none_is [] text small long = refl
none_is (w ∷ words) text small long =
    let parts = and_parts (nat_lt (length w) 8) _ small in
    let less : length w < 8 = ltb-true _ _ parts.0 in
    ap (λ b. b || list_any (λ v. bytes_eq v text) words) (differ w text (omega (arith, less, long)))
    ∙ none_is words text parts.1 long

not_taken : (words : List (List ℕ)) (text : List ℕ) → long_for words ≤ length text → taken words text ≡ false
unfolding is_reserved
not_taken [] text long = none_is reserved text refl long
not_taken (w ∷ words) text long =
    let least = at_least words in
    ap (λ b. b || taken words text) (differ w text (omega (arith, long, least)))
    ∙ not_taken words text (omega (arith, long))
  where
    at_least : (ws : List (List ℕ)) → 8 ≤ long_for ws
    at_least [] = omega arith
    at_least (v ∷ ws) = let e = at_least ws in omega (arith, e)

example_name : List (List ℕ) → Lexeme
example_name words = named (letters (long_for words))

example_means : (words : List (List ℕ)) → a_name words (example_name words) ≡ Some
    (record { text = letters (long_for words); at = 0 })
unfolding a_name example_name
example_means words =
    let n = long_for words in
    let len = letters_length n in
    ap (λ b. cond b None (Some (record { text = letters n; at = 0 })))
    (not_taken words (letters n) (omega (arith, len)))

-- ---- readers of one token

module _ (fuel : ℕ) where
  pub name_token : (words : List (List ℕ)) → Reads fuel (phrases.one (a_name words))
      (phrases.one (a_name words)) Any (one (a_name words))
  name_token words = reads_one distinct (a_name words) (example_name words)
      (record { text = letters (long_for words); at = 0 }) (example_means words)

  pub number_token : Reads fuel (phrases.one a_number) (phrases.one a_number) Any (one a_number)
  unfolding a_number a_one
  number_token = reads_one distinct a_number a_one (record { value = 1; at = 0 }) refl

  pub word_token : (w : List ℕ) → Reads fuel (phrases.one (word w)) (phrases.one (word w)) Any (one (word w))
  unfolding word
  word_token w = reads_one distinct (word w) (named w) 0
      (ap (λ b. cond b (Some 0) None) ((bytes_eq-Decides w w).1 refl))

  pub sign_token : (s : ℕ) → (s == s) ≡ true → Reads fuel (phrases.one (sign s)) (phrases.one (sign s)) Any
      (one (sign s))
  unfolding sign
  sign_token s same = reads_one distinct (sign s) (signed_by s) 0 (ap (λ b. cond b (Some 0) None) same)

  pub adding_token : Reads fuel (phrases.one adding) (phrases.one adding) Any (one adding)
  unfolding adding
  adding_token = reads_one distinct adding (signed_by 43) Plus refl

  pub comparing_token : Reads fuel (phrases.one comparing) (phrases.one comparing) Any (one comparing)
  unfolding comparing
  comparing_token = reads_one distinct comparing (signed_by 60) Less refl
