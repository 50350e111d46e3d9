-- What stands only where there are tokens.
use Rattle.std.proofs.Common.{◌≡◌, true, false, ℕ, List, ◌++◌, Option, Some, None, refl, inl, inr, IfSome}
use Rattle.std.specs.Str.{bytes_eq}
use Rattle.phrases.specs.Phrase as phrases
use Rattle.phrases.specs.Phrase.{then, ◌or◌}
use Rattle.phrases.specs.Reading.{meant_in}
use Rattle.phrases.proofs.Offers.{reads_as, reads_case, Is, Heads, heads_one, heads_then, Looser, loose_case}
use Rattle.phrases.proofs.Offers.{Gives, gives_nothing, gives_or}
use Rattle.proc_grammar.specs.Lexemes.{Lexeme, word, token_word, token_words, words_of, taken, a_name, sign}
use Rattle.proc_grammar.specs.Lexemes.{a_number}
use Rattle.proc_grammar.specs.Grammar.{Phrase, from_tokens}
use Rattle.proc_grammar.specs.Reader.{Reader, case_token, tells}
use Rattle.proc_grammar.proofs.Told.{Reads}
use Rattle.proc_grammar.proofs.Tokens.{name_kind, no_word_taken, word_other, word_apart, sign_no_word}
use Rattle.proc_grammar.proofs.Tokens.{number_no_word}

-- ---- their words

module _ {K : Type 0} where
  pub word_of_token : (o : Option K) (w : List ℕ) (u : Lexeme) → Is (token_word o w) u → Is (word w) u
  word_of_token None w u (at, e) = absurd cc
  word_of_token (Some k) w u h = h

  no_token : (o : Option K) (w : List ℕ) (u : Lexeme) → word w u ≡ None → token_word o w u ≡ None
  no_token None w u e = refl
  no_token (Some k) w u e = e

  -- a name is none of them
  pub name_no_token : (o : Option K) (w : List ℕ) → taken token_words w ≡ true → (u : Lexeme)
      → Is (a_name (words_of o)) u → token_word o w u ≡ None
  name_no_token None w own u h = refl
  name_no_token (Some k) w own u (x, e) = let h = name_kind token_words u x e in
      no_word_taken token_words w u h.0 h.1 own

  pub word_no_token : (o : Option K) (v w : List ℕ) → bytes_eq v w ≡ false → (u : Lexeme) → Is (word v) u
      → token_word o w u ≡ None
  word_no_token o v w h u is = no_token o w u (word_other v w h u is)

  pub token_other : (o : Option K) (v w : List ℕ) → bytes_eq v w ≡ false → (u : Lexeme)
      → Is (token_word o v) u → word w u ≡ None
  token_other o v w h u is = word_other v w h u (word_of_token o v u is)

  pub tokens_apart : (o : Option K) (v w : List ℕ) → bytes_eq v w ≡ false → (u : Lexeme)
      → Is (token_word o v) u → token_word o w u ≡ None
  tokens_apart o v w h u is = no_token o w u (token_other o v w h u is)

  pub sign_no_token : (o : Option K) (w : List ℕ) (s : ℕ) (u : Lexeme) → Is (sign s) u
      → token_word o w u ≡ None
  sign_no_token o w s u (at, e) = no_token o w u (sign_no_word w s u at e)

  pub number_no_token : (o : Option K) (w : List ℕ) (u : Lexeme) → Is a_number u → token_word o w u ≡ None
  number_no_token o w u (n, e) = no_token o w u (number_no_word w u n e)

  pub token_no_sign : (o : Option K) (s : ℕ) (w : List ℕ) (u : Lexeme) → Is (token_word o w) u
      → sign s u ≡ None
  token_no_sign o s w u is = let (at, e) = word_of_token o w u is in word_apart s w u at e

-- ---- alternatives that stand there, before others

module _ {K A : Type 0} where
  pub heads_added : (Q : K → ℕ → Phrase A) (o : Option K) (w : List ℕ)
      → Heads (Is (token_word o w)) (from_tokens o (λ k. then (phrases.one (word w)) (Q k)))
  heads_added Q None w = λ t x h. absurd h
  heads_added Q (Some k) w = heads_then _ (heads_one (word w))

  pub reads_added : {Q Q' : K → ℕ → Phrase A} {R R' : Phrase A} {f : K → ℕ → Reader A} {r : Reader A}
      {fuel : ℕ} {S : List Lexeme → Type 0} (o : Option K) (w : List ℕ)
      → ((k : K) (at : ℕ) → Reads fuel (Q k at) (Q' k at) S (f k at)) → Reads fuel R R' S r
      → ((t : List Lexeme) (y : A) (k : List Lexeme) → R t y → S k
      → meant_in (token_word o w) (t ++ k) ≡ None)
      → Reads fuel (from_tokens o (λ k. then (phrases.one (word w)) (Q k)) or R)
      (from_tokens o (λ k. then (phrases.one (word w)) (Q' k)) or R') S (case_token o w f r)
  reads_added None w added other apart = reads_as other
      (λ l x. elim [ inl h ↦ absurd h | inr h ↦ h ]) (λ l x h. inr h) (λ l x h. inr h) (λ k h. h)
  reads_added (Some k) w added other apart = reads_case (added k) other apart

  pub gives_added : {Q : K → ℕ → Phrase A} {R : Phrase A} {Proper : Lexeme → Type 0} {G : A → Type 0}
      {Known : K → Type 0} (o : Option K) (w : List ℕ) → IfSome o Known
      → ((k : K) → Known k → Gives Proper (then (phrases.one (word w)) (Q k)) G) → Gives Proper R G
      → Gives Proper (from_tokens o (λ k. then (phrases.one (word w)) (Q k)) or R) G
  gives_added None w known added other = gives_or gives_nothing other
  gives_added (Some k) w known added other = gives_or (added k known) other

  pub loose_added : {f f' : K → ℕ → Reader A} {r r' : Reader A} (o : Option K) (w : List ℕ)
      → ((k : K) (at : ℕ) → Looser tells (f k at) (f' k at))
      → Looser tells r r' → Looser tells (case_token o w f r) (case_token o w f' r')
  loose_added None w added other = other
  loose_added (Some k) w added other = loose_case (word w) (added k) other
