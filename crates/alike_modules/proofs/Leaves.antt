-- Words, signs, names and numbers are read again.
use Rattle.std.proofs.Common.{◌≡◌, ℕ, Bool, true, false, IsTrue, if◌then◌else◌, List, [], ◌∷◌, Some, None}
use Rattle.std.proofs.Common.{refl, sym, ◌∙◌, ap, subst, length, not}
use Rattle.std.specs.Prelude.{nat_le, slice_index, ◌<◌, ◌^◌, ℤ, pos, negsuc}
use Rattle.std.specs.List.{list_all}
use Rattle.std.proofs.lemmas.Bool.{and_parts, not-true, eq-eqb}
use Rattle.std.proofs.lemmas.Slice.Eq.{bytes_eq-Decides}
use Rattle.text_scan.specs.declared.token.TokenKind.TheVariants.{Sign}
use Rattle.cap_words.specs.Names as part
use Rattle.cap_words.specs.declared.TheConstants.{LONGEST_NAME}
use Rattle.proc_language.specs.declared.tree.Name.{Name}
use Rattle.proc_language.specs.Limits.{NameFits}
use Rattle.proc_language.specs.Words.{is_source_name, is_reserved}
use Rattle.proc_grammar.specs.Lexemes.{Lexeme, word, a_name, a_number, sign, word_in, name_in, name_text}
use Rattle.proc_grammar.specs.Lexemes.{number_in, sign_in}
use Rattle.phrases.specs.Phrase.{one}
use Rattle.proc_grammar.specs.Grammar.{name, num}
use Rattle.proc_print.specs.Printed.{word as a_word, numeral as a_numeral, sign as a_sign, named}
use Rattle.alike_modules.specs.Written.{IsWritten, Again, sign_kind}
use Rattle.alike_modules.proofs.Steps.{step, done, test, token}

word_here : (w : List ℕ) (t : Lexeme) → IsWritten t (a_word w) → word w t ≡ Some t.at
unfolding word
word_here w t h =
    ap (λ k. word_in w t.at (name_text k t.text)) h.0
    ∙ ap (λ text. word_in w t.at (Some text)) h.1
    ∙ ap (λ b. if b then Some t.at else None) ((bytes_eq-Decides w w).1 refl)

pub a_word_again : (w : List ℕ) → Again (one (word w)) (a_word w ∷ []) (λ at. Unit {0})
a_word_again w = token (a_word w) (λ t h. (t.at, word_here w t h, tt))

sign_here : (s : ℕ) (text : List ℕ) (t : Lexeme) → sign_kind text ≡ Sign s → IsWritten t (a_sign text)
    → sign s t ≡ Some t.at
unfolding sign
sign_here s text t e h =
    ap (λ k. sign_in s k t.at) (h ∙ e) ∙ ap (λ b. if b then Some t.at else None) (eq-eqb s s refl)

pub a_sign_again : (s : ℕ) (text : List ℕ) → sign_kind text ≡ Sign s
    → Again (one (sign s)) (a_sign text ∷ []) (λ at. Unit {0})
a_sign_again s text e = token (a_sign text) (λ t h. (t.at, sign_here s text t e h, tt))

pub record NameParts (text : List ℕ) : Type 0 where
  pub short : nat_le (length text) LONGEST_NAME ≡ true
  pub free : is_reserved text ≡ false

name_parts : (text : List ℕ) → IsTrue (is_source_name text) → NameParts text
unfolding is_source_name part.is_name
name_parts text h =
    let a = and_parts (part.is_name text) (not (is_reserved text)) h in
    let b = and_parts _ (list_all part.is_name_byte text) a.0 in
    let c = and_parts _ (not (part.is_digit (slice_index text 0))) b.0 in
    let d = and_parts (nat_le 1 (length text)) (nat_le (length text) LONGEST_NAME) c.0 in
    record { short = d.1; free = not-true (is_reserved text) a.1 }

name_here : (x : Name) (t : Lexeme) → NameParts x.text → IsWritten t (a_word x.text)
    → a_name [] t ≡ Some (record { text = x.text; at = t.at })
unfolding a_name
name_here x t parts h =
    ap (λ k. name_in [] t.at (name_text k t.text)) h.0
    ∙ ap (λ text. name_in [] t.at (Some text)) h.1
    ∙ ap (λ b. let y : Name = record { text = x.text; at = t.at } in if b then None else Some y) parts.free

-- a name is the same but for its place
abbrev pub IsNamed : Name → Name → Type 0
IsNamed x y = y.text ≡ x.text

pub name_again : (x : Name) → NameFits x → Again (name [] true) (named x) (IsNamed x)
unfolding name
name_again x fits =
    let parts = name_parts x.text fits in
    step {P = IsNamed x}
    (token (a_word x.text) (λ t h. (record { text = x.text; at = t.at }, name_here x t parts h, refl)))
    (λ y same. step {P = λ u. Unit {0}}
    (test (subst (λ text. nat_le (length text) LONGEST_NAME ≡ true) (sym same) parts.short))
    (λ u h. done same))

-- an integer of 64 bits
abbrev pub IntegerFits : ℤ → Type 0
IntegerFits (pos n) = n < 2 ^ 63
IntegerFits (negsuc n) = n < 2 ^ 63

number_here : (n : ℕ) (t : Lexeme) → IsWritten t (a_numeral n)
    → a_number t ≡ Some (record { value = n; at = t.at })
unfolding a_number
number_here n t h = ap (λ k. number_in k t.at) h

pub number_again : (n : ℕ) → Again (one a_number) (a_numeral n ∷ []) (λ m. m.value ≡ n)
number_again n = token (a_numeral n) (λ t h. (record { value = n; at = t.at }, number_here n t h, refl))

pub num_again : (limit : ℕ → Bool) (n : ℕ) → IsTrue (limit n) → Again (num true limit) (a_numeral n ∷ [])
    (λ m. m ≡ n)
unfolding num
num_again limit n fits =
    step {P = λ m. m.value ≡ n} (number_again n)
    (λ m same. step {P = λ u. Unit {0}} (test (subst (λ k. IsTrue (limit k)) (sym same) fits))
    (λ u h. done same))
