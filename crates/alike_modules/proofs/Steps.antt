-- How phrases that spell their pieces again are joined.
use Rattle.std.proofs.Common.{◌≡◌, Bool, IsTrue, List, [], ◌∷◌, ◌++◌, Some, refl, ap, subst, inl, inr}
use Rattle.proc_grammar.specs.Lexemes.{Lexeme, Meaning}
use Rattle.phrases.specs.Phrase.{◌>>=◌, only, one, ◌or◌, where_true, many}
use Rattle.proc_grammar.specs.Grammar.{Phrase}
use Rattle.proc_print.specs.Printed.{Piece}
use Rattle.alike_modules.specs.Written.{IsWritten, AreWritten, Again}

pub split : (ps qs : List Piece) (ts : List Lexeme) → AreWritten ts (ps ++ qs) → (l : List Lexeme)
    × (r : List Lexeme) × (ts ≡ l ++ r) × AreWritten l ps × AreWritten r qs
split [] qs ts w = ([], ts, refl, tt, w)
split (p ∷ ps) qs [] w = absurd w
split (p ∷ ps) qs (t ∷ ts) w =
    let s = split ps qs ts w.1 in
    (t ∷ s.0, s.1, ap (λ l. t ∷ l) s.2, (w.0, s.3), s.4)

pub step : {A B : Type 0} {p : Phrase A} {q : A → Phrase B} {ps qs : List Piece} {P : A → Type 0} {Q : B
    → Type 0}
    → Again p ps P → ((x : A) → P x → Again (q x) qs Q) → Again (p >>= q) (ps ++ qs) Q
step {ps = ps} {qs = qs} a b = record {
  again = λ ts w.
      let s = split ps qs ts w in
      let x = a.again s.0 s.3 in
      let y = (b x.0 x.2).again s.1 s.4 in
      (y.0, (x.0, s.0, s.1, s.2, x.1, y.1), y.2);
}

pub none_left : (ts : List Lexeme) → AreWritten ts [] → ts ≡ []
none_left [] w = refl
none_left (t ∷ ts) w = absurd w

pub done : {A : Type 0} {x : A} {P : A → Type 0} → P x → Again (only x) [] P
done {x = x} good = record { again = λ ts w. (x, (none_left ts w, refl), good) }

pub test : {b : Bool} → IsTrue b → Again (where_true b) [] (λ u. Unit {0})
test holds = record { again = λ ts w. (tt, (none_left ts w, holds), tt) }

pub left : {A : Type 0} {p q : Phrase A} {ps : List Piece} {P : A → Type 0} → Again p ps P
    → Again (p or q) ps P
left a = record { again = λ ts w. let x = a.again ts w in (x.0, inl x.1, x.2) }

pub right : {A : Type 0} {p q : Phrase A} {ps : List Piece} {P : A → Type 0} → Again q ps P
    → Again (p or q) ps P
right a = record { again = λ ts w. let x = a.again ts w in (x.0, inr x.1, x.2) }

pub at : {A : Type 0} {p : Phrase A} {ps qs : List Piece} {P : A → Type 0} → ps ≡ qs → Again p ps P
    → Again p qs P
at {p = p} {P = P} e a = subst (λ l. Again p l P) e a

pub good : {A : Type 0} {p : Phrase A} {ps : List Piece} {P Q : A → Type 0} → ((x : A) → P x → Q x)
    → Again p ps P → Again p ps Q
good f a = record { again = λ ts w. let x = a.again ts w in (x.0, x.1, f x.0 x.2) }

one_token : {A : Type 0} {meaning : Meaning A} {P : A → Type 0} (p : Piece)
    → ((t : Lexeme) → IsWritten t p → (x : A) × (meaning t ≡ Some x) × P x)
    → (ts : List Lexeme) → AreWritten ts (p ∷ []) → (x : A) × one meaning ts x × P x
one_token p f [] w = absurd w
one_token p f (t ∷ []) w = let x = f t w.0 in (x.0, (t, refl, x.1), x.2)
one_token p f (t ∷ u ∷ ts) w = absurd w.1

pub token : {A : Type 0} {meaning : Meaning A} {P : A → Type 0} (p : Piece)
    → ((t : Lexeme) → IsWritten t p → (x : A) × (meaning t ≡ Some x) × P x) → Again (one meaning) (p ∷ []) P
token p f = record { again = one_token p f }

pub no_items : {S A : Type 0} {next : S → A → S} {p : S → Phrase A} {s : S} {R : List A → Type 0} → R []
    → Again (many next p s) [] R
no_items r = record { again = λ ts w. ([], none_left ts w, r) }

pub item : {S A : Type 0} {next : S → A → S} {p : S → Phrase A} {s : S} {ps qs : List Piece} {P : A → Type 0}
    {R : List A → Type 0}
    → Again (p s) ps P → ((x : A) → P x → Again (many next p (next s x)) qs (λ xs. R (x ∷ xs)))
    → Again (many next p s) (ps ++ qs) R
item {ps = ps} {qs = qs} a b = record {
  again = λ ts w.
      let s = split ps qs ts w in
      let x = a.again s.0 s.3 in
      let xs = (b x.0 x.2).again s.1 s.4 in
      (x.0 ∷ xs.0, (s.0, s.1, s.2, x.1, xs.1), xs.2);
}
