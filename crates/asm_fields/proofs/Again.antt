-- Printed fields are read again: readers and the tokens of what was printed.
use Rattle.std.proofs.Common.{◌≡◌, ℕ, suc, Bool, true, false, List, [], ◌∷◌, ◌++◌, map, Some, Option, Ok}
use Rattle.std.proofs.Common.{refl, sym, ap, ◌∙◌, append_assoc, append-nil, eq-eqb, subst}
use Rattle.std.specs.Prelude.{ℤ, pos, negsuc, nat_abs, int_le, ◌==◌, ◌&&◌}
use Rattle.std.specs.Fmt.{decimal}
use Rattle.text_scan.specs.declared.token.TokenKind.TheVariants.{Number, Sign}
use Rattle.text_scan.specs.declared.token.Token.{Token}
use Rattle.text_scan.proofs.Offers.{Form, form_in, name_form, integer_forms}
use Rattle.cap_words.specs.Names.{is_name}
use Rattle.asm_fields.specs.declared.fault.AsmFault.{AsmFault}
use Rattle.asm_fields.specs.declared.fault.AsmFault.TheVariants.{Operand, Range}
use Rattle.readers.specs.Readers.{Reader, goes_on, ◌>>=◌, done, unless_none, holds}
use Rattle.asm_fields.specs.Fields.{is_sign, Lexeme, Input, place, name_or, name_at, proper_name_from}
use Rattle.asm_fields.specs.Fields.{proper_name_at, number_from, sign_at, meant, signed, integer_at}
use Rattle.asm_fields.specs.Fields.{natural_at, end_at, seen}

-- the tokens have these kinds and bytes, wherever they stand
abbrev pub Alike : List Form → List Lexeme → Type 0
Alike [] [] = Unit {0}
Alike (f ∷ fs) (l ∷ ls) = (l.kind ≡ f.kind) × (l.text ≡ f.text) × Alike fs ls
Alike [] (l ∷ ls) = ⊥
Alike (f ∷ fs) [] = ⊥

abbrev pub at_front : List Lexeme → List Lexeme → ℕ → Input
at_front ls rest end = record { rest = ls ++ rest; end = end }

abbrev pub left : List Lexeme → ℕ → Input
left rest end = record { rest = rest; end = end }

-- the reader takes just these tokens, whatever follows them
pub record Again {A : Type 0} (fs : List Form) (x : A) (r : Reader Input AsmFault A) : Type 0 where
  pub read : (ls rest : List Lexeme) (end : ℕ) → Alike fs ls → r (at_front ls rest end) ≡ Ok
      (x, left rest end)

-- a list that is alike two lists falls into two
pub record Parts (fs gs : List Form) (ls : List Lexeme) : Type 0 where
  pub first : List Lexeme
  pub second : List Lexeme
  pub both : ls ≡ first ++ second
  pub one : Alike fs first
  pub two : Alike gs second

pub parts : (fs gs : List Form) (ls : List Lexeme) → Alike (fs ++ gs) ls → Parts fs gs ls
parts [] gs ls h = record { first = []; second = ls; both = refl; one = tt; two = h }
parts (f ∷ fs) gs [] h = absurd h
parts (f ∷ fs) gs (l ∷ ls) h =
    let p = parts fs gs ls h.2 in
    record {
      first = l ∷ p.first;
      second = p.second;
      both = ap (λ m. l ∷ m) p.both;
      one = (h.0, h.1, p.one);
      two = p.two;
    }

pub again_then : {A B : Type 0} (fs gs : List Form) (x : A) (y : B) (r : Reader Input AsmFault A)
    (f : A → Reader Input AsmFault B) → Again fs x r → Again gs y (f x) → Again (fs ++ gs) y (r >>= f)
again_then fs gs x y r f one two = record {
  read = λ ls rest end h.
      let p = parts fs gs ls h in
      let split : at_front ls rest end ≡ at_front p.first (p.second ++ rest) end =
      ap (λ m. record { rest = m; end = end })
      (ap (λ m. m ++ rest) p.both ∙ append_assoc p.first p.second rest) in
      ap (λ i. goes_on (r i) f) split
      ∙ ap (λ q. goes_on q f) (one.read p.first (p.second ++ rest) end p.one)
      ∙ two.read p.second rest end p.two;
}

-- a reader that is told its place
pub again_placed : {A : Type 0} (fs : List Form) (x : A) (f : ℕ → Reader Input AsmFault A)
    → ((at : ℕ) → Again fs x (f at)) → Again fs x (place >>= f)
again_placed fs x f h = record { read = λ ls rest end alike. (h _).read ls rest end alike }

no_front : (ls rest : List Lexeme) → Alike [] ls → ls ++ rest ≡ rest
no_front [] rest h = refl
no_front (l ∷ ls) rest h = absurd h

pub again_done : {A : Type 0} (x : A) → Again [] x (done x)
again_done x = record { read = λ ls rest end h. ap (λ l. Ok (x, left l end)) (no_front ls rest h) }

pub again_some : {A : Type 0} (fault : AsmFault) (o : Option A) (x : A) → o ≡ Some x
    → Again [] x (unless_none fault o)
again_some fault o x is = record { read = λ ls rest end h. rw (is, no_front ls rest h) refl }

pub again_holds : (b : Bool) (fault : AsmFault) → b ≡ true → Again [] tt (holds b fault)
again_holds b fault is = record { read = λ ls rest end h. rw (is, no_front ls rest h) refl }

-- the last reader
pub again_last : {A B : Type 0} (fs : List Form) (x : A) (r : Reader Input AsmFault A) (f : A → B)
    → Again fs x r → Again fs (f x) (r >>= λ a. done (f a))
again_last fs x r f one =
    record { read = λ ls rest end h. ap (λ q. goes_on q (λ a. done (f a))) (one.read ls rest end h) }

name_read : (fault : AsmFault) (text : List ℕ) (ls rest : List Lexeme) (end : ℕ)
    → Alike (name_form text ∷ []) ls → name_or fault (at_front ls rest end) ≡ Ok (text, left rest end)
unfolding name_or
name_read fault text [] rest end h = absurd h
name_read fault text (l ∷ []) rest end h = rw (h.0, h.1) refl
name_read fault text (l ∷ m ∷ ls) rest end h = absurd h.2

pub again_name_or : (fault : AsmFault) (text : List ℕ) → Again (name_form text ∷ []) text (name_or fault)
again_name_or fault text = record { read = name_read fault text }

pub again_name : (text : List ℕ) → Again (name_form text ∷ []) text name_at
again_name text = record { read = λ ls rest end h. (again_name_or (Operand _) text).read ls rest end h }

again_proper_from : (at : ℕ) (text : List ℕ) → is_name text ≡ true → Again (name_form text ∷ []) text
    (proper_name_from at)
unfolding proper_name_from
again_proper_from at text is =
    again_then (name_form text ∷ []) [] text text _ _ (again_name_or (Operand at) text)
    (again_then [] [] tt text _ _ (again_holds (is_name text) (Operand at) is) (again_done text))

pub again_proper : (text : List ℕ) → is_name text ≡ true → Again (name_form text ∷ []) text proper_name_at
again_proper text is = record { read = λ ls rest end h. (again_proper_from _ text is).read ls rest end h }

pub again_meant : {A : Type 0} (meaning : List ℕ → Option A) (text : List ℕ) (x : A)
    → meaning text ≡ Some x → Again (name_form text ∷ []) x (meant meaning)
unfolding meant
again_meant meaning text x is = again_placed (name_form text ∷ []) x
    (λ at. name_at >>= λ name. unless_none (Operand at) (meaning name)) (λ at.
    again_then (name_form text ∷ []) [] text x _ _ (again_name text)
    (again_some (Operand at) (meaning text) x is))

-- ---- numbers

number_read : (at n : ℕ) (text : List ℕ) (ls rest : List Lexeme) (end : ℕ)
    → Alike (record { kind = Number n; text = text } ∷ []) ls → number_from at (at_front ls rest end) ≡ Ok
    (n, left rest end)
unfolding number_from
number_read at n text [] rest end h = absurd h
number_read at n text (l ∷ []) rest end h = rw h.0 refl
number_read at n text (l ∷ m ∷ ls) rest end h = absurd h.2

pub again_number : (at n : ℕ) (text : List ℕ) → Again (record { kind = Number n; text = text } ∷ []) n
    (number_from at)
again_number at n text = record { read = number_read at n text }

sign_read : (s : ℕ) (text : List ℕ) (ls rest : List Lexeme) (end : ℕ)
    → Alike (record { kind = Sign s; text = text } ∷ []) ls → sign_at s (at_front ls rest end) ≡ Ok
    (true, left rest end)
unfolding sign_at
sign_read s text [] rest end h = absurd h
sign_read s text (l ∷ []) rest end h = let e : (s == s) ≡ true = eq-eqb s s refl in rw (h.0, e) refl
sign_read s text (l ∷ m ∷ ls) rest end h = absurd h.2

pub again_sign : (s : ℕ) (text : List ℕ) → Again (record { kind = Sign s; text = text } ∷ []) true
    (sign_at s)
again_sign s text = record { read = sign_read s text }

no_sign_read : {B : Type 0} (s : ℕ) (g : Form) (gs : List Form) (y : B)
    (f : Bool → Reader Input AsmFault B) → is_sign s (Some g.kind) ≡ false → Again (g ∷ gs) y (f false)
    → (ls rest : List Lexeme) (end : ℕ) → Alike (g ∷ gs) ls → (sign_at s >>= f) (at_front ls rest end) ≡ Ok
    (y, left rest end)
unfolding sign_at
no_sign_read s g gs y f other two [] rest end h = absurd h
no_sign_read s g gs y f other two (l ∷ ls) rest end h =
    let none : is_sign s (Some l.kind) ≡ false = ap (λ k. is_sign s (Some k)) h.0 ∙ other in
    rw none (two.read (l ∷ ls) rest end h)

-- where another kind of token stands next, the sign isn't taken
pub again_no_sign : {B : Type 0} (s : ℕ) (g : Form) (gs : List Form) (y : B)
    (f : Bool → Reader Input AsmFault B) → is_sign s (Some g.kind) ≡ false → Again (g ∷ gs) y (f false)
    → Again (g ∷ gs) y (sign_at s >>= f)
again_no_sign s g gs y f other two = record { read = no_sign_read s g gs y f other two }

abbrev pub Within : ℤ → ℤ → ℤ → Type 0
Within low high z = (int_le low z && int_le z high) ≡ true

after_minus : (at : ℕ) (low high z : ℤ) (minus : Bool) (n : ℕ) (text : List ℕ) → signed minus n ≡ z
    → Within low high z
    → Again (record { kind = Number n; text = text } ∷ []) z
    (number_from at >>= λ m. holds (int_le low (signed minus m) && int_le (signed minus m) high)
    (Range at) >>= λ _. done (signed minus m))
after_minus at low high z minus n text is h =
    let ok : (int_le low (signed minus n) && int_le (signed minus n) high) ≡ true =
    ap (λ y. int_le low y && int_le y high) is ∙ h in
    again_then (record { kind = Number n; text = text } ∷ []) [] n z _ _ (again_number at n text)
    (again_then [] [] tt z _ _ (again_holds _ (Range at) ok)
    (subst (λ y. Again [] y (done (signed minus n))) is (again_done (signed minus n))))

pub again_integer : (low high z : ℤ) → Within low high z → Again (integer_forms z) z (integer_at low high)
unfolding integer_at
again_integer low high (pos n) h = again_placed _ _
    (λ at. sign_at 45 >>= λ minus. number_from at >>= λ n.
    holds (int_le low (signed minus n) && int_le (signed minus n) high) (Range at) >>= λ _.
    done (signed minus n)) (λ at.
    again_no_sign 45 (record { kind = Number n; text = decimal n }) [] (pos n) _ refl
    (after_minus at low high (pos n) false n (decimal n) refl h))
again_integer low high (negsuc n) h = again_placed _ _
    (λ at. sign_at 45 >>= λ minus. number_from at >>= λ n.
    holds (int_le low (signed minus n) && int_le (signed minus n) high) (Range at) >>= λ _.
    done (signed minus n)) (λ at.
    again_then (record { kind = Sign 45; text = 45 ∷ [] } ∷ []) _ true (negsuc n) _ _
    (again_sign 45 (45 ∷ []))
    (after_minus at low high (negsuc n) true (suc n) (decimal (suc n)) refl h))

pub again_natural : (low high n : ℕ) → Within (pos low) (pos high) (pos n)
    → Again (integer_forms (pos n)) n (natural_at low high)
unfolding natural_at
again_natural low high n h = again_last (integer_forms (pos n)) (pos n) _ nat_abs
    (again_integer (pos low) (pos high) (pos n) h)

-- ---- to the end of a line

-- the reader takes just these tokens, which are all that is left
pub record Whole {A : Type 0} (fs : List Form) (x : A) (r : Reader Input AsmFault A) : Type 0 where
  pub read : (ls : List Lexeme) (end : ℕ) → Alike fs ls → r (left ls end) ≡ Ok (x, left [] end)

pub whole_then : {A B : Type 0} (fs gs : List Form) (x : A) (y : B) (r : Reader Input AsmFault A)
    (f : A → Reader Input AsmFault B) → Again fs x r → Whole gs y (f x) → Whole (fs ++ gs) y (r >>= f)
whole_then fs gs x y r f one two = record {
  read = λ ls end h.
      let p = parts fs gs ls h in
      ap (λ l. goes_on (r (left l end)) f) p.both
      ∙ ap (λ q. goes_on q f) (one.read p.first p.second end p.one) ∙ two.read p.second end p.two;
}

pub whole_placed : {A : Type 0} (fs : List Form) (x : A) (f : ℕ → Reader Input AsmFault A)
    → ((at : ℕ) → Whole fs x (f at)) → Whole fs x (place >>= f)
whole_placed fs x f h = record { read = λ ls end alike. (h _).read ls end alike }

end_read : {B : Type 0} (y : B) (f : Unit {0} → Reader Input AsmFault B) → Whole [] y (f tt)
    → (ls : List Lexeme) (end : ℕ) → Alike [] ls → (end_at >>= f) (left ls end) ≡ Ok (y, left [] end)
unfolding end_at
end_read y f two [] end h = two.read [] end tt
end_read y f two (l ∷ ls) end h = absurd h

pub whole_end : {B : Type 0} (y : B) (f : Unit {0} → Reader Input AsmFault B) → Whole [] y (f tt)
    → Whole [] y (end_at >>= f)
whole_end y f two = record { read = end_read y f two }

pub whole_of : {A : Type 0} (fs : List Form) (x : A) (r : Reader Input AsmFault A) → Again fs x r
    → Whole fs x r
whole_of fs x r one = record {
  read = λ ls end h. ap (λ l. r (left l end)) (sym (append-nil ls))
      ∙ one.read ls [] end h;
}

pub whole_last : {A B : Type 0} (fs : List Form) (x : A) (r : Reader Input AsmFault A) (f : A → B)
    → Whole fs x r → Whole fs (f x) (r >>= λ a. done (f a))
whole_last fs x r f one =
    record { read = λ ls end h. ap (λ q. goes_on q (λ a. done (f a))) (one.read ls end h) }

-- a value, and the end of its line
pub whole_line : {A : Type 0} (fs : List Form) (x : A) (r : Reader Input AsmFault A) → Again fs x r
    → Whole fs x (r >>= λ v. end_at >>= λ _. done v)
whole_line fs x r one = subst (λ l. Whole l x (r >>= λ v. end_at >>= λ _. done v)) (append-nil fs)
    (whole_then fs [] x x r (λ v. end_at >>= λ _. done v) one
    (whole_end x _ (whole_of [] x _ (again_done x))))

-- ---- tokens in their text

pub alike_seen : (whole : List ℕ) (tokens : List Token) → Alike (map (form_in whole) tokens)
    (map (seen whole) tokens)
alike_seen whole [] = tt
alike_seen whole (t ∷ tokens) = (refl, refl, alike_seen whole tokens)
