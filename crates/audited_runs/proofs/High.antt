-- No byte of a name, a number or a word is below 40, so none is a blank or a newline.
use Rattle.std.proofs.Common.{◌≡◌, ℕ, zero, suc, ◌<◌, ◌≤◌, Bool, true, false, List, [], ◌∷◌}
use Rattle.std.proofs.Common.{◌++◌, refl, ap, ◌∙◌, arith, lit≤, IsTrue}
use Rattle.std.specs.Prelude.{ℤ, pos, negsuc, codes, nat_le, nat_lt, not, ◌==◌, ◌/◌, ◌%◌, if◌then◌else◌}
use Rattle.std.specs.List.{list_all}
use Rattle.std.specs.Fmt.{decimal, signed_decimal, digits, digits_onto, digit_glyph}
use Rattle.std.proofs.lemmas.Bool.{and_parts, leb-true, le-leb, lt-ltb, ne_eqb}
use Rattle.std.proofs.lemmas.Bool.Decides.{nat_tests}
use Rattle.std.proofs.lemmas.List.Folds.{list_all-append}
use Rattle.cap_words.specs.declared.Perm.{Perm}
use Rattle.cap_words.specs.declared.Perm.TheVariants.{No, R as ReadOnly, Rw, Rx, Rwx}
use Rattle.cap_words.specs.declared.Lin.{Lin}
use Rattle.cap_words.specs.declared.Lin.TheVariants.{Normal, Linear}
use Rattle.cap_words.specs.declared.Sealable.{Sealable}
use Rattle.cap_words.specs.declared.Sealable.TheVariants.{Mem as MemIn, Seal as SealIn}
use Rattle.cap_words.specs.declared.Word.{Word}
use Rattle.cap_words.specs.declared.Word.TheVariants.{Int, Mem, Seal, Sealed}
use Rattle.cap_words.specs.Names.{is_name, is_name_byte}
use Rattle.cap_words.specs.Text.{perm_name, lin_name, range_text, cap_text, seal_text, sealable_text}
use Rattle.cap_words.specs.Text.{sealed_text, word_text_of}
use Rattle.source_events.specs.Forms.{IsName}
use Rattle.line_fields.proofs.Offers.{is_free, bytes_free}

pub record IsHigh (text : List ℕ) : Type 0 where
  pub all : list_all (λ b. nat_le 40 b) text ≡ true

pub high_join : {a b : List ℕ} → IsHigh a → IsHigh b → IsHigh (a ++ b)
high_join {a = a} {b = b} h k = record {
  all = (let x = h.all in let y = k.all in list_all-append (λ b. nat_le 40 b) a b ∙ rw (x, y) refl);
}

pub high_more : {b : ℕ} {text : List ℕ} → 40 ≤ b → IsHigh text → IsHigh (b ∷ text)
high_more {b = b} le h = record {
  all = (let one : nat_le 40 b ≡ true = le-leb 40 b le in let rest = h.all in rw (one, rest) refl);
}

-- ---- numbers

glyph_high : (n : ℕ) → 40 ≤ digit_glyph false (n % 10)
glyph_high n = let lt : nat_lt (n % 10) 10 ≡ true = lt-ltb (n % 10) 10 (omega arith) in rw lt (omega arith)

either_high : (b : Bool) (x y : List ℕ) → IsHigh x → IsHigh y → IsHigh (if b then x else y)
either_high true x y h k = h
either_high false x y h k = k

onto_high : (k n : ℕ) (acc : List ℕ) → IsHigh acc → IsHigh (digits_onto k 10 false n acc)
onto_high zero n acc h = h
onto_high (suc k) n acc h =
    let more : IsHigh (digit_glyph false (n % 10) ∷ acc) = high_more (glyph_high n) h in
    either_high (n / 10 == 0) _ _ more (onto_high k (n / 10) (digit_glyph false (n % 10) ∷ acc) more)

pub decimal_high : (n : ℕ) → IsHigh (decimal n)
unfolding digits
decimal_high n = onto_high 64 n [] (record { all = refl })

pub signed_high : (z : ℤ) → IsHigh (signed_decimal z)
signed_high (pos n) = decimal_high n
signed_high (negsuc n) = high_more (lit≤ tt) (decimal_high (suc n))

-- ---- words

perm_high : (x : Perm) → IsHigh (perm_name x)
perm_high No = record { all = refl }
perm_high ReadOnly = record { all = refl }
perm_high Rw = record { all = refl }
perm_high Rx = record { all = refl }
perm_high Rwx = record { all = refl }

lin_high : (x : Lin) → IsHigh (lin_name x)
lin_high Normal = record { all = refl }
lin_high Linear = record { all = refl }

comma : IsHigh (codes ",")
comma = record { all = refl }

closing : IsHigh (codes ")")
closing = record { all = refl }

range_high : (base end : ℕ) (at : ℤ) → IsHigh (range_text base end at)
unfolding range_text
range_high base end at =
    let places = high_join (high_join (decimal_high base) comma) (decimal_high end) in
    high_join (high_join places comma) (signed_high at)

content_high : (x : Sealable) → IsHigh (sealable_text x)
unfolding cap_text seal_text
content_high (MemIn c) =
    let begin : IsHigh (codes "cap(") = record { all = refl } in
    let perm = high_join (high_join begin (perm_high c.perm)) comma in
    let lin = high_join (high_join perm (lin_high c.lin)) comma in
    high_join (high_join lin (range_high c.base c.end c.addr)) closing
content_high (SealIn s) =
    let begin : IsHigh (codes "seal(") = record { all = refl } in
    high_join (high_join begin (range_high s.base s.end s.cur)) closing

pub word_high : (w : Word) → IsHigh (word_text_of w)
unfolding sealed_text
word_high (Int z) = signed_high z
word_high (Mem c) = content_high (MemIn c)
word_high (Seal s) = content_high (SealIn s)
word_high (Sealed n x) =
    let begin : IsHigh (codes "sealed(") = record { all = refl } in
    high_join (high_join (high_join (high_join begin (decimal_high n)) comma) (content_high x)) closing

-- ---- names

true_is : (b : Bool) → IsTrue b → b ≡ true
true_is true h = refl
true_is false h = absurd cc

pub name_is : (text : List ℕ) → IsName text → is_name text ≡ true
name_is text h = true_is (is_name text) h

name_byte_high : (b : ℕ) → is_name_byte b ≡ true → 40 ≤ b
name_byte_high b h = grind (arith, nat_tests)

name_bytes_high : (t : List ℕ) → list_all is_name_byte t ≡ true → IsHigh t
name_bytes_high [] h = record { all = refl }
name_bytes_high (b ∷ t) h =
    let p = and_parts (is_name_byte b) (list_all is_name_byte t) h in
    high_more (name_byte_high b p.0) (name_bytes_high t p.1)

bytes_of : (t : List ℕ) → is_name t ≡ true → list_all is_name_byte t ≡ true
unfolding is_name
bytes_of t h = (and_parts _ _ h).1

pub name_high : (t : List ℕ) → IsName t → IsHigh t
name_high t h = name_bytes_high t (bytes_of t (name_is t h))

-- nor has a name a colon
pub name_free : (t : List ℕ) → IsName t → is_free 58 t ≡ true
name_free t h = bytes_free t (bytes_of t (name_is t h))

-- ---- marks

free_of : (mark : ℕ) (text : List ℕ) → mark < 40 → list_all (λ b. nat_le 40 b) text ≡ true
    → is_free mark text ≡ true
free_of mark [] lt h = refl
free_of mark (b ∷ text) lt h =
    let p = and_parts (nat_le 40 b) (list_all (λ b. nat_le 40 b) text) h in
    let low = leb-true 40 b p.0 in
    let one : not (b == mark) ≡ true = ap not (ne_eqb b mark (λ e. absurd (omega (arith, e, low, lt)))) in
    let rest = free_of mark text lt p.1 in
    rw (one, rest) refl

pub high_free : (mark : ℕ) (text : List ℕ) → mark < 40 → IsHigh text → is_free mark text ≡ true
high_free mark text lt h = free_of mark text lt h.all

-- ---- no newline

pub record IsOneLine (text : List ℕ) : Type 0 where
  pub free : is_free 10 text ≡ true

pub line_join : {a b : List ℕ} → IsOneLine a → IsOneLine b → IsOneLine (a ++ b)
line_join {a = a} {b = b} h k = record {
  free = (let x = h.free in let y = k.free in list_all-append (λ b. not (b == 10)) a b ∙ rw (x, y) refl);
}

pub high_line : {text : List ℕ} → IsHigh text → IsOneLine text
high_line {text = text} h = record { free = high_free 10 text (omega arith) h }
