-- Names, numbers, imports, globals and headers that tokens spell keep the limits.
use Rattle.std.proofs.Common.{◌≡◌, Bool, true, false, cond, not, ◌&&◌, ◌||◌, ℕ, zero, suc, ◌+◌, ◌≤◌, ◌<◌}
use Rattle.std.proofs.Common.{List, [], ◌∷◌, length, Some, None, refl, sym, ap, subst, arith, IfSome, ◌∙◌}
use Rattle.std.specs.Prelude.{nat_le, nat_lt, codes, slice_index}
use Rattle.std.specs.List.{list_all}
use Rattle.std.specs.Str.{bytes_eq}
use Rattle.std.specs.Int.{w64}
use Rattle.std.specs.Int.RustNames.{FitsSigned}
use Rattle.std.proofs.lemmas.Bool.Decides.{nat_tests}
use Rattle.std.proofs.lemmas.Bool.{and_parts, or_parts, leb-true, ltb-true, le-leb}
use Rattle.text_scan.specs.declared.token.TokenKind.{TokenKind}
use Rattle.text_scan.specs.declared.token.TokenKind.TheVariants as kinds
use Rattle.text_scan.specs.Bytes.{is_name_start, is_name_byte}
use Rattle.text_scan.specs.Grammar.{IsName, IsTokenText}
use Rattle.cap_words.specs.declared.TheConstants.{LAST_PLACE}
use Rattle.cap_words.specs.Names as part
use Rattle.proc_language.specs.declared.TheConstants.{MOST_SEALS, MOST_ITEMS}
use Rattle.proc_language.specs.declared.tree.Name.{Name}
use Rattle.proc_language.specs.Words.{is_source_name, is_reserved}
use Rattle.proc_language.specs.Limits.{Each, NameFits, ImportFits, GlobalFits, LengthFits}
use Rattle.phrases.specs.Phrase.{many}
use Rattle.phrases.proofs.Offers as gives
use Rattle.phrases.proofs.Offers.{gives_only, gives_one, gives_or, gives_then, gives_next, gives_test}
use Rattle.phrases.proofs.Offers.{gives_as, gives_many}
use Rattle.proc_grammar.specs.Lexemes.{Lexeme, a_name, name_in, name_text, taken}
use Rattle.proc_grammar.specs.Tokens.{IsLexeme}
use Rattle.proc_grammar.specs.Grammar as grammar
use Rattle.proc_grammar.specs.Grammar.{Phrase, is_short, is_arity, is_length, is_initial, is_address}
use Rattle.proc_grammar.specs.Grammar.{is_return_count, signed, one_more}
use Rattle.proc_grammar.proofs.Limits.{HeaderFits}

abbrev pub Gives : {A : Type 0} → Phrase A → (A → Type 0) → Type 0
Gives = gives.Gives IsLexeme

-- of a list of items that are counted
pub gives_counted : {A : Type 0} (most : ℕ) (p : ℕ → Phrase A) (G : A → Type 0)
    → ((n : ℕ) → Gives (p n) (λ x. (n < most) × G x)) → (n : ℕ) → n ≤ most → Gives (many one_more p n)
    (λ xs. (n + length xs ≤ most) × Each G xs)
gives_counted {A} most p G items =
    gives_many one_more p (λ n. n ≤ most) (λ n x. G x) (λ n xs. (n + length xs ≤ most) × Each G xs)
    (λ n i. gives_as (items n) (λ x h. ((let below : n < most = h.0 in omega (arith, below)), h.1)))
    (λ n i. (omega (arith, i), tt))
    (λ n x xs g h. ((let short : n + 1 + length xs ≤ most = h.0 in omega (arith, short)), (g, h.1)))

-- ---- tokens

not_reserved : (words : List (List ℕ)) (text : List ℕ) → taken words text ≡ false → is_reserved text ≡ false
not_reserved [] text e = e
not_reserved (w ∷ words) text e = not_reserved words text (or_parts (bytes_eq w text) _ e).1

-- a word that is no reserved one
name_bytes : (b : Bool) (text : List ℕ) (at : ℕ) (x : Name)
    → cond b None (Some (record { text = text; at = at })) ≡ Some x → (x.text ≡ text) × (b ≡ false)
name_bytes true text at x e = absurd cc
name_bytes false text at x e = (
  let same : record { text = text; at = at } ≡ x = cc in
      ap (λ (y : Name). y.text) (sym same),
  refl,
)

-- a name is proper, but for its length
abbrev IsProper : Name → Type 0
IsProper x = IsName x.text × (is_reserved x.text ≡ false)

proper_in : (words : List (List ℕ)) (kind : TokenKind) (text : List ℕ) (at : ℕ) (x : Name)
    → IsTokenText kind text
    → name_in words at (name_text kind text) ≡ Some x → IsProper x
proper_in words kinds.Name text at x h e =
    let parts = name_bytes (taken words text) text at x e in
    subst IsProper (sym (ap (λ l. record { text = l; at = x.at }) parts.0))
    (h, not_reserved words text parts.1)
proper_in words (kinds.Number n) text at x h e = absurd cc
proper_in words (kinds.Sign s) text at x h e = absurd cc
proper_in words kinds.Equal text at x h e = absurd cc
proper_in words kinds.NewLine text at x h e = absurd cc

name_proper : (words : List (List ℕ)) (t : Lexeme) (x : Name) → IsLexeme t → a_name words t ≡ Some x
    → IsProper x
unfolding a_name
name_proper words t x h e = proper_in words t.kind t.text t.at x h e

either_order : (a c d : Bool) → (a || c || d) ≡ true → (a || d || c) ≡ true
either_order true c d e = refl
either_order false true true e = refl
either_order false true false e = refl
either_order false false true e = refl
either_order false false false e = absurd cc

byte_is : (b : ℕ) → is_name_byte b ≡ true → part.is_name_byte b ≡ true
byte_is b e = either_order (nat_le 97 b && nat_le b 122) _ _ e

bytes_are : (text : List ℕ) → list_all is_name_byte text ≡ true → list_all part.is_name_byte text ≡ true
bytes_are [] e = refl
bytes_are (b ∷ text) e =
    let parts = and_parts (is_name_byte b) _ e in
    ap (λ c. c && list_all part.is_name_byte text) (byte_is b parts.0) ∙ bytes_are text parts.1

start_is : (b : ℕ) → is_name_start b ≡ true → not (part.is_digit b) ≡ true
start_is b e = grind (arith, nat_tests, e)

all_true : (a b c d e : Bool) → a ≡ true → b ≡ true → c ≡ true → d ≡ true → e ≡ false
    → ((a && b && c && d) && not e) ≡ true
all_true a b c d e p q r s t = cc

name_fits : (x : Name) → IsProper x → is_short x ≡ true → NameFits x
unfolding is_source_name part.is_name
name_fits x (h, free) short = all_true _ _ _ _ _ (le-leb 1 (length x.text) h.some) short
    (start_is (slice_index x.text 0) h.start) (bytes_are x.text h.bytes) free

pub f_name : (words : List (List ℕ)) → Gives (grammar.name words true) NameFits
unfolding grammar.name
f_name words = gives_then (gives_one (name_proper words))
    (λ x h. gives_test (is_short x) (λ e u. gives_only x (name_fits x h e)))

pub f_num : (test : ℕ → Bool) → Gives (grammar.num true test) (λ n. test n ≡ true)
unfolding grammar.num
f_num test = gives_next (λ n. gives_test (test n.value) (λ e u. gives_only n.value e))

-- ---- imports and globals

pub f_import : (words : List (List ℕ)) (count : ℕ) → Gives (grammar.import_item words true count)
    (λ x. (count < MOST_ITEMS) × ImportFits x)
unfolding grammar.import_item
f_import words count =
    gives_next (λ at. gives_test (nat_lt count MOST_ITEMS) (λ below u.
    gives_then (f_name words) (λ part p. gives_next (λ d. gives_then (f_name words) (λ x n. gives_next (λ s.
    gives_then (f_num is_arity) (λ arity a. gives_next (λ e.
    gives_only _ (ltb-true _ _ below, (p, n, leb-true _ _ a))))))))))

f_length : Gives (grammar.length_part true) (λ len. IfSome len LengthFits)
unfolding grammar.length_part
f_length = gives_or
    (gives_next (λ b. gives_then (f_num is_length)
    (λ n h. gives_next (λ e. gives_only (Some n) (let p = and_parts (nat_le 1 n) _ h in
    (leb-true _ _ p.0, leb-true _ _ p.1))))))
    (gives_only None tt)

fits_signed : (negative : Bool) (n : ℕ) → is_initial negative n ≡ true → FitsSigned w64 (signed negative n)
fits_signed false n e = record { sfits = ltb-true _ _ e }
fits_signed true zero e = record { sfits = omega arith }
fits_signed true (suc n) e = record { sfits = leb-true _ _ e }

f_initial : Gives (grammar.initial_part true) (λ z. IfSome z (FitsSigned w64))
unfolding grammar.initial_part
f_initial = gives_or
    (gives_next (λ s. gives_next (λ negative. gives_then (f_num (is_initial negative))
    (λ n h. gives_only (Some (signed negative n)) (fits_signed negative n h)))))
    (gives_only None tt)

pub f_global : (words : List (List ℕ)) (count : ℕ) → Gives (grammar.global_item words true count)
    (λ x. (count < MOST_ITEMS) × GlobalFits x)
unfolding grammar.global_item
f_global words count =
    gives_next (λ at. gives_test (nat_lt count MOST_ITEMS) (λ below u.
    gives_then (f_name words) (λ x n.
    gives_then f_length (λ len l. gives_then f_initial (λ initial i. gives_next (λ e.
    gives_only _ (ltb-true _ _ below, (n, l, i))))))))

-- ---- the header

f_field : (w : List ℕ) → Gives (grammar.field true w) (λ n. n ≤ LAST_PLACE)
unfolding grammar.field
f_field w = gives_next (λ at. gives_as (f_num is_address) (λ n h. leb-true _ _ h))

pub f_header : (words : List (List ℕ)) → Gives (grammar.header words true) HeaderFits
unfolding grammar.header
f_header words =
    gives_next (λ at. gives_then (f_name words) (λ x n.
    gives_then (f_field (codes "code")) (λ code c. gives_then (f_field (codes "data")) (λ data_base d.
    gives_then (f_field (codes "closure")) (λ closure k. gives_then (f_field (codes "returns"))
    (λ first_return r.
    gives_then (f_num (is_return_count first_return)) (λ count m. gives_then (f_field (codes "stack"))
    (λ stack s.
    gives_next (λ movable. gives_next (λ e. gives_only _ (record {
      name = n;
      code = c;
      data_base = d;
      closure = k;
      returns = (let p = and_parts (nat_le count MOST_SEALS) _ m in (r, leb-true _ _ p.0, leb-true _ _ p.1));
      stack = s;
    })))))))))))
