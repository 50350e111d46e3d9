-- What printed pieces of a line are read as.
use Rattle.std.proofs.Common.{◌≡◌, ℕ, suc, ◌+◌, ◌-◌, ◌<◌, ◌≤◌, true, false, List, [], ◌∷◌, ◌++◌, map}
use Rattle.std.proofs.Common.{length, take, drop, Some, None, Ok, refl, sym, ap, ◌∙◌, append_assoc, arith}
use Rattle.std.proofs.Common.{length-append, lit≤, ◌*◌, subst, ◌≢◌}
use Rattle.std.specs.Prelude.{ℤ, pos, negsuc, slice_range}
use Rattle.std.specs.List.{list_all, All, AllByRecursion, flat_map}
use Rattle.std.specs.Fmt.{decimal, signed_decimal}
use Rattle.std.specs.Str.{all_ascii_digits}
use Rattle.std.specs.Str.Parse.{digits_value}
use Rattle.std.specs.Char.{is_ascii_digit}
use Rattle.std.proofs.lemmas.List.{drop-drop}
use Rattle.std.proofs.lemmas.List.Elements.{All-nil, All-cons, All-append}
use Rattle.std.proofs.lemmas.List.Sums.{AllPass-from_list_all}
use Rattle.std.proofs.lemmas.Bool.{and_parts, or_parts}
use Rattle.std.proofs.lemmas.Bool.Decides.{nat_tests}
use Rattle.std.proofs.lemmas.Fmt.{digits_decimal, digits_value-decimal, decimal_nonempty}
use Rattle.std.proofs.lemmas.Str.Parse.{IsNumeralModel, numerals_by_value, tells_all_ascii_digits}
use Rattle.std.proofs.Math.Seq.{drop-append_seam, take-append_seam}
use Rattle.text_scan.specs.declared.token.TokenKind.{TokenKind}
use Rattle.text_scan.specs.declared.token.TokenKind.TheVariants.{Name, Number, Sign, NewLine}
use Rattle.text_scan.specs.declared.token.Token.{Token}
use Rattle.text_scan.specs.Bytes.{is_newline, is_digit, is_name_start, is_name_byte, is_sign}
use Rattle.text_scan.specs.Tokens.{first_of, piece_at, line_from, with_front}
use Rattle.text_scan.specs.Grammar.{IsName}
use Rattle.text_scan.proofs.Pieces.{after_piece, name_piece, digits_piece}

-- a token's kind and bytes, wherever it stands
pub record Form : Type 0 where
  pub kind : TokenKind
  pub text : List ℕ

abbrev pub form_in : List ℕ → Token → Form
form_in whole t = record { kind = t.kind; text = slice_range whole t.at (t.at + t.len) }

pub record Reads (whole : List ℕ) (at : ℕ) (text : List ℕ) (forms : List Form) : Type 0 where
  pub tokens : List Token
  pub read : line_from at 0 text ≡ Ok tokens
  pub are : map (form_in whole) tokens ≡ forms

-- the rest of a line is read as these tokens, wherever it stands
abbrev pub Shows : List ℕ → List Form → Type 0
Shows text forms = (whole after : List ℕ) (at : ℕ) → drop at whole ≡ text ++ after → Reads whole at text forms

pub shows_nothing : Shows [] []
unfolding line_from
shows_nothing whole after at h = record { tokens = []; read = refl; are = refl }

pub shows_token : (kind : TokenKind) (first rest : List ℕ) (fs : List Form) → 0 < length first
    → ((at : ℕ) → piece_at at (first ++ rest) ≡ Ok (record { kind = Some kind; len = length first }))
    → Shows rest fs → Shows (first ++ rest) (record { kind = kind; text = first } ∷ fs)
shows_token kind first rest fs lt piece others whole after at h =
    let next : drop (at + length first) whole ≡ rest ++ after = sym (drop-drop (length first) at whole)
    ∙ ap (drop (length first)) (h ∙ append_assoc first rest after) ∙ drop-append_seam first (rest ++ after) in
    let r = others whole after (at + length first) next in
    let t : Token = record { kind = kind; at = at; len = length first } in
    let n : at + length first - at ≡ length first = omega arith in
    let text : slice_range whole at (at + length first) ≡ first = ap (λ k. take k (drop at whole)) n
    ∙ ap (take (length first)) (h ∙ append_assoc first rest after) ∙ take-append_seam first (rest ++ after) in
    record {
      tokens = t ∷ r.tokens;
      read = after_piece at first rest (record { kind = Some kind; len = length first }) lt refl (piece at)
          ∙ ap (with_front (t ∷ [])) r.read;
      are = ap (λ l. record { kind = kind; text = l } ∷ map (form_in whole) r.tokens) text
          ∙ ap (λ l. record { kind = kind; text = first } ∷ l) r.are;
    }

pub shows_blank : (rest : List ℕ) (fs : List Form) → Shows rest fs → Shows (32 ∷ rest) fs
unfolding piece_at
shows_blank rest fs others whole after at h =
    let next : drop (at + 1) whole ≡ rest ++ after = sym (drop-drop 1 at whole) ∙ ap (drop 1) h in
    let r = others whole after (at + 1) next in
    record {
      tokens = r.tokens;
      read = after_piece at (32 ∷ []) rest (record { kind = None; len = 1 }) (omega arith) refl refl
          ∙ ap (with_front []) r.read;
      are = r.are;
    }

pub shows_sign : (s : ℕ) (rest : List ℕ) (fs : List Form)
    → ((at : ℕ) → piece_at at (s ∷ rest) ≡ Ok (record { kind = Some (Sign s); len = 1 })) → Shows rest fs
    → Shows (s ∷ rest) (record { kind = Sign s; text = s ∷ [] } ∷ fs)
shows_sign s rest fs piece others = shows_token (Sign s) (s ∷ []) rest fs (omega arith) piece others

pub shows_minus : (rest : List ℕ) (fs : List Form) → Shows rest fs
    → Shows (45 ∷ rest) (record { kind = Sign 45; text = 45 ∷ [] } ∷ fs)
unfolding piece_at is_sign
shows_minus rest fs others = shows_sign 45 rest fs (λ at. refl) others

pub shows_dot : (rest : List ℕ) (fs : List Form) → Shows rest fs
    → Shows (46 ∷ rest) (record { kind = Sign 46; text = 46 ∷ [] } ∷ fs)
unfolding piece_at is_sign
shows_dot rest fs others = shows_sign 46 rest fs (λ at. refl) others

-- ---- names

pub shows_name : (name rest : List ℕ) (fs : List Form) → IsName name → is_name_byte (first_of rest) ≡ false
    → Shows rest fs → Shows (name ++ rest) (record { kind = Name; text = name } ∷ fs)
shows_name name rest fs w stops others = shows_token Name name rest fs w.some
    (λ at. name_piece name rest at w stops) others

-- ---- numbers

own : IsNumeralModel (λ ds. all_ascii_digits ds ≡ true) (digits_value 10)
own = numerals_by_value _ tells_all_ascii_digits

same_digit : (d : ℕ) → is_ascii_digit d ≡ true → is_digit d ≡ true
same_digit d h = grind (arith, nat_tests)

all_digits : (ds : List ℕ) → all_ascii_digits ds ≡ true → list_all is_digit ds ≡ true
all_digits [] h = refl
all_digits (d ∷ ds) h =
    let p = and_parts (is_ascii_digit d) (all_ascii_digits ds) h in
    let one = same_digit d p.0 in
    let r = all_digits ds p.1 in
    rw (one, r) refl

decimal_piece : (n : ℕ) (rest : List ℕ) (at : ℕ) → n ≤ 9223372036854775808 → is_digit (first_of rest) ≡ false
    → piece_at at (decimal n ++ rest) ≡ Ok (record { kind = Some (Number n); len = length (decimal n) })
decimal_piece n rest at le stops =
    digits_piece (decimal n) rest at n (decimal_nonempty n (omega arith))
    (all_digits (decimal n) (digits_decimal own n (omega arith)))
    (digits_value-decimal own n (omega arith)) le stops

pub shows_number : (n : ℕ) (rest : List ℕ) (fs : List Form) → n ≤ 9223372036854775808
    → is_digit (first_of rest) ≡ false → Shows rest fs
    → Shows (decimal n ++ rest) (record { kind = Number n; text = decimal n } ∷ fs)
shows_number n rest fs le stops others = shows_token (Number n) (decimal n) rest fs
    (decimal_nonempty n (omega arith)) (λ at. decimal_piece n rest at le stops) others

-- an integer is its number, after a sign where it is negative
abbrev pub integer_forms : ℤ → List Form
integer_forms (pos n) = record { kind = Number n; text = decimal n } ∷ []
integer_forms (negsuc n) = record { kind = Sign 45; text = 45 ∷ [] } ∷ record {
  kind = Number (suc n);
  text = decimal (suc n);
} ∷ []

abbrev pub InNumbers : ℤ → Type 0
InNumbers (pos n) = n ≤ 9223372036854775808
InNumbers (negsuc n) = suc n ≤ 9223372036854775808

pub shows_integer : (z : ℤ) (rest : List ℕ) (fs : List Form) → InNumbers z → is_digit (first_of rest) ≡ false
    → Shows rest fs → Shows (signed_decimal z ++ rest) (integer_forms z ++ fs)
shows_integer (pos n) rest fs h stops others = shows_number n rest fs h stops others
shows_integer (negsuc n) rest fs h stops others = shows_minus (decimal (suc n) ++ rest) _
    (shows_number (suc n) rest fs h stops others)

-- ---- fields of a line

-- no newline stands in the text
abbrev pub IsLineByte : ℕ → Type 0
IsLineByte b = is_newline b ≡ false

abbrev pub IsInLine : List ℕ → Type 0
IsInLine text = All IsLineByte text

-- no newline stands among the tokens
abbrev pub AreInLine : List Form → Type 0
AreInLine forms = AllByRecursion (λ f. f.kind ≢ NewLine) forms

in_line_both : (fs gs : List Form) → AreInLine fs → AreInLine gs → AreInLine (fs ++ gs)
in_line_both [] gs one others = others
in_line_both (f ∷ fs) gs one others = (one.0, in_line_both fs gs one.1 others)

-- a field of at most so many bytes: it is read as these tokens, where what follows it in its line doesn't
-- begin with a name's byte
pub record IsField (most : ℕ) (text : List ℕ) (forms : List Form) : Type 0 where
  pub short : length text ≤ most
  pub in_line : IsInLine text
  pub tokens : AreInLine forms
  pub shown : (rest : List ℕ) (fs : List Form) → is_name_byte (first_of rest) ≡ false → Shows rest fs
      → Shows (text ++ rest) (forms ++ fs)

-- what stands after a field up to the line's end
pub record IsRest (most : ℕ) (text : List ℕ) (forms : List Form) : Type 0 where
  pub short : length text ≤ most
  pub in_line : IsInLine text
  pub tokens : AreInLine forms
  pub stops : is_name_byte (first_of text) ≡ false
  pub shown : Shows text forms

-- a line of at most so many bytes, which is read as these tokens
pub record IsPrinted (most : ℕ) (text : List ℕ) (forms : List Form) : Type 0 where
  pub short : length text ≤ most
  pub in_line : IsInLine text
  pub tokens : AreInLine forms
  pub shown : Shows text forms

abbrev pub name_form : List ℕ → Form
name_form text = record { kind = Name; text = text }

abbrev pub sign_form : ℕ → Form
sign_form sign = record { kind = Sign sign; text = sign ∷ [] }

pub widened : (n m : ℕ) (text : List ℕ) (forms : List Form) → n ≤ m → IsField n text forms
    → IsField m text forms
widened n m text forms le one = record {
  short = omega (arith, one.short);
  in_line = one.in_line;
  tokens = one.tokens;
  shown = one.shown;
}

pub rest_none : IsRest 0 [] []
rest_none = record {
  short = lit≤ tt;
  in_line = All-nil IsLineByte;
  tokens = tt;
  stops = refl;
  shown = shows_nothing;
}

pub rest_more : (n m : ℕ) (a b : List ℕ) (fs gs : List Form) → IsField n a fs → IsRest m b gs
    → IsRest (1 + n + m) (32 ∷ (a ++ b)) (fs ++ gs)
rest_more n m a b fs gs one others = record {
  short = omega (arith, length-append a b, one.short, others.short);
  in_line = All-cons IsLineByte 32 (a ++ b) refl (All-append IsLineByte a b one.in_line others.in_line);
  tokens = in_line_both fs gs one.tokens others.tokens;
  stops = refl;
  shown = shows_blank (a ++ b) (fs ++ gs) (one.shown b gs others.stops others.shown);
}

-- fields of one kind
pub rest_all : {A : Type 0} (most : ℕ) (text : A → List ℕ) (forms : A → List Form) (xs : List A)
    → AllByRecursion (λ x. IsField most (text x) (forms x)) xs
    → IsRest ((1 + most) * length xs) (flat_map (λ x. 32 ∷ text x) xs) (flat_map forms xs)
rest_all most text forms [] all = subst (λ n. IsRest n [] []) (let e : 0 ≡ (1 + most) * 0 = omega arith in e)
    rest_none
rest_all most text forms (x ∷ xs) all =
    subst (λ n. IsRest n (flat_map (λ x. 32 ∷ text x) (x ∷ xs)) (flat_map forms (x ∷ xs)))
    (let e : 1 + most + (1 + most) * length xs ≡ (1 + most) * length (x ∷ xs) = omega arith in e)
    (rest_more most ((1 + most) * length xs) (text x) (flat_map (λ x. 32 ∷ text x) xs) (forms x)
    (flat_map forms xs) all.0 (rest_all most text forms xs all.1))

pub printed : (n m : ℕ) (a b : List ℕ) (fs gs : List Form) → IsField n a fs → IsRest m b gs
    → IsPrinted (n + m) (a ++ b) (fs ++ gs)
printed n m a b fs gs one others = record {
  short = omega (arith, length-append a b, one.short, others.short);
  in_line = All-append IsLineByte a b one.in_line others.in_line;
  tokens = in_line_both fs gs one.tokens others.tokens;
  shown = one.shown b gs others.stops others.shown;
}

name_in_line : (b : ℕ) → is_name_byte b ≡ true → is_newline b ≡ false
name_in_line b h = grind (arith, nat_tests)

digit_in_line : (b : ℕ) → is_digit b ≡ true → is_newline b ≡ false
digit_in_line b h = grind (arith, nat_tests)

names_in_line : (name : List ℕ) → list_all is_name_byte name ≡ true → IsInLine name
names_in_line name h = λ k d lt. name_in_line _ (AllPass-from_list_all is_name_byte name h k d lt)

digits_in_line : (ds : List ℕ) → list_all is_digit ds ≡ true → IsInLine ds
digits_in_line ds h = λ k d lt. digit_in_line _ (AllPass-from_list_all is_digit ds h k d lt)

no_digit : (b : ℕ) → is_name_byte b ≡ false → is_digit b ≡ false
no_digit b h = (or_parts (is_name_start b) (is_digit b) h).1

pub name_field : (most : ℕ) (name : List ℕ) → IsName name → length name ≤ most
    → IsField most name (name_form name ∷ [])
name_field most name is short = record {
  short = short;
  in_line = names_in_line name is.bytes;
  tokens = (λ h. (cc), tt);
  shown = λ rest fs stops others. shows_name name rest fs is stops others;
}

-- a sign `.` and a name
pub directive_field : (most : ℕ) (name : List ℕ) → IsName name → length name ≤ most
    → IsField (1 + most) (46 ∷ name) (sign_form 46 ∷ name_form name ∷ [])
directive_field most name is short = record {
  short = omega arith;
  in_line = All-cons IsLineByte 46 name refl (names_in_line name is.bytes);
  tokens = (λ h. (cc), (λ h. (cc), tt));
  shown = λ rest fs stops others. shows_dot (name ++ rest) (name_form name ∷ fs)
      (shows_name name rest fs is stops others);
}

decimal_in_line : (n : ℕ) → n ≤ 9223372036854775808 → IsInLine (decimal n)
decimal_in_line n le = digits_in_line (decimal n)
    (all_digits (decimal n) (digits_decimal own n (omega arith)))

pub number_field : (most n : ℕ) → n ≤ 9223372036854775808 → length (decimal n) ≤ most
    → IsField most (decimal n) (integer_forms (pos n))
number_field most n le short = record {
  short = short;
  in_line = decimal_in_line n le;
  tokens = (λ h. (cc), tt);
  shown = λ rest fs stops others. shows_number n rest fs le (no_digit (first_of rest) stops) others;
}

integer_in_line : (z : ℤ) → InNumbers z → IsInLine (signed_decimal z)
integer_in_line (pos n) h = decimal_in_line n h
integer_in_line (negsuc n) h = All-cons IsLineByte 45 (decimal (suc n)) refl (decimal_in_line (suc n) h)

integers_in_line : (z : ℤ) → AreInLine (integer_forms z)
integers_in_line (pos n) = (λ h. (cc), tt)
integers_in_line (negsuc n) = (λ h. (cc), (λ h. (cc), tt))

pub integer_field : (most : ℕ) (z : ℤ) → InNumbers z → length (signed_decimal z) ≤ most
    → IsField most (signed_decimal z) (integer_forms z)
integer_field most z h short = record {
  short = short;
  in_line = integer_in_line z h;
  tokens = integers_in_line z;
  shown = λ rest fs stops others. shows_integer z rest fs h (no_digit (first_of rest) stops) others;
}
