-- Pieces that are read as their tokens wherever they stand.
use Rattle.std.proofs.Common.{◌≡◌, ℕ, ◌<◌, ◌≤◌, true, IsTrue, List, [], ◌∷◌, ◌++◌, refl, arith, length, not}
use Rattle.std.specs.Prelude.{codes, decimal, nat_le, slice_index}
use Rattle.std.specs.List.{list_all}
use Rattle.std.proofs.lemmas.List.Elements.{All-nil, All-cons}
use Rattle.std.proofs.lemmas.Bool.{and_parts}
use Rattle.std.proofs.lemmas.Bool.Decides.{nat_tests}
use Rattle.text_scan.specs.declared.token.TokenKind.TheVariants.{Name as NameKind, Number, Sign, Equal}
use Rattle.text_scan.specs.Bytes.{is_name_start, is_name_byte, is_sign}
use Rattle.text_scan.specs.Tokens.{piece_at}
use Rattle.text_scan.specs.Grammar.{IsName}
use Rattle.text_scan.proofs.Offers.{Form, Shows, shows_nothing, shows_token, shows_blank, shows_name}
use Rattle.text_scan.proofs.Offers.{shows_number, IsLineByte, IsInLine, name_field, number_field}
use Rattle.cap_words.specs.Names as part
use Rattle.cap_words.specs.declared.TheConstants.{LONGEST_NAME}
use Rattle.proc_language.specs.Words.{is_source_name, is_reserved}
use Rattle.proc_print.specs.Printed.{Piece, word, numeral, sign, bytes_of, ends_line}
use Rattle.alike_modules.specs.Written.{sign_kind}

-- the token that is read
abbrev pub form_of : Piece → Form
form_of (word text) = record { kind = NameKind; text = text }
form_of (numeral n) = record { kind = Number n; text = decimal n }
form_of (sign text) = record { kind = sign_kind text; text = text }

pub record Sound (p : Piece) : Type 0 where
  pub in_line : IsInLine (bytes_of p)
  pub behind : (rest : List ℕ) (fs : List Form) → Shows rest fs → Shows (bytes_of p ++ 32 ∷ rest)
      (form_of p ∷ fs)
  pub alone : ends_line p ≡ true → Shows (bytes_of p) (form_of p ∷ [])

at_most : (n : ℕ) → n ≤ n
at_most n = omega arith

pub word_sound : (text : List ℕ) → IsName text → Sound (word text)
word_sound text is = record {
  in_line = (name_field (length text) text is (at_most (length text))).in_line;
  behind = λ rest fs shows. shows_name text (32 ∷ rest) fs is refl (shows_blank rest fs shows);
  alone = λ h. absurd (cc);
}

pub numeral_sound : (n : ℕ) → n ≤ 9223372036854775808 → Sound (numeral n)
numeral_sound n le = record {
  in_line = (number_field (length (decimal n)) n le (at_most (length (decimal n)))).in_line;
  behind = λ rest fs shows. shows_number n (32 ∷ rest) fs le refl (shows_blank rest fs shows);
  alone = λ h. absurd (cc);
}

pub semicolon_sound : Sound (sign (codes ";"))
unfolding piece_at is_sign
semicolon_sound = record {
  in_line = All-cons IsLineByte 59 [] refl (All-nil IsLineByte);
  behind = λ rest fs shows. shows_token (Sign 59) (59 ∷ []) (32 ∷ rest) fs (omega arith) (λ at. refl)
      (shows_blank rest fs shows);
  alone = λ h. shows_token (Sign 59) (59 ∷ []) [] [] (omega arith) (λ at. refl) shows_nothing;
}

pub curly_sound : Sound (sign (codes "{"))
unfolding piece_at is_sign
curly_sound = record {
  in_line = All-cons IsLineByte 123 [] refl (All-nil IsLineByte);
  behind = λ rest fs shows. shows_token (Sign 123) (123 ∷ []) (32 ∷ rest) fs (omega arith) (λ at. refl)
      (shows_blank rest fs shows);
  alone = λ h. shows_token (Sign 123) (123 ∷ []) [] [] (omega arith) (λ at. refl) shows_nothing;
}

pub end_curly_sound : Sound (sign (codes "}"))
unfolding piece_at is_sign
end_curly_sound = record {
  in_line = All-cons IsLineByte 125 [] refl (All-nil IsLineByte);
  behind = λ rest fs shows. shows_token (Sign 125) (125 ∷ []) (32 ∷ rest) fs (omega arith) (λ at. refl)
      (shows_blank rest fs shows);
  alone = λ h. shows_token (Sign 125) (125 ∷ []) [] [] (omega arith) (λ at. refl) shows_nothing;
}

pub round_sound : Sound (sign (codes "("))
unfolding piece_at is_sign
round_sound = record {
  in_line = All-cons IsLineByte 40 [] refl (All-nil IsLineByte);
  behind = λ rest fs shows. shows_token (Sign 40) (40 ∷ []) (32 ∷ rest) fs (omega arith) (λ at. refl)
      (shows_blank rest fs shows);
  alone = λ h. absurd (cc);
}

pub end_round_sound : Sound (sign (codes ")"))
unfolding piece_at is_sign
end_round_sound = record {
  in_line = All-cons IsLineByte 41 [] refl (All-nil IsLineByte);
  behind = λ rest fs shows. shows_token (Sign 41) (41 ∷ []) (32 ∷ rest) fs (omega arith) (λ at. refl)
      (shows_blank rest fs shows);
  alone = λ h. absurd (cc);
}

pub square_sound : Sound (sign (codes "["))
unfolding piece_at is_sign
square_sound = record {
  in_line = All-cons IsLineByte 91 [] refl (All-nil IsLineByte);
  behind = λ rest fs shows. shows_token (Sign 91) (91 ∷ []) (32 ∷ rest) fs (omega arith) (λ at. refl)
      (shows_blank rest fs shows);
  alone = λ h. absurd (cc);
}

pub end_square_sound : Sound (sign (codes "]"))
unfolding piece_at is_sign
end_square_sound = record {
  in_line = All-cons IsLineByte 93 [] refl (All-nil IsLineByte);
  behind = λ rest fs shows. shows_token (Sign 93) (93 ∷ []) (32 ∷ rest) fs (omega arith) (λ at. refl)
      (shows_blank rest fs shows);
  alone = λ h. absurd (cc);
}

pub comma_sound : Sound (sign (codes ","))
unfolding piece_at is_sign
comma_sound = record {
  in_line = All-cons IsLineByte 44 [] refl (All-nil IsLineByte);
  behind = λ rest fs shows. shows_token (Sign 44) (44 ∷ []) (32 ∷ rest) fs (omega arith) (λ at. refl)
      (shows_blank rest fs shows);
  alone = λ h. absurd (cc);
}

pub dot_sound : Sound (sign (codes "."))
unfolding piece_at is_sign
dot_sound = record {
  in_line = All-cons IsLineByte 46 [] refl (All-nil IsLineByte);
  behind = λ rest fs shows. shows_token (Sign 46) (46 ∷ []) (32 ∷ rest) fs (omega arith) (λ at. refl)
      (shows_blank rest fs shows);
  alone = λ h. absurd (cc);
}

pub slash_sound : Sound (sign (codes "/"))
unfolding piece_at is_sign
slash_sound = record {
  in_line = All-cons IsLineByte 47 [] refl (All-nil IsLineByte);
  behind = λ rest fs shows. shows_token (Sign 47) (47 ∷ []) (32 ∷ rest) fs (omega arith) (λ at. refl)
      (shows_blank rest fs shows);
  alone = λ h. absurd (cc);
}

pub assign_sound : Sound (sign (codes "="))
unfolding piece_at is_sign
assign_sound = record {
  in_line = All-cons IsLineByte 61 [] refl (All-nil IsLineByte);
  behind = λ rest fs shows. shows_token (Sign 61) (61 ∷ []) (32 ∷ rest) fs (omega arith) (λ at. refl)
      (shows_blank rest fs shows);
  alone = λ h. absurd (cc);
}

pub less_sound : Sound (sign (codes "<"))
unfolding piece_at is_sign
less_sound = record {
  in_line = All-cons IsLineByte 60 [] refl (All-nil IsLineByte);
  behind = λ rest fs shows. shows_token (Sign 60) (60 ∷ []) (32 ∷ rest) fs (omega arith) (λ at. refl)
      (shows_blank rest fs shows);
  alone = λ h. absurd (cc);
}

pub plus_sound : Sound (sign (codes "+"))
unfolding piece_at is_sign
plus_sound = record {
  in_line = All-cons IsLineByte 43 [] refl (All-nil IsLineByte);
  behind = λ rest fs shows. shows_token (Sign 43) (43 ∷ []) (32 ∷ rest) fs (omega arith) (λ at. refl)
      (shows_blank rest fs shows);
  alone = λ h. absurd (cc);
}

pub minus_sound : Sound (sign (codes "-"))
unfolding piece_at is_sign
minus_sound = record {
  in_line = All-cons IsLineByte 45 [] refl (All-nil IsLineByte);
  behind = λ rest fs shows. shows_token (Sign 45) (45 ∷ []) (32 ∷ rest) fs (omega arith) (λ at. refl)
      (shows_blank rest fs shows);
  alone = λ h. absurd (cc);
}

pub equal_sound : Sound (sign (codes "=="))
unfolding piece_at
equal_sound = record {
  in_line = All-cons IsLineByte 61 (61 ∷ []) refl (All-cons IsLineByte 61 [] refl (All-nil IsLineByte));
  behind = λ rest fs shows. shows_token Equal (61 ∷ 61 ∷ []) (32 ∷ rest) fs (omega arith) (λ at. refl)
      (shows_blank rest fs shows);
  alone = λ h. absurd (cc);
}

-- ---- names

length_some : (text : List ℕ) → nat_le 1 (length text) ≡ true → 0 < length text
length_some text h = grind (arith, nat_tests)

byte_is : (b : ℕ) → part.is_name_byte b ≡ true → is_name_byte b ≡ true
byte_is b h = grind (arith, nat_tests)

bytes_are : (text : List ℕ) → list_all part.is_name_byte text ≡ true → list_all is_name_byte text ≡ true
bytes_are [] h = refl
bytes_are (b ∷ text) h =
    let p = and_parts (part.is_name_byte b) (list_all part.is_name_byte text) h in
    let one = byte_is b p.0 in
    let others = bytes_are text p.1 in
    rw (one, others) refl

start_is : (b : ℕ) → not (part.is_digit b) ≡ true → part.is_name_byte b ≡ true → is_name_start b ≡ true
start_is b h k = grind (arith, nat_tests)

first_byte : (text : List ℕ) → 0 < length text → list_all part.is_name_byte text ≡ true
    → part.is_name_byte (slice_index text 0) ≡ true
first_byte [] some h = absurd (omega (arith, some))
first_byte (b ∷ text) some h = (and_parts (part.is_name_byte b) (list_all part.is_name_byte text) h).0

pub name_is : (text : List ℕ) → IsTrue (is_source_name text) → IsName text
unfolding is_source_name part.is_name
name_is text h =
    let a = and_parts (part.is_name text) (not (is_reserved text)) h in
    let b = and_parts _ (list_all part.is_name_byte text) a.0 in
    let c = and_parts _ (not (part.is_digit (slice_index text 0))) b.0 in
    let d = and_parts (nat_le 1 (length text)) (nat_le (length text) LONGEST_NAME) c.0 in
    let some = length_some text d.0 in
    record {
      some = some;
      start = start_is (slice_index text 0) c.1 (first_byte text some b.1);
      bytes =
          bytes_are text b.1;
    }
