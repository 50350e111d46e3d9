-- Fields, each after a blank, and the lines of a text.
use Rattle.std.proofs.Common.{append-nil, ◌≡◌, ℕ, true, false, List, [], ◌∷◌, ◌++◌, length, None, refl, sym}
use Rattle.std.proofs.Common.{ap, ◌∙◌, arith}
use Rattle.std.specs.Prelude.{map, codes, nat_lt, not, ◌==◌}
use Rattle.std.specs.List.{position_or_len}
use Rattle.std.proofs.lemmas.Bool.{and_parts}
use Rattle.std.proofs.lemmas.Bool.Decides.{nat_tests}
use Rattle.cap_words.specs.declared.Word.{Word}
use Rattle.cap_words.specs.Text.{word_text_of}
use Rattle.run_lines.specs.Texts.{words_text}
use Rattle.line_fields.specs.Cuts.{is_mark, cut}
use Rattle.line_fields.specs.Fields.{fields}
use Rattle.line_fields.proofs.Offers.{parts_at, parts_none, is_free, cut_front}
use Rattle.audited_runs.proofs.High.{IsHigh, high_free, word_high, IsOneLine, line_join, high_line}

abbrev pub spaced : List (List ℕ) → List ℕ
spaced [] = []
spaced (t ∷ ts) = 32 ∷ (t ++ spaced ts)

abbrev pub AllHigh : List (List ℕ) → Type 0
AllHigh [] = Unit {0}
AllHigh (t ∷ ts) = IsHigh t × AllHigh ts

len_whole : (mark : ℕ) (text : List ℕ) → is_free mark text ≡ true
    → position_or_len (is_mark mark) text ≡ length text
len_whole mark [] h = refl
len_whole mark (x ∷ text) h =
    let p = and_parts (not (x == mark)) (is_free mark text) h in
    let r = len_whole mark text p.1 in
    let one : not (x == mark) ≡ true = p.0 in
    rw (one, r) (omega arith)

pub cut_free : (mark : ℕ) (text : List ℕ) → is_free mark text ≡ true → cut mark text ≡ None
unfolding cut
cut_free mark text h =
    let n = len_whole mark text h in
    let no_lt : nat_lt (position_or_len (is_mark mark) text) (length text) ≡ false =
    rw n (self (length text)) in
    rw no_lt refl
  where
    self : (m : ℕ) → nat_lt m m ≡ false
    self m = grind (arith, nat_tests)

pub fields_are : (t : List ℕ) (ts : List (List ℕ)) → IsHigh t → AllHigh ts → fields (t ++ spaced ts) ≡ t ∷ ts
fields_are t [] h all =
    ap fields (append-nil t) ∙ parts_none 32 t (sym (cut_free 32 t (high_free 32 t (omega arith) h)))
fields_are t (u ∷ us) h all =
    parts_at 32 (t ++ 32 ∷ (u ++ spaced us)) t (u ++ spaced us)
    (sym (cut_front 32 t (u ++ spaced us) (high_free 32 t (omega arith) h)))
    ∙ ap (λ xs. t ∷ xs) (fields_are u us all.0 all.1)

pub spaced_line : (ts : List (List ℕ)) → AllHigh ts → IsOneLine (spaced ts)
spaced_line [] h = record { free = refl }
spaced_line (t ∷ ts) h = line_join blank (line_join (high_line h.0) (spaced_line ts h.1))
  where
    blank : IsOneLine (codes " ")
    blank = record { free = refl }

pub words_spaced : (ws : List Word) → words_text ws ≡ spaced (map word_text_of ws)
words_spaced [] = refl
words_spaced (w ∷ ws) = ap (λ t. 32 ∷ (word_text_of w ++ t)) (words_spaced ws)

pub words_high : (ws : List Word) → AllHigh (map word_text_of ws)
words_high [] = tt
words_high (w ∷ ws) = (word_high w, words_high ws)
