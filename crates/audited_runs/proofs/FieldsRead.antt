-- What fields of lines are read as: numbers, words as integers and as stacks, and where jumps lead.
use Rattle.std.proofs.Common.{◌≡◌, ℕ, ◌≤◌, Bool, true, false, Option, Some, None, refl, sym, ap, ◌∙◌, arith}
use Rattle.std.specs.Prelude.{ℤ, pos, negsuc, FitsSigned, codes, decimal, option_and_then}
use Rattle.std.specs.Int.{w64}
use Rattle.std.proofs.lemmas.Bool.{lt-ltb}
use Rattle.cap_words.specs.declared.Word.{Word}
use Rattle.cap_words.specs.declared.Word.TheVariants.{Int, Mem, Seal, Sealed}
use Rattle.cap_words.specs.Text.{word_text_of}
use Rattle.cap_words.specs.WordBytes.{WordFits}
use Rattle.lcm_machine.specs.Table.{fits_64}
use Rattle.source_events.specs.declared.FeedBack.{FeedBack}
use Rattle.source_events.specs.declared.FeedBack.TheVariants as back
use Rattle.source_events.specs.declared.FeedPair.{FeedPair}
use Rattle.source_events.specs.declared.FeedPair.TheVariants as pair
use Rattle.source_events.specs.Forms.{BackFits, PairFits, back_text, pair_text}
use Rattle.source_events.specs.Left.{left_in}
use Rattle.run_lines.specs.Feed as line
use Rattle.line_fields.specs.Numbers.{natural_in, integer_in}
use Rattle.line_fields.specs.Words.{word_in}
use Rattle.line_fields.proofs.Offers.{number_again, integer_again, integer_is, fits_has_text, text_is_word}
use Rattle.line_fields.specs.Feed.{left_of}
use Rattle.audited_runs.proofs.High.{IsHigh, high_join, decimal_high, name_high}

-- ---- numbers and words

pub natural_again : (n : ℕ) → n ≤ 4294967295 → natural_in (decimal n) ≡ Some n
natural_again n h = number_again 4294967295 n h (omega (arith, h))

pub word_again : (w : Word) → WordFits w → word_in (word_text_of w) ≡ Some w
word_again w h = text_is_word w (word_text_of w) (fits_has_text w h, refl)

-- where the text of a word is that of an integer, it is this integer
int_only : (w : Word) (z : ℤ) → WordFits w → integer_in (word_text_of w) ≡ Some z → w ≡ Int z
int_only w z h e =
    let k = integer_is z (word_text_of w) e in
    let same : Some w ≡ Some (Int z) = sym (word_again w h) ∙ text_is_word (Int z) (word_text_of w) k in
    cc

abbrev int_of : Word → Bool
int_of (Int z) = true
int_of (Mem c) = false
int_of (Seal s) = false
int_of (Sealed n x) = false

no_integer : (w : Word) → WordFits w → int_of w ≡ false → integer_in (word_text_of w) ≡ None
no_integer w h other = by_read (integer_in (word_text_of w)) refl
  where
    by_read : (o : Option ℤ) → integer_in (word_text_of w) ≡ o → o ≡ None
    by_read None e = refl
    by_read (Some z) e =
        let is = ap int_of (int_only w z h e) in
        let f : true ≡ false = sym is ∙ other in
        absurd cc

pub signed_fits : (z : ℤ) → FitsSigned w64 z → fits_64 z ≡ true
signed_fits (pos n) h = lt-ltb n 9223372036854775808 (omega (arith, h))
signed_fits (negsuc n) h = lt-ltb n 9223372036854775808 (omega (arith, h))

int_read : (z : ℤ) → FitsSigned w64 z → line.integer_in (Int z) ≡ Some z
int_read z h = let e = signed_fits z h in rw e refl

pub integer_read : (w : Word) → WordFits w → integer_in (word_text_of w) ≡ line.integer_in w
integer_read (Int z) h = integer_again z h ∙ sym (int_read z h)
integer_read (Mem c) h = no_integer (Mem c) h refl
integer_read (Seal s) h = no_integer (Seal s) h refl
integer_read (Sealed n x) h = no_integer (Sealed n x) h refl

pub left_read : (base : ℕ) (w : Word) → WordFits w → left_of base (word_text_of w) ≡ left_in base w
left_read base w h = ap (option_and_then (left_in base)) (word_again w h)

-- ---- the bytes of where jumps lead

colon : IsHigh (codes ":")
colon = record { all = refl }

pub back_high : (b : FeedBack) → BackFits b → IsHigh (back_text b)
back_high back.Out h = record { all = refl }
back_high back.Bad h = record { all = refl }
back_high (back.Hop part name) h =
    let begin : IsHigh (codes "hop:") = record { all = refl } in
    high_join begin (high_join (name_high part h.0) (high_join colon (name_high name h.1)))
back_high (back.Pair part site base) h =
    let begin : IsHigh (codes "pair:") = record { all = refl } in
    let place = high_join (decimal_high site) (high_join colon (decimal_high base)) in
    high_join begin (high_join (name_high part h.0) (high_join colon place))

pub pair_high : (p : FeedPair) → PairFits p → IsHigh (pair_text p)
pair_high pair.Nothing h = record { all = refl }
pair_high pair.Bad h = record { all = refl }
pair_high pair.Out h = record { all = refl }
pair_high (pair.Hop part name) h =
    let begin : IsHigh (codes "hop:") = record { all = refl } in
    high_join begin (high_join (name_high part h.0) (high_join colon (name_high name h.1)))
