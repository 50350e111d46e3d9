-- Numbers, words and jumps are read of their own texts alone.
use Rattle.std.specs.Prelude.{◌≡◌, ◌↔◌, ◌<◌, ◌≤◌, ◌^◌, ℕ, ℤ, List, Some, FitsSigned, decimal}
use Rattle.std.specs.Int.{w64}
use Rattle.std.specs.Fmt.{signed_decimal}
use Rattle.cap_words.specs.declared.Word.{Word}
use Rattle.cap_words.specs.Text.{word_text_of}
use Rattle.line_fields.specs.Numbers.{number_in, integer_in}
use Rattle.line_fields.specs.Words.{HasText, word_in}
use Rattle.source_events.specs.declared.FeedBack.{FeedBack}
use Rattle.source_events.specs.declared.FeedPair.{FeedPair}
use Rattle.source_events.specs.Forms.{BackFits, back_text, PairFits, pair_text}
use Rattle.line_fields.specs.Forms.{back_in, handed_in}

-- up to a bound of 64 bits
abbrev pub NumbersAreRead : Type 0
NumbersAreRead =
    (most n : ℕ) (text : List ℕ) → most < 2 ^ 64
    → (number_in most text ≡ Some n) ↔ ((n ≤ most) × (text ≡ decimal n))

abbrev pub IntegersAreRead : Type 0
IntegersAreRead =
    (z : ℤ) (text : List ℕ) → (integer_in text ≡ Some z) ↔ (FitsSigned w64 z × (text ≡ signed_decimal z))

abbrev pub WordsAreRead : Type 0
WordsAreRead = (w : Word) (text : List ℕ) → (word_in text ≡ Some w) ↔ (HasText w × (text ≡ word_text_of w))

abbrev pub BacksAreRead : Type 0
BacksAreRead = (b : FeedBack) (text : List ℕ) → (back_in text ≡ Some b) ↔ (BackFits b × (text ≡ back_text b))

abbrev pub HandedAreRead : Type 0
HandedAreRead =
    (p : FeedPair) (text : List ℕ) → (handed_in text ≡ Some p) ↔ (PairFits p × (text ≡ pair_text p))
