-- A text that is written line after line.
use Rattle.std.proofs.Common.{◌≡◌, ℕ, suc, ◌+◌, ◌<◌, Bool, true, false, List, [], ◌∷◌, ◌++◌, length, min}
use Rattle.std.proofs.Common.{take, drop, Ok, Err, refl, sym, ap, ◌∙◌, subst, arith, append-nil, append_assoc}
use Rattle.std.specs.Prelude.{Result}
use Rattle.std.specs.List.{position_or_len, concat}
use Rattle.text_scan.specs.Bytes.{is_newline}
use Rattle.outside_io.specs.declared.outside.Failed.{Failed}
use Rattle.outside_io.specs.SinkSeen.{SinkSeen, Adds, FailsToWrite, IsOneWrite}
use Rattle.outside_io.specs.Writes.{AddsPieces, FailsAtPiece}
use Rattle.outside_io.proofs.Offers.{pieces_none, pieces_then, pieces_fail, fail_more, one_write, text_failed}
use Rattle.lcm_cli.specs.Pieces.{before_first, cut_lines}

-- ---- the first line of a text

abbrev first_len : List ℕ → ℕ
first_len text = min (position_or_len is_newline text + 1) (length text)

-- so many bytes in front of a text are its first line
abbrev Cut : ℕ → List ℕ → Type 0
Cut k text = cut_lines text ≡ take k text ∷ cut_lines (drop k text)

ends_here : (b : ℕ) (bs : List ℕ) → is_newline b ≡ true → Cut 1 (b ∷ bs)
ends_here b bs e = rw e refl

goes_on : (b : ℕ) (bs : List ℕ) (k : ℕ) → is_newline b ≡ false → Cut k bs → Cut (suc k) (b ∷ bs)
goes_on b bs k e h = rw (e, h) refl

ends_last : (b : ℕ) → is_newline b ≡ false → Cut 1 (b ∷ [])
ends_last b e = rw e refl

first_cut : (bs : List ℕ) (b : ℕ) → Cut (first_len (b ∷ bs)) (b ∷ bs)
first_cut [] b = by_byte (is_newline b) refl
  where
    by_byte : (n : Bool) → is_newline b ≡ n → Cut (first_len (b ∷ [])) (b ∷ [])
    by_byte true e = let one : first_len (b ∷ []) ≡ 1 = rw e refl in rw one (ends_here b [] e)
    by_byte false e = let one : first_len (b ∷ []) ≡ 1 = rw e refl in rw one (ends_last b e)
first_cut (c ∷ cs) b = by_byte (first_cut cs c) (is_newline b) refl
  where
    by_byte : Cut (first_len (c ∷ cs)) (c ∷ cs) → (n : Bool) → is_newline b ≡ n
        → Cut (first_len (b ∷ c ∷ cs)) (b ∷ c ∷ cs)
    by_byte h true e =
        let one : first_len (b ∷ c ∷ cs) ≡ 1 = rw e (omega arith) in rw one (ends_here b (c ∷ cs) e)
    by_byte h false e =
        let more : first_len (b ∷ c ∷ cs) ≡ suc (first_len (c ∷ cs)) = rw e (omega arith) in
        rw more (goes_on b (c ∷ cs) (first_len (c ∷ cs)) e h)

-- the first line of a text that isn't empty, and what stands after it
pub cut_front : (k : ℕ) (text line more : List ℕ) → 0 < length text → k ≡ first_len text
    → line ≡ take k text → more ≡ drop k text → cut_lines text ≡ line ∷ cut_lines more
cut_front k [] line more some is front back = absurd (omega (arith, some))
cut_front k (b ∷ bs) line more some is front back = rw (front, back, is) (first_cut bs b)

-- the lines are the text
cut_is : (text : List ℕ) → concat (cut_lines text) ≡ text
cut_is [] = refl
cut_is (b ∷ bs) = by_byte (cut_is bs) (is_newline b) refl
  where
    joined : (ls : List (List ℕ)) → concat (before_first b ls) ≡ b ∷ concat ls
    joined [] = refl
    joined (l ∷ ls) = refl

    by_byte : concat (cut_lines bs) ≡ bs → (n : Bool) → is_newline b ≡ n → concat (cut_lines (b ∷ bs)) ≡ b
        ∷ bs
    by_byte h true e = rw e (ap (λ t. b ∷ t) h)
    by_byte h false e = rw e (joined (cut_lines bs) ∙ ap (λ t. b ∷ t) h)

-- ---- the lines that were written

-- lines in front of a text were written, and the rest has the others
pub record Behind (old : SinkSeen) (text : List ℕ) (now : SinkSeen) (rest : List ℕ) : Type 0 where
  pub done : List (List ℕ)
  pub are : cut_lines text ≡ done ++ cut_lines rest
  pub adds : AddsPieces old done now

pub behind_none : (a : SinkSeen) (text : List ℕ) → Behind a text a text
behind_none a text = record { done = []; are = refl; adds = pieces_none a }

one_line : (now mid : SinkSeen) (line : List ℕ) → Adds now line mid → IsOneWrite now mid
    → AddsPieces now (line ∷ []) mid
one_line now mid line h one = one_write now mid line (let r : Result (Unit {0}) Failed = Ok tt in r) h tt one

no_line : (now mid : SinkSeen) (line : List ℕ) (e : Failed) → FailsToWrite now line mid → IsOneWrite now mid
    → FailsAtPiece now (line ∷ []) mid
no_line now mid line e h one = one_write now mid line (let r : Result (Unit {0}) Failed = Err e in r) tt h one

pub behind_line : (old now mid : SinkSeen) (text rest line more : List ℕ) → cut_lines rest ≡ line
    ∷ cut_lines more
    → Behind old text now rest → Adds now line mid → IsOneWrite now mid → Behind old text mid more
behind_line old now mid text rest line more first b h one = record {
  done = b.done ++ line ∷ [];
  are = b.are ∙ ap (λ ls. b.done ++ ls) first ∙ sym (append_assoc b.done (line ∷ []) (cut_lines more));
  adds = pieces_then old now mid b.done (line ∷ []) b.adds (one_line now mid line h one);
}

pub behind_fails : (old now new : SinkSeen) (text rest line more : List ℕ) (e : Failed)
    → cut_lines rest ≡ line ∷ cut_lines more
    → Behind old text now rest → FailsToWrite now line new → IsOneWrite now new
    → FailsAtPiece old (cut_lines text) new
behind_fails old now new text rest line more e first b h one =
    subst (λ ls. FailsAtPiece old ls new) (sym (b.are ∙ ap (λ ls. b.done ++ ls) first))
    (pieces_fail old now new b.done (line ∷ cut_lines more) b.adds
    (fail_more now new (line ∷ []) (cut_lines more) (no_line now new line e h one)))

pub behind_all : (old now : SinkSeen) (text rest : List ℕ) → length rest ≡ 0 → Behind old text now rest
    → AddsPieces old (cut_lines text) now
behind_all old now text [] e b =
    subst (λ ls. AddsPieces old ls now) (sym (b.are ∙ append-nil b.done)) b.adds
behind_all old now text (x ∷ xs) e b = absurd (cc)

-- ---- of the text

pub lines_add : (old new : SinkSeen) (text : List ℕ) → AddsPieces old (cut_lines text) new → Adds old text new
lines_add old new text h = subst (λ t. Adds old t new) (cut_is text) h.text

pub lines_fail : (old new : SinkSeen) (text : List ℕ) → FailsAtPiece old (cut_lines text) new
    → FailsToWrite old text new
lines_fail old new text h =
    subst (λ t. FailsToWrite old t new) (cut_is text) (text_failed old new (cut_lines text) h)
