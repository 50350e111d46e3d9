use Rattle.std.proofs.Common.{◌≡◌, ◌∙◌, refl, ap, sym, length, arith}
use Rattle.cap_words.specs.Reading.{Input}
use Rattle.cap_words.specs.WordReading.{next_word}
use Rattle.readers.proofs.Offers.{after, ok_value}
use Rattle.cap_words.proofs.Words.{found_in_front, read_in_front}
use Rattle.cap_words.proofs.bytes.reading.read_word.Goals as goal

pub returns-in-Ok-clause-found : goal.returns-in-Ok-clause-found
returns-in-Ok-clause-found c =
    rw c.at.ensures
    (found_in_front c.args.bytes.now c.in-Ok.word c.word.new.self
    (λ i. omega (arith, c.type_inv.bytes i)) (ap next_word (sym c.of-cursor.ensures) ∙ c.in-Ok.ensures))

pub returns-in-Ok-clause-only : goal.returns-in-Ok-clause-only
returns-in-Ok-clause-only c = λ w front rest spelled is.
    let read = sym (read_in_front w front rest c.args.bytes.now spelled is)
    ∙ ap next_word (sym c.of-cursor.ensures) ∙ c.in-Ok.ensures in
    let both = ok_value w c.in-Ok.word (after 0 front rest) c.word.new.self read in
    let at : c.at.result ≡ length front = omega (arith, c.at.ensures, ap (λ (i : Input). i.at) both.1) in
    rw (← both.0, at) refl

pub returns-in-Err-clause-only : goal.returns-in-Err-clause-only
returns-in-Err-clause-only c = λ w front rest spelled is.
    let read = sym (read_in_front w front rest c.args.bytes.now spelled is)
    ∙ ap next_word (sym c.of-cursor.ensures) ∙ c.in-Err.ensures in
    absurd cc
