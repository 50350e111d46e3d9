use Rattle.std.proofs.Common.{◌∙◌, ◌+◌, ◌∷◌, sym, refl, ap, arith, length, inl, inr, Err}
use Rattle.std.specs.Prelude.{option_map}
use Rattle.std.specs.List.{slice_split}
use Rattle.std.proofs.lemmas.Result.{err_from_is_err_and}
use Rattle.text_scan.specs.Bytes.{is_newline}
use Rattle.text_scan.specs.Tokens.{with_front, lines_from, lines_behind}
use Rattle.text_scan.proofs.Lines.{next_line, last_line, line_fails, some_line}
use Rattle.text_scan.proofs.Texts.{read_is_text, one_reading, no_fault}
use Rattle.text_scan.proofs.Faults.{told_fault, one_fault, no_tokens_and_fault}
use Rattle.text_scan.proofs.Places.{text_placed, text_spelled}
use Rattle.text_scan.proofs.text.scan.Goals as goal

pub returns-in_err-push_line : goal.returns-in_err-push_line
returns-in_err-push_line c =
    let p = err_from_is_err_and c.from_residual.result c.from_residual.ensures.1 in
    let front = c.loop-tokens.tokens.items in
    let number = c.loop-tokens.number in
    let at = c.loop-tokens.at in
    let so_far = ap (λ l. with_front front (lines_from number at l)) (sym c.first_line.ensures.parts)
    ∙ c.loop-tokens.invariant.so_far in
    let fails = line_fails front number at _ _ c.in_err-push_line.field-0.0 _ c.in_err-push_line.ensures
    so_far in
    rw (p.1, p.2) (record {
      exact = fails;
      found = tt;
      only = λ tokens has.
          inr (ap Err (no_fault c.args.text.now c.in_err-push_line.field-0.0 tokens fails has));
      fails = told_fault c.args.text.now c.in_err-push_line.field-0.0 fails;
      first = λ e has. elim (one_fault c.args.text.now c.in_err-push_line.field-0.0 e fails has) [
        | inl x ↦
            inl (ap Err x)
        | inr x ↦ inr (ap Err x)
      ];
      placed = tt;
      spelled = tt;
    })

pub returns-in_default : goal.returns-in_default
returns-in_default c =
    let front = c.loop-tokens.tokens.items in
    let number = c.loop-tokens.number in
    let at = c.loop-tokens.at in
    let line = c.first_line.result.0.now in
    let parts = c.first_line.ensures.parts
    ∙ ap (λ o. line ∷ lines_behind (option_map (λ r. r.now) o)) c.in_default.is in
    let so_far = ap (λ l. with_front front (lines_from number at l)) (sym parts)
    ∙ c.loop-tokens.invariant.so_far in
    let text = c.args.text.now in
    let tokens = c.push_line.new.tokens.items in
    let read = last_line front tokens number at line _ c.in_ok-push_line.ensures so_far in
    let has = read_is_text text tokens read in
    record {
      exact = read;
      found = has;
      only = λ others others_too. inl (one_reading text tokens others read others_too);
      fails = tt;
      first = λ e has_fault. absurd (no_tokens_and_fault text tokens e read has_fault);
      placed = text_placed text tokens has;
      spelled = text_spelled text tokens has;
    }

pub overflow_add-number : goal.overflow_add-number
overflow_add-number c =
    let len = rw c.in-Some.is at c.first_line.ensures.len in
    omega (arith, len, c.loop-tokens.invariant.place, c.loop-tokens.invariant.number, c.requires)

pub loop-tokens-preserved : goal.loop-tokens-preserved
loop-tokens-preserved c =
    let front = c.loop-tokens.tokens.items in
    let number = c.loop-tokens.number in
    let at = c.loop-tokens.at in
    let line = c.first_line.result.0.now in
    let next = c.in-Some.next.now in
    let len = rw c.in-Some.is at c.first_line.ensures.len in
    let parts = c.first_line.ensures.parts
    ∙ ap (λ o. line ∷ lines_behind (option_map (λ r. r.now) o)) c.in-Some.is in
    let so_far = ap (λ l. with_front front (lines_from number at l)) (sym parts)
    ∙ c.loop-tokens.invariant.so_far in
    record {
      place = omega (arith, len, c.loop-tokens.invariant.place);
      number = omega (arith, c.loop-tokens.invariant.number);
      so_far = rw c.in_ok-push.ensures.items
          (next_line front c.push_line.new.tokens.items number at (at + length line) line
          (slice_split is_newline next) _ (some_line next) c.in_ok-push_line.ensures refl so_far);
    }
