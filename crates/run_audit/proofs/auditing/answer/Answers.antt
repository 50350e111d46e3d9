use Rattle.std.proofs.Common.{◌+◌, arith, rules, sym, ap, ◌∙◌}
use Rattle.std.proofs.lemmas.Result.{err_from_is_err_and}
use Rattle.run_audit.specs.Audit.{audit_on, nothing_open, audited_from, audited}
use Rattle.run_audit.proofs.Steps.{nothing_left, last_line, bad_line, end_line, event_line, fewer, few}
use Rattle.run_audit.proofs.Steps.{line_fails, end_answers}
use Rattle.run_audit.proofs.auditing.answer.Goals as goal

pub loop-line-init : goal.loop-line-init
unfolding audited
loop-line-init c = record {
  number = few c.of_text-lines.result c.args.text.now c.of_text-lines.ensures (search rules);
  so_far =
      ap (λ o. audited_from o 1 c.of_text-lines.result) c.new-open.ensures
      ∙ ap (audited_from nothing_open 1) c.of_text-lines.ensures;
}

pub returns-then-is_over : goal.returns-then-is_over
returns-then-is_over c =
    sym c.loop-line.invariant.so_far
    ∙ last_line c.loop-line.open c.loop-line.number c.loop-line.lines c.in-Some.line.now c.part.new.self
    c.in-Some.ensures (sym c.is_over.ensures ∙ c.if-is_over.true)

pub returns-in_default-line_of : goal.returns-in_default-line_of
returns-in_default-line_of c =
    sym c.loop-line.invariant.so_far
    ∙ bad_line c.loop-line.open c.loop-line.number c.loop-line.lines c.in-Some.line.now c.part.new.self
    c.in-Some.ensures (sym c.is_over.ensures ∙ c.if-is_over.false) c.in_default-line_of.ensures

pub returns-then-is_end : goal.returns-then-is_end
returns-then-is_end c =
    end_answers (c.loop-line.number + 1) c.part.new.self c.ended.result (audited c.args.text.now)
    c.ended.ensures
    (sym c.loop-line.invariant.so_far
    ∙ end_line c.loop-line.open c.loop-line.number c.loop-line.lines c.in-Some.line.now c.part.new.self
    c.in-Some.ensures (sym c.is_over.ensures ∙ c.if-is_over.false) c.in-Some-line_of.line
    c.in-Some-line_of.ensures (sym c.is_end.ensures ∙ c.if-is_end.true))

pub returns-in_err-step : goal.returns-in_err-step
returns-in_err-step c =
    let p = err_from_is_err_and c.from_residual.result c.from_residual.ensures.1 in
    let is =
    sym (event_line c.loop-line.open c.loop-line.number c.loop-line.lines c.in-Some.line.now
    c.part.new.self c.in-Some.ensures (sym c.is_over.ensures ∙ c.if-is_over.false)
    c.in-Some-line_of.line c.in-Some-line_of.ensures (sym c.is_end.ensures ∙ c.if-is_end.false))
    ∙ c.loop-line.invariant.so_far in
    rw (p.1, p.2)
    (line_fails (Unit {0}) (Unit {0}) c.in_err-step.field-0.0 _ _ _ (audited c.args.text.now)
    c.in_err-step.ensures is)

pub loop-line-preserved : goal.loop-line-preserved
loop-line-preserved c =
    let is =
    sym (event_line c.loop-line.open c.loop-line.number c.loop-line.lines c.in-Some.line.now
    c.part.new.self c.in-Some.ensures (sym c.is_over.ensures ∙ c.if-is_over.false)
    c.in-Some-line_of.line c.in-Some-line_of.ensures (sym c.is_end.ensures ∙ c.if-is_end.false))
    ∙ c.loop-line.invariant.so_far in
    record {
      number =
          omega (
            arith,
            fewer c.loop-line.open c.loop-line.number c.loop-line.lines c.in-Some.line.now
                c.part.new.self c.in-Some.ensures,
            c.loop-line.invariant.number,
          );
      so_far =
          ap (λ r. audit_on r (λ t. audited_from t (c.loop-line.number + 1) c.part.new.self))
          (sym c.in_ok-step.ensures)
          ∙ is;
    }

pub returns : goal.returns
returns c =
    sym c.loop-line.invariant.so_far
    ∙ nothing_left c.loop-line.open c.loop-line.number c.loop-line.lines c.in_default.ensures
