use Rattle.std.proofs.Common.{length, arith, rules, ap, sym, ◌∙◌}
use Rattle.run_picture.specs.Events.{events_in}
use Rattle.run_picture.proofs.Lines.{few, fewer, more_left}
use Rattle.run_picture.proofs.event.line_count.Goals as goal

pub loop-line-init : goal.loop-line-init
loop-line-init c = record {
  so_far = omega (arith, ap (λ ls. length (events_in ls)) c.of_text-lines.ensures);
  few =
      omega (
        arith,
        few c.of_text-lines.result c.args.text.now c.of_text-lines.ensures (search rules),
      );
}

pub loop-line-preserved : goal.loop-line-preserved
loop-line-preserved c = record {
  so_far =
      omega (
        arith,
        ap length
            (more_left c.loop-line.lines c.in-Some._line.now c.part.new.self c.in-Some.ensures
            (sym c.is_over.ensures ∙ c.if-is_over.false)),
        c.loop-line.invariant.so_far,
      );
  few =
      omega (
        arith,
        fewer c.loop-line.lines c.in-Some._line.now c.part.new.self c.in-Some.ensures,
        c.loop-line.invariant.few,
      );
}
