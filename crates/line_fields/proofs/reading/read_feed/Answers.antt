use Rattle.std.proofs.Common.{arith, rules, sym, ap, ◌∙◌, length, inr}
use Rattle.line_fields.proofs.Feeding.{begins, few, bad_line, good_line, ends}
use Rattle.line_fields.proofs.reading.read_feed.Goals as goal
use Rattle.line_fields.proofs.Cuts.{next_line}

pub loop-line-init : goal.loop-line-init
loop-line-init c = record {
  number =
      few c.of_text-lines.result c.args.text.now c.of_text-lines.ensures (search rules);
  so_far =
      begins c.new-items.result.items c.args.base c.of_text-lines.result c.args.text.now
      c.new-items.ensures.items c.of_text-lines.ensures;
}

pub returns-in_default-seen-clause-fails : goal.returns-in_default-seen-clause-fails
returns-in_default-seen-clause-fails c =
    inr (sym c.loop-line.invariant.so_far
    ∙ bad_line c.loop-line.items.items c.args.base c.loop-line.entry c.loop-line.number c.loop-line.lines
    c.in-Some.line.now c.part.new.self c.in-Some.ensures c.in_default-seen.ensures)

pub loop-line-preserved : goal.loop-line-preserved
loop-line-preserved c =
    let next = next_line c.loop-line.lines c.in-Some.line.now c.part.new.self c.in-Some.ensures in
    record {
      number = omega (arith, ap length next, c.loop-line.invariant.number);
      so_far =
          good_line c.loop-line.items.items c.args.base c.loop-line.entry c.loop-line.number c.loop-line.lines
          _ c.in-Some.line.now c.part.new.self c.in-Some-seen.found _ c.in-Some.ensures
          c.in-Some-seen.ensures c.is_enter-entry.ensures c.in_ok-push_item.ensures
          ∙ c.loop-line.invariant.so_far;
    }

pub returns-clause-told : goal.returns-clause-told
returns-clause-told c =
    sym c.loop-line.invariant.so_far
    ∙ ends c.loop-line.items.items c.args.base c.loop-line.entry c.loop-line.number c.loop-line.lines
    c.in_default.ensures
