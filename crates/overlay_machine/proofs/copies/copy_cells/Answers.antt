use Rattle.std.proofs.Common.{◌∙◌, refl}
use Rattle.overlay_machine.proofs.CopyLemmas.{span_order, spans_first, spans_next, spans_all}
use Rattle.overlay_machine.proofs.copies.copy_cells.Goals as goal

pub copy_span-requires-clause-last : goal.copy_span-requires-clause-last
copy_span-requires-clause-last c =
    (span_order 0 c.spans-span-items.result.now c.loop-span.span-index _ c.spans-span-items.ensures.in_order
    c.loop-span-test.true).1

pub copy_span-requires-clause-order : goal.copy_span-requires-clause-order
copy_span-requires-clause-order c =
    (span_order 0 c.spans-span-items.result.now c.loop-span.span-index _ c.spans-span-items.ensures.in_order
    c.loop-span-test.true).0

pub loop-span-init : goal.loop-span-init
loop-span-init c = (spans_first c.args.state.now.maps c.args.maps.now.cells c.requires, refl, refl)

pub loop-span-preserved : goal.loop-span-preserved
loop-span-preserved c = (
  spans_next c.args.state.now.maps c.spans-span-items.result.now c.loop-span.span-index _
      c.loop-span.maps.cells _ c.spans-span-items.ensures.are c.loop-span-test.true c.loop-span.invariant.0
      c.copy_span.ensures.cells,
  c.copy_span.ensures.regs ∙ c.loop-span.invariant.1,
  c.copy_span.ensures.spans ∙ c.loop-span.invariant.2,
)

pub returns-clause-cells : goal.returns-clause-cells
returns-clause-cells c =
    spans_all c.args.state.now.maps c.spans-span-items.result.now c.loop-span.span-index
    c.loop-span.maps.cells c.spans-span-items.ensures.are c.loop-span-test.false c.loop-span.invariant.0
