use Rattle.linked_starts.proofs.Offers.{spans_more}
use Rattle.component_linker.proofs.memory.spans_of.Goals as goal

pub loop-index-preserved : goal.loop-index-preserved
loop-index-preserved c =
    spans_more c.args.parts.now c.loop-index.index c.part.result c.loop-index.spans.items
    c.push_part.new.spans.items c.part.ensures c.loop-index.invariant c.in_ok-push_part.ensures
