-- A turn lays one part more.
use Rattle.std.proofs.Common.{◌≡◌, ◌∙◌, arith}
use Rattle.linked_starts.proofs.Offers.{parts_end, parts_laid, parts_upto, still_there}
use Rattle.component_linker.proofs.laying.lay_parts.Goals as goal

pub lay_part-requires : goal.lay_part-requires
lay_part-requires c =
    let p = c.part-part.result in
    record {
      kept = c.requires.closed.kept c.loop-index.index p c.part-part.ensures;
      closed = c.requires.closed;
      found = λ n i at. c.requires.closed.found c.loop-index.index n p i c.part-part.ensures at;
      room = λ a w h. still_there (parts_upto c.args.parts.now c.loop-index.index)
          c.args.state.now c.loop-index.state a c.loop-index.invariant
          (c.requires.room c.loop-index.index a p w c.part-part.ensures h);
    }

pub loop-index-preserved : goal.loop-index-preserved
loop-index-preserved c =
    parts_laid c.args.parts.now c.part-part.result c.args.state.now c.loop-index.state c.lay_part.new.state
    c.loop-index.index c.requires.separate c.part-part.ensures c.loop-index.invariant c.lay_part.ensures

pub returns : goal.returns
returns c =
    let n : c.loop-index.index ≡ c.len-index-end.result = omega arith in
    parts_end c.args.parts.now c.args.state.now c.loop-index.state c.loop-index.index
    (n ∙ c.len-index-end.ensures.is) c.loop-index.invariant
