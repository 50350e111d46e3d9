use Rattle.readers.proofs.Offers.{glued}
use Rattle.disassembler.specs.Parts.{head_lines}
use Rattle.disassembler.proofs.text.push_head.Goals as goal

-- the lines from the last to the first
pub returns : goal.returns
unfolding head_lines
returns c = rw (
  c.in_ok-push_stretch-2.ensures,
  c.in_ok-push_stretch.ensures,
  c.in_ok-push_flag.ensures,
  c.in_ok-push_single-2.ensures,
  c.in_ok-push_single.ensures,
  c.in_ok-push_name.ensures,
  c.as_slice.ensures,
  c.base.ensures.same,
  c.count.ensures.same,
) (glued c.args.text.now.items (head_lines c.args.fields.now))
