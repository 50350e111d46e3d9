use Rattle.readers.proofs.Offers.{glued}
use Rattle.disassembler.specs.Parts.{memory_lines}
use Rattle.disassembler.proofs.text.push_memory.Goals as goal

-- the lines from the last to the first
pub returns : goal.returns
unfolding memory_lines
returns c = rw (
  c.in_ok-push_lines.ensures,
  c.in_ok-push_single-2.ensures,
  c.in_ok-push_code.ensures,
  c.in_ok-push_single.ensures,
  c.as_slice.ensures,
  c.as_slice-2.ensures,
) (glued c.args.text.now.items (memory_lines c.args.fields.now))
