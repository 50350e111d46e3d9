use Rattle.readers.proofs.Offers.{glued}
use Rattle.disassembler.specs.Parts.{table_lines}
use Rattle.disassembler.proofs.text.push_tables.Goals as goal

-- the lines from the last to the first
pub returns : goal.returns
unfolding table_lines
returns c = rw (
  c.in_ok-push_lines-4.ensures,
  c.in_ok-push_optional-2.ensures,
  c.in_ok-push_optional.ensures,
  c.in_ok-push_lines-3.ensures,
  c.in_ok-push_lines-2.ensures,
  c.in_ok-push_lines.ensures,
  c.as_slice.ensures,
  c.as_slice-2.ensures,
  c.as_slice-3.ensures,
  c.as_slice-4.ensures,
) (glued c.args.text.now.items (table_lines c.args.fields.now))
