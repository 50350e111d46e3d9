use Rattle.readers.proofs.Offers.{glued}
use Rattle.component_file.specs.Parts.{calls_pieces}
use Rattle.component_file.proofs.CanWrite.{imports_can, exports_can, all_always}
use Rattle.component_file.proofs.writing.push_calls.Goals as goal

pub push_short_list-requires-clause-can_write : goal.push_short_list-requires-clause-can_write
push_short_list-requires-clause-can_write c = rw c.as_slice.ensures (imports_can _ c.requires.imports.1)

pub push_short_list-requires-2-clause-can_write : goal.push_short_list-requires-2-clause-can_write
push_short_list-requires-2-clause-can_write c = rw c.as_slice-2.ensures (exports_can _ c.requires.exports.1)

pub push_short_list-requires-3-clause-can_write : goal.push_short_list-requires-3-clause-can_write
push_short_list-requires-3-clause-can_write c = all_always _

-- the pieces from the last to the first
pub returns : goal.returns
unfolding calls_pieces
returns c = rw (
  c.in_ok-push_short_list-3.ensures,
  c.in_ok-push_short_list-2.ensures,
  c.in_ok-push_short_list.ensures,
  c.as_slice.ensures,
  c.as_slice-2.ensures,
  c.as_slice-3.ensures,
) (glued c.args.out.now.items (calls_pieces c.args.fields.now))
