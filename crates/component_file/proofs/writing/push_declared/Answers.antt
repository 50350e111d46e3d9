use Rattle.readers.proofs.Offers.{glued}
use Rattle.component_file.specs.Parts.{declared_pieces}
use Rattle.component_file.proofs.CanWrite.{all_always}
use Rattle.component_file.proofs.writing.push_declared.Goals as goal

pub push_long_list-requires-clause-can_write : goal.push_long_list-requires-clause-can_write
push_long_list-requires-clause-can_write c = all_always _

-- the pieces from the last to the first
pub returns : goal.returns
unfolding declared_pieces
returns c = rw (
  c.in_ok-push_long_list.ensures,
  c.in_ok-push_optional-2.ensures,
  c.in_ok-push_optional.ensures,
  c.as_slice.ensures,
) (glued c.args.out.now.items (declared_pieces c.args.fields.now))
