use Rattle.readers.proofs.Offers.{glued}
use Rattle.component_file.specs.Parts.{memory_pieces}
use Rattle.component_file.proofs.CanWrite.{words_can}
use Rattle.component_file.proofs.writing.push_memory.Goals as goal

pub push_long_list-requires-clause-can_write : goal.push_long_list-requires-clause-can_write
push_long_list-requires-clause-can_write c = rw c.as_slice.ensures (words_can _ c.requires.code.1)

pub push_long_list-requires-2-clause-can_write : goal.push_long_list-requires-2-clause-can_write
push_long_list-requires-2-clause-can_write c = rw c.as_slice-2.ensures (words_can _ c.requires.data_words.1)

-- the pieces from the last to the first
pub returns : goal.returns
unfolding memory_pieces
returns c = rw (
  c.in_ok-push_long_list-2.ensures,
  c.in_ok-push_u32-2.ensures.bytes,
  c.in_ok-push_long_list.ensures,
  c.in_ok-push_u32.ensures.bytes,
  c.as_slice.ensures,
  c.as_slice-2.ensures,
) (glued c.args.out.now.items (memory_pieces c.args.fields.now))
