use Rattle.readers.proofs.Offers.{glued}
use Rattle.component_file.specs.Parts.{head_pieces}
use Rattle.component_file.proofs.CanWrite.{name_is_short}
use Rattle.component_file.proofs.writing.push_head.Goals as goal

pub push_name-requires : goal.push_name-requires
push_name-requires c = rw c.as_slice.ensures (name_is_short _ c.requires.name)

-- the pieces from the last to the first
pub returns : goal.returns
unfolding head_pieces
returns c = rw (
  c.in_ok-push_stretch-2.ensures,
  c.in_ok-push_stretch.ensures,
  c.in_ok-push_u32-2.ensures.bytes,
  c.in_ok-push_u32.ensures.bytes,
  c.in_ok-push_name.ensures,
  c.in_ok-push_u16.ensures.bytes,
  c.in_ok-extend_from_slice.ensures.items,
  c.as_slice.ensures,
  c.base.ensures.same,
  c.count.ensures.same,
  c.version_of.ensures,
) (glued c.args.out.now.items (head_pieces c.args.fields.now))
