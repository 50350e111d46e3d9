use Rattle.std.proofs.Common.{arith, append_assoc}
use Rattle.component_file.specs.Spelling.{list_bytes}
use Rattle.image_loader.specs.Image.{image_bytes}
use Rattle.image_loader.proofs.writing.write_image.Goals as goal

-- the pieces from the last to the first
pub returns : goal.returns
unfolding image_bytes list_bytes
returns c = (
  record {
    stack = omega arith;
    count = (c.requires.some, c.requires.few);
    parts = c.in_ok-push_parts.ensures.kept;
  },
  rw (
    c.in_ok-push_parts.ensures.spelled,
    c.in_ok-push_u16-2.ensures.bytes,
    c.in_ok-push_u32.ensures.bytes,
    c.in_ok-push_u16.ensures.bytes,
    c.in_ok-extend_from_slice.ensures.items,
    c.new-out.ensures.items,
  )
      (simp append_assoc),
)
