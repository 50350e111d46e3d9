use Rattle.link_tool.proofs.starts.image_bytes.Goals as goal

pub returns-in-Parts : goal.returns-in-Parts
returns-in-Parts g c = rw (c.in-Parts.is, ← c.as_slice.ensures.same) c.make_image.ensures

pub returns-in-Image : goal.returns-in-Image
returns-in-Image g c = rw c.in-Image.is c.read_image.ensures
