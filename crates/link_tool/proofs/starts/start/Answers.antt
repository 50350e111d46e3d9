use Rattle.link_tool.proofs.starts.start.Goals as goal

pub returns-in-Parts : goal.returns-in-Parts
returns-in-Parts g c = rw (c.in-Parts.is, ← c.as_slice.ensures.same) c.link_parts.ensures

pub returns-in-Image : goal.returns-in-Image
returns-in-Image g c = rw c.in-Image.is c.link_image.ensures
