-- Which cells of the stack linked sources have wiped where they let go of control.
use Rattle.source_laws.specs.Wiped.{WipedAlways}
use Rattle.source_starts.specs.Links.{overlay_link}
use Rattle.source_starts.specs.Sources.{LinkedSources, world_of}

-- wherever they let go, the stack's cells are wiped from the one on that the refined meaning tells of, and no
-- others are changed
abbrev pub WipedCellsAreTold : Type 0
WipedCellsAreTold = (a : LinkedSources) → WipedAlways (overlay_link a.link) (world_of a) a.size a.start
