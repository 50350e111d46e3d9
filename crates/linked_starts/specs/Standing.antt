-- Parts as they stand: the movable ones after the others and the stack, one after another.
use Rattle.std.specs.Prelude.{ℕ, ◌+◌, max, List, [], ◌∷◌, length, Option, Some, None, if◌then◌else◌}
use Rattle.std.specs.List.{fold}
use Rattle.lcm_machine.specs.declared.cells.Span.{Span}
use Rattle.component_file.specs.declared.component.ComponentFields.{ComponentFields}
use Rattle.linked_starts.specs.declared.moving.Move.{Move}
use Rattle.linked_starts.specs.declared.moving.Free.{Free}
use Rattle.linked_starts.specs.Parts.{PartSeen}
use Rattle.linked_starts.specs.Placing.{moved_by, lowest_address, lowest_seal}
use Rattle.linked_starts.specs.Regions.{stack_span}

-- after a component: after all its regions, with an address between, and after all its seals
abbrev pub behind : ComponentFields → Free
behind c = record {
  address =
      max
      (c.code_base + length c.code)
      (max (c.data_base + length c.data_words) (c.linear.base + c.linear.count)) + 1;
  seal = max (c.closure + 1) (c.seals.base + c.seals.count);
}

abbrev pub behind_stack : Option Span → Free
behind_stack None = record { address = 0; seal = 0 }
behind_stack (Some s) = record { address = s.end + 2; seal = 0 }

abbrev pub furthest : Free → Free → Free
furthest f g = record { address = max f.address g.address; seal = max f.seal g.seal }

-- after the stack and the parts that stand at their own numbers
abbrev pub past_fixed : Free → PartSeen → Free
past_fixed f p = if p.component.movable then f else furthest f (behind p.component)

abbrev pub free_of : List PartSeen → ℕ → Free
free_of parts size = fold past_fixed (behind_stack (stack_span parts size)) parts

-- a component's lowest numbers come to stand at the first that are free
abbrev pub move_to : Free → ComponentFields → Move
move_to f c = record {
  addresses = record { from = lowest_address c; to = f.address };
  seals = record { from = lowest_seal c; to = f.seal };
}

abbrev pub move_of : Free → ComponentFields → Option Move
move_of f c = if c.movable then Some (move_to f c) else None

abbrev pub settled : Free → ComponentFields → ComponentFields
settled f c = moved_by (move_of f c) c

abbrev pub placed_part : Free → PartSeen → PartSeen
placed_part f p = record p { component = settled f p.component }

-- what is free after a movable part; the others have no part in this
abbrev pub past : Free → PartSeen → Free
past f p = if p.component.movable then behind (settled f p.component) else f

abbrev pub placed_from : Free → List PartSeen → List PartSeen
placed_from f [] = []
placed_from f (p ∷ ps) = placed_part f p ∷ placed_from (past f p) ps

-- the parts as they stand, with a stack of a size
abbrev pub placed : List PartSeen → ℕ → List PartSeen
placed parts size = placed_from (free_of parts size) parts
