-- Placing changes no names, imports, exports and stack bases.
use Rattle.std.proofs.Common.{◌≡◌, ℕ, zero, suc, List, [], ◌∷◌, Option, Some, None, refl, ap}
use Rattle.std.specs.Prelude.{slice_get}
use Rattle.component_file.specs.declared.component.ComponentFields.{ComponentFields}
use Rattle.linked_starts.specs.Parts.{PartSeen}
use Rattle.linked_starts.specs.Placing.{moved_by}
use Rattle.linked_starts.specs.Standing.{move_of, placed_part, past, placed_from, placed, free_of}

-- what a component says of names and the stack
pub record SaysSame (c d : ComponentFields) : Type 0 where
  pub name : d.name ≡ c.name
  pub stack_base : d.stack_base ≡ c.stack_base
  pub imports : d.imports ≡ c.imports
  pub exports : d.exports ≡ c.exports

moved_same : (c : ComponentFields) (m : Option _) → SaysSame c (moved_by m c)
moved_same c None = record { name = refl; stack_base = refl; imports = refl; exports = refl }
moved_same c (Some m) = record { name = refl; stack_base = refl; imports = refl; exports = refl }

abbrev There : List PartSeen → ℕ → PartSeen → Type 0
There parts k p = (q : PartSeen) × (slice_get parts k ≡ Some q) × SaysSame p.component q.component

from_there : (f : _) (ps : List PartSeen) (k : ℕ) (p : PartSeen) → slice_get ps k ≡ Some p
    → There (placed_from f ps) k p
from_there f [] k p h = absurd cc
from_there f (q ∷ ps) zero p h =
    let same : q ≡ p = cc in
    (placed_part f p, ap (λ r. Some (placed_part f r)) same, moved_same p.component (move_of f p.component))
from_there f (q ∷ ps) (suc k) p h = from_there (past f q) ps k p h

pub still_there : (parts : List PartSeen) (size k : ℕ) (p : PartSeen) → slice_get parts k ≡ Some p
    → There (placed parts size) k p
still_there parts size k p h = from_there (free_of parts size) parts k p h
