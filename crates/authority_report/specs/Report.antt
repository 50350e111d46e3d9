-- What a report says, and when it is right.
use Rattle.std.specs.Prelude.{◌≡◌, ◌↔◌, ℕ, ◌==◌, true, List, find, Option, Some}
use Rattle.cap_words.specs.declared.Word.{Word}
use Rattle.cap_words.specs.Faces.{may_read, may_write, may_run}
use Rattle.lcm_machine.specs.Maps.{State}
use Rattle.linked_starts.specs.declared.owners.Owner.{Owner}
use Rattle.linked_starts.specs.Started.{StartSeen}
use Rattle.authority_report.specs.Spans.{allows, AreTidy}
use Rattle.authority_report.specs.declared.reach.Reach.{Reach}
use Rattle.authority_report.specs.Reaches.{Allows, SealsWith, is_seal_of}
use Rattle.authority_report.specs.SealRanges.{is_in, AreRanges}
use Rattle.authority_report.specs.Within.{Authority}

-- what a report tells, beside the seals that its part may open
abbrev pub told_authority : Owner → Reach → Authority
told_authority o r = record {
  read = allows (λ f. f.read) r.spans;
  write = allows (λ f. f.write) r.spans;
  run = allows (λ f. f.run) r.spans;
  seal = is_in r.seals;
  own = is_seal_of o;
}

-- an authority is just what a part reaches
pub record IsJust (m : State Word) (o : Owner) (g : Authority) : Type 0 where
  pub read : (a : ℕ) → (g.read a ≡ true) ↔ Allows m o may_read a
  pub write : (a : ℕ) → (g.write a ≡ true) ↔ Allows m o may_write a
  pub run : (a : ℕ) → (g.run a ≡ true) ↔ Allows m o may_run a
  pub seal : (n : ℕ) → (g.seal n ≡ true) ↔ SealsWith m o n

-- A report of a part: an address can be read, written or run, and a seal be sealed with, exactly where it
-- says so, and its spans and seals are maximal, disjoint and ascending.
pub record IsReport (m : State Word) (o : Owner) (r : Reach) : Type 0 where
  pub just : IsJust m o (told_authority o r)
  pub spans : AreTidy r.spans
  pub seals : AreRanges r.seals

-- the owner of a part
abbrev pub owner_of_part : List Owner → ℕ → Option Owner
owner_of_part owners part = find (λ o. o.part == part) owners

-- the report of a part at a start, which has an owner for it
abbrev pub Reports : StartSeen → ℕ → Reach → Type 0
Reports s part r = (o : Owner) × (owner_of_part s.owners part ≡ Some o) × IsReport s.state.maps o r
