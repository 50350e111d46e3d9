-- What linking answers.
use Rattle.std.specs.Prelude.{◌≡◌, ℕ, List, [], ◌∷◌, slice_get, Some, None, Result, Ok, Err}
use Rattle.lcm_machine.specs.Regions.{AreApart, HeldOnce}
use Rattle.linked_starts.specs.declared.fault.LinkFault.{LinkFault}
use Rattle.linked_starts.specs.declared.fault.LinkFault.TheVariants.{Rule, NoMemory}
use Rattle.linked_starts.specs.Parts.{PartSeen, IsPart}
use Rattle.linked_starts.specs.Standing.{placed}
use Rattle.linked_starts.specs.Regions.{regions_of}
use Rattle.linked_starts.specs.Pairs.{IsFirstIn, NoneIsBroken, first_in}
use Rattle.linked_starts.specs.declared.pairs.PartPlace.{PartPlace}
use Rattle.linked_starts.specs.Links.{l10, rules_l, rules_of_link, rule_at}
use Rattle.linked_starts.specs.SealsApart.{PartsApart, SitesApart}
use Rattle.linked_starts.specs.TrustedCode.{CodeInCells, TrustedInCells}
use Rattle.linked_starts.specs.Started.{StartSeen, Starts}

-- the parts as they stand; or the first that has no room, and what it lacks
abbrev pub Places : List PartSeen → ℕ → Result (List PartSeen) PartPlace → Type 0
Places parts size (Ok ps) = (ps ≡ placed parts size) × (first_in (l10 (placed parts size)) ≡ None)
Places parts size (Err at) = first_in (l10 (placed parts size)) ≡ Some at

-- of parts as they stand: each keeps its own rules, no rule L is broken, and this is their start. No seal is
-- of two parts or of two
-- sites, regions lie apart, and no address of a linear one is held twice; all have the start's stack, and
-- their code stands in the cells, that of trusted ones with its sequences
pub record LinksTo (parts : List PartSeen) (size : ℕ) (s : StartSeen) : Type 0 where
  pub accepted : (k : ℕ) (p : PartSeen) → slice_get parts k ≡ Some p → IsPart p
  pub room : NoneIsBroken (l10 parts ∷ [])
  pub rules : NoneIsBroken (rules_l parts size)
  pub starts : Starts parts size s
  pub parts_apart : PartsApart parts
  pub sites_apart : SitesApart parts s.sites
  pub regions : AreApart (regions_of parts size)
  pub held_once : HeldOnce (λ w. w) (regions_of parts size) s.state.maps
  pub stack_base : (k : ℕ) (p : PartSeen) → slice_get parts k ≡ Some p → p.component.stack_base ≡ s.stack.base
  pub code : CodeInCells parts s.state.maps
  pub trusted : TrustedInCells parts s.state.maps

-- the start; or the first rule that is broken; or, with no rule broken, that memory was refused
abbrev pub AnswersPlaced : List PartSeen → ℕ → Result StartSeen LinkFault → Type 0
AnswersPlaced parts size (Ok s) = LinksTo parts size s
AnswersPlaced parts size (Err (Rule at)) = IsFirstIn rule_at (rules_of_link parts size) at
AnswersPlaced parts size (Err NoMemory) = NoneIsBroken (rules_of_link parts size)

-- of parts, as they stand once they are placed
abbrev pub AnswersParts : List PartSeen → ℕ → Result StartSeen LinkFault → Type 0
AnswersParts parts size answer = AnswersPlaced (placed parts size) size answer
