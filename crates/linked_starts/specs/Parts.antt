-- Parts as the linker sees them.
use Rattle.std.specs.Prelude.{◌≡◌, ℕ, ◌⊎◌, Bool, true, List, Result, Ok, Err}
use Rattle.component_file.specs.declared.component.ComponentFields.{ComponentFields}
use Rattle.component_file.specs.Limits.{IsComponent}
use Rattle.component_check.specs.declared.rule.Broken.{Broken}
use Rattle.component_check.specs.declared.rule.Group.TheVariants.{C}
use Rattle.component_check.specs.RuleText.{broken_at}
use Rattle.component_check.specs.Places.{Test}
use Rattle.component_check.specs.Verdict.{NoneBroken, IsFirst}
use Rattle.component_check.specs.Rules.{rules_c}
use Rattle.call_sequence.specs.Verdict.{IsKept, IsFirstOfFlow}

-- a component, and whether it is trusted
pub record PartSeen : Type 0 where
  pub component : ComponentFields
  pub trusted : Bool

-- the rules C of a part of its mark
abbrev pub rules_of : PartSeen → List (Test ℕ)
rules_of p = rules_c p.component p.trusted

-- what the rules K answer of a part: they are asked of a trusted one
abbrev pub TriesFlow : PartSeen → Result (Unit {0}) Broken → Type 0
TriesFlow p (Ok u) = p.trusted ≡ true → IsKept p.component
TriesFlow p (Err b) = (p.trusted ≡ true) × IsFirstOfFlow p.component (Err b)

-- what every part keeps: the limits of a component, the rules C, and where it is trusted those of the flow of
-- its code, K
pub record IsPart (p : PartSeen) : Type 0 where
  pub limits : IsComponent p.component
  pub rules : NoneBroken (rules_of p)
  pub flow : p.trusted ≡ true → IsKept p.component

-- the answer is the part, exactly where it breaks no rule; or the first rule that it breaks, C before K
abbrev pub Accepts : PartSeen → Result PartSeen Broken → Type 0
Accepts p (Ok q) = (q ≡ p) × NoneBroken (rules_of p) × TriesFlow p (Ok tt)
Accepts p (Err b) = IsFirst (broken_at C) (rules_of p) b ⊎ (NoneBroken (rules_of p) × TriesFlow p (Err b))
