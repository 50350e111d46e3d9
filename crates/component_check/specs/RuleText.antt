-- The text of a rule, and what is reported of a broken one.
use Rattle.std.specs.Prelude.{ℕ, ◌++◌, List, codes, decimal}
use Rattle.component_check.specs.declared.rule.Group.{Group}
use Rattle.component_check.specs.declared.rule.Group.TheVariants.{C, K, L}
use Rattle.component_check.specs.declared.rule.Rule.{Rule}
use Rattle.component_check.specs.declared.rule.Broken.{Broken}

abbrev pub group_letter : Group → List ℕ
group_letter C = codes "C"
group_letter K = codes "K"
group_letter L = codes "L"

-- the letter of the group and the number, as C7
unfoldable pub rule_text : Rule → List ℕ
rule_text r = group_letter r.group ++ decimal r.number

-- rule number n of a group is broken at a place
abbrev pub broken_at : Group → ℕ → ℕ → Broken
broken_at group n place = record { rule = record { group = group; number = n }; place = place }

-- the rule and the place, as C7 24
unfoldable pub broken_text : Broken → List ℕ
broken_text b = rule_text b.rule ++ codes " " ++ decimal b.place
