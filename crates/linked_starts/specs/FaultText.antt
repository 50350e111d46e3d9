-- How the faults of linking print.
use Rattle.std.specs.Prelude.{ℕ, ◌++◌, List, codes, decimal}
use Rattle.component_check.specs.RuleText.{rule_text}
use Rattle.linked_starts.specs.declared.fault.RuleAt.{RuleAt}
use Rattle.linked_starts.specs.declared.fault.LinkFault.{LinkFault}
use Rattle.linked_starts.specs.declared.fault.LinkFault.TheVariants.{Rule, NoMemory}

-- the part, the rule and the place, as 1 L4 0
unfoldable pub rule_at_text : RuleAt → List ℕ
rule_at_text at = decimal at.part ++ codes " " ++ rule_text at.rule ++ codes " " ++ decimal at.place

abbrev pub link_fault_text : LinkFault → List ℕ
link_fault_text (Rule at) = rule_at_text at
link_fault_text NoMemory = codes "out of memory"
