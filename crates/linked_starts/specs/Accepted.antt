-- What is answered of a part, as a function of it: the rules C, tried in their order, and then, of a trusted
-- part, the rules K.
use Rattle.std.specs.Prelude.{Result, Ok, if◌then◌else◌}
use Rattle.std.specs.Result.{result_and}
use Rattle.component_check.specs.declared.rule.Broken.{Broken}
use Rattle.component_check.specs.declared.rule.Group.TheVariants.{C}
use Rattle.component_check.specs.RuleText.{broken_at}
use Rattle.component_check.specs.Verdict.{check_from}
use Rattle.call_sequence.specs.Verdict.{flow_answer}
use Rattle.linked_starts.specs.Parts.{PartSeen, rules_of}

-- the part, or the first rule that it breaks
unfoldable pub accepted : PartSeen → Result PartSeen Broken
accepted p =
    result_and (check_from (broken_at C) 1 (rules_of p))
    (result_and (if p.trusted then flow_answer p.component else Ok tt) (Ok p))
