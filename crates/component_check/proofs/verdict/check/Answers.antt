use Rattle.component_check.specs.declared.rule.Group.TheVariants.{C}
use Rattle.component_check.specs.RuleText.{broken_at}
use Rattle.component_check.specs.Rules.{rules_c}
use Rattle.component_check.proofs.First.{first_broken}
use Rattle.component_check.proofs.verdict.check.Goals as goal

pub returns : goal.returns
returns c = rw (c.check_rules.ensures, c.fields.ensures.same)
    (first_broken (broken_at C) (rules_c c.args.c.now c.args.trusted))
