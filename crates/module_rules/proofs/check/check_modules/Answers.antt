use Rattle.linked_starts.proofs.Offers.{first_broken_in}
use Rattle.module_rules.specs.Rules.{module_rules, told_as}
use Rattle.module_rules.proofs.check.check_modules.Goals as goal

pub returns-clause-first : goal.returns-clause-first
returns-clause-first c =
    let tried = module_rules c.args.modules.now c.args.size in
    rw c.try_rules.ensures (first_broken_in told_as tried)
