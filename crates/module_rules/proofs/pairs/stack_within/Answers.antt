use Rattle.std.proofs.Common.{rules}
use Rattle.std.specs.Prelude.{not, ◌==◌}
use Rattle.linked_starts.specs.Pairs.{never, once}
use Rattle.linked_starts.proofs.Offers.{told_in}
use Rattle.module_rules.specs.Rules.{stack_base_of, stacks_agree}
use Rattle.module_rules.proofs.pairs.stack_within.Goals as goal

pub returns : goal.returns
unfolding stacks_agree
returns c =
    let ms = c.args.modules.now in
    told_in (λ i m. once (not (m.stack == stack_base_of ms)) m.stack) never ms c.args.i
    c.module_at-m.result.now c.module_at-m.ensures.at (search rules)
