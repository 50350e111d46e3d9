use Rattle.std.proofs.Common.{rules, arith}
use Rattle.std.specs.Prelude.{not}
use Rattle.linked_starts.specs.Pairs.{never, once}
use Rattle.linked_starts.proofs.Offers.{told_behind, told_nowhere}
use Rattle.module_rules.specs.Rules.{stack_is_in_place, stack_fits}
use Rattle.module_rules.proofs.whole.size_within.Goals as goal

pub returns-then-i-modules : goal.returns-then-i-modules
unfolding stack_fits
returns-then-i-modules c =
    let ms = c.args.modules.now in
    told_nowhere (once (not (stack_is_in_place ms c.args.size)) c.args.size) ms c.args.i (omega arith)

pub returns : goal.returns
unfolding stack_fits
returns c =
    let ms = c.args.modules.now in
    told_behind (λ i m. never) (once (not (stack_is_in_place ms c.args.size)) c.args.size) ms c.args.i
    (omega arith) (search rules)
