use Rattle.std.proofs.Common.{rules}
use Rattle.std.specs.Prelude.{take, ◌&&◌}
use Rattle.std.specs.List.{list_any}
use Rattle.linked_starts.specs.Pairs.{never, once}
use Rattle.linked_starts.proofs.Offers.{told_in}
use Rattle.module_rules.specs.Rules.{has_main, main_rank, one_main}
use Rattle.module_rules.proofs.whole.main_within.Goals as goal

pub returns : goal.returns
unfolding one_main
returns c =
    let ms = c.args.modules.now in
    told_in (λ i m. once (has_main m && list_any has_main (take i ms)) (main_rank m)) never ms c.args.i
    c.module_at-m.result.now c.module_at-m.ensures.at (search rules)
