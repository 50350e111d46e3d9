use Rattle.std.proofs.Common.{rules}
use Rattle.std.specs.Prelude.{take}
use Rattle.linked_starts.specs.Pairs.{never, at_each}
use Rattle.linked_starts.proofs.Offers.{told_in, each_before}
use Rattle.module_rules.specs.Rules.{same_name, names_differ}
use Rattle.module_rules.proofs.pairs.name_within.Goals as goal

pub returns : goal.returns
unfolding names_differ
returns c =
    let ms = c.args.modules.now in
    let m = c.module_at-m.result.now in
    told_in (λ i m. at_each (take i ms) (same_name m)) never ms c.args.i m c.module_at-m.ensures.at
    (each_before ms (same_name m) c.first_place.ensures.first (search rules) (λ j b lt h. search rules))
