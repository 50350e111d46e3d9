use Rattle.std.proofs.Common.{rules}
use Rattle.linked_starts.specs.Pairs.{never, at_each}
use Rattle.linked_starts.proofs.Offers.{told_in, each_item}
use Rattle.module_rules.specs.Rules.{module_named, is_private, imports_are_shared}
use Rattle.module_rules.proofs.imports.private_within.Goals as goal

pub returns : goal.returns
unfolding imports_are_shared
returns c =
    let ms = c.args.modules.now in
    let m = c.module_at-m.result.now in
    told_in (λ i m. at_each m.imports (λ x. is_private m (module_named ms x.part.text) x.name.text)) never
    ms c.args.i m c.module_at-m.ensures.at
    (each_item m.imports (λ x. is_private m (module_named ms x.part.text) x.name.text)
    c.first_place.ensures.first (search rules) (λ j b lt h. search rules))
