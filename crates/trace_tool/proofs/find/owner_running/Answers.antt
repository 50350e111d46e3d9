-- What halving finds, the definition does.
use Rattle.std.proofs.Common.{rules, sym}
use Rattle.std.proofs.lemmas.List.Sorted.{answers_always}
use Rattle.linked_starts.specs.declared.owners.Owner.{Owner}
use Rattle.trace_tool.proofs.Found.{owner_runs, owner_elsewhere, owner_missing}
use Rattle.trace_tool.proofs.find.owner_running.Goals as goal

pub returns-then-runs_part : goal.returns-then-runs_part
returns-then-runs_part c =
    sym (owner_runs c.args.c c.args.owners.now c.in-Ok.place c.index-owners-place.result c.requires
    c.in-Ok.ensures.bound
    (c.in-Ok.ensures.position (λ (o : Owner). o.code.base)
    (answers_always _ _ _ (λ f a r g called. search rules))) c.index-owners-place.is (search rules))

pub returns-else-runs_part : goal.returns-else-runs_part
returns-else-runs_part c =
    sym (owner_elsewhere c.args.c c.args.owners.now c.in-Ok.place c.index-owners-place.result c.requires
    c.in-Ok.ensures.bound
    (c.in-Ok.ensures.position (λ (o : Owner). o.code.base)
    (answers_always _ _ _ (λ f a r g called. search rules))) c.index-owners-place.is (search rules))

pub returns-in-Err : goal.returns-in-Err
returns-in-Err c =
    sym (owner_missing c.args.c c.args.owners.now c.in-Err.field-0 c.requires
    (c.in-Err.ensures.position (λ (o : Owner). o.code.base)
    (answers_always _ _ _ (λ f a r g called. search rules))))
