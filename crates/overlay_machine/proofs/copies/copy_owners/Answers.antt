use Rattle.std.proofs.Common.{◌++◌, [], ◌∷◌, sym, ap₂, ◌∙◌}
use Rattle.std.proofs.lemmas.List.{take_more, take_all}
use Rattle.overlay_machine.proofs.copies.copy_owners.Goals as goal

pub loop-owner-preserved : goal.loop-owner-preserved
loop-owner-preserved c =
    c.in_ok-push.ensures.items
    ∙ ap₂ (λ xs x. xs ++ x ∷ []) c.loop-owner.invariant (c.in_ok-copy_owner.ensures ∙ c.owner-item.is)
    ∙ sym (take_more c.args.owners.now c.loop-owner.owner-index c.owner-item.result c.loop-owner-test.true)

pub returns : goal.returns
returns c =
    c.of.ensures ∙ c.loop-owner.invariant
    ∙ take_all c.loop-owner.owner-index c.args.owners.now c.loop-owner-test.false
