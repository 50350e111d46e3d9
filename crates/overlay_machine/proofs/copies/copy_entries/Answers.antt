use Rattle.std.proofs.Common.{◌++◌, [], ◌∷◌, sym, ap, ap₂, ◌∙◌}
use Rattle.std.proofs.lemmas.List.{take_more, take_all}
use Rattle.linked_starts.specs.declared.owners.Entry.{Entry}
use Rattle.overlay_machine.proofs.copies.copy_entries.Goals as goal

pub loop-entry-preserved : goal.loop-entry-preserved
loop-entry-preserved c =
    let entry = c.entry-item.result in
    let name = c.in_ok-copy_name.ensures ∙ c.as_slice.ensures in
    let copy = ap (λ n. let e : Entry = record { name = n; at = entry.at } in e) name in
    c.in_ok-push.ensures.items
    ∙ ap₂ (λ xs x. xs ++ x ∷ []) c.loop-entry.invariant (copy ∙ c.entry-item.is)
    ∙ sym (take_more c.args.entries.now c.loop-entry.entry-index entry c.loop-entry-test.true)

pub returns : goal.returns
returns c =
    c.of.ensures ∙ c.loop-entry.invariant
    ∙ take_all c.loop-entry.entry-index c.args.entries.now c.loop-entry-test.false
