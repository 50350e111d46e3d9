use Rattle.std.proofs.Common.{◌++◌, [], ◌∷◌, sym, ap₂, ◌∙◌}
use Rattle.std.proofs.lemmas.List.{take_more, take_all}
use Rattle.linked_starts.specs.declared.owners.CalledEntry.{CalledEntry}
use Rattle.overlay_machine.proofs.copies.copy_calls.Goals as goal

pub loop-call-preserved : goal.loop-call-preserved
loop-call-preserved c =
    let call = c.call-item.result in
    let part = c.in_ok-copy_name.ensures ∙ c.as_slice.ensures in
    let name = c.in_ok-copy_name-2.ensures ∙ c.as_slice-in-loop-call.ensures in
    let copy =
    ap₂ (λ p n. let e : CalledEntry = record { part = p; name = n; at = call.at } in e) part name in
    c.in_ok-push.ensures.items
    ∙ ap₂ (λ xs x. xs ++ x ∷ []) c.loop-call.invariant (copy ∙ c.call-item.is)
    ∙ sym (take_more c.args.calls.now c.loop-call.call-index call c.loop-call-test.true)

pub returns : goal.returns
returns c =
    c.of.ensures ∙ c.loop-call.invariant
    ∙ take_all c.loop-call.call-index c.args.calls.now c.loop-call-test.false
