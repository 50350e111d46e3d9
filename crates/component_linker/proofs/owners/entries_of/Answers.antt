use Rattle.std.proofs.Common.{◌≡◌, ℕ, ◌+◌, ◌<◌, List, [], ◌∷◌, ◌++◌, None, length, map, get_or, refl, sym, ap}
use Rattle.std.proofs.Common.{ap₂, subst, ◌∙◌, arith}
use Rattle.std.proofs.lemmas.List.{map_more, take_all}
use Rattle.component_file.specs.declared.component.ComponentFields.{ComponentFields}
use Rattle.component_file.specs.declared.component.Export.{Export}
use Rattle.linked_starts.specs.declared.owners.Entry.{Entry}
use Rattle.linked_starts.specs.Owners.{placed_entry}
use Rattle.linked_starts.proofs.Offers.{export_fits, item_at}
use Rattle.component_linker.proofs.owners.entries_of.Goals as goal

pub overflow_add-base : goal.overflow_add-base
overflow_add-base c =
    let es = c.args.part.now.component.exports in
    let at = item_at es c.exports-export-items.result.now c.loop-export.export-index c.export-item.result
    c.exports-export-items.ensures.is c.loop-export-test.true c.export-item.is in
    let high =
    export_fits es None c.loop-export.export-index c.export-item.result c.requires.limits.exports.1 at in
    let low = c.code_base-base.ensures.in_space in
    omega (arith, high, low)

entry_is : (c : ComponentFields) (e : Export) (name : List ℕ) (base : ℕ) → name ≡ e.name → base ≡ c.code_base
    → (let entry : Entry = record { name = name; at = base + e.offset } in entry ≡ placed_entry c e)
entry_is c e name base named at = rw (named, at) refl

pub loop-export-preserved : goal.loop-export-preserved
loop-export-preserved c =
    let part = c.args.part.now.component in
    let i = c.loop-export.export-index in
    let e = c.export-item.result in
    let same = c.exports-export-items.ensures.is in
    let lt = subst (λ xs. i < length xs) same c.loop-export-test.true in
    let is = subst (λ xs. e ≡ get_or xs i e) same c.export-item.is in
    c.in_ok-push.ensures.items
    ∙ ap₂ (λ l x. l ++ x ∷ []) c.loop-export.invariant
    (entry_is part e _ _ (c.in_ok-copy_name.ensures ∙ c.as_slice.ensures) c.code_base-base.ensures.is
    ∙ ap (placed_entry part) is)
    ∙ sym (map_more (placed_entry part) part.exports i e lt)

pub returns : goal.returns
returns c =
    let part = c.args.part.now.component in
    c.of.ensures ∙ c.loop-export.invariant
    ∙ ap (map (placed_entry part)) (take_all c.loop-export.export-index part.exports
    (let end = c.loop-export-test.false in let same = ap length c.exports-export-items.ensures.is in
    omega (arith, end, same)))
