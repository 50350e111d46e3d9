use Rattle.std.proofs.Common.{◌≡◌, ℕ, ◌+◌, ◌<◌, List, [], ◌∷◌, ◌++◌, length, map, get_or, refl, sym, ap, ap₂}
use Rattle.std.proofs.Common.{subst, ◌∙◌, arith}
use Rattle.std.proofs.lemmas.List.{map_more, take_all}
use Rattle.component_file.specs.declared.component.ComponentFields.{ComponentFields}
use Rattle.component_file.specs.declared.component.Import.{Import}
use Rattle.linked_starts.specs.declared.owners.CalledEntry.{CalledEntry}
use Rattle.linked_starts.specs.Owners.{call_of}
use Rattle.linked_starts.proofs.Offers.{item_at}
use Rattle.component_linker.proofs.owners.calls_of.Goals as goal

pub overflow_add-base : goal.overflow_add-base
overflow_add-base c =
    let is = c.args.part.now.component.imports in
    let given = c.imports-import-items in
    let k = c.loop-import.import-index in
    let at = item_at is given.result.now k c.import-item.result given.ensures.is c.loop-import-test.true
    c.import-item.is in
    let within = c.requires.slots_in k c.import-item.result at in
    let end = c.requires.data_end in
    let base = c.data_base-base.ensures.is in
    omega (arith, within, end, base)

call_is : (c : ComponentFields) (i : Import) (part name : List ℕ) (base : ℕ) → part ≡ i.part → name ≡ i.name
    → base ≡ c.data_base
    → (let call : CalledEntry = record { part = part; name = name; at = base + i.slot } in call ≡ call_of c i)
call_is c i part name base of named at = rw (of, named, at) refl

pub loop-import-preserved : goal.loop-import-preserved
loop-import-preserved c =
    let part = c.args.part.now.component in
    let k = c.loop-import.import-index in
    let i = c.import-item.result in
    let same = c.imports-import-items.ensures.is in
    let lt = subst (λ xs. k < length xs) same c.loop-import-test.true in
    let is = subst (λ xs. i ≡ get_or xs k i) same c.import-item.is in
    c.in_ok-push.ensures.items
    ∙ ap₂ (λ l x. l ++ x ∷ []) c.loop-import.invariant
    (call_is part i _ _ _ (c.in_ok-copy_name.ensures ∙ c.as_slice.ensures)
    (c.in_ok-copy_name-2.ensures ∙ c.as_slice-in-loop-import.ensures) c.data_base-base.ensures.is
    ∙ ap (call_of part) is)
    ∙ sym (map_more (call_of part) part.imports k i lt)

pub returns : goal.returns
returns c =
    let part = c.args.part.now.component in
    c.of.ensures ∙ c.loop-import.invariant
    ∙ ap (map (call_of part)) (take_all c.loop-import.import-index part.imports
    (let end = c.loop-import-test.false in let same = ap length c.imports-import-items.ensures.is in
    omega (arith, end, same)))
