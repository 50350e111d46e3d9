-- What the search finds, the definition does.
use Rattle.std.proofs.Common.{rules, sym, ap, ◌∙◌, Some}
use Rattle.std.specs.Cmp.Lexicographic.{slice_cmp}
use Rattle.std.specs.Ordering.{nat_cmp}
use Rattle.std.proofs.lemmas.Fn.{always_returns_same}
use Rattle.component_file.specs.declared.component.Export.{Export}
use Rattle.linked_starts.proofs.Offers.{export_found, export_missing}
use Rattle.component_linker.proofs.names.export_named.Goals as goal

pub returns-in-Ok : goal.returns-in-Ok
returns-in-Ok c =
    ap Some c.index-exports-place.is
    ∙ sym (export_found c.args.exports.now c.args.name.now c.in-Ok.place c.index-exports-place.result
    c.requires c.in-Ok.ensures.bound
    (c.in-Ok.ensures.position (λ (e : Export). slice_cmp nat_cmp e.name c.args.name.now)
    (always_returns_same _ _ _ (λ a r g called. search rules))))

pub returns-in-Err : goal.returns-in-Err
returns-in-Err c =
    sym (export_missing c.args.exports.now c.args.name.now c.in-Err.field-0 c.requires
    (c.in-Err.ensures.position (λ (e : Export). slice_cmp nat_cmp e.name c.args.name.now)
    (always_returns_same _ _ _ (λ a r g called. search rules))))
