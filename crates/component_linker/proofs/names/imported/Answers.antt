use Rattle.std.proofs.Common.{sym, ap, ◌∙◌}
use Rattle.std.specs.Prelude.{find}
use Rattle.std.specs.Option.{option_copied}
use Rattle.linked_starts.specs.Start.{same_name, part_named}
use Rattle.linked_starts.proofs.Offers.{exported_is, imported_is}
use Rattle.component_linker.proofs.names.imported.Goals as goal

pub returns : goal.returns
returns c =
    imported_is c.args.parts.now c.args.import.now c.in_ok-part.part c.with_part.result
    (ap (part_named c.args.parts.now) (sym c.as_slice.ensures) ∙ sym c.in_ok-part.ensures)
    (exported_is (λ e. same_name e.name c.args.import.now.name)
    c.in_ok-part.part c.exports.result.now (option_copied c.export_named-export.result)
    c.with_part.result c.with_part.ensures
    (c.export_named-export.ensures ∙ ap (λ n. find (λ e. same_name e.name n) c.exports.result.now)
    c.as_slice-2.ensures) c.exports.ensures.is)
