-- A part is asked for a shared main.
use Rattle.std.proofs.Common.{◌∙◌}
use Rattle.std.specs.Option.{option_copied}
use Rattle.linked_starts.specs.Start.{is_main, export_that}
use Rattle.linked_starts.proofs.Offers.{exported_is, given_first, none_given}
use Rattle.component_linker.proofs.names.main_of.Goals as goal

pub returns-in-Some : goal.returns-in-Some
returns-in-Some c =
    let is = exported_is is_main c.part-part.result c.exports.result.now
    (option_copied c.main_export-export.result)
    c.with_part.result c.with_part.ensures c.main_export-export.ensures c.exports.ensures.is in
    given_first (export_that is_main)
    c.args.parts.now c.loop-index.index c.part-part.result c.in-Some.main c.part-part.ensures
    c.loop-index.invariant (is ∙ c.in-Some.is)

pub loop-index-preserved : goal.loop-index-preserved
loop-index-preserved c =
    let is = exported_is is_main c.part-part.result c.exports.result.now
    (option_copied c.main_export-export.result)
    c.with_part.result c.with_part.ensures c.main_export-export.ensures c.exports.ensures.is in
    none_given (export_that is_main)
    c.args.parts.now c.loop-index.index c.part-part.result c.part-part.ensures c.loop-index.invariant
    (is ∙ c.in_default.is)
