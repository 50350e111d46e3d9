use Rattle.std.proofs.Common.{sym}
use Rattle.assembler.proofs.Complete.{whole_draft, complete}
use Rattle.assembler.proofs.passes.assemble.Goals as goal

pub component_of-requires-clause-ready : goal.component_of-requires-clause-ready
component_of-requires-clause-ready c =
    (whole_draft c.args.text.now c.as_slice.result.now c.in_ok-draft.draft
    c.in_ok-draft.ensures).0.words.ready

pub component_of-requires-clause-few : goal.component_of-requires-clause-few
component_of-requires-clause-few c =
    (whole_draft c.args.text.now c.as_slice.result.now c.in_ok-draft.draft
    c.in_ok-draft.ensures).0.words.code_fits.0

pub of-requires : goal.of-requires
of-requires c =
    complete c.in_ok-draft.draft c.in_ok-fields.fields
    (whole_draft c.args.text.now c.as_slice.result.now c.in_ok-draft.draft c.in_ok-draft.ensures)
    (sym c.in_ok-fields.ensures)
