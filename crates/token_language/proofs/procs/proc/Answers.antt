use Rattle.std.proofs.Common.{◌∙◌, ap}
use Rattle.token_language.specs.StmtView.{block_of}
use Rattle.token_language.specs.Erased.{erased_block, erased_params, erased_locals, stmts_in}
use Rattle.token_language.proofs.Made.{proc_made}
use Rattle.token_language.proofs.procs.proc.Goals as goal

pub returns : goal.returns
returns c = proc_made c.args.p.now _ _ _ _ c.in_ok-name.ensures
    (c.of.ensures ∙ c.in_ok-params.ensures ∙ ap erased_params c.as_slice.ensures)
    (c.of-2.ensures ∙ c.in_ok-locals.ensures ∙ ap erased_locals c.as_slice-2.ensures)
    (c.of-3.ensures ∙ c.in_ok-body.ensures
    ∙ ap (λ b. stmts_in (erased_block (block_of b))) c.as_slice-3.ensures)
