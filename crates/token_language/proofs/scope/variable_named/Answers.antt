use Rattle.std.proofs.Common.{◌∙◌, ap, sym}
use Rattle.proc_names.specs.Names.{index_of}
use Rattle.proc_language.specs.declared.module.Param.{Param}
use Rattle.proc_language.specs.declared.tree.Name.{Name}
use Rattle.token_language.specs.Erased.{erased_params, erased_locals}
use Rattle.token_language.proofs.FoundLemmas.{variable_else}
use Rattle.token_language.proofs.scope.variable_named.Goals as goal

pub returns : goal.returns
returns c =
    let x = c.args.x.now in
    let is =
    rw (c.as_slice-2.ensures, c.as_slice-3.ensures, c.as_slice-4.ensures) at c.item_variable.ensures in
    is ∙ variable_else c.args.m.now c.args.p.now x
    (ap (λ ps. index_of (λ (q : Param). q.name) (erased_params ps) x) (sym c.as_slice-params.ensures)
    ∙ sym c.param_index.ensures.is ∙ c.in_default.is)
    (ap (λ ls. index_of (λ (y : Name). y) (erased_locals ls) x) (sym c.as_slice.ensures)
    ∙ sym c.local_index.ensures.is ∙ c.in_default-local_index.is)
