use Rattle.std.proofs.Common.{ap, sym, ◌∙◌}
use Rattle.std.specs.Prelude.{Ok, Err}
use Rattle.std.proofs.lemmas.Result.{err_from_is_err_and}
use Rattle.file_plans.specs.Plans.{Made}
use Rattle.link_tool.specs.Loads.{load_module, load_other, load_parts}
use Rattle.file_plans.proofs.Offers.{meets_bind, meets_end}
use Rattle.link_tool.proofs.loads.parts_of.Goals as goal

pub returns-in_err-module-clause-are : goal.returns-in_err-module-clause-are
unfolding load_parts
returns-in_err-module-clause-are c =
    let p = err_from_is_err_and c.from_residual.result c.from_residual.ensures.1 in
    rw (p.1, p.2) (meets_end (load_module c.args.load) _ c.in_err-module.field-0.0 c.in_err-module.ensures)

pub returns-in_err-other-clause-are : goal.returns-in_err-other-clause-are
unfolding load_parts
returns-in_err-other-clause-are c =
    let p = err_from_is_err_and c.from_residual-in_err-other.result c.from_residual-in_err-other.ensures.1 in
    rw (p.1, p.2) (meets_bind (load_module c.args.load) _ c.in_ok-module.module
    (Err c.in_err-other.field-0.0) c.in_ok-module.ensures
    (meets_end (load_other c.args.load) _ c.in_err-other.field-0.0 c.in_err-other.ensures))

pub returns-clause-are : goal.returns-clause-are
unfolding load_parts
returns-clause-are c =
    meets_bind (load_module c.args.load) _ c.in_ok-module.module (Ok c.of.result) c.in_ok-module.ensures
    (meets_bind (load_other c.args.load) _ c.in_ok-other.other (Ok c.of.result) c.in_ok-other.ensures
    (ap (λ ps. Made ps) (sym (c.of.ensures ∙ c.in_ok-parts.ensures.items))))
