use Rattle.std.proofs.Common.{rules, ◌≡◌, true, subst}
use Rattle.std.specs.Prelude.{Err}
use Rattle.std.proofs.lemmas.Result.{err_from_is_err_and}
use Rattle.linked_starts.specs.Accepted.{accepted}
use Rattle.proc_sources.specs.Sources.{sourced}
use Rattle.proc_language.specs.declared.dialect.Dialect.TheVariants.{Plain}
use Rattle.link_tool.specs.Generated.{module_text}
use Rattle.file_plans.specs.declared.refusal.Refusal.TheVariants as refusal
use Rattle.file_plans.specs.Plans.{Made, unless, Meets}
use Rattle.link_tool.specs.Parts.{broken_in}
use Rattle.link_tool.specs.Loads.{load_module}
use Rattle.file_plans.proofs.Offers.{meets_bind, meets_end}
use Rattle.link_tool.proofs.loads.module_part.Goals as goal

pub returns-in_err-component : goal.returns-in_err-component
unfolding load_module
returns-in_err-component c =
    let p = err_from_is_err_and c.from_residual.result c.from_residual.ensures.1 in
    let is : c.as_bytes.result.now ≡ module_text c.args.load = search rules in
    rw (p.1, p.2) (meets_end (unless (refusal.Source 0) (sourced Plain (module_text c.args.load))) _
    c.in_err-component.field-0.0
    (subst (λ t. Meets (unless (refusal.Source 0) (sourced Plain t)) (Err c.in_err-component.field-0.0)) is
    c.in_err-component.ensures))

pub returns : goal.returns
unfolding load_module
returns c =
    let is : c.as_bytes.result.now ≡ module_text c.args.load = search rules in
    meets_bind (unless (refusal.Source 0) (sourced Plain (module_text c.args.load)))
    (λ x. unless (broken_in 0) (accepted (record { component = x; trusted = true })))
    c.in_ok-component.component c.accept_at.result
    (subst (λ t. unless (refusal.Source 0) (sourced Plain t) ≡ Made c.in_ok-component.component) is
    c.in_ok-component.ensures) c.accept_at.ensures
