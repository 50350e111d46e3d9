use Rattle.std.proofs.Common.{◌≡◌, ℕ, List, refl, sym, ◌∙◌, arith}
use Rattle.component_check.specs.Places.{first_place}
use Rattle.linked_starts.proofs.Offers.{first_in_is}
use Rattle.proc_language.specs.declared.module.ModuleFields.{ModuleFields}
use Rattle.module_rules.specs.declared.rules.ModuleRule.{ModuleRule}
use Rattle.module_rules.specs.declared.rules.ModuleRule.TheVariants.{L3, L4, L5, L6, L7, L8}
use Rattle.module_rules.specs.Rules.{names_differ, imports_are_there, imports_are_shared, one_main}
use Rattle.module_rules.specs.Rules.{stacks_agree, stack_fits}
use Rattle.module_rules.specs.ModuleRules.{test_of, tried_at}
use Rattle.module_rules.proofs.rules.ModuleRule.first.Goals as goal

tried_is : (r : ModuleRule) (modules : List ModuleFields) (size : ℕ)
    → tried_at r modules ≡ (test_of r modules size).parts
unfolding names_differ imports_are_there imports_are_shared one_main stacks_agree stack_fits
tried_is L3 modules size = refl
tried_is L4 modules size = refl
tried_is L5 modules size = refl
tried_is L6 modules size = refl
tried_is L7 modules size = refl
tried_is L8 modules size = refl

pub returns-in-Some : goal.returns-in-Some
returns-in-Some c =
    let r = c.args.self in
    let modules = c.args.modules.now in
    let t = test_of r modules c.args.size in
    first_in_is t {Says = λ p o. first_place (t.within p) ≡ o} {n = c.count-index-end.result} (record {
      found = (c.loop-index-test.true, sym c.within.ensures ∙ c.in-Some.is, c.loop-index.invariant);
    }) (c.count-index-end.ensures.is ∙ tried_is r modules c.args.size) (λ p o lt says. sym says)

pub returns : goal.returns
returns c =
    let r = c.args.self in
    let modules = c.args.modules.now in
    let t = test_of r modules c.args.size in
    first_in_is t {Says = λ p o. first_place (t.within p) ≡ o} {n = c.count-index-end.result} (record {
      found = λ p lt. c.loop-index.invariant p (omega (arith, lt, c.loop-index-test.false));
    }) (c.count-index-end.ensures.is ∙ tried_is r modules c.args.size) (λ p o lt says. sym says)
