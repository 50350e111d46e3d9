use Rattle.std.proofs.Common.{◌≤◌, ◌∙◌, [], ap, length, arith, not}
use Rattle.std.specs.List.{list_any}
use Rattle.component_check.specs.Places.{first_place}
use Rattle.linked_starts.specs.Pairs.{once}
use Rattle.linked_starts.specs.Links.{near_before, has_main}
use Rattle.linked_starts.proofs.Offers.{take_whole}
use Rattle.component_linker.specs.declared.rules.LinkRule.TheVariants.{L1, L6, L8}
use Rattle.component_linker.proofs.RuleTests.{all_told, nothing_told}
use Rattle.component_linker.proofs.rules.LinkRule.of_all.Goals as goal

pub returns-in-L1 : goal.returns-in-L1
returns-in-L1 c =
    let parts = c.args.parts.now in
    let le : length parts ≤ c.len-count.result = omega (arith, c.len-count.ensures.is) in
    c.once.ensures
    ∙ ap (λ b. first_place (once b 0))
    (c.near_before.ensures ∙ ap (λ ps. near_before ps [] c.stack_span.result)
    (take_whole parts c.len-count.result le) ∙ ap (near_before parts []) c.stack_span.ensures)
    ∙ all_told c.args.self L1 parts c.args.stack c.in-L1.is

pub returns-in-L6 : goal.returns-in-L6
returns-in-L6 c =
    let parts = c.args.parts.now in
    let le : length parts ≤ c.len-count.result = omega (arith, c.len-count.ensures.is) in
    c.once-in-L6.ensures
    ∙ ap (λ b. first_place (once (not b) 0))
    (c.main_before.ensures ∙ ap (list_any has_main) (take_whole parts c.len-count.result le))
    ∙ all_told c.args.self L6 parts c.args.stack c.in-L6.is

pub returns-in-L8 : goal.returns-in-L8
returns-in-L8 c =
    c.once-in-L8.ensures ∙ ap (λ b. first_place (once (not b) c.args.stack)) c.stack_fits.ensures
    ∙ all_told c.args.self L8 c.args.parts.now c.args.stack c.in-L8.is

pub returns-in_default : goal.returns-in_default
returns-in_default c =
    nothing_told c.args.self c.args.parts.now c.args.stack c.in_default.not-L1 c.in_default.not-L6
    c.in_default.not-L8
