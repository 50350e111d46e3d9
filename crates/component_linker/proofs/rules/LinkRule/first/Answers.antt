use Rattle.std.proofs.Common.{◌≡◌, ℕ, List, refl, sym, ◌∙◌, arith}
use Rattle.component_check.specs.Places.{first_place}
use Rattle.linked_starts.specs.Parts.{PartSeen}
use Rattle.linked_starts.specs.Links.{l1, l2, l3, l4, l5, l6, l7, l8, l9}
use Rattle.linked_starts.proofs.Offers.{first_in_is}
use Rattle.component_linker.specs.declared.rules.LinkRule.{LinkRule}
use Rattle.component_linker.specs.declared.rules.LinkRule.TheVariants.{L1, L2, L3, L4, L5, L6, L7, L8, L9}
use Rattle.component_linker.specs.LinkRules.{test_of, tried_at}
use Rattle.component_linker.proofs.rules.LinkRule.first.Goals as goal

tried_is : (r : LinkRule) (parts : List PartSeen) (size : ℕ) → tried_at r parts ≡ (test_of r parts size).parts
unfolding l1 l2 l3 l4 l5 l6 l7 l8 l9
tried_is L1 parts size = refl
tried_is L2 parts size = refl
tried_is L3 parts size = refl
tried_is L4 parts size = refl
tried_is L5 parts size = refl
tried_is L6 parts size = refl
tried_is L7 parts size = refl
tried_is L8 parts size = refl
tried_is L9 parts size = refl

pub returns-in-Some : goal.returns-in-Some
returns-in-Some c =
    let r = c.args.self in
    let parts = c.args.parts.now in
    let t = test_of r parts c.args.stack in
    first_in_is t {Says = λ p o. first_place (t.within p) ≡ o} {n = c.count-index-end.result} (record {
      found = (c.loop-index-test.true, sym c.within.ensures ∙ c.in-Some.is, c.loop-index.invariant);
    }) (c.count-index-end.ensures.is ∙ tried_is r parts c.args.stack) (λ p o lt says. sym says)

pub returns : goal.returns
returns c =
    let r = c.args.self in
    let parts = c.args.parts.now in
    let t = test_of r parts c.args.stack in
    first_in_is t {Says = λ p o. first_place (t.within p) ≡ o} {n = c.count-index-end.result} (record {
      found = λ p lt. c.loop-index.invariant p (omega (arith, lt, c.loop-index-test.false));
    }) (c.count-index-end.ensures.is ∙ tried_is r parts c.args.stack) (λ p o lt says. sym says)
