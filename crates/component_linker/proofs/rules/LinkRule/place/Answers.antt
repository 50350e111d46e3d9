use Rattle.std.proofs.Common.{◌∙◌, sym, ap}
use Rattle.component_linker.proofs.RuleTests.{test_in, place_is, index_told}
use Rattle.component_linker.proofs.rules.LinkRule.place.Goals as goal

pub returns-in-L7 : goal.returns-in-L7
returns-in-L7 c =
    let parts = c.args.parts.now in
    let p = c.args.part.now in
    place_is c.args.self parts c.args.index p c.args.k c.stack_base.result c.requires.there
    (c.stack_base.ensures.is ∙ ap (λ r. (test_in r parts c.args.index p).place c.args.k) (sym c.in-L7.is))

pub returns-in-L9 : goal.returns-in-L9
returns-in-L9 c =
    let parts = c.args.parts.now in
    let p = c.args.part.now in
    place_is c.args.self parts c.args.index p c.args.k c.how_many.result c.requires.there
    (c.how_many.ensures ∙ ap (λ r. (test_in r parts c.args.index p).place c.args.k) (sym c.in-L9.is))

pub returns-in_default : goal.returns-in_default
returns-in_default c =
    let parts = c.args.parts.now in
    let p = c.args.part.now in
    place_is c.args.self parts c.args.index p c.args.k c.args.k c.requires.there
    (index_told c.args.self parts c.args.index p c.args.k c.in_default.not-L7 c.in_default.not-L9)
