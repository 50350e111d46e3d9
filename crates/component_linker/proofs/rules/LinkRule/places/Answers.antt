use Rattle.std.proofs.Common.{◌≡◌, ◌∙◌, refl, sym, ap, length, arith}
use Rattle.std.proofs.lemmas.Option.{slice_get_within}
use Rattle.linked_starts.proofs.Offers.{taken}
use Rattle.component_linker.proofs.RuleTests.{test_in, count_is, either_is}
use Rattle.component_linker.proofs.rules.LinkRule.places.Goals as goal

pub returns-in-L1-clause-is : goal.returns-in-L1-clause-is
returns-in-L1-clause-is c =
    let parts = c.args.parts.now in
    let p = c.args.part.now in
    count_is c.args.self parts c.args.index p 3 c.requires.there
    (ap (λ r. (test_in r parts c.args.index p).count) (sym c.in-L1.is))

pub returns-in-L2-clause-is : goal.returns-in-L2-clause-is
returns-in-L2-clause-is c =
    let parts = c.args.parts.now in
    let p = c.args.part.now in
    let i = c.args.index in
    let within = slice_get_within parts i p c.requires.there in
    let is = taken i parts (omega (arith, within)) in
    count_is c.args.self parts i p i c.requires.there
    (either_is (λ r. i ≡ (test_in r parts i p).count) c.in-L2.is is is)

pub returns-in-L4-clause-is : goal.returns-in-L4-clause-is
returns-in-L4-clause-is c =
    let parts = c.args.parts.now in
    let p = c.args.part.now in
    let is = ap length c.imports.ensures.is in
    count_is c.args.self parts c.args.index p (length c.imports.result.now) c.requires.there
    (either_is (λ r. length c.imports.result.now ≡ (test_in r parts c.args.index p).count) c.in-L4.is is is)

pub returns-in-L6-clause-is : goal.returns-in-L6-clause-is
returns-in-L6-clause-is c =
    let parts = c.args.parts.now in
    let p = c.args.part.now in
    count_is c.args.self parts c.args.index p (length c.exports.result.now) c.requires.there
    (ap length c.exports.ensures.is ∙ ap (λ r. (test_in r parts c.args.index p).count) (sym c.in-L6.is))

pub returns-in-L7-clause-is : goal.returns-in-L7-clause-is
returns-in-L7-clause-is c =
    let parts = c.args.parts.now in
    let p = c.args.part.now in
    count_is c.args.self parts c.args.index p 1 c.requires.there
    (either_is (λ r. 1 ≡ (test_in r parts c.args.index p).count) c.in-L7.is refl refl)

pub returns-in-L8-clause-is : goal.returns-in-L8-clause-is
returns-in-L8-clause-is c =
    let parts = c.args.parts.now in
    let p = c.args.part.now in
    count_is c.args.self parts c.args.index p 0 c.requires.there
    (ap (λ r. (test_in r parts c.args.index p).count) (sym c.in-L8.is))
