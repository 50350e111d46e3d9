use Rattle.std.proofs.Common.{◌≡◌, ◌∙◌, Some, None, sym, ap, arith}
use Rattle.std.specs.Prelude.{option_map}
use Rattle.component_check.proofs.Offers.{first_of_is}
use Rattle.component_linker.specs.LinkRules.{test_of}
use Rattle.component_linker.proofs.rules.LinkRule.within.Goals as goal

pub returns-then-is_broken : goal.returns-then-is_broken
returns-then-is_broken c =
    let t = (test_of c.args.self c.args.parts.now c.args.stack).within c.args.index in
    ap Some (c.place.ensures c.args.stack)
    ∙ ap (option_map t.place)
    (first_of_is t {Says = λ j b. t.broken j ≡ b} {n = c.places-k-end.result} {o = Some c.loop-k.k} (record {
      found = (
        c.loop-k-test.true,
        sym (c.is_broken.ensures c.args.stack) ∙ c.if-is_broken.true,
        c.loop-k.invariant,
      );
    }) (c.places-k-end.ensures.is c.args.stack) (λ j b lt says. sym says))

pub returns : goal.returns
returns c =
    let t = (test_of c.args.self c.args.parts.now c.args.stack).within c.args.index in
    ap (option_map t.place)
    (first_of_is t {Says = λ j b. t.broken j ≡ b} {n = c.places-k-end.result} {o = None} (record {
      found = λ j lt. c.loop-k.invariant j (omega (arith, lt, c.loop-k-test.false));
    }) (c.places-k-end.ensures.is c.args.stack) (λ j b lt says. sym says))
