use Rattle.std.proofs.Common.{Some, None, length, sym, ap, ◌∙◌, arith}
use Rattle.component_check.specs.Rules.{c4, slot_is_bad}
use Rattle.component_check.proofs.First.{first_is}
use Rattle.component_check.proofs.slots.c4.Goals as goal

pub returns-then-slot_is_bad : goal.returns-then-slot_is_bad
unfolding c4
returns-then-slot_is_bad c =
    let C = c.args.c.now in
    first_is (length C.imports) (slot_is_bad C) (Some c.loop-i.i) (
      omega (arith, c.loop-i-test.true, ap length c.as_slice-i-end.ensures),
      sym c.slot_is_bad.ensures ∙ c.if-slot_is_bad.true,
      c.loop-i.invariant,
    )

pub returns : goal.returns
unfolding c4
returns c =
    let C = c.args.c.now in
    first_is (length C.imports) (slot_is_bad C) None
    (λ k lt. c.loop-i.invariant k (omega (arith, c.loop-i-test.false, ap length c.as_slice-i-end.ensures)))
