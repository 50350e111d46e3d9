use Rattle.std.proofs.Common.{Some, None, length, sym, ap, ◌∙◌, arith}
use Rattle.std.specs.Prelude.{not}
use Rattle.component_check.specs.Rules.{c5, slot_is_free}
use Rattle.component_check.proofs.First.{first_is}
use Rattle.component_check.proofs.slots.c5.Goals as goal

pub returns-then-not-slot_is_free : goal.returns-then-not-slot_is_free
unfolding c5
returns-then-not-slot_is_free c =
    let C = c.args.c.now in
    first_is (length C.imports) (λ k. not (slot_is_free C k)) (Some c.loop-i.i) (
      omega (arith, c.loop-i-test.true, ap length c.as_slice-i-end.ensures),
      ap not (sym c.slot_is_free.ensures ∙ c.if-not-slot_is_free.true),
      c.loop-i.invariant,
    )

pub returns : goal.returns
unfolding c5
returns c =
    let C = c.args.c.now in
    first_is (length C.imports) (λ k. not (slot_is_free C k)) None
    (λ k lt. c.loop-i.invariant k (omega (arith, c.loop-i-test.false, ap length c.as_slice-i-end.ensures)))
