use Rattle.std.proofs.Common.{Some, None, length, ap, arith}
use Rattle.std.specs.Prelude.{nat_le}
use Rattle.std.proofs.lemmas.Bool.Decides.{nat_tests}
use Rattle.component_check.specs.Rules.{c6, export_offset}
use Rattle.component_check.proofs.First.{first_is}
use Rattle.component_check.proofs.slots.c6.Goals as goal

pub returns-then-code_len-export_offset : goal.returns-then-code_len-export_offset
unfolding c6
returns-then-code_len-export_offset c =
    let C = c.args.c.now in
    first_is (length C.exports) (λ k. nat_le (length C.code) (export_offset C k)) (Some c.loop-i.i) (
      omega (arith, c.loop-i-test.true, ap length c.as_slice-i-end.ensures),
      grind (
        arith,
        nat_tests,
        c.if-code_len-export_offset.true,
        ap length c.as_slice-code_len.ensures,
        c.export_offset.ensures,
      ),
      c.loop-i.invariant,
    )

pub returns : goal.returns
unfolding c6
returns c =
    let C = c.args.c.now in
    first_is (length C.exports) (λ k. nat_le (length C.code) (export_offset C k)) None
    (λ k lt. c.loop-i.invariant k (omega (arith, c.loop-i-test.false, ap length c.as_slice-i-end.ensures)))
