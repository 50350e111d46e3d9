use Rattle.std.proofs.Common.{Some, None, length, sym, ap, ◌∙◌, arith}
use Rattle.std.specs.Prelude.{slice_get, not, ◌&&◌}
use Rattle.component_check.specs.Rules.{c10, holds_of, is_no_int, is_at}
use Rattle.component_check.proofs.First.{first_is}
use Rattle.component_check.proofs.trusted.c10.Goals as goal

pub returns-then-is_no_code : goal.returns-then-is_no_code
unfolding c10
returns-then-is_no_code c =
    let C = c.args.c.now in
    first_is (length C.code)
    (λ k. holds_of is_no_int (slice_get C.code k) && not (is_at C.literal_at k)) (Some c.loop-i.i) (
      omega (arith, c.loop-i-test.true, ap length c.as_slice-i-end.ensures),
      sym c.is_no_code.ensures ∙ c.if-is_no_code.true,
      c.loop-i.invariant,
    )

pub returns : goal.returns
unfolding c10
returns c =
    let C = c.args.c.now in
    first_is (length C.code)
    (λ k. holds_of is_no_int (slice_get C.code k) && not (is_at C.literal_at k)) None
    (λ k lt. c.loop-i.invariant k (omega (arith, c.loop-i-test.false, ap length c.as_slice-i-end.ensures)))
