use Rattle.std.proofs.Common.{Some, None, ◌+◌, length, sym, ap, ◌∙◌, arith}
use Rattle.std.specs.Prelude.{slice_get}
use Rattle.component_check.specs.Rules.{c11, holds_of, is_no_int}
use Rattle.component_check.proofs.First.{first_place_is}
use Rattle.component_check.proofs.trusted.c11.Goals as goal

pub returns-then-has_no_int : goal.returns-then-has_no_int
unfolding c11
returns-then-has_no_int c =
    let C = c.args.c.now in
    let i = c.loop-i.i in
    let is = c.has_no_int.ensures
    ∙ ap (λ ws. holds_of is_no_int (slice_get ws i)) c.as_slice-words.ensures in
    ap (λ n. Some (n + i)) (ap length c.as_slice.ensures)
    ∙ first_place_is (record {
      count = length C.data_words;
      broken = λ k. holds_of is_no_int (slice_get C.data_words k);
      place = λ k. length C.code + k;
    }) (Some i) (
      omega (arith, c.loop-i-test.true, ap length c.as_slice-words.ensures),
      sym is ∙ c.if-has_no_int.true,
      c.loop-i.invariant,
    )

pub returns : goal.returns
unfolding c11
returns c =
    let C = c.args.c.now in
    first_place_is (record {
      count = length C.data_words;
      broken = λ k. holds_of is_no_int (slice_get C.data_words k);
      place = λ k. length C.code + k;
    }) None (λ k lt. c.loop-i.invariant k
    (omega (arith, c.loop-i-test.false, ap length c.as_slice-words.ensures)))
