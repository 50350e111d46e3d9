use Rattle.std.proofs.Common.{Some, None, length, sym, ◌∙◌, arith}
use Rattle.std.specs.Prelude.{slice_get}
use Rattle.component_check.specs.Rules.{c9, words, holds_of, is_foreign_seal}
use Rattle.component_check.proofs.First.{first_is}
use Rattle.component_check.proofs.words.c9.Goals as goal

pub returns-then-is_foreign_seal : goal.returns-then-is_foreign_seal
unfolding c9
returns-then-is_foreign_seal c =
    let C = c.args.c.now in
    first_is (length (words C)) (λ k. holds_of (is_foreign_seal C) (slice_get (words C) k))
    (Some c.loop-i.i) (
      rw (← c.count-i-end.ensures.is) c.loop-i-test.true,
      sym c.is_foreign_seal.ensures ∙ c.if-is_foreign_seal.true,
      c.loop-i.invariant,
    )

pub returns : goal.returns
unfolding c9
returns c =
    let C = c.args.c.now in
    first_is (length (words C)) (λ k. holds_of (is_foreign_seal C) (slice_get (words C) k)) None
    (λ k lt. c.loop-i.invariant k (omega (arith, c.loop-i-test.false)))
