use Rattle.std.proofs.Common.{arith}
use Rattle.text_scan.proofs.Digits.{too_large}
use Rattle.text_scan.proofs.piece.number.Goals as goal

pub returns-then-digit-value-clause-none : goal.returns-then-digit-value-clause-none
returns-then-digit-value-clause-none c =
    too_large c.loop-digit.value c.from-digit.result c.loop-digit.digit-index c.args.digits.now
    (omega arith) c.from-digit.ensures c.requires c.loop-digit.invariant.1
    (omega (arith, c.if-digit-value.true))
