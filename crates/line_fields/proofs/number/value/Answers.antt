use Rattle.std.proofs.Common.{arith}
use Rattle.line_fields.proofs.Digits.{too_large}
use Rattle.line_fields.proofs.number.value.Goals as goal

pub returns-then-most-digit-clause-none : goal.returns-then-most-digit-clause-none
returns-then-most-digit-clause-none c =
    too_large c.args.most c.loop-digit.value c.from-digit.result c.loop-digit.digit-index c.args.digits.now
    (omega arith) c.from-digit.ensures c.requires.digits c.loop-digit.invariant.1
    (omega (arith, c.if-most-digit.true))
