use Rattle.std.proofs.Common.{◌∙◌, ap, arith}
use Rattle.line_fields.specs.Numbers.{number_in, integer_in}
use Rattle.line_fields.proofs.Numbers.{number_again, number_is, integer_again, integer_is}
use Rattle.line_fields.proofs.laws.numbers_are_read.Goals as goal

pub returns-clause-naturals : goal.returns-clause-naturals
returns-clause-naturals c = λ most n text small. (
  number_is most n text small,
  λ h. ap (number_in most) h.1 ∙ number_again most n h.0 (omega (arith, h.0, small)),
)

pub returns-clause-integers : goal.returns-clause-integers
returns-clause-integers c = λ z text. (integer_is z text, λ h. ap integer_in h.1 ∙ integer_again z h.0)
