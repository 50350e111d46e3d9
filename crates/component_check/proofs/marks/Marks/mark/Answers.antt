use Rattle.std.proofs.Common.{rules}
use Rattle.component_check.proofs.Marking.{set_bit}
use Rattle.component_check.proofs.marks.Marks.mark.Goals as goal

pub returns : goal.returns
returns c = λ k lt. set_bit c.args.self.now.bits c.args.number k c.requires (search rules)
