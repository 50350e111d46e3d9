use Rattle.seal_space.proofs.Draws.{gives, ends}
use Rattle.seal_space.proofs.laws.draws_ascend.Goals as goal

pub returns-clause-gives : goal.returns-clause-gives
returns-clause-gives c = λ lot n lt. gives n lot lt

pub returns-clause-ends : goal.returns-clause-ends
returns-clause-ends c = λ lot n le. ends n lot le
