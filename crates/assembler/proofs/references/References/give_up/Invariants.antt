use Rattle.std.proofs.Common.{length}
use Rattle.assembler.proofs.references.References.give_up.Given as goal

abbrev pub decreases-loop-reference : goal.decreases-loop-reference
decreases-loop-reference l = length l.list.items
