use Rattle.std.proofs.Common.{length, ◌-◌, suc}
use Rattle.call_sequence.specs.declared.flow.Walk.TheVariants.{Before}
use Rattle.call_sequence.specs.Walk.{Arrives}
use Rattle.flow_check.proofs.walking.check_walk.Given as goal

abbrev pub invariant-walk : goal.invariant-walk
invariant-walk l = Arrives l.c (Before l.at l.current)

abbrev pub decreases-walk : goal.decreases-walk
decreases-walk l = suc (length l.c.code) - l.at
