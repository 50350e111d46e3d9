use Rattle.std.specs.Ordering.{nat_cmp}
use Rattle.std.specs.FinSet.{len-empty}
use Rattle.step_back.proofs.stops.Stops.none.Goals as goal

pub invariant_of-result : goal.invariant_of-result
invariant_of-result c = rw c.new.ensures (len-empty nat_cmp)
