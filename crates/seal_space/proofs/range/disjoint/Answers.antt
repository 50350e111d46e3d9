use Rattle.std.proofs.Common.{rules}
use Rattle.seal_space.proofs.Ranges.{decides}
use Rattle.seal_space.proofs.range.disjoint.Goals as goal

pub returns-else-base-count-clause-exact : goal.returns-else-base-count-clause-exact
returns-else-base-count-clause-exact c = decides c.args.a.now c.args.b.now _ (search rules)
