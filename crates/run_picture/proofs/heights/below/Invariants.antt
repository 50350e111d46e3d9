use Rattle.std.proofs.Common.{◌≡◌, ◌+◌, ◌*◌, ◌≤◌, length}
use Rattle.run_picture.specs.Heights.{below}
use Rattle.run_picture.proofs.heights.below.Given as goal

abbrev pub invariant-loop-cut : goal.invariant-loop-cut
invariant-loop-cut l = record {
  so_far : l.words + below l.most l.rest l.address ≡ below l.most l.cuts l.address;
  within : l.words + 16 * length l.rest ≤ 16 * length l.cuts;
}

abbrev pub decreases-loop-cut : goal.decreases-loop-cut
decreases-loop-cut l = length l.rest
