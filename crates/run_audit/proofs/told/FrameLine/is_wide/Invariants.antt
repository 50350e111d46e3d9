use Rattle.std.proofs.Common.{◌≡◌, ◌≤◌, ◌+◌, ◌^◌, length}
use Rattle.run_audit.proofs.told.FrameLine.is_wide.Given as goal

abbrev pub invariant-loop-words : goal.invariant-loop-words
invariant-loop-words l = record {
  sum : l.address + length l.words ≡ l.self.base + length l.self.words;
  most : l.address ≤ 2 ^ 32;
}

abbrev pub decreases-loop-words : goal.decreases-loop-words
decreases-loop-words l = length l.words
