use Rattle.std.proofs.Common.{◌≡◌, length}
use Rattle.run_audit.specs.Told.{same_words}
use Rattle.run_audit.proofs.told.are_same.Given as goal

abbrev pub invariant-loop-word : goal.invariant-loop-word
invariant-loop-word l = same_words l.ours l.theirs ≡ same_words l.words l.others

abbrev pub decreases-loop-word : goal.decreases-loop-word
decreases-loop-word l = length l.ours
