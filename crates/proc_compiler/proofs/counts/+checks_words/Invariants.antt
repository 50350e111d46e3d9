use Rattle.std.proofs.Common.{length}
use Rattle.proc_compiler.proofs.counts.+checks_words.Given as goal

abbrev pub decreases-checks_words : goal.decreases-checks_words
decreases-checks_words l = length l.callbacks.now
