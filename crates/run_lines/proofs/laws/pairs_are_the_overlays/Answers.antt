use Rattle.run_lines.proofs.OwnPairs.{pairs_are_own}
use Rattle.run_lines.proofs.OwnEntries.{passes_are_own}
use Rattle.run_lines.proofs.laws.pairs_are_the_overlays.Goals as goal

pub returns-clause-words : goal.returns-clause-words
returns-clause-words c = pairs_are_own

pub returns-clause-entries : goal.returns-clause-entries
returns-clause-entries c = passes_are_own
