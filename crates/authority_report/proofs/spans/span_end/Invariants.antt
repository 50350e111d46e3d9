-- All places so far have the rights.
use Rattle.std.proofs.Common.{◌≡◌, ◌≤◌, ℕ}
use Rattle.authority_report.specs.Listed.{rights_in}
use Rattle.authority_report.proofs.spans.span_end.Given as goal

abbrev pub invariant-loop-at : goal.invariant-loop-at
invariant-loop-at l = (a : ℕ) → l.from ≤ a → a ≤ l.at → l.rights ≡ rights_in l.read l.write l.run a
