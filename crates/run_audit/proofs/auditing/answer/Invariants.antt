use Rattle.std.proofs.Common.{◌≡◌, ◌+◌, ◌≤◌, ◌^◌, length}
use Rattle.run_audit.specs.Audit.{audited_from, audited}
use Rattle.run_audit.proofs.auditing.answer.Given as goal

abbrev pub invariant-loop-line : goal.invariant-loop-line
invariant-loop-line l = record {
  number : l.number + length l.lines ≤ 2 ^ 63 + 2;
  so_far : audited_from l.open l.number l.lines ≡ audited l.text;
}

abbrev pub decreases-loop-line : goal.decreases-loop-line
decreases-loop-line l = length l.lines
