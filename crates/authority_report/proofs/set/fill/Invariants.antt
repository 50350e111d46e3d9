-- The places before this one lead after last.
use Rattle.std.proofs.Common.{◌+◌, ◌≡◌, ◌&&◌, ℕ}
use Rattle.std.specs.Prelude.{nat_le, nat_lt, slice_index, if◌then◌else◌}
use Rattle.authority_report.proofs.set.fill.Given as goal

abbrev pub invariant-loop-at : goal.invariant-loop-at
invariant-loop-at l = (b : ℕ) → slice_index l.next b
    ≡ (if nat_le l.base b && nat_lt b l.at then l.last + 1 else slice_index l.initial.next b)
