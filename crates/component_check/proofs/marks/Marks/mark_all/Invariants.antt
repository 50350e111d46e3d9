use Rattle.std.proofs.Common.{ℕ, ◌≡◌, ◌<◌}
use Rattle.std.specs.Prelude.{nat_le, nat_lt, ◌&&◌, ◌||◌}
use Rattle.component_check.specs.Marks.{is_marked}
use Rattle.component_check.proofs.marks.Marks.mark_all.Given as goal

abbrev pub invariant-loop-number : goal.invariant-loop-number
invariant-loop-number l = (k : ℕ) → k < 65536
    → is_marked l.self.bits k ≡ ((nat_le l.from k && nat_lt k l.number) || is_marked l.fn.self.bits k)
