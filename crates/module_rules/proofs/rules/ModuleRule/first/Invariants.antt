use Rattle.std.proofs.Common.{ℕ, ◌≡◌, ◌<◌, None}
use Rattle.component_check.specs.Places.{first_place}
use Rattle.module_rules.specs.ModuleRules.{test_of}
use Rattle.module_rules.proofs.rules.ModuleRule.first.Given as goal

abbrev pub invariant-loop-index : goal.invariant-loop-index
invariant-loop-index l =
    (k : ℕ) → k < l.index → first_place ((test_of l.self l.modules l.size).within k) ≡ None
