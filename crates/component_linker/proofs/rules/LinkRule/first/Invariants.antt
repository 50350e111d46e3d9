use Rattle.std.proofs.Common.{ℕ, ◌≡◌, ◌<◌, None}
use Rattle.component_check.specs.Places.{first_place}
use Rattle.component_linker.specs.LinkRules.{test_of}
use Rattle.component_linker.proofs.rules.LinkRule.first.Given as goal

abbrev pub invariant-loop-index : goal.invariant-loop-index
invariant-loop-index l =
    (k : ℕ) → k < l.index → first_place ((test_of l.self l.parts l.stack).within k) ≡ None
