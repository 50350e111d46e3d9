use Rattle.std.proofs.Common.{ℕ, ◌≡◌, ◌<◌, false}
use Rattle.component_linker.specs.LinkRules.{test_of}
use Rattle.component_linker.proofs.rules.LinkRule.within.Given as goal

abbrev pub invariant-loop-k : goal.invariant-loop-k
invariant-loop-k l =
    (j : ℕ) → j < l.k → ((test_of l.self l.parts l.stack).within l.index).broken j ≡ false
