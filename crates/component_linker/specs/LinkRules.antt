-- The rule that is meant, and at how many parts it is tried.
use Rattle.std.specs.Prelude.{ℕ, ◌+◌, List, length}
use Rattle.linked_starts.specs.Parts.{PartSeen}
use Rattle.linked_starts.specs.Pairs.{PairTest}
use Rattle.linked_starts.specs.Links.{l1, l2, l3, l4, l5, l6, l7, l8, l9}
use Rattle.component_linker.specs.declared.rules.LinkRule.{LinkRule}
use Rattle.component_linker.specs.declared.rules.LinkRule.TheVariants.{L1, L2, L3, L4, L5, L6, L7, L8, L9}

abbrev pub test_of : LinkRule → List PartSeen → ℕ → PairTest
test_of L1 parts size = l1 parts size
test_of L2 parts size = l2 parts
test_of L3 parts size = l3 parts
test_of L4 parts size = l4 parts
test_of L5 parts size = l5 parts
test_of L6 parts size = l6 parts
test_of L7 parts size = l7 parts
test_of L8 parts size = l8 parts size
test_of L9 parts size = l9 parts

-- what is asked of all together is tried after the last
abbrev pub tried_at : LinkRule → List PartSeen → ℕ
tried_at L1 parts = length parts + 1
tried_at L2 parts = length parts
tried_at L3 parts = length parts
tried_at L4 parts = length parts
tried_at L5 parts = length parts
tried_at L6 parts = length parts + 1
tried_at L7 parts = length parts
tried_at L8 parts = length parts + 1
tried_at L9 parts = length parts
