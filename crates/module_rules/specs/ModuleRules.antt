-- The rule that is meant, and at how many modules it is tried.
use Rattle.std.specs.Prelude.{ℕ, ◌+◌, List, length}
use Rattle.linked_starts.specs.Pairs.{PairTest}
use Rattle.proc_language.specs.declared.module.ModuleFields.{ModuleFields}
use Rattle.module_rules.specs.declared.rules.ModuleRule.{ModuleRule}
use Rattle.module_rules.specs.declared.rules.ModuleRule.TheVariants.{L3, L4, L5, L6, L7, L8}
use Rattle.module_rules.specs.Rules.{names_differ, imports_are_there, imports_are_shared, one_main}
use Rattle.module_rules.specs.Rules.{stacks_agree, stack_fits}

abbrev pub test_of : ModuleRule → List ModuleFields → ℕ → PairTest
test_of L3 modules size = names_differ modules
test_of L4 modules size = imports_are_there modules
test_of L5 modules size = imports_are_shared modules
test_of L6 modules size = one_main modules
test_of L7 modules size = stacks_agree modules
test_of L8 modules size = stack_fits modules size

-- what is asked of all together is tried after the last
abbrev pub tried_at : ModuleRule → List ModuleFields → ℕ
tried_at L3 modules = length modules
tried_at L4 modules = length modules
tried_at L5 modules = length modules
tried_at L6 modules = length modules
tried_at L7 modules = length modules
tried_at L8 modules = length modules + 1
