-- The rules L3 to L8 over modules: those of the parts that they are compiled to, told by the same
-- places. docs/RULES.md has them.
use Rattle.std.specs.Prelude.{ℕ, ◌+◌, ◌==◌, ◌&&◌, nat_le, Bool, false, not, List, [], ◌∷◌, take, find}
use Rattle.std.specs.Prelude.{count_by, codes, map, Option, Some, None, is_none, Result}
use Rattle.std.specs.List.{list_any}
use Rattle.std.specs.Str.{bytes_eq}
use Rattle.cap_words.specs.declared.TheConstants.{LAST_PLACE}
use Rattle.component_check.specs.Verdict.{check_from}
use Rattle.component_check.specs.declared.rule.Group.TheVariants.{L}
use Rattle.component_file.specs.Limits.{name_lt}
use Rattle.linked_starts.specs.declared.fault.RuleAt.{RuleAt}
use Rattle.linked_starts.specs.declared.pairs.PartPlace.{PartPlace}
use Rattle.linked_starts.specs.Regions.{is_stack_size}
use Rattle.linked_starts.specs.Pairs.{PairTest, by_part, never, once, at_each, each_part, each_part_then}
use Rattle.proc_language.specs.declared.module.Proc.{Proc}
use Rattle.proc_language.specs.declared.module.ModuleFields.{ModuleFields}

-- ---- L3: no two modules have one name

abbrev pub same_name : ModuleFields → ModuleFields → Bool
same_name m other = bytes_eq m.name.text other.name.text

unfoldable pub names_differ : List ModuleFields → PairTest
names_differ modules = each_part modules (λ i m. at_each (take i modules) (same_name m))

-- ---- L4: what an import names is there, where its part is one of the modules

abbrev pub module_named : List ModuleFields → List ℕ → Option ModuleFields
module_named modules name = find (λ m. bytes_eq m.name.text name) modules

abbrev pub proc_named : List Proc → List ℕ → Option Proc
proc_named procs name = find (λ p. bytes_eq p.name.text name) procs

abbrev pub is_missing : Option ModuleFields → List ℕ → Bool
is_missing None name = false
is_missing (Some m) name = is_none (proc_named m.procs name)

unfoldable pub imports_are_there : List ModuleFields → PairTest
imports_are_there modules = each_part modules
    (λ i m. at_each m.imports (λ x. is_missing (module_named modules x.part.text) x.name.text))

-- ---- L5: and may be imported: it is shared, or the importing module's own

abbrev pub is_unshared : Option Proc → Bool
is_unshared None = false
is_unshared (Some p) = not p.shared

abbrev pub is_private : ModuleFields → Option ModuleFields → List ℕ → Bool
is_private m None name = false
is_private m (Some other) name = is_unshared (proc_named other.procs name) && not (same_name other m)

unfoldable pub imports_are_shared : List ModuleFields → PairTest
imports_are_shared modules = each_part modules
    (λ i m. at_each m.imports (λ x. is_private m (module_named modules x.part.text) x.name.text))

-- ---- L6: at most one module shares a main

abbrev pub is_main : Proc → Bool
is_main p = p.shared && bytes_eq p.name.text (codes "main")

abbrev pub has_main : ModuleFields → Bool
has_main m = list_any is_main m.procs

-- all procedures are exports, which stand in the order of their names
abbrev pub main_rank : ModuleFields → ℕ
main_rank m = count_by (λ p. name_lt p.name.text (codes "main")) m.procs

unfoldable pub one_main : List ModuleFields → PairTest
one_main modules =
    each_part modules (λ i m. once (has_main m && list_any has_main (take i modules)) (main_rank m))

-- ---- L7: the stack bases are equal

abbrev pub stack_base_of : List ModuleFields → ℕ
stack_base_of [] = 0
stack_base_of (m ∷ ms) = m.stack

unfoldable pub stacks_agree : List ModuleFields → PairTest
stacks_agree modules = each_part modules (λ i m. once (not (m.stack == stack_base_of modules)) m.stack)

-- ---- L8: the stack has 2 to 65,536 words, and ends at or below 1,048,575

abbrev pub stack_is_in_place : List ModuleFields → ℕ → Bool
stack_is_in_place modules size = is_stack_size size && nat_le (stack_base_of modules + size) (LAST_PLACE + 1)

unfoldable pub stack_fits : List ModuleFields → ℕ → PairTest
stack_fits modules size =
    each_part_then modules (λ i m. never) (once (not (stack_is_in_place modules size)) size)

-- ---- all of them, in their order

abbrev pub module_rules : List ModuleFields → ℕ → List PairTest
module_rules modules size =
    names_differ modules ∷ imports_are_there modules ∷ imports_are_shared modules ∷ one_main modules
    ∷ stacks_agree modules ∷ stack_fits modules size ∷ []

-- the rule that is tried n-th is broken at a place in a module
abbrev pub told_as : ℕ → PartPlace → RuleAt
told_as n at = record { rule = record { group = L; number = n + 2 }; part = at.part; place = at.place }

-- what is told of them: the first that is broken, tried one after another
unfoldable pub ruled : List ModuleFields → ℕ → Result (Unit {0}) RuleAt
ruled modules size = check_from told_as 1 (map by_part (module_rules modules size))
