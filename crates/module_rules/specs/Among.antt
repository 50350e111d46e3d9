-- Modules whose components are among linked parts.
use Rattle.std.specs.Prelude.{◌≡◌, ℕ, ◌<◌, List, [], length, slice_get, Some, Ok}
use Rattle.linked_starts.specs.Parts.{PartSeen}
use Rattle.linked_starts.specs.Standing.{placed}
use Rattle.linked_starts.specs.Pairs.{NoneIsBroken}
use Rattle.linked_starts.specs.Links.{rules_l}
use Rattle.proc_language.specs.declared.module.ModuleFields.{ModuleFields}
use Rattle.proc_names.specs.NameFaults.{name_faults}
use Rattle.proc_templates.specs.Compiled.{compiled}
use Rattle.module_rules.specs.Rules.{ruled}

-- the component of each module is that of a part, and the parts come in the order of their modules
pub record AreAmong (modules : List ModuleFields) (parts : List PartSeen) : Type 0 where
  pub at : ℕ → ℕ
  pub rises : (i j : ℕ) → i < j → j < length modules → at i < at j
  pub there : (i : ℕ) (m : ModuleFields) → slice_get modules i ≡ Some m
      → (p : PartSeen) × (slice_get parts (at i) ≡ Some p) × (p.component ≡ compiled m)

-- each name of each module leads to something that fits its use, and none stands twice
abbrev pub AreResolved : List ModuleFields → Type 0
AreResolved modules = (i : ℕ) (m : ModuleFields) → slice_get modules i ≡ Some m → name_faults m ≡ []

-- where parts, as they are placed, keep the rules L, modules among them keep those of modules
abbrev pub LinkedModulesKeepRules : Type 0
LinkedModulesKeepRules =
    (parts : List PartSeen) (size : ℕ) (modules : List ModuleFields)
    → NoneIsBroken (rules_l (placed parts size) size) → AreAmong modules parts → AreResolved modules
    → ruled modules size ≡ Ok tt
