-- Modules that mean the same and don't end the same way.
use Rattle.std.specs.Prelude.{◌≡◌, ℕ, [], ◌∷◌, map}
use Rattle.proc_language.specs.declared.module.ModuleFields.{ModuleFields}
use Rattle.proc_language.specs.Tree.{number, halt}
use Rattle.proc_language.specs.Limits.{IsModule}
use Rattle.proc_names.specs.NameFaults.{name_faults}
use Rattle.proc_program.specs.Lower.{part_of}
use Rattle.same_meanings.specs.Observed.{by_number, MeanTheSame, EndTheSame}
use Rattle.context_instance.specs.Doubles.{named, exporting, module_t}

-- module t; export proc f() { halt n; }
abbrev pub halts : ℕ → ModuleFields
halts n = module_t 0 [] [] (exporting (named 102) [] (halt 0 (number 0 n) ∷ []))

-- two of them are modules whose names are resolved; nothing is observed of either on any feed, so they mean
-- the same; and they don't end the same way
pub record EndsCount : Type 0 where
  pub limits : IsModule (halts 1) × IsModule (halts 2)
  pub resolved : (name_faults (halts 1) ≡ []) × (name_faults (halts 2) ≡ [])
  pub same : (size : ℕ) → MeanTheSame by_number (map part_of (halts 1 ∷ [])) (map part_of (halts 2 ∷ [])) size
  pub ends : (size : ℕ) → EndTheSame by_number (map part_of (halts 1 ∷ [])) (map part_of (halts 2 ∷ [])) size
      → ⊥
