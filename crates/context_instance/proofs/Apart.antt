-- The law: two ways to double a number are one to code outside.
use Rattle.std.proofs.Common.{◌≡◌, ◌≢◌, ℕ, [], ◌∷◌, map, refl, sym, subst}
use Rattle.proc_language.specs.declared.module.ModuleFields.{ModuleFields}
use Rattle.proc_language.specs.Limits.{IsModule}
use Rattle.proc_names.specs.NameFaults.{name_faults}
use Rattle.proc_program.specs.Lower.{part_of}
use Rattle.proc_templates.specs.Compiled.{compiled}
use Rattle.proc_semantics.specs.Values.{World}
use Rattle.same_meanings.specs.Observed.{by_number, MeanTheSame, EndTheSame}
use Rattle.same_meanings.proofs.Offers.{numbers_apart}
use Rattle.source_starts.specs.Sources.{LinkedSources, world_of}
use Rattle.context_laws.specs.Meanings.{SameMeaningsAreNotToldApart}
use Rattle.context_laws.specs.Ends.{SameMeaningsEndAlike}
use Rattle.context_instance.specs.Doubles.{sums, keeps, LinkBeside, LinksBeside, MainIsUntrusted, AreOne}
use Rattle.context_instance.specs.Doubles.{TwoWays}
use Rattle.context_instance.proofs.Modules.{limits, limits_too, resolved, resolved_too, differ}
use Rattle.context_instance.proofs.Same.{mean_the_same, end_the_same}
use Rattle.context_instance.proofs.Beginnings.{main, sums_link, keeps_link, sums_main, keeps_main, beside}

-- what holds of the worlds of two modules holds of those of links of them
worlds : {one other : ModuleFields} (P : World → World → Type 0) (a b : LinkedSources)
    → LinkBeside one other a b → P (map part_of (one ∷ [])) (map part_of (other ∷ []))
    → P (world_of a) (world_of b)
worlds {one} P a b are p =
    subst (λ ms. P (map part_of ms) (world_of b)) (sym are.one_is)
    (subst (λ ms. P (map part_of (one ∷ [])) (map part_of ms)) (sym are.other_is) p)

-- of modules that mean the same and end the same way
pub are_one : SameMeaningsAreNotToldApart → SameMeaningsEndAlike → {one other : ModuleFields}
    → IsModule one × IsModule other → (name_faults one ≡ []) × (name_faults other ≡ [])
    → compiled one ≢ compiled other
    → ((size : ℕ) → MeanTheSame by_number (map part_of (one ∷ [])) (map part_of (other ∷ [])) size)
    → ((size : ℕ) → EndTheSame by_number (map part_of (one ∷ [])) (map part_of (other ∷ [])) size)
    → (there : LinksBeside one other) → MainIsUntrusted there → AreOne one other
are_one law alike {one} {other} limits resolved differ same ends there main = record {
  limits = limits;
  resolved = resolved;
  differ = differ;
  same = same;
  ends = ends;
  apart = λ a b are p u. law by_number numbers_apart a b are.beside p u (mean a b are);
  alike = λ a b are.
      alike by_number numbers_apart a b are.beside (mean a b are)
      (worlds (λ w v. EndTheSame by_number w v a.size) a b are (ends a.size));
  there = there;
  main = main;
}
  where
    mean : (a b : LinkedSources) → LinkBeside one other a b
        → MeanTheSame by_number (world_of a) (world_of b) a.size
    mean a b are = worlds (λ w v. MeanTheSame by_number w v a.size) a b are (same a.size)

abbrev there : LinksBeside sums keeps
there = record {
  sources = sums_link;
  sources_too = keeps_link;
  are = record { one_is = refl; other_is = refl; beside = beside };
}

pub two_ways : SameMeaningsAreNotToldApart → SameMeaningsEndAlike → TwoWays
two_ways law alike =
    are_one law alike (limits, limits_too) (resolved, resolved_too) differ mean_the_same end_the_same there
    (record { main = main; main_is = sums_main; main_too = keeps_main; untrusted = refl })
