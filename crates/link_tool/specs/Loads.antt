-- Loads that are generated: their parts, which no file holds.
use Rattle.std.specs.Prelude.{true, false, List, [], ◌∷◌}
use Rattle.linked_starts.specs.Accepted.{accepted}
use Rattle.linked_starts.specs.Parts.{PartSeen}
use Rattle.image_loader.specs.Image.{ImageSeen}
use Rattle.link_tool.specs.declared.generated.TheConstants.{LOAD_STACK}
use Rattle.link_tool.specs.declared.generated.load.Workload.{Workload}
use Rattle.link_tool.specs.Generated.{module_text, adder}
use Rattle.proc_sources.specs.Sources.{sourced}
use Rattle.proc_language.specs.declared.dialect.Dialect.TheVariants.{Plain}
use Rattle.file_plans.specs.declared.refusal.Refusal.TheVariants as refusal
use Rattle.file_plans.specs.Plans.{Plan, Made, ◌>>=◌, unless}
use Rattle.link_tool.specs.Parts.{broken_in, linked}

-- its two parts, each by its own rules: the trusted module, compiled, and the untrusted part
unfoldable pub load_module : Workload → Plan PartSeen
load_module load = do
  c ← unless (refusal.Source 0) (sourced Plain (module_text load))
  unless (broken_in 0) (accepted (record { component = c; trusted = true }))

unfoldable pub load_other : Workload → Plan PartSeen
load_other load = unless (broken_in 1) (accepted (record { component = adder load; trusted = false }))

unfoldable pub load_parts : Workload → Plan (List PartSeen)
load_parts load = do
  first ← load_module load
  second ← load_other load
  Made (first ∷ second ∷ [])

-- and then the rules L of both
unfoldable pub load_plan : Workload → Plan ImageSeen
load_plan load = do
  parts ← load_parts load
  _ ← unless refusal.Rule (linked parts LOAD_STACK)
  Made (record { stack = LOAD_STACK; parts = parts })
