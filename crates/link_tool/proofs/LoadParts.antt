-- The start of a generated load, as the body finds it.
use Rattle.std.proofs.Common.{◌≡◌, List, refl}
use Rattle.std.specs.Prelude.{Result, Ok, Err, IfOk}
use Rattle.linked_starts.specs.Parts.{PartSeen}
use Rattle.linked_starts.specs.Started.{StartSeen}
use Rattle.linked_starts.specs.LinkedStarts.{IsStartOf}
use Rattle.link_tool.specs.declared.generated.TheConstants.{LOAD_STACK}
use Rattle.link_tool.specs.declared.generated.load.Workload.{Workload}
use Rattle.file_plans.specs.declared.refusal.Refusal.TheVariants as refusal
use Rattle.file_plans.specs.declared.refusal.Stop.{Stop}
use Rattle.file_plans.specs.declared.refusal.Stop.TheVariants.{Refused, NoMemory}
use Rattle.file_plans.specs.Plans.{Made, unless, Meets}
use Rattle.link_tool.specs.Parts.{linked}
use Rattle.link_tool.specs.Loads.{load_parts, load_plan}
use Rattle.link_tool.specs.Linked.{without, MeetsStart}
use Rattle.link_tool.proofs.Linking.{image_with}

-- the parts were made, and linking them gave this
pub load_starts : (load : Workload) (parts : List PartSeen) (r : Result StartSeen Stop)
    → load_parts load ≡ Made parts → Meets (unless refusal.Rule (linked parts LOAD_STACK)) (without r)
    → IfOk r (IsStartOf parts LOAD_STACK) → MeetsStart (load_plan load) r
unfolding load_plan
load_starts load parts (Ok s) e m links = (image_with LOAD_STACK parts, rw (e, m) refl, links)
load_starts load parts (Err (Refused why)) e m links = rw (e, m) refl
load_starts load parts (Err NoMemory) e m links = tt
