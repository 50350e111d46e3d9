-- The load that a body makes.
use Rattle.std.proofs.Common.{◌≡◌, ℕ, refl, sym, ap, subst}
use Rattle.std.specs.Prelude.{Ok}
use Rattle.outside_io.specs.FilesSeen.{FilesSeen}
use Rattle.linked_starts.specs.Started.{StartSeen}
use Rattle.link_tool.specs.declared.generated.load.Workload.{Workload}
use Rattle.link_tool.specs.Generated.{load_of, load_steps}
use Rattle.file_plans.specs.Plans.{Made}
use Rattle.file_plans.proofs.Offers.{comes_same}
use Rattle.link_tool.specs.Linked.{MeetsStart}
use Rattle.link_tool.specs.Loads.{load_plan}
use Rattle.ready_tasks.specs.declared.ready.ReadyTask.TheVariants as ready
use Rattle.ready_tasks.specs.Commands.{Run, Totals, for_task, load_task}
use Rattle.ready_tasks.specs.ReadyTasks.{FollowsTask}
use Rattle.ready_tasks.proofs.Tasks.{task_done}

pub load_done : (seed : ℕ) (load : Workload) (start : StartSeen) → load ≡ load_of seed
    → MeetsStart (load_plan load) (Ok start) → (seen : FilesSeen)
    → FollowsTask (for_task (load_plan (load_of seed)) (load_task seed)) seen
    (Ok (ready.Generate start load)) seen
load_done seed load start e m seen =
    let h : MeetsStart (load_plan (load_of seed)) (Ok start) =
    subst (λ x. MeetsStart (load_plan x) (Ok start)) e m in
    task_done (load_plan (load_of seed)) (load_task seed) seen seen h.0 (ready.Generate start load)
    (comes_same (load_plan (load_of seed)) (Made h.0) seen seen (Ok h.0) h.1 (refl, refl))
    (h.0, ap (λ x. Run h.0 load_steps (Totals x)) (sym e), h.2)
