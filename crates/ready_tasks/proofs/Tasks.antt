-- The task of a plan, and the ready task that a body makes of what came.
use Rattle.std.proofs.Common.{◌≡◌}
use Rattle.std.specs.Prelude.{Result, Ok, Err, IfOk, IfErr, IsErrAnd}
use Rattle.std.proofs.lemmas.Result.{err_from_is_err_and}
use Rattle.outside_io.specs.FilesSeen.{FilesSeen}
use Rattle.file_plans.specs.declared.refusal.Stop.{Stop}
use Rattle.file_plans.specs.declared.refusal.Stop.TheVariants.{NoMemory}
use Rattle.file_plans.specs.Plans.{Plan, Made, Comes, Follows}
use Rattle.file_plans.proofs.Offers.{comes_made, comes_quiet, follows_end}
use Rattle.ready_tasks.specs.declared.ready.ReadyTask.{ReadyTask}
use Rattle.ready_tasks.specs.Commands.{Task, for_task}
use Rattle.ready_tasks.specs.ReadyTasks.{Does, FollowsTask}

-- the ready task of what came does the task that is made of it
pub task_done : {A : Type 0} (p : Plan A) (f : A → Task) (old new : FilesSeen) (x : A) (ready : ReadyTask)
    → Comes p old (Ok x) new → Does (f x) ready → FollowsTask (for_task p f) old (Ok ready) new
task_done p f old new x ready h d = (f x, comes_made p f old new x h, d)

-- or memory was refused
pub task_follows : {A : Type 0} (p : Plan A) (f : A → Task) (old new : FilesSeen) (x : A)
    (r : Result ReadyTask Stop)
    → Comes p old (Ok x) new → IfOk r (Does (f x)) → IfErr r (λ s. s ≡ NoMemory)
    → FollowsTask (for_task p f) old r new
task_follows p f old new x (Ok ready) h d n = task_done p f old new x ready h d
task_follows p f old new x (Err stop) h d n = rw n (comes_quiet p old new x h)

-- nothing came for a task, and the body stops by that
pub task_stops : {A : Type 0} (p : Plan A) (f : A → Task) (old new : FilesSeen) (s : Stop)
    (r : Result ReadyTask Stop)
    → IsErrAnd r (λ e. e ≡ s) → Follows p old (Err s) new → FollowsTask (for_task p f) old r new
task_stops p f old new s r is h =
    let q = err_from_is_err_and r is in
    rw (q.1, q.2) (follows_end p (λ y. Made (f y)) old new s h)
