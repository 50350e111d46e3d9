-- The task of a plan, and the ready task that a body makes of what came.
use Rattle.std.proofs.Common.{◌≡◌, ℕ, List, refl, inl, inr}
use Rattle.std.specs.Prelude.{Result, Ok, Err}
use Rattle.outside_io.specs.FilesSeen.{FilesSeen}
use Rattle.file_plans.specs.declared.refusal.Refusal.{Refusal}
use Rattle.file_plans.specs.Plans.{Plan, Made}
use Rattle.ready_tasks.specs.Commands.{Task, for_task}
use Rattle.lcm_cli.specs.Bytes.{ComesOf}
use Rattle.lcm_cli.proofs.Came.{IsSettled, came_first}
use Rattle.lcm_cli.proofs.Ends.{same_err, not_made}

-- a task is made of what came, and nothing more is read
settled_task : {A : Type 0} (f : A → Task) (x : A) → IsSettled (Made (f x))
settled_task f x = inl (f x, refl)

-- where the call ends, it was what is read that ended it
pub err_of : {A : Type 0} (p : Plan A) (f : A → Task) (read : List (List ℕ)) (old new : FilesSeen)
    (why : Refusal) → ComesOf (for_task p f) read old (Err why) new → ComesOf p read old (Err why) new
err_of p f read old new why h =
    elim (came_first p (λ x. Made (f x)) (settled_task f) read old new (Err why) h)
    as (λ _. ComesOf p read old (Err why) new) [
      | inl s ↦ absurd (not_made (f s.0) why new new s.2)
      | inr s ↦ (let e = same_err why s.0 s.2 in rw (← e) s.1)
    ]

same_task : (x y : Task) → (let r : Result Task Refusal = Ok x in r) ≡ Ok y → x ≡ y
same_task x y e = cc

-- the task is of what came
pub made_of : {A : Type 0} (p : Plan A) (f : A → Task) (read : List (List ℕ)) (old new : FilesSeen)
    (task : Task) → ComesOf (for_task p f) read old (Ok task) new
    → (x : A) × ComesOf p read old (Ok x) new × (task ≡ f x)
made_of {A} p f read old new task h =
    elim (came_first p (λ x. Made (f x)) (settled_task f) read old new (Ok task) h)
    as (λ _. (x : A) × ComesOf p read old (Ok x) new × (task ≡ f x)) [
      | inl s ↦ (s.0, s.1, same_task task (f s.0) s.2.0)
      | inr s ↦ absurd (let e = s.2 in cc)
    ]
