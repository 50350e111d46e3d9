use Rattle.std.proofs.Common.{◌≡◌, ℕ, List, refl, subst}
use Rattle.std.specs.Prelude.{Result, Ok, Err}
use Rattle.outside_io.specs.FilesSeen.{FilesSeen}
use Rattle.command_words.specs.declared.part.PartWord.{PartWord}
use Rattle.file_plans.specs.declared.refusal.Stop.{Stop}
use Rattle.file_plans.specs.Plans.{Follows, FollowsAs}
use Rattle.meaning_tool.specs.declared.telling.Meaning.{Meaning}
use Rattle.meaning_tool.specs.Subjects.{Subject, IsMeant, subject_in}
use Rattle.ready_tasks.specs.declared.ready.ReadyTask.TheVariants as ready
use Rattle.ready_tasks.specs.Commands.{Tell, for_task}
use Rattle.ready_tasks.specs.ReadyTasks.{FollowsTask}
use Rattle.ready_tasks.proofs.Tasks.{task_done, task_stops}
use Rattle.ready_tasks.proofs.ready.ready_mean.Goals as goal

module _ (words slice : List PartWord) (size : ℕ) (feed : List ℕ) (old new : FilesSeen)
    (same : slice ≡ words) where
  -- nothing came for a meaning
  stops : (s : Stop) → (let r : Result Subject Stop = Err s in Follows (subject_in slice size feed) old r new)
      → (let r : Result Subject Stop = Err s in Follows (subject_in words size feed) old r new)
  stops s h =
      subst (λ ws. let r : Result Subject Stop = Err s in Follows (subject_in ws size feed) old r new) same h

  -- the text of the meaning was made
  done : (n fuel : ℕ) (m : Meaning) → n ≡ fuel
      → FollowsAs (IsMeant n) (subject_in slice size feed) old (Ok m) new
      → FollowsTask (for_task (subject_in words size feed) (λ s. Tell s fuel)) old (Ok (ready.Tell m)) new
  done n fuel m e h =
      let f = subst (λ k. FollowsAs (IsMeant k) (subject_in words size feed) old (Ok m) new) e
      (subst (λ ws. FollowsAs (IsMeant n) (subject_in ws size feed) old (Ok m) new) same h) in
      task_done (subject_in words size feed) (λ s. Tell s fuel) old new f.0 (ready.Tell m) f.1
      (f.0, fuel, refl, f.2)

pub returns-in_err-meant : goal.returns-in_err-meant
returns-in_err-meant g c =
    task_stops (subject_in c.args.words.now c.args.size c.args.feed.now) (λ s. Tell s c.args.fuel) _ _
    c.in_err-meant.field-0.0 c.from_residual.result c.from_residual.ensures.1
    (stops c.args.words.now c.as_slice.result.now c.args.size c.args.feed.now _ _ c.as_slice.ensures.same
    c.in_err-meant.field-0.0 c.in_err-meant.ensures)

pub returns : goal.returns
returns g c =
    done c.args.words.now c.as_slice.result.now c.args.size c.args.feed.now _ _ c.as_slice.ensures.same
    c.number.result c.args.fuel c.in_ok-meant.meant c.number.ensures.same c.in_ok-meant.ensures
