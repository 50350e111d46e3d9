-- What the run of a load was given from, and what it wrote.
use Rattle.std.proofs.Common.{◌≡◌, ℕ, List, Option, Some, subst, ◌∙◌}
use Rattle.std.specs.Prelude.{Result, Ok, Err}
use Rattle.outside_io.specs.FilesSeen.{FilesSeen}
use Rattle.command_words.specs.declared.command.Command.{Command}
use Rattle.command_words.specs.declared.command.Command.TheVariants.{Generate}
use Rattle.linked_starts.specs.Standing.{placed}
use Rattle.image_loader.specs.Image.{ImageSeen}
use Rattle.link_tool.specs.Generated.{load_of, load_steps}
use Rattle.file_plans.specs.declared.refusal.Refusal.{Refusal}
use Rattle.file_plans.specs.Plans.{Comes}
use Rattle.refusal_lines.specs.declared.status.Status.{Status}
use Rattle.link_tool.specs.Loads.{load_plan}
use Rattle.ready_tasks.specs.Commands.{Task, Totals, for_task, plan_in, load_task}
use Rattle.lcm_cli.specs.Bytes.{ComesOf}
use Rattle.command_words.specs.Answers.{with_files, AnswersWhole, Answers}
use Rattle.lcm_cli.specs.Answers.{Answer, Outside, ran, IsAnswerOf, read_in, stk}
use Rattle.lcm_cli.specs.Causes.{IsRunStatus, LoadGiven}
use Rattle.lcm_cli.proofs.Loads.{load_made, comes_stays}
use Rattle.lcm_cli.proofs.Tasks.{made_of}
use Rattle.lcm_cli.proofs.RunsMade.{StartLaws, refused_none, whole_run}

module _ (all : StartLaws) (seed : ℕ) (old : Outside) (ended : Status) (new : Outside) where
  given_load : (seen : FilesSeen) (i : ImageSeen) (a : Answer)
      → Comes (load_plan (load_of seed)) old.files (Ok i) seen
      → IsAnswerOf (Ok (load_task seed i)) a
      → AnswersWhole (with_files old seen) a ended new → LoadGiven seed old ended new
  given_load seen i a c x g =
      let h : AnswersWhole (with_files old seen) (ran x.0 load_steps (Totals (load_of seed))) ended new =
      subst (λ b. AnswersWhole (with_files old seen) b ended new) x.2 g in
      let p : new.files ≡ seen = h.put in
      record {
        image = i;
        made = load_made (load_of seed) i old.files seen c;
        start = x.0;
        linked_start = x.1;
        calls = all.calls (placed i.parts i.stack) i.stack x.0 x.1;
        secret = all.secret (placed i.parts i.stack) i.stack x.0 x.1;
        confined = all.confined (placed i.parts i.stack) i.stack x.0 x.1;
        headline = all.headline (placed i.parts i.stack) i.stack x.0 x.1;
        status_is = h.status_is;
        written = h.written;
        kept_is = h.kept_is;
        files_stay = p ∙ comes_stays (load_of seed) i old.files seen c;
      }

  given_due : (read : List (List ℕ)) (seen : FilesSeen) (due : Result Task Refusal) (a : Answer)
      → ComesOf (for_task (load_plan (load_of seed)) (load_task seed)) read old.files due seen
      → IsAnswerOf due a → AnswersWhole (with_files old seen) a ended new → IsRunStatus ended
      → LoadGiven seed old ended new
  given_due read seen (Err why) a c x g r = absurd (refused_none why a ended x g.status_is r)
  given_due read seen (Ok task) a c x g r =
      let m = made_of (load_plan (load_of seed)) (load_task seed) read old.files seen task c in
      given_load seen m.0 a m.1.0 (subst (λ t. IsAnswerOf (Ok t) a) m.2 x) g

pub loads : StartLaws → (asked : Option Command) (old : Outside) (ended : Status) (new : Outside)
    → Answers stk (plan_in asked) old ended new → (seed : ℕ) → asked ≡ Some (Generate seed)
    → IsRunStatus ended → LoadGiven seed old ended new
loads all asked old ended new a seed e r =
    let w = whole_run (plan_in asked) old ended new a r in
    given_due all seed old ended new (read_in a) w.seen w.due w.gives
    (subst (λ q. ComesOf (plan_in q) (read_in a) old.files w.due w.seen) e w.came) w.is w.given r
