-- ReadyTasks that are done, and texts that are told.
use Rattle.std.proofs.Common.{ℕ, List, refl, sym, ap, subst, inl, inr}
use Rattle.std.specs.Prelude.{Ok}
use Rattle.outside_io.specs.FilesSeen.{FilesSeen}
use Rattle.refusal_lines.specs.declared.status.Status.{Status}
use Rattle.refusal_lines.specs.declared.status.Status.TheVariants.{Done}
use Rattle.ready_tasks.specs.declared.ready.ReadyTask.{ReadyTask}
use Rattle.ready_tasks.specs.declared.ready.ReadyTask.TheVariants as ready
use Rattle.file_plans.specs.Plans.{Plan}
use Rattle.link_tool.specs.Generated.{load_steps}
use Rattle.ready_tasks.specs.Commands.{Lines, Totals, Task, Run, Trace, Reach, Debug, Put, Write, Tell}
use Rattle.debug_tool.specs.Replies.{debug_text}
use Rattle.ready_tasks.specs.ReadyTasks.{IsTextOf, Does, FollowsTask}
use Rattle.command_words.specs.Answers.{unwritten, Answers, answer, nothing, GivesOrNothing, with_files}
use Rattle.lcm_cli.specs.Answers.{Outside, writes, meaning_status, says_ok, puts, ran, ran_overlay}
use Rattle.lcm_cli.specs.Answers.{IsAnswerOf, ready_answer, IsReady, stk}
use Rattle.file_plans.proofs.Offers.{only_again, comes_quiet}

text_answers : (t : Task) (text : List ℕ) → IsTextOf t text → IsAnswerOf (Ok t) (writes Done text)
text_answers (Write own) text d = ap (writes Done) d
text_answers (Reach i) text d = (d.0, text, d.1, d.2, refl)
text_answers (Run i steps telling) text d = absurd d
text_answers (Trace i steps) text d = absurd d
text_answers (Debug i script) text d = absurd d
text_answers (Put name content) text d = absurd d
text_answers (Tell subject fuel) text d = absurd d

does_answers : (t : Task) (j : ReadyTask) → Does t j → IsAnswerOf (Ok t) (ready_answer j)
does_answers t (ready.Run start steps) d =
    subst (λ u. IsAnswerOf (Ok u) (ran start steps Lines)) (sym d.1) (start, d.2, refl)
does_answers t (ready.Generate start load) d =
    subst (λ u. IsAnswerOf (Ok u) (ran start load_steps (Totals load))) (sym d.1) (start, d.2, refl)
does_answers t (ready.Trace start overlay steps) d =
    subst (λ u. IsAnswerOf (Ok u) (ran_overlay overlay steps)) (sym d.1) (start, overlay, d.2, d.3, refl)
does_answers t (ready.Debug start script) d =
    subst (λ u. IsAnswerOf (Ok u) (writes Done (debug_text start.state script))) (sym d.1) (start, d.2, refl)
does_answers t (ready.Put out bytes) d =
    subst (λ u. IsAnswerOf (Ok u) (puts out bytes)) (sym d.1) (d.2, ap (puts out) d.3)
does_answers t (ready.Write text) d = text_answers t text d
does_answers t ready.Say d = subst (λ u. IsAnswerOf (Ok u) says_ok) (sym d) refl
does_answers t (ready.Tell meant) d =
    subst (λ u. IsAnswerOf (Ok u) (writes (meaning_status meant.end) meant.text)) (sym d.2)
    (rw (d.3.end, d.3.text) refl)

does_ready : (t : Task) (j : ReadyTask) → Does t j → IsReady j
does_ready t (ready.Run start steps) d = (d.2.starts.state.count, d.2.starts.state.end)
does_ready t (ready.Generate start load) d = (d.2.starts.state.count, d.2.starts.state.end)
does_ready t (ready.Debug start script) d = (d.2.starts.state.count, d.2.starts.state.end)
does_ready t (ready.Trace start overlay steps) d = d.3
does_ready t (ready.Put out bytes) d = tt
does_ready t (ready.Write text) d = tt
does_ready t ready.Say d = tt
does_ready t (ready.Tell meant) d = tt

pub they_are_ready : (plan : Plan Task) (old new : FilesSeen) (j : ReadyTask)
    → FollowsTask plan old (Ok j) new
    → IsReady j
they_are_ready plan old new j f = does_ready f.0 j f.2

pub answered : (plan : Plan Task) (old : Outside) (j : ReadyTask) (seen : FilesSeen) (status : Status)
    (new : Outside) → FollowsTask plan old.files (Ok j) seen
    → GivesOrNothing stk (with_files old seen) (ready_answer j) status new → Answers stk plan old status new
answered plan old j seen status new f (inl g) =
    answer (Ok f.0) (ready_answer j) seen f.1 (does_answers f.0 j f.2) g
answered plan old j seen status new f (inr n) = nothing (record {
  status_is = n.status_is;
  quiet = only_again old.files seen new.files (comes_quiet plan old.files seen f.0 f.1) n.quiet;
  unwritten = n.unwritten;
  kept_is = n.kept_is;
})
