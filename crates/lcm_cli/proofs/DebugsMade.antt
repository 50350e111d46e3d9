-- What the replies of a debugger were given from.
use Rattle.std.proofs.Common.{◌≡◌, ℕ, List, Option, Some, subst}
use Rattle.std.specs.Prelude.{Result, Ok, Err}
use Rattle.outside_io.specs.FilesSeen.{FilesSeen}
use Rattle.command_words.specs.declared.command.Linked.{Linked}
use Rattle.command_words.specs.declared.command.Command.{Command}
use Rattle.command_words.specs.declared.command.Command.TheVariants as asked
use Rattle.debug_tool.specs.Laws.{CommandsRemember}
use Rattle.debug_tool.specs.Replies.{debug_text}
use Rattle.step_back.specs.declared.debugger.TheConstants.{MOST_DEPTH}
use Rattle.file_plans.specs.declared.refusal.Refusal.{Refusal}
use Rattle.refusal_lines.specs.declared.status.Status.{Status}
use Rattle.refusal_lines.specs.declared.status.Status.TheVariants as status
use Rattle.ready_tasks.specs.Commands.{Task, Debug, plan_in, debug_plan}
use Rattle.lcm_cli.specs.Bytes.{ComesOf, ComesBy}
use Rattle.command_words.specs.Answers.{with_files, AnswersWhole, Answers}
use Rattle.lcm_cli.specs.Answers.{Answer, Outside, writes, IsAnswerOf, read_in, stk}
use Rattle.lcm_cli.specs.Causes.{IsRunStatus, DebugGiven}
use Rattle.lcm_cli.proofs.Debugs.{DebugCame, debug_came}
use Rattle.lcm_cli.proofs.RunsMade.{StartLaws, started, refused_none, whole_run}

module _ (all : StartLaws) (remember : CommandsRemember) (l : Linked) (script : List ℕ)
    (read : List (List ℕ)) (old : Outside) (ended : Status) (new : Outside) where
  given_debug : (seen : FilesSeen) (t : Task) (a : Answer) (c : DebugCame l script read old.files t seen)
      → ComesBy (debug_plan l script) read (Ok (Debug c.image c.lines))
      → IsAnswerOf (Ok (Debug c.image c.lines)) a → AnswersWhole (with_files old seen) a ended new
      → DebugGiven l script read old ended new
  given_debug seen t a c k x g =
      let h : AnswersWhole (with_files old seen)
      (writes status.Done (debug_text x.0.state c.lines)) ended new =
      subst (λ b. AnswersWhole (with_files old seen) b ended new) x.2 g in
      let p : new.files ≡ seen = h.put in
      record {
        before = c.before;
        mid = c.mid;
        from = started all l c.before old.files c.mid c.image x.0 c.came x.1;
        text = c.text;
        read_is = c.read_is;
        script_came = rw p c.script_came;
        lines = c.lines;
        is_script = c.is_script;
        made = k;
        status_is = h.status_is;
        written = h.written;
        kept_is = h.kept_is;
        remembers = remember x.0.state MOST_DEPTH c.lines x.1.starts.state.count;
      }

  given_due : (seen : FilesSeen) (due : Result Task Refusal) (a : Answer)
      → ComesOf (debug_plan l script) read old.files due seen → ComesBy (debug_plan l script) read due
      → IsAnswerOf due a → AnswersWhole (with_files old seen) a ended new → IsRunStatus ended
      → DebugGiven l script read old ended new
  given_due seen (Err why) a c k x g r = absurd (refused_none why a ended x g.status_is r)
  given_due seen (Ok t) a c k x g r =
      let m = debug_came l script read old.files t seen c in
      given_debug seen t a m (subst (λ u. ComesBy (debug_plan l script) read (Ok u)) m.task k)
      (subst (λ u. IsAnswerOf (Ok u) a) m.task x) g

pub debugs : StartLaws → CommandsRemember → (words : Option Command) (old : Outside) (ended : Status)
    (new : Outside) (a : Answers stk (plan_in words) old ended new) (l : Linked) (script : List ℕ)
    → words ≡ Some (asked.Debug l script) → IsRunStatus ended → DebugGiven l script (read_in a) old ended new
debugs all remember words old ended new a l script e r =
    let w = whole_run (plan_in words) old ended new a r in
    given_due all remember l script (read_in a) old ended new w.seen w.due w.gives
    (subst (λ q. ComesOf (plan_in q) (read_in a) old.files w.due w.seen) e w.came)
    (subst (λ q. ComesBy (plan_in q) (read_in a) w.due) e w.makes) w.is w.given r
