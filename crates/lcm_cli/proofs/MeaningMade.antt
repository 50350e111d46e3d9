-- What `mean` was given from, and what it wrote.
use Rattle.std.proofs.Common.{◌≡◌, ℕ, List, Option, Some, ap, subst}
use Rattle.std.specs.Prelude.{Result, Ok, Err, map}
use Rattle.outside_io.specs.FilesSeen.{FilesSeen}
use Rattle.command_words.specs.declared.part.PartWord.{PartWord}
use Rattle.command_words.specs.declared.command.Command.{Command}
use Rattle.command_words.specs.declared.command.Command.TheVariants.{Mean}
use Rattle.proc_program.specs.Lower.{part_of}
use Rattle.proc_semantics.specs.Meaning.{meaning}
use Rattle.file_plans.specs.declared.refusal.Refusal.{Refusal}
use Rattle.file_plans.specs.Plans.{Plan}
use Rattle.meaning_tool.specs.Subjects.{Subject, told_of, subject_in}
use Rattle.refusal_lines.specs.declared.status.Status.{Status}
use Rattle.ready_tasks.specs.Commands.{Task, Tell, plan_of, plan_in}
use Rattle.lcm_cli.specs.Bytes.{ComesOf, ComesBy}
use Rattle.command_words.specs.Answers.{with_files, AnswersWhole, Answers}
use Rattle.lcm_cli.specs.Answers.{Answer, Outside, tells, IsAnswerOf, read_in, stk}
use Rattle.lcm_cli.specs.Causes.{IsRunStatus, MeaningGiven}
use Rattle.lcm_cli.proofs.Tasks.{made_of}
use Rattle.lcm_cli.proofs.Modules.{SubjectCame, subject_came}
use Rattle.lcm_cli.proofs.RunsMade.{refused_none, whole_run}

module _ (words : List PartWord) (size fuel : ℕ) (feed : List ℕ) (read : List (List ℕ)) (old : Outside)
    (ended : Status) (new : Outside) where
  abbrev reads : Plan Task
  reads = plan_of (Mean words size fuel feed)

  given_told : (seen : FilesSeen) (s : Subject) → SubjectCame words size feed read old.files s seen
      → ComesBy reads read (Ok (Tell s fuel))
      → AnswersWhole (with_files old seen) (tells (told_of s fuel)) ended new
      → MeaningGiven words size fuel feed read old ended new
  given_told seen s c k g =
      let p : new.files ≡ seen = g.put in
      let at : told_of s fuel ≡ meaning (map part_of s.modules) size s.feed fuel =
      ap (λ n. meaning (map part_of s.modules) n s.feed fuel) c.size_is in
      let h : AnswersWhole (with_files old seen) (tells (meaning (map part_of s.modules) size s.feed fuel))
      ended new = subst (λ t. AnswersWhole (with_files old seen) (tells t) ended new) at g in
      record {
        modules = s.modules;
        before = c.before;
        mid = c.mid;
        came = c.came;
        keep = c.keep;
        text = c.text;
        read_is = c.read_is;
        feed_came = rw p c.feed_came;
        items = s.feed;
        is_feed = c.is_feed;
        made = subst (λ n. ComesBy reads read
            (Ok (Tell (record { modules = s.modules; size = n; feed = s.feed }) fuel))) c.size_is k;
        status_is = h.status_is;
        written = h.written;
        kept_is = h.kept_is;
      }

  given_due : (seen : FilesSeen) (due : Result Task Refusal) (a : Answer)
      → ComesOf reads read old.files due seen → ComesBy reads read due → IsAnswerOf due a
      → AnswersWhole (with_files old seen) a ended new → IsRunStatus ended
      → MeaningGiven words size fuel feed read old ended new
  given_due seen (Err why) a c k x g r = absurd (refused_none why a ended x g.status_is r)
  given_due seen (Ok task) a c k x g r =
      let m = made_of (subject_in words size feed) (λ s. Tell s fuel) read old.files seen task c in
      let e : a ≡ tells (told_of m.0 fuel) = subst (λ t. IsAnswerOf (Ok t) a) m.2 x in
      given_told seen m.0 (subject_came words size feed read old.files seen m.0 m.1)
      (subst (λ t. ComesBy reads read (Ok t)) m.2 k)
      (subst (λ b. AnswersWhole (with_files old seen) b ended new) e g)

pub means : (asked : Option Command) (old : Outside) (ended : Status) (new : Outside)
    (a : Answers stk (plan_in asked) old ended new) (words : List PartWord) (size fuel : ℕ) (feed : List ℕ)
    → asked ≡ Some (Mean words size fuel feed) → IsRunStatus ended
    → MeaningGiven words size fuel feed (read_in a) old ended new
means asked old ended new a words size fuel feed e r =
    let w = whole_run (plan_in asked) old ended new a r in
    given_due words size fuel feed (read_in a) old ended new w.seen w.due w.gives
    (subst (λ q. ComesOf (plan_in q) (read_in a) old.files w.due w.seen) e w.came)
    (subst (λ q. ComesBy (plan_in q) (read_in a) w.due) e w.makes) w.is w.given r
