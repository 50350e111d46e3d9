-- What was due to a run of which a write failed.
use Rattle.std.proofs.Common.{◌≡◌, ◌≢◌, ℕ, List, Some, None, refl, sym, ap, subst, ◌∙◌}
use Rattle.std.specs.Prelude.{Result}
use Rattle.outside_io.specs.FilesSeen.{FilesSeen}
use Rattle.outside_io.specs.SinkSeen.{FailsToWrite}
use Rattle.command_words.specs.declared.command.Linked.{Linked}
use Rattle.command_words.specs.declared.command.LinkDeed.TheVariants as link_deed
use Rattle.command_words.specs.declared.command.Command.TheVariants.{Links}
use Rattle.command_words.specs.Answers.{Answers}
use Rattle.lcm_machine.specs.Run.{answer as last_step, plain}
use Rattle.file_plans.specs.declared.refusal.Refusal.{Refusal}
use Rattle.file_plans.specs.Plans.{Plan}
use Rattle.refusal_lines.specs.declared.status.Status.TheVariants as status
use Rattle.ready_tasks.specs.Commands.{Task, plan_in}
use Rattle.lcm_cli.specs.Bytes.{ComesOf, ComesBy}
use Rattle.lcm_cli.specs.Answers.{Answer, Outside, IsAnswerOf, read_in, stk}
use Rattle.lcm_cli.proofs.RunsMade.{cut_of, DeedDue, told, made, asked_due, no_cut, never_cut, run_never}

-- the answer that was due to a run of which a write failed, and that its text failed
pub record CutRun (plan : Plan Task) (read : List (List ℕ)) (old new : Outside) : Type 0 where
  pub due : Result Task Refusal
  pub gives : Answer
  pub came : ComesOf plan read old.files due new.files
  pub makes : ComesBy plan read due
  pub is : IsAnswerOf due gives
  pub fails : FailsToWrite old.sink gives.text new.sink

-- the answer to a run has no file, and another status
plainly : (l : Linked) (steps : ℕ) (old seen : FilesSeen) (a : Answer)
    (read : List (List ℕ)) → DeedDue l (link_deed.Run steps) read old seen a
    → (a.file ≡ None) × (a.status ≢ status.WriteFault)
plainly l steps old seen a read (told why c t e) = (
  ap (λ (b : Answer). b.file) e,
  λ q. no_cut why (sym q ∙ ap (λ (b : Answer). b.status) e),
)
plainly l steps old seen a read (made i c t x) = (
  ap (λ (b : Answer). b.file) x.2,
  λ q. never_cut _ (run_never (last_step (plain steps x.0.state)))
      (sym (ap (λ (b : Answer). b.status) x.2) ∙ q),
)

pub cut_run : (l : Linked) (steps : ℕ) (old new : Outside)
    → (let plan = plan_in (Some (Links l (link_deed.Run steps))) in
    (a : Answers stk plan old status.WriteFault new) → CutRun plan (read_in a) old new)
cut_run l steps old new a =
    let asked = Some (Links l (link_deed.Run steps)) in
    let k = cut_of (plan_in asked) old status.WriteFault new a refl in
    let p = plainly l steps old.files k.seen k.gives (read_in a)
    (asked_due asked l (link_deed.Run steps) refl (read_in a) old.files k.seen k.due k.gives k.came k.makes
    k.is) in
    let f = k.fails p.0 p.1 in
    record {
      due = k.due;
      gives = k.gives;
      came = subst (λ z. ComesOf (plan_in asked) (read_in a) old.files k.due z) (sym f.0) k.came;
      makes = k.makes;
      is = k.is;
      fails = f.1;
    }
