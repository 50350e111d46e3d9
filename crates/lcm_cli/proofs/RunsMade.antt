-- What a run or a trace was given from, and what it wrote.
use Rattle.std.proofs.Common.{◌≡◌, ◌≢◌, ℕ, List, Option, Some, None, refl, sym, ap, subst, ◌∙◌, inl, inr}
use Rattle.std.proofs.Common.{◌<◌, ◌^◌, arith}
use Rattle.std.specs.Prelude.{◌↔◌, Result, Ok, Err}
use Rattle.outside_io.specs.FilesSeen.{FilesSeen}
use Rattle.outside_io.specs.SinkSeen.{FailsToWrite}
use Rattle.command_words.specs.declared.command.Linked.{Linked}
use Rattle.command_words.specs.declared.command.LinkDeed.{LinkDeed}
use Rattle.command_words.specs.declared.command.LinkDeed.TheVariants as link_deed
use Rattle.command_words.specs.declared.command.Command.{Command}
use Rattle.command_words.specs.declared.command.Command.TheVariants.{Links}
use Rattle.authority_report.specs.Entered.{ReportsBoundRuns}
use Rattle.authority_report.specs.Influence.{ReportsBoundInfluence}
use Rattle.linked_starts.specs.Parts.{PartSeen}
use Rattle.image_loader.specs.declared.fault.ImageFault.{ImageFault}
use Rattle.image_loader.specs.declared.fault.ImageFault.TheVariants as image
use Rattle.image_loader.specs.Image.{ImageSeen}
use Rattle.linked_starts.specs.LinkedStarts.{IsLinkedStart, IsStartOf}
use Rattle.overlay_machine.specs.Starting.{overlay_at}
use Rattle.linked_starts.specs.Standing.{placed}
use Rattle.linked_starts.specs.Started.{StartSeen}
use Rattle.overlay_machine.specs.Seen.{OverlaySeen, IsOverlayOf}
use Rattle.audited_runs.specs.Audited.{RunsPass}
use Rattle.command_words.specs.Fits.{Fits}
use Rattle.headline.specs.OpenCalls.{OpenCallsAreKept}
use Rattle.headline.specs.Secrecy.{OpenFramesAreSecret}
use Rattle.confinement.specs.Confined.{AllCodeOutsideIsConfined}
use Rattle.headline.specs.Headline.{HeadlineHolds}
use Rattle.run_lines.specs.declared.run.RunEnd.{RunEnd}
use Rattle.run_lines.specs.declared.run.RunEnd.TheVariants as run_end
use Rattle.run_lines.specs.Runs.{end_of}
use Rattle.run_lines.specs.Traces.{trace_of, trace_text}
use Rattle.lcm_machine.specs.declared.Step.{Step}
use Rattle.lcm_machine.specs.declared.Step.TheVariants.{Went, Halted, Failed}
use Rattle.lcm_machine.specs.Run.{answer as last_step, plain}
use Rattle.file_plans.specs.declared.refusal.Refusal.{Refusal}
use Rattle.file_plans.specs.declared.refusal.Refusal.TheVariants as refusal
use Rattle.refusal_lines.specs.declared.status.Status.{Status}
use Rattle.refusal_lines.specs.declared.status.Status.TheVariants as status
use Rattle.refusal_lines.specs.Refusals.{refusal_text, refusal_status, image_status}
use Rattle.file_plans.specs.Plans.{Plan}
use Rattle.ready_tasks.specs.Commands.{Lines, Task, link_task, plan_of, plan_in}
use Rattle.link_tool.specs.Linked.{linked_plan}
use Rattle.lcm_cli.specs.Bytes.{ComesOf, ComesBy}
use Rattle.command_words.specs.Answers.{NewFile, with_files, IsPut, AnswersWhole, whole, unput, unwritten}
use Rattle.command_words.specs.Answers.{Answers, answer, nothing}
use Rattle.lcm_cli.specs.Answers.{Answer, Outside, end_status, writes, ran, ran_overlay, refused, IsAnswerOf}
use Rattle.lcm_cli.specs.Answers.{read_in, stk}
use Rattle.lcm_cli.specs.Causes.{IsRunStatus, Started, text_of_run, RunGiven, TraceGiven, ReachGiven, RunCut}
use Rattle.lcm_cli.specs.Causes.{TraceCut}
use Rattle.lcm_cli.proofs.Making.{makes_of}
use Rattle.ready_tasks.proofs.Offers.{linked_as}
use Rattle.lcm_cli.proofs.Tasks.{err_of, made_of}
use Rattle.lcm_cli.proofs.Reasons.{in_made}
use Rattle.lcm_cli.proofs.Caused.{writes_none}

no_image_run : (f : ImageFault) → IsRunStatus (image_status f) → ⊥
no_image_run (image.Rule r) h = h
no_image_run image.Magic h = h
no_image_run image.Version h = h
no_image_run (image.Short at) h = h
no_image_run (image.BadField at) h = h
no_image_run (image.Trailing at) h = h
no_image_run (image.File part f) h = h
no_image_run image.NoMemory h = h

no_run : (why : Refusal) → IsRunStatus (refusal_status why) → ⊥
no_run refusal.Usage h = h
no_run refusal.ReadFault h = h
no_run (refusal.TooLong index) h = h
no_run (refusal.Assembly index f) h = h
no_run (refusal.Source index f) h = h
no_run (refusal.File index f) h = h
no_run (refusal.Rule r) h = h
no_run (refusal.Image f) h = no_image_run f h
no_run (refusal.Feed line) h = h
no_run (refusal.Script line) h = h
no_run (refusal.Audit f) h = h

-- a status of a run is of no refusal
pub refused_none : (why : Refusal) (a : Answer) (ended : Status) → a ≡ refused why → ended ≡ a.status
    → IsRunStatus ended → ⊥
refused_none why a ended x e r = no_run why (subst IsRunStatus (e ∙ ap (λ (b : Answer). b.status) x) r)

-- ---- the start of what is linked

-- what holds of all starts that are linked
pub record StartLaws : Type 0 where
  pub calls : OpenCallsAreKept
  pub secret : OpenFramesAreSecret
  pub confined : AllCodeOutsideIsConfined
  pub headline : HeadlineHolds

pub all_of : OpenCallsAreKept → OpenFramesAreSecret → AllCodeOutsideIsConfined → HeadlineHolds → StartLaws
all_of calls secret confined headline =
    record { calls = calls; secret = secret; confined = confined; headline = headline }

-- what came of the image, and the start of its parts
abbrev pub started : StartLaws → (l : Linked) (read : List (List ℕ)) (old seen : FilesSeen) (i : ImageSeen)
    (start : StartSeen)
    → ComesOf (linked_plan l) read old (Ok i) seen → IsStartOf i.parts i.stack start → Started l read old seen
started all l read old seen i start c s =
    let came = in_made l read old seen i c in
    record {
      parts = i.parts;
      size = i.stack;
      came = came.0;
      keep = came.1;
      start = start;
      linked_start = s;
      calls = all.calls (placed i.parts i.stack) i.stack start s;
      secret = all.secret (placed i.parts i.stack) i.stack start s;
      confined = all.confined (placed i.parts i.stack) i.stack start s;
      headline = all.headline (placed i.parts i.stack) i.stack start s;
    }

-- what was due to a deed: a refusal, or what is done with the image that came
pub data DeedDue (l : Linked) (deed : LinkDeed) (read : List (List ℕ)) (old seen : FilesSeen) (a : Answer)
    : Type 0 where
  told : (why : Refusal) → ComesOf (linked_plan l) read old (Err why) seen
      → ComesBy (plan_of (Links l deed)) read (Err why) → a ≡ refused why → DeedDue l deed read old seen a
  made : (i : ImageSeen) → ComesOf (linked_plan l) read old (Ok i) seen
      → ComesBy (plan_of (Links l deed)) read (Ok (link_task deed i)) → IsAnswerOf (Ok (link_task deed i)) a
      → DeedDue l deed read old seen a

due_of : (l : Linked) (deed : LinkDeed) (read : List (List ℕ)) (old seen : FilesSeen)
    (due : Result Task Refusal) (a : Answer) → ComesOf (plan_of (Links l deed)) read old due seen
    → ComesBy (plan_of (Links l deed)) read due → IsAnswerOf due a → DeedDue l deed read old seen a
due_of l deed read old seen (Err why) a c t x =
    told why (err_of (linked_plan l) (link_task deed) read old seen why c) t x
due_of l deed read old seen (Ok task) a c t x =
    let m = made_of (linked_plan l) (link_task deed) read old seen task c in
    made m.0 m.1 (subst (λ k. ComesBy (plan_of (Links l deed)) read (Ok k)) m.2 t)
    (subst (λ k. IsAnswerOf (Ok k) a) m.2 x)

pub asked_due : (asked : Option Command) (l : Linked) (deed : LinkDeed) → asked ≡ Some (Links l deed)
    → (read : List (List ℕ)) (old seen : FilesSeen) (due : Result Task Refusal) (a : Answer)
    → ComesOf (plan_in asked) read old due seen → ComesBy (plan_in asked) read due → IsAnswerOf due a
    → DeedDue l deed read old seen a
asked_due asked l deed e read old seen due a c t x =
    due_of l deed read old seen due a (subst (λ q. ComesOf (plan_in q) read old due seen) e c)
    (subst (λ q. ComesBy (plan_in q) read due) e t) x

-- ---- what was written whole

-- an answer with the status of a run is given whole
pub record WholeRun (plan : Plan Task) (read : List (List ℕ)) (old : Outside) (ended : Status) (new : Outside)
    : Type 0 where
  pub due : Result Task Refusal
  pub gives : Answer
  pub seen : FilesSeen
  pub came : ComesOf plan read old.files due seen
  pub makes : ComesBy plan read due
  pub is : IsAnswerOf due gives
  pub given : AnswersWhole (with_files old seen) gives ended new

pub whole_run : (plan : Plan Task) (old : Outside) (ended : Status) (new : Outside)
    (a : Answers stk plan old ended new) → IsRunStatus ended → WholeRun plan (read_in a) old ended new
whole_run plan old ended new (nothing n) r = absurd (subst IsRunStatus n.status_is r)
whole_run plan old ended new (answer due a seen c x (unput f i w u k s)) r = absurd (subst IsRunStatus s r)
whole_run plan old ended new (answer due a seen c x (unwritten p f k s)) r = absurd (subst IsRunStatus s r)
whole_run plan old ended new (answer due a seen c x (whole g)) r =
    record {
      due = due;
      gives = a;
      seen = seen;
      came = (c, refl);
      makes = makes_of plan old.files due seen c;
      is = x;
      given = g;
    }

given_run : StartLaws → RunsPass
    → (l : Linked) (steps : ℕ) (read : List (List ℕ)) (old : Outside) (seen : FilesSeen) (ended : Status)
    (new : Outside) (a : Answer) → steps < 2 ^ 64 → DeedDue l (link_deed.Run steps) read old.files seen a
    → AnswersWhole (with_files old seen) a ended new → IsRunStatus ended → RunGiven l steps read old ended new
given_run all pass l steps read old seen ended new a small (told why c t e) g r =
    absurd (refused_none why a ended e g.status_is r)
given_run all pass l steps read old seen ended new a small (made i c t x) g r =
    let h : AnswersWhole (with_files old seen) (ran x.0 steps Lines) ended new =
    subst (λ b. AnswersWhole (with_files old seen) b ended new) x.2 g in
    let p : new.files ≡ seen = h.put in
    record {
      from = started all l read old.files new.files i x.0
          (subst (λ z. ComesOf (linked_plan l) read old.files (Ok i) z) (sym p) c) x.1;
      made = t;
      status_is = h.status_is;
      written = h.written;
      audited = pass (placed i.parts i.stack) i.stack x.0 x.1 steps small;
      kept_is = h.kept_is;
    }

-- so many steps as a command asks for
few_steps : (l : Linked) (steps : ℕ) → Fits (Links l (link_deed.Run steps)) → steps < 2 ^ 64
few_steps l steps h = let k = h.1.1 in omega (arith, k)

pub runs : StartLaws → RunsPass → (asked : Option Command) → ((c : Command) → asked ≡ Some c → Fits c)
    → (old : Outside) (ended : Status) (new : Outside)
    (a : Answers stk (plan_in asked) old ended new) (l : Linked) (steps : ℕ)
    → asked ≡ Some (Links l (link_deed.Run steps)) → IsRunStatus ended
    → RunGiven l steps (read_in a) old ended new
runs all pass asked fits old ended new a l steps e r =
    let w = whole_run (plan_in asked) old ended new a r in
    given_run all pass l steps (read_in a) old w.seen ended new w.gives
    (few_steps l steps (fits (Links l (link_deed.Run steps)) e))
    (asked_due asked l (link_deed.Run steps) e (read_in a) old.files w.seen w.due w.gives w.came w.makes w.is)
    w.given r

-- a linked start has one overlay
abbrev pub OverlaysAreOne : Type 0
OverlaysAreOne =
    (parts : List PartSeen) (size : ℕ) (s : StartSeen) → IsLinkedStart parts size s
    → (o : OverlaySeen) → IsOverlayOf s o ↔ (o ≡ overlay_at s)

given_trace : StartLaws → OverlaysAreOne → (l : Linked) (steps : ℕ) (read : List (List ℕ)) (old : Outside)
    (seen : FilesSeen) (ended : Status) (new : Outside) (a : Answer)
    → DeedDue l (link_deed.Trace steps) read old.files seen a
    → AnswersWhole (with_files old seen) a ended new → IsRunStatus ended
    → TraceGiven l steps read old ended new
given_trace all one l steps read old seen ended new a (told why c t e) g r =
    absurd (refused_none why a ended e g.status_is r)
given_trace all one l steps read old seen ended new a (made i c t x) g r =
    let h : AnswersWhole (with_files old seen) (ran_overlay x.1 steps) ended new =
    subst (λ b. AnswersWhole (with_files old seen) b ended new) x.4 g in
    let p : new.files ≡ seen = h.put in
    let f = started all l read old.files new.files i x.0
    (subst (λ z. ComesOf (linked_plan l) read old.files (Ok i) z) (sym p) c) x.2 in
    record {
      from = f;
      made = t;
      overlay = x.1;
      overlay_is = x.3;
      lines_are = (ap (λ o. (trace_of steps o).lines)
          ((one (placed i.parts i.stack) i.stack x.0 x.2 x.1).0 x.3)
          ∙ f.headline.traced steps);
      status_is = h.status_is;
      written = h.written;
      kept_is = h.kept_is;
    }

pub traces : StartLaws → OverlaysAreOne → (asked : Option Command) (old : Outside) (ended : Status)
    (new : Outside) (a : Answers stk (plan_in asked) old ended new) (l : Linked) (steps : ℕ)
    → asked ≡ Some (Links l (link_deed.Trace steps)) → IsRunStatus ended
    → TraceGiven l steps (read_in a) old ended new
traces all one asked old ended new a l steps e r =
    let w = whole_run (plan_in asked) old ended new a r in
    given_trace all one l steps (read_in a) old w.seen ended new w.gives
    (asked_due asked l (link_deed.Trace steps) e (read_in a) old.files w.seen w.due w.gives w.came w.makes
    w.is) w.given r

-- ---- what was cut

-- the status of no refusal is WriteFault
no_image_cut : (f : ImageFault) → status.WriteFault ≡ image_status f → ⊥
no_image_cut (image.Rule r) e = cc
no_image_cut image.Magic e = cc
no_image_cut image.Version e = cc
no_image_cut (image.Short at) e = cc
no_image_cut (image.BadField at) e = cc
no_image_cut (image.Trailing at) e = cc
no_image_cut (image.File part f) e = cc
no_image_cut image.NoMemory e = cc

pub no_cut : (why : Refusal) → status.WriteFault ≡ refusal_status why → ⊥
no_cut refusal.Usage e = cc
no_cut refusal.ReadFault e = cc
no_cut (refusal.TooLong index) e = cc
no_cut (refusal.Assembly index f) e = cc
no_cut (refusal.Source index f) e = cc
no_cut (refusal.File index f) e = cc
no_cut (refusal.Rule r) e = cc
no_cut (refusal.Image f) e = no_image_cut f e
no_cut (refusal.Feed line) e = cc
no_cut (refusal.Script line) e = cc
no_cut (refusal.Audit f) e = cc

pub never_cut : (end : RunEnd) → end ≢ run_end.WriteFault → end_status end ≢ status.WriteFault
never_cut run_end.Halted n e = absurd (cc)
never_cut run_end.Failed n e = absurd (cc)
never_cut run_end.Running n e = absurd (cc)
never_cut run_end.WriteFault n e = n refl

pub run_never : (step : Step) → end_of step ≢ run_end.WriteFault
run_never Went e = cc
run_never Halted e = cc
run_never (Failed cause at) e = cc

-- the answer that was due where a write failed: of one without a file, and with another status, the text
-- failed
pub record Cut (plan : Plan Task) (read : List (List ℕ)) (old new : Outside) : Type 0 where
  pub due : Result Task Refusal
  pub gives : Answer
  pub seen : FilesSeen
  pub came : ComesOf plan read old.files due seen
  pub makes : ComesBy plan read due
  pub is : IsAnswerOf due gives
  pub fails : gives.file ≡ None → gives.status ≢ status.WriteFault
      → (new.files ≡ seen) × FailsToWrite old.sink gives.text new.sink

pub cut_of : (plan : Plan Task) (old : Outside) (ended : Status) (new : Outside)
    (a : Answers stk plan old ended new) → ended ≡ status.WriteFault → Cut plan (read_in a) old new
cut_of plan old ended new (nothing n) e = absurd (let q : status.NoMemory
    ≡ status.WriteFault = sym n.status_is ∙ e in cc)
cut_of plan old ended new (answer due a seen c x (whole g)) e = record {
  due = due;
  gives = a;
  seen = seen;
  came = (c, refl);
  makes = makes_of plan old.files due seen c;
  is = x;
  fails = λ n w. absurd (w (sym g.status_is ∙ e));
}
cut_of plan old ended new (answer due a seen c x (unput f i w u k s)) e = record {
  due = due;
  gives = a;
  seen = seen;
  came = (c, refl);
  makes = makes_of plan old.files due seen c;
  is = x;
  fails = λ n w. absurd (let q : (let o : Option NewFile = None in o) ≡ Some f = sym n ∙ i in cc);
}
cut_of plan old ended new (answer due a seen c x (unwritten p f k s)) e = record {
  due = due;
  gives = a;
  seen = seen;
  came = (c, refl);
  makes = makes_of plan old.files due seen c;
  is = x;
  fails = λ n w. (subst (λ o. IsPut seen o new.files) n p, f);
}

-- the text of an answer, by another name of it
cut_text : (old new : Outside) (a b : Answer) → a ≡ b → FailsToWrite old.sink a.text new.sink
    → FailsToWrite old.sink b.text new.sink
cut_text old new a b e f = subst (λ (x : Answer). FailsToWrite old.sink x.text new.sink) e f

-- what a cut says of an answer that is another by name
cut_by : {plan : Plan Task} {read : List (List ℕ)} {old new : Outside} (k : Cut plan read old new)
    (b : Answer) → k.gives ≡ b → b.file ≡ None → b.status ≢ status.WriteFault
    → (new.files ≡ k.seen) × FailsToWrite old.sink b.text new.sink
cut_by {old = old} {new = new} k b e n w =
    let f = k.fails (ap (λ (a : Answer). a.file) e ∙ n)
    (λ q. w (sym (ap (λ (a : Answer). a.status) e) ∙ q)) in
    (f.0, cut_text old new k.gives b e f.1)

given_reach : StartLaws → ReportsBoundRuns → ReportsBoundInfluence
    → (l : Linked) (read : List (List ℕ)) (old : Outside) (seen : FilesSeen)
    (ended : Status) (new : Outside) (a : Answer) → DeedDue l link_deed.Reach read old.files seen a
    → AnswersWhole (with_files old seen) a ended new → IsRunStatus ended → ReachGiven l read old ended new
given_reach all bounds influences l read old seen ended new a (told why c t e) g r =
    absurd (refused_none why a ended e g.status_is r)
given_reach all bounds influences l read old seen ended new a (made i c t x) g r =
    let h : AnswersWhole (with_files old seen) (writes status.Done x.1) ended new =
    subst (λ b. AnswersWhole (with_files old seen) b ended new) x.4 g in
    let p : new.files ≡ seen = h.put in
    record {
      from = started all l read old.files new.files i x.0
          (subst (λ z. ComesOf (linked_plan l) read old.files (Ok i) z) (sym p) c) x.2;
      made = t;
      text = x.1;
      text_is = x.3;
      bound = λ part r. bounds x.0 part r (linked_as i.parts i.stack x.0 x.2);
      influence = λ part r. influences x.0 part r (linked_as i.parts i.stack x.0 x.2);
      status_is = h.status_is;
      written = h.written;
      kept_is = h.kept_is;
    }

pub reaches : StartLaws → ReportsBoundRuns → ReportsBoundInfluence → (asked : Option Command) (old : Outside)
    (ended : Status) (new : Outside) (a : Answers stk (plan_in asked) old ended new) (l : Linked)
    → asked ≡ Some (Links l link_deed.Reach) → IsRunStatus ended → ReachGiven l (read_in a) old ended new
reaches all bounds influences asked old ended new a l e r =
    let w = whole_run (plan_in asked) old ended new a r in
    given_reach all bounds influences l (read_in a) old w.seen ended new w.gives
    (asked_due asked l link_deed.Reach e (read_in a) old.files w.seen w.due w.gives w.came w.makes w.is)
    w.given r

refused_cut : {plan : Plan Task} {read : List (List ℕ)} {old new : Outside} (l : Linked) (deed : LinkDeed)
    (k : Cut plan read old new) (why : Refusal)
    → ComesOf (linked_plan l) read old.files (Err why) k.seen
    → ComesBy (plan_of (Links l deed)) read (Err why)
    → k.gives ≡ refused why
    → (w : Refusal) × ComesOf (linked_plan l) read old.files (Err w) new.files
    × ComesBy (plan_of (Links l deed)) read (Err w) × FailsToWrite old.sink (refusal_text w) new.sink
refused_cut {read = read} {old = old} {new = new} l deed k why c t e =
    let f = cut_by k (refused why) e refl (λ q. no_cut why (sym q)) in
    (why, subst (λ z. ComesOf (linked_plan l) read old.files (Err why) z) (sym f.0) c, t, f.1)

cut_run : StartLaws → (l : Linked) (steps : ℕ) (plan : Plan Task) (read : List (List ℕ)) (old new : Outside)
    (k : Cut plan read old new)
    → DeedDue l (link_deed.Run steps) read old.files k.seen k.gives → RunCut l steps read old new
cut_run all l steps plan read old new k (told why c t e) =
    inl (refused_cut l (link_deed.Run steps) k why c t e)
cut_run all l steps plan read old new k (made i c t x) =
    let f = cut_by k (ran x.0 steps Lines) x.2 refl
    (never_cut _ (run_never (last_step (plain steps x.0.state)))) in
    inr (
      started all l read old.files new.files i x.0
          (subst (λ z. ComesOf (linked_plan l) read old.files (Ok i) z) (sym f.0) c) x.1,
      t,
      text_of_run x.0 steps,
      refl,
      f.1,
    )

cut_trace : StartLaws → (l : Linked) (steps : ℕ) (plan : Plan Task) (read : List (List ℕ)) (old new : Outside)
    (k : Cut plan read old new)
    → DeedDue l (link_deed.Trace steps) read old.files k.seen k.gives → TraceCut l steps read old new
cut_trace all l steps plan read old new k (told why c t e) =
    inl (refused_cut l (link_deed.Trace steps) k why c t e)
cut_trace all l steps plan read old new k (made i c t x) =
    let f = cut_by k (ran_overlay x.1 steps) x.4 refl (never_cut _ (writes_none steps x.1)) in
    inr (
      started all l read old.files new.files i x.0
          (subst (λ z. ComesOf (linked_plan l) read old.files (Ok i) z) (sym f.0) c) x.2,
      t,
      trace_text steps x.1,
      (x.1, x.3, refl),
      f.1,
    )

pub run_cut : StartLaws → (asked : Option Command) (old : Outside) (ended : Status) (new : Outside)
    (a : Answers stk (plan_in asked) old ended new) (l : Linked) (steps : ℕ)
    → asked ≡ Some (Links l (link_deed.Run steps)) → ended ≡ status.WriteFault
    → RunCut l steps (read_in a) old new
run_cut all asked old ended new a l steps e r =
    let k = cut_of (plan_in asked) old ended new a r in
    cut_run all l steps (plan_in asked) (read_in a) old new k
    (asked_due asked l (link_deed.Run steps) e (read_in a) old.files k.seen k.due k.gives k.came k.makes k.is)

pub trace_cut : StartLaws → (asked : Option Command) (old : Outside) (ended : Status) (new : Outside)
    (a : Answers stk (plan_in asked) old ended new) (l : Linked) (steps : ℕ)
    → asked ≡ Some (Links l (link_deed.Trace steps)) → ended ≡ status.WriteFault
    → TraceCut l steps (read_in a) old new
trace_cut all asked old ended new a l steps e r =
    let k = cut_of (plan_in asked) old ended new a r in
    cut_trace all l steps (plan_in asked) (read_in a) old new k
    (asked_due asked l (link_deed.Trace steps) e (read_in a) old.files k.seen k.due k.gives k.came k.makes
    k.is)
