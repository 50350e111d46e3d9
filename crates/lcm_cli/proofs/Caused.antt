-- The cause of every status.
use Rattle.std.proofs.Common.{◌≡◌, ◌≢◌, ℕ, zero, suc, ◌⊎◌, ◌+◌, List, [], ◌∷◌, Option, Some, None, refl, sym}
use Rattle.std.proofs.Common.{ap, subst, ◌∙◌, inl, inr, true, false}
use Rattle.std.specs.Prelude.{Result, Ok, Err, Bool, ℤ, nat_lt, if◌then◌else◌}
use Rattle.outside_io.specs.Counts.{Rose}
use Rattle.outside_io.specs.FilesSeen.{FilesSeen}
use Rattle.outside_io.specs.SinkSeen.{Adds}
use Rattle.outside_io.specs.Whole.{OnlyGave}
use Rattle.command_words.specs.declared.command.Command.{Command}
use Rattle.command_words.specs.Fits.{Fits}
use Rattle.asm_fields.specs.declared.fault.AsmFault.{AsmFault}
use Rattle.component_file.specs.declared.fault.FileFault.{FileFault}
use Rattle.linked_starts.specs.declared.fault.RuleAt.{RuleAt}
use Rattle.image_loader.specs.declared.fault.ImageFault.{ImageFault}
use Rattle.image_loader.specs.declared.fault.ImageFault.TheVariants as image
use Rattle.image_loader.specs.Image.{ImageSeen}
use Rattle.linked_starts.specs.Started.{StartSeen}
use Rattle.linked_starts.specs.LinkedStarts.{IsStartOf}
use Rattle.overlay_machine.specs.Seen.{OverlaySeen, IsOverlayOf, next_overlay, answer_of}
use Rattle.run_lines.specs.declared.run.RunEnd.{RunEnd}
use Rattle.run_lines.specs.declared.run.RunEnd.TheVariants as run_end
use Rattle.run_lines.specs.Runs.{end_of}
use Rattle.run_lines.specs.Traces.{Traced, stopped, weight_with, traced_by, traced as traced_upto, trace_of}
use Rattle.overlay_machine.specs.declared.overlay.OStep.{OStep}
use Rattle.overlay_machine.specs.declared.overlay.OStep.TheVariants.{Went as WentOn, Halted as HaltedThere}
use Rattle.overlay_machine.specs.declared.overlay.OStep.TheVariants.{Failed as FailedThere}
use Rattle.lcm_machine.specs.declared.FailCause.{FailCause}
use Rattle.lcm_machine.specs.declared.Step.{Step}
use Rattle.lcm_machine.specs.declared.Step.TheVariants.{Went, Halted, Failed}
use Rattle.lcm_machine.specs.Run.{answer as last_step, plain}
use Rattle.file_plans.specs.declared.refusal.Refusal.{Refusal}
use Rattle.file_plans.specs.declared.refusal.Refusal.TheVariants as refusal
use Rattle.refusal_lines.specs.declared.status.Status.{Status}
use Rattle.refusal_lines.specs.declared.status.Status.TheVariants as status
use Rattle.proc_sources.specs.declared.fault.SourceFault.{SourceFault}
use Rattle.run_audit.specs.declared.fault.AuditFault.{AuditFault}
use Rattle.refusal_lines.specs.Refusals.{refusal_status, image_status}
use Rattle.file_plans.specs.Plans.{Plan, Reads, Ends, Made, Comes}
use Rattle.source_events.specs.declared.End.{End}
use Rattle.source_events.specs.declared.End.TheVariants as end
use Rattle.meaning_tool.specs.Subjects.{Subject, told_of}
use Rattle.ready_tasks.specs.Commands.{Telling, Task, Run, Trace, Reach, Debug, Put, Write, Tell, plan_in}
use Rattle.command_words.specs.Answers.{IsPut, whole, unput, unwritten, Answers, answer, nothing}
use Rattle.lcm_cli.specs.Answers.{Answer, Outside, end_status, meaning_status, writes, ran, ran_overlay}
use Rattle.lcm_cli.specs.Answers.{tells, refused, IsAnswerOf, read_in, stk}
use Rattle.lcm_cli.specs.Causes.{IsTurn, IsUnread, IsLong, IsUndecoded, IsUncompiled, IsUnassembled}
use Rattle.lcm_cli.specs.Causes.{IsUnloaded, IsUnscripted, IsUnaudited, IsUnmade, Breaks, CameOf, RanTo}
use Rattle.debug_tool.specs.Replies.{debug_text}
use Rattle.lcm_cli.specs.Causes.{TracedTo, MeantTo, IsAtRest, PutsFile, TellsText, out_name, Wrote, IsUnfed}
use Rattle.lcm_cli.specs.Bytes.{bytes_of}
use Rattle.lcm_cli.specs.Causes.{Causes, Promised}
use Rattle.lcm_cli.proofs.Making.{came_of}
use Rattle.lcm_cli.proofs.Why.{WhyIs, why_is}
use Rattle.lcm_cli.proofs.Put.{put_of}
use Rattle.command_words.proofs.Offers.{complete, puts_rose}

-- ---- a read that failed

turn_reads : {A : Type 0} (p : Plan A) (before : List (List ℕ)) (old seen : FilesSeen) (name : List ℕ)
    (index : ℕ) → IsTurn p before old name index seen → seen.failed_reads ≡ old.failed_reads
turn_reads (Made x) before old seen name index h = absurd h
turn_reads (Ends why) before old seen name index h = absurd h
turn_reads (Reads n k next) [] old seen name index h = ap (λ (s : FilesSeen). s.failed_reads) h.2
turn_reads (Reads n k next) (bytes ∷ before) old seen name index h =
    turn_reads (next bytes) before h.0 seen name index h.2 ∙ ap (λ (s : FilesSeen). s.failed_reads) h.1.quiet

unread_rose : {A : Type 0} (p : Plan A) (read : List (List ℕ)) (old new : FilesSeen) → IsUnread p read old new
    → Rose old.failed_reads new.failed_reads
unread_rose p read old new h =
    subst (λ n. Rose n new.failed_reads) (turn_reads p read old h.2 h.0 h.1 h.3) h.4.rose

-- ---- a trace ends by no write

if_none : (b : Bool) (s t : Traced) → s.end ≢ run_end.WriteFault → t.end ≢ run_end.WriteFault
    → (if b then s else t).end ≢ run_end.WriteFault
if_none true s t h k = h
if_none false s t h k = k

step_writes : (s : OStep) (limit : ℕ) (o : OverlaySeen) (more : OverlaySeen → Traced)
    → ((p : OverlaySeen) → (more p).end ≢ run_end.WriteFault) → (traced_by s o more).end ≢ run_end.WriteFault
step_writes (WentOn event) limit o more h = h (next_overlay o)
step_writes HaltedThere limit o more h = λ e. cc
step_writes FailedThere limit o more h = λ e. cc

traced_none : (limit n : ℕ) (o : OverlaySeen) → (traced_upto limit n o).end ≢ run_end.WriteFault
traced_none limit zero o = λ e. cc
traced_none limit (suc n) o = if_none (nat_lt limit (weight_with o)) (stopped o)
    (traced_by (answer_of o) o (traced_upto limit n)) (λ e. cc)
    (step_writes (answer_of o) limit o (traced_upto limit n) (traced_none limit n))

pub writes_none : (limit : ℕ) (o : OverlaySeen) → (trace_of limit o).end ≢ run_end.WriteFault
writes_none limit o = traced_none limit (limit + 1) o

-- ---- the cause of what is due

abbrev Caused : Option Command → List (List ℕ) → Outside → Outside → Status → Type 0
Caused asked read old new status.Done =
    RanTo asked read old.files new.files (λ step. step ≡ Halted)
    ⊎ (TracedTo asked read old.files new.files run_end.Halted
    ⊎ (PutsFile asked read old.files new.files
    ⊎ (TellsText asked read old.files new.files ⊎ MeantTo asked read old.files new.files IsAtRest)))
Caused asked read old new status.MachineFailed =
    RanTo asked read old.files new.files (λ step. (cause : FailCause) × (at : ℤ) × (step ≡ Failed cause at))
    ⊎ (TracedTo asked read old.files new.files run_end.Failed
    ⊎ MeantTo asked read old.files new.files (λ e. e ≡ end.Fail))
Caused asked read old new status.StepsUsed =
    RanTo asked read old.files new.files (λ step. step ≡ Went)
    ⊎ (TracedTo asked read old.files new.files run_end.Running
    ⊎ MeantTo asked read old.files new.files (λ e. e ≡ end.OutOfFuel))
Caused asked read old new status.Usage = asked ≡ None
Caused asked read old new status.ReadFault =
    Rose old.files.failed_reads new.files.failed_reads × IsUnread (plan_in asked) read old.files new.files
Caused asked read old new status.WriteFault =
    Rose old.sink.faults new.sink.faults
    ⊎ (Rose old.files.failed_puts new.files.failed_puts × (out_name asked ≡ Some new.files.last_failed_put))
Caused asked read old new status.NoMemory =
    OnlyGave old.files new.files × (new.sink ≡ old.sink) × (new.kept ≡ old.kept)
Caused asked read old new status.TooLong =
    (index : ℕ) × Wrote asked read (refusal.TooLong index) old new
    × IsLong (plan_in asked) read old.files index new.files
Caused asked read old new status.AsmRefused =
    (index : ℕ) × (f : AsmFault) × Wrote asked read (refusal.Assembly index f) old new
    × IsUnassembled asked (plan_in asked) read old.files index f new.files
Caused asked read old new status.SourceRefused =
    (index : ℕ) × (f : SourceFault) × Wrote asked read (refusal.Source index f) old new
    × (IsUncompiled asked (plan_in asked) read old.files index f new.files
    ⊎ IsUnmade asked (refusal.Source index f))
Caused asked read old new status.AuditRefused =
    (f : AuditFault) × Wrote asked read (refusal.Audit f) old new
    × IsUnaudited asked (plan_in asked) read old.files f new.files
Caused asked read old new status.FileRefused =
    ((index : ℕ) × (f : FileFault) × Wrote asked read (refusal.File index f) old new
    × IsUndecoded asked (plan_in asked) read old.files index f new.files)
    ⊎ (((f : ImageFault) × (image_status f ≡ status.FileRefused) × Wrote asked read (refusal.Image f) old new
    × IsUnloaded asked read old.files f new.files)
    ⊎ (((line : ℕ) × Wrote asked read (refusal.Feed line) old new
    × IsUnfed asked read old.files line new.files)
    ⊎ ((line : ℕ) × Wrote asked read (refusal.Script line) old new
    × IsUnscripted asked (plan_in asked) read old.files line new.files)))
Caused asked read old new status.RuleBroken =
    (r : RuleAt) × ((Wrote asked read (refusal.Rule r) old new × Breaks asked read old.files r new.files)
    ⊎ (Wrote asked read (refusal.Image (image.Rule r)) old new
    × IsUnloaded asked read old.files (image.Rule r) new.files))

run_caused : (asked : Option Command) (read : List (List ℕ)) (old new : Outside) (i : ImageSeen) (steps : ℕ)
    (telling : Telling)
    → CameOf asked read old.files (Ok (Run i steps telling)) new.files → (start : StartSeen)
    → IsStartOf i.parts i.stack start → (step : Step) → last_step (plain steps start.state) ≡ step
    → Caused asked read old new (end_status (end_of step))
run_caused asked read old new i steps telling c start s Went e = inl (i, steps, telling, c, start, s, e)
run_caused asked read old new i steps telling c start s Halted e = inl (i, steps, telling, c, start, s, e)
run_caused asked read old new i steps telling c start s (Failed cause at) e =
    inl (i, steps, telling, c, start, s, (cause, at, e))

trace_caused : (asked : Option Command) (read : List (List ℕ)) (old new : Outside) (i : ImageSeen) (steps : ℕ)
    → CameOf asked read old.files (Ok (Trace i steps)) new.files
    → (start : StartSeen) (overlay : OverlaySeen)
    → IsStartOf i.parts i.stack start → IsOverlayOf start overlay
    → (end : RunEnd) → (trace_of steps overlay).end ≡ end → Caused asked read old new (end_status end)
trace_caused asked read old new i steps c start overlay s o run_end.Halted e =
    inr (inl (i, steps, c, start, overlay, s, o, e))
trace_caused asked read old new i steps c start overlay s o run_end.Failed e =
    inr (inl (i, steps, c, start, overlay, s, o, e))
trace_caused asked read old new i steps c start overlay s o run_end.Running e =
    inr (inl (i, steps, c, start, overlay, s, o, e))
trace_caused asked read old new i steps c start overlay s o run_end.WriteFault e =
    absurd (writes_none steps overlay e)

mean_caused : (asked : Option Command) (read : List (List ℕ)) (old new : Outside) (s : Subject) (fuel : ℕ)
    → CameOf asked read old.files (Ok (Tell s fuel)) new.files → (e : End) → (told_of s fuel).end ≡ e
    → Caused asked read old new (meaning_status e)
mean_caused asked read old new s fuel c (end.Halt v) h = inr (inr (inr (inr (s, fuel, c, inl (v, h)))))
mean_caused asked read old new s fuel c end.Fail h = inr (inr (s, fuel, c, h))
mean_caused asked read old new s fuel c end.Waiting h = inr (inr (inr (inr (s, fuel, c, inr h))))
mean_caused asked read old new s fuel c end.OutOfFuel h = inr (inr (s, fuel, c, h))

image_caused : (asked : Option Command) (read : List (List ℕ)) (old new : Outside) (f : ImageFault)
    → IsUnloaded asked read old.files f new.files → Wrote asked read (refusal.Image f) old new
    → Caused asked read old new (image_status f)
image_caused asked read old new (image.Rule r) h w = (r, inr (w, h))
image_caused asked read old new image.Magic h w = inr (inl (image.Magic, refl, w, h))
image_caused asked read old new image.Version h w = inr (inl (image.Version, refl, w, h))
image_caused asked read old new (image.Short at) h w = inr (inl (image.Short at, refl, w, h))
image_caused asked read old new (image.BadField at) h w = inr (inl (image.BadField at, refl, w, h))
image_caused asked read old new (image.Trailing at) h w = inr (inl (image.Trailing at, refl, w, h))
image_caused asked read old new (image.File part f) h w = inr (inl (image.File part f, refl, w, h))
image_caused asked read old new image.NoMemory h w = inr (inl (image.NoMemory, refl, w, h))

err_caused : (asked : Option Command) (read : List (List ℕ)) (old new : Outside) (why : Refusal)
    → WhyIs asked (plan_in asked) read old.files why new.files → Wrote asked read why old new
    → Caused asked read old new (refusal_status why)
err_caused asked read old new refusal.Usage h w = h
err_caused asked read old new refusal.ReadFault h w =
    (unread_rose (plan_in asked) read old.files new.files h, h)
err_caused asked read old new (refusal.TooLong index) h w = (index, w, h)
err_caused asked read old new (refusal.Assembly index f) h w = (index, f, w, h)
err_caused asked read old new (refusal.Source index f) h w = (index, f, w, h)
err_caused asked read old new (refusal.File index f) h w = inl (index, f, w, h)
err_caused asked read old new (refusal.Rule r) h w = (r, inl (w, h))
err_caused asked read old new (refusal.Image f) h w = image_caused asked read old new f h w
err_caused asked read old new (refusal.Feed line) h w = inr (inr (inl (line, w, h)))
err_caused asked read old new (refusal.Script line) h w = inr (inr (inr (line, w, h)))
err_caused asked read old new (refusal.Audit f) h w = (f, w, h)

-- what is told at the end, where no file was put
unput_seen : (seen new : FilesSeen) (a b : Answer) → a ≡ b → b.file ≡ None → IsPut seen a.file new → new
    ≡ seen
unput_seen seen new a b e n p = subst (λ f. IsPut seen f new) (ap (λ (x : Answer). x.file) e ∙ n) p

due_caused : (asked : Option Command) → ((c : Command) → asked ≡ Some c → Fits c)
    → (read : List (List ℕ)) (old new : Outside) (seen : FilesSeen) (due : Result Task Refusal)
    (a : Answer) → CameOf asked read old.files due seen → IsAnswerOf due a → IsPut seen a.file new.files
    → Adds old.sink a.text new.sink → Caused asked read old new a.status
due_caused asked fits read old new seen (Ok (Run i steps telling)) a c x p w =
    let n : new.files ≡ seen = unput_seen seen new.files a (ran x.0 steps telling) x.2 refl p in
    subst (λ (b : Answer). Caused asked read old new b.status) (sym x.2)
    (run_caused asked read old new i steps telling (rw n c) x.0 x.1 (last_step (plain steps x.0.state)) refl)
due_caused asked fits read old new seen (Ok (Trace i steps)) a c x p w =
    let n : new.files ≡ seen = unput_seen seen new.files a (ran_overlay x.1 steps) x.4 refl p in
    subst (λ (b : Answer). Caused asked read old new b.status) (sym x.4)
    (trace_caused asked read old new i steps (rw n c) x.0 x.1 x.2 x.3 (trace_of steps x.1).end refl)
due_caused asked fits read old new seen (Ok (Put name d)) a c x p w =
    subst (λ (b : Answer). Caused asked read old new b.status) (sym x.1)
    (inr (inr (inl (name, d, seen, c, x.0, subst (λ (b : Answer). IsPut seen b.file new.files) x.1 p))))
due_caused asked fits read old new seen (Ok (Write text)) a c x p w =
    let n : new.files ≡ seen = unput_seen seen new.files a (writes status.Done text) x refl p in
    subst (λ (b : Answer). Caused asked read old new b.status) (sym x)
    (inr (inr (inr (inl (Write text, tt, rw n c)))))
due_caused asked fits read old new seen (Ok (Reach i)) a c x p w =
    let n : new.files ≡ seen = unput_seen seen new.files a (writes status.Done x.1) x.4 refl p in
    subst (λ (b : Answer). Caused asked read old new b.status) (sym x.4)
    (inr (inr (inr (inl (Reach i, tt, rw n c)))))
due_caused asked fits read old new seen (Ok (Debug i script)) a c x p w =
    let n : new.files ≡ seen =
    unput_seen seen new.files a (writes status.Done (debug_text x.0.state script)) x.2 refl p in
    subst (λ (b : Answer). Caused asked read old new b.status) (sym x.2)
    (inr (inr (inr (inl (Debug i script, tt, rw n c)))))
due_caused asked fits read old new seen (Ok (Tell s fuel)) a c x p w =
    let n : new.files ≡ seen = unput_seen seen new.files a (tells (told_of s fuel)) x refl p in
    subst (λ (b : Answer). Caused asked read old new b.status) (sym x)
    (mean_caused asked read old new s fuel (rw n c) (told_of s fuel).end refl)
due_caused asked fits read old new seen (Err why) a c x p w =
    let n : new.files ≡ seen = unput_seen seen new.files a (refused why) x refl p in
    subst (λ (b : Answer). Caused asked read old new b.status) (sym x)
    (err_caused asked read old new why (why_is asked fits read old.files new.files why (rw n c.0))
    (c.1, subst (λ (b : Answer). Adds old.sink b.text new.sink) x w))

-- ---- each cause

caused : (asked : Option Command) → ((c : Command) → asked ≡ Some c → Fits c)
    → (old : Outside) (ended : Status) (new : Outside)
    (a : Answers stk (plan_in asked) old ended new) → Caused asked (read_in a) old new ended
caused asked fits old ended new (nothing n) = subst (Caused asked [] old new) (sym n.status_is) (
  n.quiet,
  n.unwritten,
  n.kept_is,
)
caused asked fits old ended new (answer due a seen c x (whole g)) =
    let read = bytes_of (plan_in asked) old.files due seen c in
    subst (Caused asked read old new) (sym g.status_is)
    (due_caused asked fits read old new seen due a (came_of asked old.files due seen c) x g.put g.written)
caused asked fits old ended new (answer due a seen c x (unput f i w u k s)) =
    let read = bytes_of (plan_in asked) old.files due seen c in
    subst (Caused asked read old new) (sym s) (inr (
      puts_rose (plan_in asked) old.files seen due new.files.failed_puts c w.rose,
      (put_of asked read due a f old.files seen (came_of asked old.files due seen c) x i).3
          ∙ ap (λ n. Some n) (sym (ap (λ (s : FilesSeen). s.last_failed_put) w.stays)),
    ))
caused asked fits old ended new (answer due a seen c x (unwritten p f k s)) =
    subst (Caused asked (bytes_of (plan_in asked) old.files due seen c) old new) (sym s) (inl f.rose)

causes : (asked : Option Command) (read : List (List ℕ)) (old : Outside) (ended : Status) (new : Outside)
    → Caused asked read old new ended → Causes asked read old ended new
causes asked read old ended new c = record {
  done = λ e. subst (Caused asked read old new) e c;
  machine_failed = λ e. subst (Caused asked read old new) e c;
  steps_used = λ e. subst (Caused asked read old new) e c;
  usage = λ e. subst (Caused asked read old new) e c;
  read_fault = λ e. subst (Caused asked read old new) e c;
  write_fault = λ e. subst (Caused asked read old new) e c;
  no_memory = λ e. subst (Caused asked read old new) e c;
  too_long = λ e. subst (Caused asked read old new) e c;
  asm_refused = λ e. subst (Caused asked read old new) e c;
  file_refused = λ e. subst (Caused asked read old new) e c;
  rule_broken = λ e. subst (Caused asked read old new) e c;
  source_refused = λ e. subst (Caused asked read old new) e c;
  audit_refused = λ e. subst (Caused asked read old new) e c;
}

pub promised : (asked : Option Command) → ((c : Command) → asked ≡ Some c → Fits c)
    → (old : Outside) (ended : Status) (new : Outside)
    → Answers stk (plan_in asked) old ended new → Promised asked old ended new
promised asked fits old ended new a = record {
  answers = a;
  causes = causes asked (read_in a) old ended new (caused asked fits old ended new a);
  complete = complete stk (plan_in asked) old ended new a;
}

-- ---- words that are no command

due_usage : (asked : Option Command) (old new : FilesSeen) (due : Result Task Refusal) → asked ≡ None
    → Comes (plan_in asked) old due new → due ≡ Err refusal.Usage
due_usage None old new due f c = c.0
due_usage (Some command) old new due f c = absurd (cc)

pub usage : (asked : Option Command) (old : Outside) (ended : Status) (new : Outside)
    → Answers stk (plan_in asked) old ended new → asked ≡ None
    → (ended ≡ status.Usage) ⊎ ((ended ≡ status.WriteFault) ⊎ (ended ≡ status.NoMemory))
usage asked old ended new (nothing n) f = inr (inr n.status_is)
usage asked old ended new (answer due a seen c x (unput g i w u k s)) f = inr (inl s)
usage asked old ended new (answer due a seen c x (unwritten p w k s)) f = inr (inl s)
usage asked old ended new (answer due a seen c x (whole g)) f =
    let is : a ≡ refused refusal.Usage = subst (λ d. IsAnswerOf d a)
    (due_usage asked old.files seen due f c) x in
    inl (g.status_is ∙ ap (λ (b : Answer). b.status) is)
