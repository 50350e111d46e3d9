-- The causes: what holds of a call wherever it ends with a status.
use Rattle.std.specs.Prelude.{◌≡◌, ◌⊎◌, ℕ, ◌+◌, ℤ, List, [], ◌∷◌, ◌++◌, map, slice_get, Option, Some, None}
use Rattle.std.specs.Prelude.{Result, Ok, Err}
use Rattle.outside_io.specs.Counts.{Rose}
use Rattle.outside_io.specs.FilesSeen.{FilesSeen, Puts, KeepsOthers}
use Rattle.outside_io.specs.SinkSeen.{Adds, FailsToWrite}
use Rattle.outside_io.specs.Whole.{GivesWhole as ComesWhole, IsTooLong, Faults, OnlyGave}
use Rattle.command_words.specs.declared.part.Ending.{Ending}
use Rattle.command_words.specs.declared.part.Ending.TheVariants.{Source, Assembler, Component}
use Rattle.command_words.specs.declared.part.PartWord.{PartWord}
use Rattle.command_words.specs.declared.command.Linked.{Linked}
use Rattle.command_words.specs.declared.command.Linked.TheVariants as what
use Rattle.command_words.specs.declared.command.LinkDeed.{LinkDeed}
use Rattle.command_words.specs.declared.command.LinkDeed.TheVariants as link_deed
use Rattle.command_words.specs.declared.command.ComponentDeed.{ComponentDeed}
use Rattle.command_words.specs.declared.command.ComponentDeed.TheVariants as component_deed
use Rattle.command_words.specs.declared.command.Command.{Command}
use Rattle.command_words.specs.declared.command.Command.TheVariants.{Links, Takes, Checks, Mean, Generate}
use Rattle.command_words.specs.declared.command.Command.TheVariants.{Debug, Audit, Erase}
use Rattle.asm_fields.specs.declared.fault.AsmFault.{AsmFault}
use Rattle.assembler.specs.Assembled.{assembled}
use Rattle.component_file.specs.declared.fault.FileFault.{FileFault}
use Rattle.component_file.specs.declared.component.ComponentFields.{ComponentFields}
use Rattle.component_file.specs.Reading.{decoded}
use Rattle.component_check.specs.declared.rule.Broken.{Broken}
use Rattle.linked_starts.specs.declared.fault.RuleAt.{RuleAt}
use Rattle.linked_starts.specs.Parts.{PartSeen}
use Rattle.image_loader.specs.declared.fault.ImageFault.{ImageFault}
use Rattle.image_loader.specs.declared.fault.ImageFault.TheVariants as image
use Rattle.authority_report.specs.declared.reach.Reach.{Reach as Reached}
use Rattle.authority_report.specs.Report.{Reports}
use Rattle.authority_report.specs.Entered.{BoundsRuns}
use Rattle.authority_report.specs.Influence.{BoundsInfluence}
use Rattle.authority_report.specs.Text.{IsReachText}
use Rattle.debug_script.specs.declared.command.DebugCommand.{DebugCommand as Line}
use Rattle.debug_script.specs.declared.fault.ScriptFault.{ScriptFault}
use Rattle.debug_script.specs.Script.{scripted}
use Rattle.run_audit.specs.declared.fault.AuditFault.{AuditFault}
use Rattle.run_audit.specs.Traces.{IsTrace, HasFault}
use Rattle.debug_tool.specs.Replies.{debug_text, after_commands}
use Rattle.step_back.specs.declared.debugger.TheConstants.{MOST_DEPTH}
use Rattle.step_back.specs.Debug.{debugging_from}
use Rattle.step_back.specs.Calls.{Remembers}
use Rattle.link_tool.specs.Generated.{load_of, load_steps}
use Rattle.image_loader.specs.Image.{ImageSeen}
use Rattle.image_loader.specs.Reading.{image_of}
use Rattle.linked_starts.specs.Started.{StartSeen}
use Rattle.linked_starts.specs.LinkedStarts.{IsStartOf}
use Rattle.overlay_machine.specs.Seen.{OverlaySeen, IsOverlayOf}
use Rattle.run_lines.specs.declared.run.RunEnd.{RunEnd}
use Rattle.run_lines.specs.declared.run.RunEnd.TheVariants as run_end
use Rattle.run_lines.specs.Runs.{written, run_text, end_of}
use Rattle.headline.specs.OpenCalls.{CallsAreKept}
use Rattle.headline.specs.Secrecy.{FramesAreSecret}
use Rattle.confinement.specs.Confined.{StartIsConfined}
use Rattle.headline.specs.Headline.{Headline}
use Rattle.run_lines.specs.Layout.{layout}
use Rattle.run_lines.specs.Traces.{trace_of, trace_text}
use Rattle.lcm_machine.specs.declared.FailCause.{FailCause}
use Rattle.lcm_machine.specs.declared.Step.{Step}
use Rattle.lcm_machine.specs.declared.Step.TheVariants.{Went, Halted, Failed}
use Rattle.lcm_machine.specs.Run.{answer as last_step, plain}
use Rattle.proc_language.specs.declared.module.ModuleFields.{ModuleFields}
use Rattle.proc_program.specs.Lower.{part_of}
use Rattle.proc_sources.specs.declared.fault.SourceFault.{SourceFault}
use Rattle.proc_sources.specs.Sources.{module_in, sourced}
use Rattle.proc_language.specs.declared.dialect.Dialect.{Dialect}
use Rattle.source_events.specs.declared.Item.{Item}
use Rattle.source_events.specs.declared.End.{End}
use Rattle.source_events.specs.declared.End.TheVariants as meaning_end
use Rattle.proc_semantics.specs.Meaning.{meaning}
use Rattle.module_rules.specs.Rules.{stack_base_of, ruled}
use Rattle.line_fields.specs.declared.fault.FeedFault.{FeedFault}
use Rattle.line_fields.specs.Feed.{fed}
use Rattle.proc_meaning.specs.Text.{told_text}
use Rattle.meaning_tool.specs.Subjects.{Subject, told_of, module_at, feed_line}
use Rattle.file_plans.specs.declared.TheConstants.{LONGEST_FILE}
use Rattle.file_plans.specs.declared.refusal.Refusal.{Refusal}
use Rattle.file_plans.specs.declared.refusal.Refusal.TheVariants as refusal
use Rattle.refusal_lines.specs.declared.status.Status.{Status}
use Rattle.refusal_lines.specs.declared.status.Status.TheVariants.{Done, MachineFailed, StepsUsed, Usage}
use Rattle.refusal_lines.specs.declared.status.Status.TheVariants.{ReadFault, WriteFault, NoMemory, TooLong}
use Rattle.refusal_lines.specs.declared.status.Status.TheVariants.{AsmRefused, SourceRefused, FileRefused}
use Rattle.refusal_lines.specs.declared.status.Status.TheVariants.{RuleBroken, AuditRefused}
use Rattle.refusal_lines.specs.Refusals.{refusal_text, audit_text, image_status}
use Rattle.file_plans.specs.Plans.{Plan, Reads, Ends, Made, each_at}
use Rattle.linked_starts.specs.Accepted.{accepted}
use Rattle.command_words.specs.Part.{is_trusted_mark}
use Rattle.link_tool.specs.Parts.{linked, loaded, component_at, part_at}
use Rattle.ready_tasks.specs.Commands.{Content, spelling_of, IsReadAgain, Telling, Run}
use Rattle.ready_tasks.specs.Commands.{Trace, Put, Write, Task}
use Rattle.ready_tasks.specs.Commands.{Reach, Tell, ok_text, link_task, plan_of, plan_in}
use Rattle.ready_tasks.specs.Commands as task
use Rattle.link_tool.specs.Loads.{load_plan}
use Rattle.lcm_cli.specs.Totals.{totals_text}
use Rattle.ready_tasks.specs.Debugs.{script_line}
use Rattle.link_tool.specs.Linked.{linked_plan}
use Rattle.lcm_cli.specs.Bytes.{ComesOf, ComesBy}
use Rattle.command_words.specs.Answers.{Answers, IsComplete, Stay}
use Rattle.lcm_cli.specs.Answers.{Outside, read_in, end_status, meaning_status, stk}

-- ---- files

-- the turn of a file came, each before it having come whole, with these bytes; `seen` is what the files tell
-- then
abbrev pub IsTurn : {A : Type 0} → Plan A → List (List ℕ) → FilesSeen → List ℕ → ℕ → FilesSeen → Type 0
IsTurn (Made x) before old name index seen = ⊥
IsTurn (Ends why) before old name index seen = ⊥
IsTurn (Reads n p next) [] old name index seen = (n ≡ name) × (p ≡ index) × (seen ≡ old)
IsTurn (Reads n p next) (bytes ∷ before) old name index seen =
    (mid : FilesSeen) × ComesWhole old n LONGEST_FILE bytes mid
    × IsTurn (next bytes) before mid name index seen

-- a read failed of the file whose turn it was after those that were read, and it is the last failed one
abbrev pub IsUnread : {A : Type 0} → Plan A → List (List ℕ) → FilesSeen → FilesSeen → Type 0
IsUnread plan read old new =
    (name : List ℕ) × (index : ℕ) × (seen : FilesSeen) × IsTurn plan read old name index seen
    × Faults seen name LONGEST_FILE new

-- the file of this index, whose turn it was after those that were read, is too long
abbrev pub IsLong : {A : Type 0} → Plan A → List (List ℕ) → FilesSeen → ℕ → FilesSeen → Type 0
IsLong plan read old index new =
    (name : List ℕ) × (seen : FilesSeen) × IsTurn plan read old name index seen
    × IsTooLong seen name LONGEST_FILE new

-- the part words of a command
abbrev pub linked_words : Linked → List PartWord
linked_words (what.Parts words size) = words
linked_words (what.Image name) = []

abbrev pub part_words : Option Command → List PartWord
part_words (Some (Links l deed)) = linked_words l
part_words (Some (Takes word deed)) = word ∷ []
part_words (Some (Checks word)) = word ∷ []
part_words (Some (Mean words size fuel feed)) = words
part_words (Some (Debug l script)) = linked_words l
part_words (Some (Erase word out)) = word ∷ []
part_words _ = []

-- these bytes came last of those that were read, after these
abbrev pub AreLast : List (List ℕ) → List (List ℕ) → List ℕ → Type 0
AreLast read before bytes = read ≡ before ++ bytes ∷ []

-- the file of this name, whose turn it was, came last, whole, and its bytes are such
abbrev pub Holds : {A : Type 0} → Plan A → List (List ℕ) → FilesSeen → List ℕ → ℕ → FilesSeen
    → (List ℕ → Type 0) → Type 0
Holds plan read old name index new P =
    (before : List (List ℕ)) × (seen : FilesSeen) × IsTurn plan before old name index seen
    × (bytes : List ℕ) × AreLast read before bytes × ComesWhole seen name LONGEST_FILE bytes new × P bytes

-- the same of the file of the command's part word of this index, which has this ending
abbrev pub HoldsPart : {A : Type 0} → Option Command → Plan A → List (List ℕ) → FilesSeen → ℕ → Ending
    → FilesSeen → (List ℕ → Type 0) → Type 0
HoldsPart asked plan read old index ending new P =
    (word : PartWord) × (slice_get (part_words asked) index ≡ Some word) × (word.ending ≡ ending)
    × Holds plan read old word.name index new P

-- the bytes of a part's component file spell no component, with this first fault
abbrev pub IsUndecoded : {A : Type 0} → Option Command → Plan A → List (List ℕ) → FilesSeen → ℕ → FileFault
    → FilesSeen → Type 0
IsUndecoded asked plan read old index f new =
    HoldsPart asked plan read old index Component new (λ bytes. decoded bytes ≡ Err f)

-- a part's assembler text spells no component, with this first fault
abbrev pub IsUnassembled : {A : Type 0} → Option Command → Plan A → List (List ℕ) → FilesSeen → ℕ → AsmFault
    → FilesSeen → Type 0
IsUnassembled asked plan read old index f new =
    HoldsPart asked plan read old index Assembler new (λ text. assembled text ≡ Err f)

-- a text of this language has not what the command asks of a source, with this first fault: by `mean` and
-- `erase` a module, else a component
abbrev pub IsUnsourced : Option Command → Dialect → List ℕ → SourceFault → Type 0
IsUnsourced (Some (Mean words size fuel feed)) d text f = module_in d text ≡ Err f
IsUnsourced (Some (Erase word out)) d text f = module_in d text ≡ Err f
IsUnsourced _ d text f = sourced d text ≡ Err f

-- a part's source has not, in its language, what the command asks of it
abbrev pub IsUncompiled : {A : Type 0} → Option Command → Plan A → List (List ℕ) → FilesSeen → ℕ
    → SourceFault → FilesSeen → Type 0
IsUncompiled asked plan read old index f new =
    (d : Dialect) × HoldsPart asked plan read old index (Source d) new (λ text. IsUnsourced asked d text f)

-- the text of the command's script is none, and this is its first bad line
abbrev pub IsUnscripted : {A : Type 0} → Option Command → Plan A → List (List ℕ) → FilesSeen → ℕ → FilesSeen
    → Type 0
IsUnscripted asked plan read old line new =
    (l : Linked) × (script : List ℕ) × (asked ≡ Some (Debug l script)) × (index : ℕ)
    × Holds plan read old script index new
    (λ text. (f : ScriptFault) × (scripted text ≡ Err f) × (line ≡ script_line f))

-- the text that the command audits is no trace of a run, and this is what its first line that spoils it does
abbrev pub IsUnaudited : {A : Type 0} → Option Command → Plan A → List (List ℕ) → FilesSeen → AuditFault
    → FilesSeen → Type 0
IsUnaudited asked plan read old f new =
    (name : List ℕ) × (asked ≡ Some (Audit name)) × Holds plan read old name 0 new (λ text. HasFault text f)

-- the name of an image word
abbrev pub image_word : Option Command → Option (List ℕ)
image_word (Some (Links (what.Image name) deed)) = Some name
image_word (Some (Debug (what.Image name) script)) = Some name
image_word _ = None

-- the file of the image word came whole, it alone, and its bytes are no image whose parts link, with this
-- first fault
abbrev pub IsUnloaded : Option Command → List (List ℕ) → FilesSeen → ImageFault → FilesSeen → Type 0
IsUnloaded asked read old f new =
    (name : List ℕ) × (image_word asked ≡ Some name) × (bytes : List ℕ) × (read ≡ bytes ∷ [])
    × ComesWhole old name LONGEST_FILE bytes new × (loaded bytes ≡ Err f)

-- the modules of the words came, and then the text of the feed's file, of which this line is the first that
-- has not the form that it must have
abbrev pub IsUnfed : Option Command → List (List ℕ) → FilesSeen → ℕ → FilesSeen → Type 0
IsUnfed (Some (Mean words size fuel feed)) read old line new =
    (modules : List ModuleFields) × (before : List (List ℕ)) × (mid : FilesSeen)
    × ComesOf (each_at module_at 0 words) before old (Ok modules) mid
    × (text : List ℕ) × AreLast read before text × ComesWhole mid feed LONGEST_FILE text new
    × (f : FeedFault) × (fed (stack_base_of modules) text ≡ Err f) × (line ≡ feed_line f)
IsUnfed _ read old line new = ⊥

-- ---- rules

-- the word's part breaks a rule by itself
abbrev pub PartBreaks : List (List ℕ) → FilesSeen → ℕ → PartWord → RuleAt → FilesSeen → Type 0
PartBreaks read old index word r new =
    (c : ComponentFields) × ComesOf (component_at index word) read old (Ok c) new
    × (b : Broken) × (accepted (record { component = c; trusted = is_trusted_mark word.mark }) ≡ Err b)
    × (r ≡ record { rule = b.rule; part = index; place = b.place })

-- the first words made parts, and the next one's part breaks a rule by itself
abbrev pub SomeBreaks : List (List ℕ) → FilesSeen → ℕ → List PartWord → RuleAt → FilesSeen → Type 0
SomeBreaks read old index [] r new = ⊥
SomeBreaks read old index (word ∷ words) r new =
    PartBreaks read old index word r new
    ⊎ ((p : PartSeen) × (mid : FilesSeen) × (first : List (List ℕ)) × (others : List (List ℕ))
    × (read ≡ first ++ others) × ComesOf (part_at index word) first old (Ok p) mid
    × SomeBreaks others mid (index + 1) words r new)

-- all words made parts, which together break a rule
abbrev pub AllBreak : List (List ℕ) → FilesSeen → List PartWord → ℕ → RuleAt → FilesSeen → Type 0
AllBreak read old words size r new =
    (parts : List PartSeen) × ComesOf (each_at part_at 0 words) read old (Ok parts) new
    × (linked parts size ≡ Err r)

-- a part breaks a rule by itself, or all of them together do
abbrev pub LinkBreaks : List (List ℕ) → FilesSeen → List PartWord → ℕ → RuleAt → FilesSeen → Type 0
LinkBreaks read old words size r new =
    SomeBreaks read old 0 words r new ⊎ AllBreak read old words size r new

-- all words made modules, which together break a rule of a meaning
abbrev pub ModulesBreak : List (List ℕ) → FilesSeen → List PartWord → ℕ → RuleAt → FilesSeen → Type 0
ModulesBreak read old words size r new =
    (modules : List ModuleFields) × ComesOf (each_at module_at 0 words) read old (Ok modules) new
    × (ruled modules size ≡ Err r)

-- the load of the words' seed, which no file holds, is refused so
abbrev pub IsUnmade : Option Command → Refusal → Type 0
IsUnmade (Some (Generate seed)) why = load_plan (load_of seed) ≡ Ends why
IsUnmade _ why = ⊥

-- a rule that the command asks for is broken by the parts of its words, or by those of its load
abbrev pub Breaks : Option Command → List (List ℕ) → FilesSeen → RuleAt → FilesSeen → Type 0
Breaks (Some (Links (what.Parts words size) deed)) read old r new = LinkBreaks read old words size r new
Breaks (Some (Debug (what.Parts words size) script)) read old r new = LinkBreaks read old words size r new
Breaks (Some (Checks word)) read old r new = PartBreaks read old 0 word r new
Breaks (Some (Mean words size fuel feed)) read old r new = ModulesBreak read old words size r new
Breaks (Some (Generate seed)) read old r new = IsUnmade (Some (Generate seed)) (refusal.Rule r)
Breaks _ read old r new = ⊥

-- ---- runs

-- what came of the command's plan, of these bytes
abbrev pub CameOf : Option Command → List (List ℕ) → FilesSeen → Result Task Refusal → FilesSeen → Type 0
CameOf asked read old due new = ComesOf (plan_in asked) read old due new × ComesBy (plan_in asked) read due

-- the image came, or the load was made, and the plain run of its start came to this
abbrev pub RanTo : Option Command → List (List ℕ) → FilesSeen → FilesSeen → (Step → Type 0) → Type 0
RanTo asked read old new P =
    (i : ImageSeen) × (steps : ℕ) × (telling : Telling)
    × CameOf asked read old (Ok (Run i steps telling)) new
    × (start : StartSeen) × IsStartOf i.parts i.stack start × P (last_step (plain steps start.state))

-- the image came, and the run of its start's overlay came to this
abbrev pub TracedTo : Option Command → List (List ℕ) → FilesSeen → FilesSeen → RunEnd → Type 0
TracedTo asked read old new end =
    (i : ImageSeen) × (steps : ℕ) × CameOf asked read old (Ok (Trace i steps)) new
    × (start : StartSeen) × (overlay : OverlaySeen) × IsStartOf i.parts i.stack start
    × IsOverlayOf start overlay × ((trace_of steps overlay).end ≡ end)

-- ---- meanings

-- the modules and the feed came, and their meaning ended so
abbrev pub MeantTo : Option Command → List (List ℕ) → FilesSeen → FilesSeen → (End → Type 0) → Type 0
MeantTo asked read old new P =
    (s : Subject) × (fuel : ℕ) × CameOf asked read old (Ok (Tell s fuel)) new × P (told_of s fuel).end

-- it halts, or waits
abbrev pub IsAtRest : End → Type 0
IsAtRest e = ((v : ℤ) × (e ≡ meaning_end.Halt v)) ⊎ (e ≡ meaning_end.Waiting)

-- ---- files that are put, and texts that are written

-- the component, the image or the module that the words ask for came, and its file was put under the name of
-- `--out`, whose bytes give just this component or image again, or a module alike
abbrev pub PutsFile : Option Command → List (List ℕ) → FilesSeen → FilesSeen → Type 0
PutsFile asked read old new =
    (name : List ℕ) × (content : Content) × (seen : FilesSeen)
    × CameOf asked read old (Ok (Put name content)) seen × IsReadAgain content
    × Puts seen new name (spelling_of content)

-- a task that asks for a text to be written: its own, of what parts can reach, or of a debugger's replies
abbrev pub AsksForText : Task → Type 0
AsksForText (Write text) = Unit {0}
AsksForText (Reach i) = Unit {0}
AsksForText (task.Debug i script) = Unit {0}
AsksForText _ = ⊥

-- what is read came, and a text was to be written, and nothing else to be done
abbrev pub TellsText : Option Command → List (List ℕ) → FilesSeen → FilesSeen → Type 0
TellsText asked read old new = (t : Task) × AsksForText t × CameOf asked read old (Ok t) new

-- the name of `--out`
abbrev pub link_out : LinkDeed → Option (List ℕ)
link_out (link_deed.Store out) = Some out
link_out _ = None

abbrev pub component_out : ComponentDeed → Option (List ℕ)
component_out (component_deed.Put out) = Some out
component_out component_deed.Show = None

abbrev pub out_name : Option Command → Option (List ℕ)
out_name (Some (Links l deed)) = link_out deed
out_name (Some (Takes word deed)) = component_out deed
out_name (Some (Erase word out)) = Some out
out_name _ = None

-- the plan ends so of these bytes, and the refusal's line was written
abbrev pub Wrote : Option Command → List (List ℕ) → Refusal → Outside → Outside → Type 0
Wrote asked read why old new =
    ComesBy (plan_in asked) read (Err why) × Adds old.sink (refusal_text why) new.sink

-- ---- the causes, a law for each status

pub record Causes (asked : Option Command) (read : List (List ℕ)) (old : Outside) (status : Status)
    (new : Outside) : Type 0 where
  -- the run halted, the file was put, the text was to be written, or the meaning halts or waits
  pub done : status ≡ Done → RanTo asked read old.files new.files (λ step. step ≡ Halted)
      ⊎ (TracedTo asked read old.files new.files run_end.Halted ⊎ (PutsFile asked read old.files new.files
      ⊎ (TellsText asked read old.files new.files ⊎ MeantTo asked read old.files new.files IsAtRest)))
  pub machine_failed : status ≡ MachineFailed → RanTo asked read old.files new.files
      (λ step. (cause : FailCause) × (at : ℤ) × (step ≡ Failed cause at))
      ⊎ (TracedTo asked read old.files new.files run_end.Failed
      ⊎ MeantTo asked read old.files new.files (λ e. e ≡ meaning_end.Fail))
  pub steps_used : status ≡ StepsUsed → RanTo asked read old.files new.files (λ step. step ≡ Went)
      ⊎ (TracedTo asked read old.files new.files run_end.Running
      ⊎ MeantTo asked read old.files new.files (λ e. e ≡ meaning_end.OutOfFuel))
  pub usage : status ≡ Usage → asked ≡ None
  pub read_fault : status ≡ ReadFault
      → Rose old.files.failed_reads new.files.failed_reads
      × IsUnread (plan_in asked) read old.files new.files
  -- a write failed, or the put of the file of `--out`
  pub write_fault : status ≡ WriteFault → Rose old.sink.faults new.sink.faults
      ⊎ (Rose old.files.failed_puts new.files.failed_puts × (out_name asked ≡ Some new.files.last_failed_put))
  pub no_memory : status ≡ NoMemory
      → OnlyGave old.files new.files × (new.sink ≡ old.sink) × (new.kept ≡ old.kept)
  pub too_long : status ≡ TooLong → (index : ℕ) × Wrote asked read (refusal.TooLong index) old new
      × IsLong (plan_in asked) read old.files index new.files
  pub asm_refused : status ≡ AsmRefused → (index : ℕ) × (f : AsmFault)
      × Wrote asked read (refusal.Assembly index f) old new
      × IsUnassembled asked (plan_in asked) read old.files index f new.files
  -- the bytes of a part's file are no component, those of an image's file no image, or the text of a feed's
  -- file no feed
  pub file_refused : status ≡ FileRefused → ((index : ℕ) × (f : FileFault)
      × Wrote asked read (refusal.File index f) old new
      × IsUndecoded asked (plan_in asked) read old.files index f new.files)
      ⊎ (((f : ImageFault) × (image_status f ≡ FileRefused) × Wrote asked read (refusal.Image f) old new
      × IsUnloaded asked read old.files f new.files)
      ⊎ (((line : ℕ) × Wrote asked read (refusal.Feed line) old new
      × IsUnfed asked read old.files line new.files)
      ⊎ ((line : ℕ) × Wrote asked read (refusal.Script line) old new
      × IsUnscripted asked (plan_in asked) read old.files line new.files)))
  -- parts of words break a rule, or those of an image do
  pub rule_broken : status ≡ RuleBroken → (r : RuleAt)
      × ((Wrote asked read (refusal.Rule r) old new × Breaks asked read old.files r new.files)
      ⊎ (Wrote asked read (refusal.Image (image.Rule r)) old new
      × IsUnloaded asked read old.files (image.Rule r) new.files))
  pub source_refused : status ≡ SourceRefused → (index : ℕ) × (f : SourceFault)
      × Wrote asked read (refusal.Source index f) old new
      × (IsUncompiled asked (plan_in asked) read old.files index f new.files
      ⊎ IsUnmade asked (refusal.Source index f))
  pub audit_refused : status ≡ AuditRefused → (f : AuditFault) × Wrote asked read (refusal.Audit f) old new
      × IsUnaudited asked (plan_in asked) read old.files f new.files

-- ---- files that stay

-- all but the file of `--out`, where there is one
abbrev pub OthersStay : Option Command → FilesSeen → FilesSeen → Type 0
OthersStay asked old new = Stay old new ⊎ ((out : List ℕ) × (out_name asked ≡ Some out)
    × KeepsOthers old new out)

-- a file is put where the status is Done or WriteFault, and nowhere else
abbrev pub StayAt : Option Command → FilesSeen → Status → FilesSeen → Type 0
StayAt asked old Done new = OthersStay asked old new
StayAt asked old WriteFault new = OthersStay asked old new
StayAt asked old status new = Stay old new

-- where no put failed, all files stay, or that of `--out` has the bytes of the component, the image or
-- the module
abbrev pub PutsWhole : Option Command → List (List ℕ) → FilesSeen → FilesSeen → Type 0
PutsWhole asked read old new =
    ¬ (Rose old.failed_puts new.failed_puts) → Stay old new ⊎ PutsFile asked read old new

-- ---- what is promised

-- the statuses of a run that was made
abbrev pub IsRunStatus : Status → Type 0
IsRunStatus Done = Unit {0}
IsRunStatus MachineFailed = Unit {0}
IsRunStatus StepsUsed = Unit {0}
IsRunStatus _ = ⊥

-- the parts came that are linked, of these bytes, with the size of their stack: those of the words, or those
-- that are read of the image's bytes
abbrev pub LinkedCame : Linked → List (List ℕ) → FilesSeen → List PartSeen → ℕ → FilesSeen → Type 0
LinkedCame (what.Parts words stack) read old parts size new =
    ComesOf (each_at part_at 0 words) read old (Ok parts) new × (size ≡ stack)
LinkedCame (what.Image name) read old parts size new =
    (bytes : List ℕ) × (read ≡ bytes ∷ []) × ComesWhole old name LONGEST_FILE bytes new
    × (image_of bytes ≡ Ok (record { stack = size; parts = parts }))

-- the words or the image made parts of these bytes, which keep the rules, and this is the start that they
-- link to. Code outside is confined: it touches nothing of a trusted part, and enters one at an export or a
-- return point alone. Calls are kept: each ret line closes the newest open call, whose range only its own
-- return uses till then. Their frames are secret: whatever is in them, the machine runs the same till then.
-- And the start has the headline: the plain run agrees with the run of its overlay, its calls and returns are
-- bracketed, and its frames are private.
pub record Started (l : Linked) (read : List (List ℕ)) (old new : FilesSeen) : Type 0 where
  pub parts : List PartSeen
  pub size : ℕ
  pub came : LinkedCame l read old parts size new
  pub keep : linked parts size ≡ Ok tt
  pub start : StartSeen
  pub linked_start : IsStartOf parts size start
  pub confined : StartIsConfined parts size start
  pub calls : CallsAreKept start
  pub secret : FramesAreSecret start
  pub headline : Headline start

-- and its parts are what the plan makes of these bytes
abbrev pub IsMadeOf : {l : Linked} {read : List (List ℕ)} {old new : FilesSeen} → LinkDeed
    → Started l read old new → Type 0
IsMadeOf {l} {read} deed from =
    ComesBy (plan_of (Links l deed)) read
    (Ok (link_task deed (record { stack = from.size; parts = from.parts })))

-- the text of the plain run from a start: its lines and its end line
abbrev pub text_of_run : StartSeen → ℕ → List ℕ
text_of_run start steps = run_text (layout start) start.state steps

-- the plain run of the start gave the status, the text and the machine. By itself its text is seen to be a
-- trace, in which calls and returns are bracketed
pub record RunGiven (l : Linked) (steps : ℕ) (read : List (List ℕ)) (old : Outside) (status : Status)
    (new : Outside) : Type 0 where
  pub from : Started l read old.files new.files
  pub made : IsMadeOf (link_deed.Run steps) from
  pub status_is : status ≡ end_status (end_of (last_step (plain steps from.start.state)))
  pub written : Adds old.sink (text_of_run from.start steps) new.sink
  pub audited : IsTrace (text_of_run from.start steps)
  pub kept_is : new.kept ≡ Some (plain steps from.start.state)

-- the load of a seed links, and the plain run of its start gave the status, the text and the machine: its
-- totals where it halted, and else its end line. Of the start code outside is confined, calls are kept,
-- frames are secret, and it has the headline. No file is read.
pub record LoadGiven (seed : ℕ) (old : Outside) (status : Status) (new : Outside) : Type 0 where
  pub image : ImageSeen
  pub made : load_plan (load_of seed) ≡ Made image
  pub start : StartSeen
  pub linked_start : IsStartOf image.parts image.stack start
  pub confined : StartIsConfined image.parts image.stack start
  pub calls : CallsAreKept start
  pub secret : FramesAreSecret start
  pub headline : Headline start
  pub status_is : status ≡ end_status (end_of (last_step (plain load_steps start.state)))
  pub written : Adds old.sink (totals_text (load_of seed) start load_steps) new.sink
  pub kept_is : new.kept ≡ Some (plain load_steps start.state)
  pub files_stay : new.files ≡ old.files

-- what links came and keeps the rules, and the text of what the parts of its start can reach was written.
-- From each of its entries a part runs within its report, and what the cells hold that it says can't be read
-- doesn't influence it, up to and with its first jump under a seal that isn't its own.
pub record ReachGiven (l : Linked) (read : List (List ℕ)) (old : Outside) (status : Status) (new : Outside)
    : Type 0 where
  pub from : Started l read old.files new.files
  pub made : IsMadeOf link_deed.Reach from
  pub text : List ℕ
  pub text_is : IsReachText from.start text
  pub bound : (part : ℕ) (r : Reached) → Reports from.start part r → BoundsRuns from.start part r
  pub influence : (part : ℕ) (r : Reached) → Reports from.start part r → BoundsInfluence from.start part r
  pub status_is : status ≡ Done
  pub written : Adds old.sink text new.sink
  pub kept_is : new.kept ≡ old.kept

-- what links came and keeps the rules, and then the script's file; the replies of a debugger to its commands,
-- from the start on, were written. Whatever they are, the debugger was in a state of the plain run, and
-- remembers the states before it.
pub record DebugGiven (l : Linked) (script : List ℕ) (read : List (List ℕ)) (old : Outside) (status : Status)
    (new : Outside) : Type 0 where
  pub before : List (List ℕ)
  pub mid : FilesSeen
  pub from : Started l before old.files mid
  pub text : List ℕ
  pub read_is : AreLast read before text
  pub script_came : ComesWhole mid script LONGEST_FILE text new.files
  pub lines : List Line
  pub is_script : scripted text ≡ Ok lines
  pub made : ComesBy (plan_of (Debug l script)) read
      (Ok (task.Debug (record { stack = from.size; parts = from.parts }) lines))
  pub status_is : status ≡ Done
  pub written : Adds old.sink (debug_text from.start.state lines) new.sink
  pub kept_is : new.kept ≡ old.kept
  pub remembers : Remembers from.start.state
      (after_commands lines (debugging_from from.start.state MOST_DEPTH))

-- the run of the start's overlay gave the status and the text, and no machine. Its lines are those that a
-- plain run of as many instructions writes.
pub record TraceGiven (l : Linked) (steps : ℕ) (read : List (List ℕ)) (old : Outside) (status : Status)
    (new : Outside) : Type 0 where
  pub from : Started l read old.files new.files
  pub made : IsMadeOf (link_deed.Trace steps) from
  pub overlay : OverlaySeen
  pub overlay_is : IsOverlayOf from.start overlay
  pub lines_are : (trace_of steps overlay).lines ≡ written from.start steps
  pub status_is : status ≡ end_status (trace_of steps overlay).end
  pub written : Adds old.sink (trace_text steps overlay) new.sink
  pub kept_is : new.kept ≡ old.kept

-- the modules of the words came and keep the rules of a meaning, the feed's file has a feed, and what their
-- meaning tells gave the status and the text, and no machine
pub record MeaningGiven (words : List PartWord) (size fuel : ℕ) (feed : List ℕ) (read : List (List ℕ))
    (old : Outside) (status : Status) (new : Outside) : Type 0 where
  pub modules : List ModuleFields
  pub before : List (List ℕ)
  pub mid : FilesSeen
  pub came : ComesOf (each_at module_at 0 words) before old.files (Ok modules) mid
  pub keep : ruled modules size ≡ Ok tt
  pub text : List ℕ
  pub read_is : AreLast read before text
  pub feed_came : ComesWhole mid feed LONGEST_FILE text new.files
  pub items : List Item
  pub is_feed : fed (stack_base_of modules) text ≡ Ok items
  pub made : ComesBy (plan_of (Mean words size fuel feed)) read
      (Ok (Tell (record { modules = modules; size = size; feed = items }) fuel))
  pub status_is : status ≡ meaning_status (meaning (map part_of modules) size items fuel).end
  pub written : Adds old.sink (told_text (meaning (map part_of modules) size items fuel)) new.sink
  pub kept_is : new.kept ≡ old.kept

-- the file of `--feed` came, the one that was read, its text is a trace of a run, and `ok` was written
pub record AuditPasses (name : List ℕ) (read : List (List ℕ)) (old new : Outside) : Type 0 where
  pub text : List ℕ
  pub read_is : read ≡ text ∷ []
  pub came : ComesWhole old.files name LONGEST_FILE text new.files
  pub is_trace : IsTrace text
  pub written : Adds old.sink ok_text new.sink
  pub kept_is : new.kept ≡ old.kept

-- it came, and the first line that spoils its text was told
pub record AuditFails (name : List ℕ) (read : List (List ℕ)) (old new : Outside) : Type 0 where
  pub text : List ℕ
  pub read_is : read ≡ text ∷ []
  pub came : ComesWhole old.files name LONGEST_FILE text new.files
  pub fault : AuditFault
  pub is_fault : HasFault text fault
  pub written : Adds old.sink (audit_text fault) new.sink
  pub kept_is : new.kept ≡ old.kept

-- what is promised of an audit, by its status
abbrev pub AuditTold : List ℕ → List (List ℕ) → Outside → Status → Outside → Type 0
AuditTold name read old status new =
    (status ≡ Done → AuditPasses name read old new) × (status ≡ AuditRefused → AuditFails name read old new)

-- the sink failed at the line of the refusal that was due, or at the text of such a start's run
abbrev pub IsCut : (l : Linked) → LinkDeed → (StartSeen → List ℕ → Type 0) → List (List ℕ) → Outside → Outside
    → Type 0
IsCut l deed IsText read old new =
    ((why : Refusal) × ComesOf (linked_plan l) read old.files (Err why) new.files
    × ComesBy (plan_of (Links l deed)) read (Err why) × FailsToWrite old.sink (refusal_text why) new.sink)
    ⊎ ((from : Started l read old.files new.files) × IsMadeOf deed from × (text : List ℕ)
    × IsText from.start text × FailsToWrite old.sink text new.sink)

abbrev pub RunCut : Linked → ℕ → List (List ℕ) → Outside → Outside → Type 0
RunCut l steps = IsCut l (link_deed.Run steps) (λ start text. text ≡ text_of_run start steps)

-- of a trace, the text is that of the overlay's run
abbrev pub TraceCut : Linked → ℕ → List (List ℕ) → Outside → Outside → Type 0
TraceCut l steps = IsCut l (link_deed.Trace steps) (λ start text.
    (overlay : OverlaySeen) × IsOverlayOf start overlay × (text ≡ trace_text steps overlay))

-- what the top call promises: the answer that was due, the cause of its status, and that no other answer is
-- given where nothing outside fails
pub record Promised (asked : Option Command) (old : Outside) (status : Status) (new : Outside) : Type 0 where
  pub answers : Answers stk (plan_in asked) old status new
  pub causes : Causes asked (read_in answers) old status new
  pub complete : IsComplete stk (plan_in asked) old status new
