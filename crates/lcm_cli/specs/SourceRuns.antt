-- Runs of parts of which every trusted one is a source, or was made of one.
use Rattle.std.specs.Prelude.{◌≡◌, ◌⊎◌, ℕ, Bool, true, false, List, [], ◌∷◌, map, Ok, Err}
use Rattle.outside_io.specs.FilesSeen.{FilesSeen}
use Rattle.outside_io.specs.SinkSeen.{FailsToWrite}
use Rattle.outside_io.specs.Whole.{GivesWhole as ComesWhole}
use Rattle.command_words.specs.declared.command.Linked.{Linked}
use Rattle.command_words.specs.declared.command.Linked.TheVariants as what
use Rattle.command_words.specs.declared.command.LinkDeed.TheVariants as link_deed
use Rattle.command_words.specs.declared.command.Command.TheVariants.{Links}
use Rattle.command_words.specs.declared.part.PartWord.{PartWord}
use Rattle.command_words.specs.Action.{is_source}
use Rattle.proc_language.specs.declared.module.ModuleFields.{ModuleFields}
use Rattle.proc_language.specs.Limits.{Each}
use Rattle.proc_program.specs.Lower.{part_of}
use Rattle.proc_sources.specs.Sources.{module_in}
use Rattle.proc_language.specs.declared.dialect.Dialect.{Dialect}
use Rattle.meaning_tool.specs.Subjects.{language_of}
use Rattle.linked_starts.specs.Parts.{PartSeen}
use Rattle.linked_starts.specs.Started.{StartSeen}
use Rattle.module_rules.specs.Rules.{stack_base_of, ruled}
use Rattle.line_fields.specs.Feed.{fed}
use Rattle.source_starts.specs.Links.{Linking}
use Rattle.source_starts.specs.Sources.{AreSources}
use Rattle.source_starts.specs.RunMeans.{came_in, RunMeans}
use Rattle.source_starts.specs.Shown.{ShowsNothingElse}
use Rattle.run_lines.specs.Layout.{layout}
use Rattle.file_plans.specs.declared.TheConstants.{LONGEST_FILE}
use Rattle.file_plans.specs.declared.refusal.Refusal.{Refusal}
use Rattle.refusal_lines.specs.declared.status.Status.{Status}
use Rattle.command_words.specs.Part.{is_trusted_mark}
use Rattle.link_tool.specs.Parts.{IsPartOf}
use Rattle.ready_tasks.specs.Commands.{plan_of}
use Rattle.link_tool.specs.Linked.{linked_plan}
use Rattle.lcm_cli.specs.Bytes.{ComesOf, ComesBy}
use Rattle.refusal_lines.specs.Refusals.{refusal_text}
use Rattle.lcm_cli.specs.Answers.{Outside}
use Rattle.refusal_lines.specs.declared.status.Status.TheVariants.{WriteFault}
use Rattle.lcm_cli.specs.Causes.{IsRunStatus, Started, IsMadeOf, RunGiven, text_of_run}

-- every trusted word is a source
abbrev pub AllSources : List PartWord → Type 0
AllSources words = Each (λ (w : PartWord). is_trusted_mark w.mark ≡ true → is_source w.ending ≡ true) words

-- of a trusted word, the text spells the first of the modules, in this language; the others are left to the
-- words after it
abbrev pub SpelledBy : Bool → Dialect → List ℕ → List ModuleFields → (List ModuleFields → Type 0) → Type 0
SpelledBy true d text [] rest = ⊥
SpelledBy true d text (m ∷ modules) rest = (module_in d text ≡ Ok m) × rest modules
SpelledBy false d text modules rest = rest modules

-- the files of words came whole, one after another, with these texts; each text is its word's part, and the
-- modules are those that the texts of trusted words spell, the same that their parts are compiled from
abbrev pub SourcesCame : List PartWord → List (List ℕ) → FilesSeen → List PartSeen → List ModuleFields
    → FilesSeen → Type 0
SourcesCame [] read old parts modules new = (read ≡ []) × (parts ≡ []) × (modules ≡ []) × (new ≡ old)
SourcesCame (w ∷ words) (text ∷ read) old (p ∷ parts) modules new =
    (mid : FilesSeen) × ComesWhole old w.name LONGEST_FILE text mid × IsPartOf w text p
    × SpelledBy (is_trusted_mark w.mark) (language_of w.ending) text modules
    (λ others. SourcesCame words read mid parts others new)
SourcesCame _ read old parts modules new = ⊥

-- the text of the run is a feed of these modules: they keep the rules of a meaning, the feed's reader takes
-- from the text what came in, and its base is that of the first module's stack
pub record IsFeed (modules : List ModuleFields) (stack : ℕ) (start : StartSeen) (steps : ℕ) : Type 0 where
  pub rules : ruled modules stack ≡ Ok tt
  pub read : fed (layout start).stack.base (text_of_run start steps) ≡ Ok (came_in start steps)
  pub base : (m : ModuleFields) (others : List ModuleFields) → modules ≡ m ∷ others
      → stack_base_of modules ≡ (layout start).stack.base

-- what was linked for a run
abbrev pub linking_in : {l : Linked} {read : List (List ℕ)} {old new : FilesSeen} → Started l read old new
    → Linking
linking_in from = record { parts = from.parts; size = from.size; start = from.start }

-- what is so of a run whose trusted parts are the components of these modules, in their order, whatever form
-- its words have, or in an image: what its lines tell is what the modules mean, by the feed that its text is;
-- and wherever their code lets go of control, code outside is shown nothing else
pub record SourcesMean (modules : List ModuleFields) (l : Linked) (steps : ℕ) (read : List (List ℕ))
    (old new : FilesSeen) (from : Started l read old new) : Type 0 where
  pub means : RunMeans (map part_of modules) from.size from.start steps
  pub shows : ShowsNothingElse modules (linking_in from)
  pub feed : IsFeed modules from.size from.start steps

-- what is said of the start of a run
abbrev pub StartFact : Linked → Type 1
StartFact l = (read : List (List ℕ)) (old new : FilesSeen) → Started l read old new → Type 0

-- so it is of whatever modules the trusted parts of the run are
abbrev pub ModulesMean : (l : Linked) → ℕ → StartFact l
ModulesMean l steps read old new from =
    (modules : List ModuleFields) → AreSources modules from.parts
    → SourcesMean modules l steps read old new from

-- where every trusted word is a source there are such modules: those that the words' texts spell, in their
-- order
pub record SourcesAre (words : List PartWord) (stack steps : ℕ) (read : List (List ℕ)) (old new : FilesSeen)
    (from : Started (what.Parts words stack) read old new) : Type 0 where
  pub modules : List ModuleFields
  pub came : SourcesCame words read old from.parts modules new
  pub sources : AreSources modules from.parts
  pub mean : SourcesMean modules (what.Parts words stack) steps read old new from

-- a run: the plain run gave the status, the text and the machine; and such holds of its start
abbrev pub RunOf : (l : Linked) → StartFact l → ℕ → List (List ℕ) → Outside → Status → Outside → Type 0
RunOf l P steps read old status new =
    (given : RunGiven l steps read old status new) × P read old.files new.files given.from

-- the sink failed at the line of the refusal that was due, or at the text of such a run
abbrev pub CutOf : (l : Linked) → StartFact l → ℕ → List (List ℕ) → Outside → Outside → Type 0
CutOf l P steps read old new =
    ((why : Refusal) × ComesOf (linked_plan l) read old.files (Err why) new.files
    × ComesBy (plan_of (Links l (link_deed.Run steps))) read (Err why)
    × FailsToWrite old.sink (refusal_text why) new.sink)
    ⊎ ((from : Started l read old.files new.files) × IsMadeOf (link_deed.Run steps) from
    × P read old.files new.files from × FailsToWrite old.sink (text_of_run from.start steps) new.sink)

-- what is promised of a run by its status: also of the lines that weren't written
abbrev pub RunTold : (l : Linked) → StartFact l → ℕ → List (List ℕ) → Outside → Status → Outside → Type 0
RunTold l P steps read old status new =
    (IsRunStatus status → RunOf l P steps read old status new)
    × (status ≡ WriteFault → CutOf l P steps read old new)

-- of every run, and of one whose trusted words are sources
abbrev pub ModulesTold : Linked → ℕ → List (List ℕ) → Outside → Status → Outside → Type 0
ModulesTold l steps = RunTold l (ModulesMean l steps) steps

abbrev pub SourcesTold : List PartWord → ℕ → ℕ → List (List ℕ) → Outside → Status → Outside → Type 0
SourcesTold words stack steps = RunTold (what.Parts words stack) (SourcesAre words stack steps) steps
