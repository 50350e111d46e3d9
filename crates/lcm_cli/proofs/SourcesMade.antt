-- What a run of sources was given from, or of what was made of them, and what the sources mean.
use Rattle.std.proofs.Common.{◌≡◌, ℕ, List, Option, Some, sym, subst, inl, inr}
use Rattle.outside_io.specs.FilesSeen.{FilesSeen}
use Rattle.outside_io.specs.SinkSeen.{FailsToWrite}
use Rattle.command_words.specs.declared.part.PartWord.{PartWord}
use Rattle.command_words.specs.declared.command.Command.{Command}
use Rattle.command_words.specs.declared.command.Command.TheVariants.{Links}
use Rattle.command_words.specs.declared.command.Linked.{Linked}
use Rattle.command_words.specs.declared.command.Linked.TheVariants as what
use Rattle.command_words.specs.declared.command.LinkDeed.TheVariants as link_deed
use Rattle.audited_runs.specs.Audited.{RunsPass}
use Rattle.command_words.specs.Fits.{Fits}
use Rattle.run_lines.specs.Runs.{written}
use Rattle.source_starts.specs.Sources.{LinkedStart, LinkedSources}
use Rattle.source_starts.specs.RunMeans.{RunsMean, StacksBegin}
use Rattle.source_starts.specs.Shown.{SourcesShowNothingElse}
use Rattle.linked_starts.specs.Standing.{placed}
use Rattle.module_rules.specs.Among.{LinkedModulesKeepRules}
use Rattle.module_rules.specs.Rules.{stack_base_of}
use Rattle.audited_runs.specs.Items.{TextsTellItems}
use Rattle.run_lines.specs.Layout.{layout}
use Rattle.refusal_lines.specs.declared.status.Status.{Status}
use Rattle.ready_tasks.specs.Commands.{plan_in}
use Rattle.command_words.specs.Answers.{Answers}
use Rattle.lcm_cli.specs.Answers.{Outside, read_in, stk}
use Rattle.lcm_cli.specs.Causes.{Started, RunGiven}
use Rattle.lcm_cli.specs.SourceRuns.{StartFact, linking_in}
use Rattle.lcm_cli.specs.SourceRuns.{AllSources, IsFeed, ModulesMean, SourcesAre, CutOf, RunTold, ModulesTold}
use Rattle.lcm_cli.specs.SourceRuns.{SourcesTold}
use Rattle.lcm_cli.proofs.RunsMade.{StartLaws, runs, run_cut}
use Rattle.lcm_cli.proofs.SourceWords.{SourceLaws, gathered}
use Rattle.lcm_cli.proofs.SourceFeeds.{among, each_resolved}

-- the text of a run is a feed of its modules
feed_of : StacksBegin → TextsTellItems → LinkedModulesKeepRules → (a : LinkedSources) (steps : ℕ)
    → IsFeed a.modules a.size a.start steps
feed_of begin tells keep a steps = record {
  rules = keep a.parts a.size a.modules a.is_start.rules (among a.parts a.modules a.are_sources.compiled)
      (each_resolved a.modules a.are_sources.resolved);
  read = tells (placed a.parts a.size) a.size a.start a.is_start (layout a.start).stack.base steps;
  base = λ m others e.
      subst (λ ms. stack_base_of ms ≡ (layout a.start).stack.base) (sym e) (begin a m others e);
}

-- what holds of all runs and sources
pub record RunLaws : Type 0 where
  pub starts : StartLaws
  pub pass : RunsPass
  pub sources : SourceLaws
  pub mean : RunsMean
  pub show : SourcesShowNothingElse
  pub begin : StacksBegin
  pub tells : TextsTellItems
  pub keep : LinkedModulesKeepRules

-- what the modules of a start mean, whatever its parts came in
modules_mean : RunLaws → (l : Linked) (steps : ℕ) (read : List (List ℕ)) (old new : FilesSeen)
    (from : Started l read old new) → ModulesMean l steps read old new from
modules_mean laws l steps read old new from modules are =
    let linked : LinkedStart = record { link = linking_in from; is_start = from.linked_start } in
    let a : LinkedSources = record { modules = modules; linked = linked; are_sources = are } in
    record {
      means = laws.mean a steps;
      shows = laws.show a;
      feed = feed_of laws.begin laws.tells laws.keep a steps;
    }

-- of words that are sources these are the modules of their texts
sources_are : RunLaws → (words : List PartWord) (stack steps : ℕ) → AllSources words
    → (read : List (List ℕ)) (old new : FilesSeen) (from : Started (what.Parts words stack) read old new)
    → SourcesAre words stack steps read old new from
sources_are laws words stack steps sources read old new from =
    let g = gathered laws.sources words 0 read old new from.parts sources from.came.0 in
    record {
      modules = g.modules;
      came = g.came;
      sources = g.are;
      mean = modules_mean laws (what.Parts words stack) steps read old new from g.modules g.are;
    }

-- what holds of every start is so of the one of a run, also where its text couldn't be written whole
run_told : RunLaws → (asked : Option Command) → ((c : Command) → asked ≡ Some c → Fits c)
    → (old : Outside) (ended : Status) (new : Outside)
    (a : Answers stk (plan_in asked) old ended new) (l : Linked) (steps : ℕ)
    (P : StartFact l) → asked ≡ Some (Links l (link_deed.Run steps))
    → ((read : List (List ℕ)) (old new : FilesSeen) (from : Started l read old new) → P read old new from)
    → RunTold l P steps (read_in a) old ended new
run_told laws asked fits old ended new a l steps P e so = (
  (λ r.
      let given : RunGiven l steps (read_in a) old ended new =
      runs laws.starts laws.pass asked fits old ended new a l steps e r in
      (given, so (read_in a) old.files new.files given.from)),
  (λ w.
      elim (run_cut laws.starts asked old ended new a l steps e w)
      as (λ _. CutOf l P steps (read_in a) old new) [
        | inl r ↦ inl r
        | inr c ↦ inr (
          c.0,
          c.1,
          so (read_in a) old.files new.files c.0,
          subst (λ t. FailsToWrite old.sink t new.sink) c.3 c.4,
        )
      ]),
)

pub modules_told : RunLaws → (asked : Option Command) → ((c : Command) → asked ≡ Some c → Fits c)
    → (old : Outside) (ended : Status) (new : Outside)
    (a : Answers stk (plan_in asked) old ended new) (l : Linked) (steps : ℕ)
    → asked ≡ Some (Links l (link_deed.Run steps)) → ModulesTold l steps (read_in a) old ended new
modules_told laws asked fits old ended new a l steps e =
    run_told laws asked fits old ended new a l steps (ModulesMean l steps) e (modules_mean laws l steps)

pub sources_told : RunLaws → (asked : Option Command) → ((c : Command) → asked ≡ Some c → Fits c)
    → (old : Outside) (ended : Status) (new : Outside)
    (a : Answers stk (plan_in asked) old ended new) (words : List PartWord) (stack steps : ℕ)
    → asked ≡ Some (Links (what.Parts words stack) (link_deed.Run steps)) → AllSources words
    → SourcesTold words stack steps (read_in a) old ended new
sources_told laws asked fits old ended new a words stack steps e sources =
    run_told laws asked fits old ended new a (what.Parts words stack) steps (SourcesAre words stack steps) e
    (sources_are laws words stack steps sources)
