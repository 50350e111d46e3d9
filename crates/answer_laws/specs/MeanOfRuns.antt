-- What `mean` tells over the text of a run of sources.
use Rattle.std.specs.Prelude.{◌≡◌, ℕ, ◌≤◌, List, ◌∷◌, map}
use Rattle.outside_io.specs.FilesSeen.{FilesSeen}
use Rattle.outside_io.specs.SinkSeen.{Adds}
use Rattle.command_words.specs.declared.command.Linked.{Linked}
use Rattle.command_words.specs.declared.part.PartWord.{PartWord}
use Rattle.proc_language.specs.declared.module.ModuleFields.{ModuleFields}
use Rattle.proc_program.specs.Lower.{part_of}
use Rattle.source_events.specs.declared.End.{End}
use Rattle.source_events.specs.declared.Told.{Told}
use Rattle.source_events.specs.Outs.{out_lines}
use Rattle.source_laws.specs.Sources.{MeaningEnds, MeaningBegins}
use Rattle.source_starts.specs.RunMeans.{went_out, came_in}
use Rattle.refusal_lines.specs.declared.status.Status.{Status}
use Rattle.proc_semantics.specs.Meaning.{meaning}
use Rattle.proc_semantics.specs.Fuel.{Prefix}
use Rattle.proc_meaning.specs.Text.{told_text}
use Rattle.lcm_cli.specs.Answers.{Outside, meaning_status}
use Rattle.lcm_cli.specs.Causes.{Started, text_of_run, MeaningGiven}
use Rattle.lcm_cli.specs.SourceRuns.{SourcesMean}

-- what `mean` wrote and answered is of the very meaning that the run's lines are told by. With fuel enough it
-- tells just the events that went out by those lines, wherever they are all of the meaning's; and it begins
-- with them where they are a front of those
pub record TellsOfRun (modules : List ModuleFields) (l : Linked) (steps : ℕ) (took : List (List ℕ))
    (old new : FilesSeen) (from : Started l took old new) (fuel : ℕ) (before : Outside) (ended : Status)
    (after : Outside) : Type 0 where
  pub told : Told
  pub told_is : told ≡ meaning (map part_of modules) from.size (came_in from.start steps) fuel
  pub status_is : ended ≡ meaning_status told.end
  pub written : Adds before.sink (told_text told) after.sink
  pub tells : (end : End)
      (ends : MeaningEnds (map part_of modules) from.size (came_in from.start steps)
      (went_out from.start steps) end)
      → ends.enough ≤ fuel → (told.end ≡ end) × (out_lines told.events ≡ went_out from.start steps)
  pub begins :
      (begun : MeaningBegins (map part_of modules) from.size (came_in from.start steps)
      (went_out from.start steps))
      → begun.enough ≤ fuel → Prefix (went_out from.start steps) (out_lines told.events)

-- wherever `mean` is asked of the sources of a run, over the text of that run
abbrev pub MeanTellsRuns : Type 0
MeanTellsRuns =
    (m : ModuleFields) (others : List ModuleFields) (l : Linked) (steps : ℕ) (took : List (List ℕ))
    (old new : FilesSeen) (from : Started l took old new) → SourcesMean (m ∷ others) l steps took old new from
    → (sources : List PartWord) (stack fuel : ℕ) (feed : List ℕ) (read : List (List ℕ)) (before : Outside)
    (ended : Status) (after : Outside) (mean : MeaningGiven sources stack fuel feed read before ended after)
    → stack ≡ from.size → mean.modules ≡ m ∷ others → mean.text ≡ text_of_run from.start steps
    → TellsOfRun (m ∷ others) l steps took old new from fuel before ended after
