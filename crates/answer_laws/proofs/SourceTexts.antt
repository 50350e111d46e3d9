-- What `mean` tells over the text of a run of sources.
use Rattle.std.proofs.Common.{◌≡◌, ℕ, List, ◌∷◌, refl, sym, ap, subst, ◌∙◌}
use Rattle.std.specs.Prelude.{map, Result, Ok}
use Rattle.outside_io.specs.FilesSeen.{FilesSeen}
use Rattle.outside_io.specs.SinkSeen.{Adds}
use Rattle.command_words.specs.declared.command.Linked.{Linked}
use Rattle.proc_language.specs.declared.module.ModuleFields.{ModuleFields}
use Rattle.proc_program.specs.Lower.{part_of}
use Rattle.source_events.specs.declared.Item.{Item}
use Rattle.source_events.specs.declared.Told.{Told}
use Rattle.source_events.specs.Outs.{out_lines}
use Rattle.proc_semantics.specs.Meaning.{meaning}
use Rattle.proc_semantics.specs.Fuel.{Prefix}
use Rattle.module_rules.specs.Rules.{stack_base_of}
use Rattle.line_fields.specs.declared.fault.FeedFault.{FeedFault}
use Rattle.line_fields.specs.Feed.{fed}
use Rattle.proc_meaning.specs.Text.{told_text}
use Rattle.run_lines.specs.Layout.{layout}
use Rattle.source_starts.specs.RunMeans.{went_out, came_in}
use Rattle.refusal_lines.specs.declared.status.Status.{Status}
use Rattle.lcm_cli.specs.Answers.{Outside, meaning_status}
use Rattle.lcm_cli.specs.Causes.{Started, text_of_run}
use Rattle.answer_laws.specs.MeanOfRuns.{TellsOfRun, MeanTellsRuns}

same_items : (xs ys : List Item) → (let r : Result (List Item) FeedFault = Ok xs in r) ≡ Ok ys → xs ≡ ys
same_items xs ys e = cc

tells_of : (modules : List ModuleFields) (l : Linked) (steps : ℕ) (read : List (List ℕ))
    (old new : FilesSeen) (from : Started l read old new) (fuel : ℕ) (before : Outside) (ended : Status)
    (after : Outside) (told : Told)
    → told ≡ meaning (map part_of modules) from.size (came_in from.start steps) fuel
    → ended ≡ meaning_status told.end
    → Adds before.sink (told_text told) after.sink
    → TellsOfRun modules l steps read old new from fuel before ended after
tells_of modules l steps read old new from fuel before ended after told is status_is adds =
    record {
      told = told;
      told_is = is;
      status_is = status_is;
      written = adds;
      tells = λ end ends enough. (
        ap (λ t. t.end) is ∙ ends.ends fuel enough,
        ap (λ t. out_lines t.events) is ∙ ends.told fuel enough,
      );
      begins = λ begun enough.
          subst (λ t. Prefix (went_out from.start steps) (out_lines t.events)) (sym is)
          (begun.begins fuel enough);
    }

pub mean_tells : MeanTellsRuns
mean_tells m ms l steps read old new from so sources stack fuel feed took before ended after mean size same
    text =
    let start = from.start in
    let base : stack_base_of mean.modules ≡ (layout start).stack.base =
    ap stack_base_of same ∙ so.feed.base m ms refl in
    let fed_so : fed (layout start).stack.base (text_of_run start steps) ≡ Ok mean.items =
    subst (λ b. fed b (text_of_run start steps) ≡ Ok mean.items) base
    (subst (λ t. fed (stack_base_of mean.modules) t ≡ Ok mean.items) text mean.is_feed) in
    let items : mean.items ≡ came_in start steps =
    same_items mean.items (came_in start steps) (sym fed_so ∙ so.feed.read) in
    let told : meaning (map part_of mean.modules) stack mean.items fuel
    ≡ meaning (map part_of (m ∷ ms)) from.size (came_in start steps) fuel =
    ap (λ ms. meaning (map part_of ms) stack mean.items fuel) same
    ∙ (ap (λ n. meaning (map part_of (m ∷ ms)) n mean.items fuel) size
    ∙ ap (λ xs. meaning (map part_of (m ∷ ms)) from.size xs fuel) items) in
    tells_of (m ∷ ms) l steps read old new from fuel before ended after
    (meaning (map part_of mean.modules) stack mean.items fuel) told mean.status_is mean.written
