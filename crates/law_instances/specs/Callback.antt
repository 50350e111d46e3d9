-- That what sources show speaks of words that aren't 0: those of a call back to code outside.
use Rattle.std.specs.Prelude.{◌≡◌, ℕ, ◌≤◌, pos, false, List, slice_get, Some}
use Rattle.trusted_border.specs.declared.events.Event.TheVariants.{Called}
use Rattle.overlay_machine.specs.declared.words.OWord.{OWord}
use Rattle.overlay_machine.specs.Events.{step_event}
use Rattle.run_lines.specs.Layout.{layout}
use Rattle.proc_semantics.specs.Marked.{Thing, Number}
use Rattle.source_laws.specs.Seen.{Back, Shown}
use Rattle.source_laws.specs.Secrets.{LetsGo}
use Rattle.source_laws.specs.Words.{RunTells, word_from}
use Rattle.source_starts.specs.Links.{first_state}
use Rattle.source_starts.specs.Sources.{LinkedSources, world_of}
use Rattle.source_starts.specs.Words.{slots_of}
use Rattle.source_starts.specs.PlainWords.{PlainCallTold}
use Rattle.source_starts.specs.Shown.{ShowsNothingElse}
use Rattle.callback_instance.specs.CalledBack.{RunCallsBack}

pub record CallbackTold : Type 0 where
  pub sources : LinkedSources
  pub shows : ShowsNothingElse sources.modules sources.link
  -- code outside enters a procedure with a pair of its own, which is called with 6
  pub run : RunCallsBack sources.start
  -- at that call the sources let go, and so much had left and come before it
  pub lets_go : LetsGo sources.start run.first.entered run.first.last run.first.after
  pub called : step_event (layout sources.start) run.first.last run.first.after
      ≡ Some (Called false run.calls.frame.site run.calls.frame.base run.calls.frame.end)
  pub es : List Shown
  pub is : List (Thing OWord Back)
  pub tells : RunTells (layout sources.start) (first_state sources.link) es is run.first.last
  -- So, under every large enough fuel, the event of the refined meaning is this call. It tells the words with
  -- which code outside entered, in a1 and a2, as the pair that is called, and 6 as the first argument.
  pub told : PlainCallTold (slots_of sources.modules sources.link) (world_of sources) sources.size
      sources.start es is run.first.after run.calls.frame.base
  pub words : (f : ℕ) (enough : told.enough ≤ f)
      → let e = (told.told f enough).2 in
      let word = word_from (slots_of sources.modules sources.link) is in
      (word e.first ≡ run.first.entered.maps.regs.a1) × (word e.second ≡ run.first.entered.maps.regs.a2)
      × (slice_get e.args 0 ≡ Some (Number (pos 6)))
