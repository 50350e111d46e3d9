-- The theorem of sources: whatever code runs beside them, compiled modules do what their meaning tells of the
-- run's feed.
use Rattle.std.specs.Prelude.{◌≡◌, ℕ, ◌+◌, ◌*◌, ◌<◌, ◌≤◌, ℤ, true, false, List, [], ◌++◌}
use Rattle.cap_words.specs.declared.Word.TheVariants.{Int}
use Rattle.lcm_isa.specs.declared.Reg.TheVariants.{A0}
use Rattle.linked_starts.specs.Started.{StartSeen}
use Rattle.trusted_border.specs.declared.layout.Layout.{Layout}
use Rattle.overlay_machine.specs.State.{OState}
use Rattle.overlay_machine.specs.Step.{goes, halts, fails, overlay_step, weight_of}
use Rattle.overlay_machine.specs.Events.{step_event}
use Rattle.overlay_machine.specs.Starting.{overlay_at}
use Rattle.run_lines.specs.Layout.{layout}
use Rattle.run_lines.specs.Views.{flat_view}
use Rattle.proc_semantics.specs.Values.{World}
use Rattle.source_events.specs.declared.Item.{Item}
use Rattle.source_events.specs.declared.End.{End}
use Rattle.source_events.specs.declared.End.TheVariants.{Halt as Halted, Fail as Fails, Waiting}
use Rattle.source_events.specs.declared.End.TheVariants.{OutOfFuel}
use Rattle.source_events.specs.Outs.{OutLine, out_lines, LeaveIntegers}
use Rattle.proc_semantics.specs.Meaning.{meaning}
use Rattle.proc_semantics.specs.Fuel.{Prefix}
use Rattle.template_runs.specs.Runs.{is_inside}
use Rattle.source_laws.specs.Trace.{event_outs, event_items, weighed, trace}
use Rattle.source_laws.specs.Good.{MeaningAgrees}

-- from one overlay a run of this weight comes to another, which is a matched point: of it the weight of the
-- steps that began in trusted code, what went out of the modules, and the items of the feed
pub data RunShows (l : Layout) (o : OState) : ℕ → ℕ → List OutLine → List Item → OState → Type 0 where
  none_yet : RunShows l o 0 0 [] [] o
  and_then : {j n : ℕ} {es : List OutLine} {is : List Item} {p q : OState} → RunShows l o j n es is p
      → overlay_step l p ≡ goes q
      → RunShows l o (j + weight_of l p) (n + weighed (is_inside l p) (weight_of l p))
      (es ++ event_outs l (flat_view l q) (step_event l p q))
      (is ++ event_items l (flat_view l q) (step_event l p q)) q

-- ---- what is told of the items that came in

-- a tick of a meaning pays for so many instructions of trusted code
abbrev pub PER_TICK : ℕ
PER_TICK = 200

module _ (world : World) (size : ℕ) (items : List Item) (lines : List OutLine) where
  -- an end, with the events that these lines tell, under every large enough fuel
  pub record MeaningEnds (end : End) : Type 0 where
    pub enough : ℕ
    pub ends : (fuel : ℕ) → enough ≤ fuel → (meaning world size items fuel).end ≡ end
    pub told : (fuel : ℕ) → enough ≤ fuel → out_lines (meaning world size items fuel).events ≡ lines

  -- under every large enough fuel these events, and perhaps more
  pub record MeaningBegins : Type 0 where
    pub enough : ℕ
    pub begins : (fuel : ℕ) → enough ≤ fuel → Prefix lines (out_lines (meaning world size items fuel).events)

  -- no end and not more than these events, under a fuel whose ticks pay for fewer instructions than so many
  abbrev pub MeaningTakes : ℕ → Type 0
  MeaningTakes n =
      (fuel : ℕ) → fuel * PER_TICK < n → ((meaning world size items fuel).end ≡ OutOfFuel)
      × Prefix (out_lines (meaning world size items fuel).events) lines

-- ---- at each matched point

-- at a matched point: where it stands outside, where the next step halts or fails in trusted code, where it
-- goes on there, and the bound of instructions on a tick; and each procedure that left gave an integer
pub record MeansAt (world : World) (stack : ℕ) (l : Layout) (n : ℕ) (es : List OutLine) (is : List Item)
    (p : OState) : Type 0 where
  pub waits : is_inside l p ≡ false → MeaningEnds world stack is es Waiting
  pub halts : is_inside l p ≡ true → overlay_step l p ≡ halts
      → (v : ℤ) × ((flat_view l p).reg A0 ≡ Int v) × MeaningEnds world stack is es (Halted v)
      × MeaningTakes world stack is es (n + weight_of l p)
  pub fails : is_inside l p ≡ true → overlay_step l p ≡ fails → MeaningEnds world stack is es Fails
      × MeaningTakes world stack is es (n + weight_of l p)
  pub goes_on : is_inside l p ≡ true → MeaningBegins world stack is es
  pub slow : MeaningTakes world stack is es n
  pub integers : LeaveIntegers es

-- at each matched point of the run from a start
abbrev pub MeansAlways : World → ℕ → StartSeen → Type 0
MeansAlways world stack s =
    (j n : ℕ) (es : List OutLine) (is : List Item) (p : OState)
    → RunShows (layout s) (overlay_at s).state j n es is p → MeansAt world stack (layout s) n es is p

-- the meaning agrees with the run of each number of steps
abbrev pub AgreesAlways : World → ℕ → StartSeen → Type 0
AgreesAlways world stack s =
    (k : ℕ) → MeaningAgrees 0 (trace (layout s) k (overlay_at s).state)
    (λ fuel feed. meaning world stack feed fuel)

-- then the theorem holds of the start
abbrev pub AgreeingRunsMean : Type 0
AgreeingRunsMean = (world : World) (stack : ℕ) (s : StartSeen) → AgreesAlways world stack s
    → MeansAlways world stack s
