-- What the plain run of linked sources means: after so many instructions, what its lines tell of the sources,
-- and what the meaning of the items that came in tells of it.
use Rattle.std.specs.Prelude.{◌≡◌, ℕ, ◌+◌, ℤ, Bool, true, false, List, ◌∷◌}
use Rattle.cap_words.specs.declared.Word.TheVariants.{Int}
use Rattle.lcm_isa.specs.declared.Reg.TheVariants.{Pc, A0}
use Rattle.lcm_machine.specs.declared.FailCause.{FailCause}
use Rattle.lcm_machine.specs.declared.Step.TheVariants.{Halted, Failed}
use Rattle.lcm_machine.specs.Places.{reg}
use Rattle.lcm_machine.specs.Row.{faces}
use Rattle.lcm_machine.specs.Run.{plain, answer as last_step}
use Rattle.linked_starts.specs.Started.{StartSeen}
use Rattle.overlay_machine.specs.Step.{weight_of}
use Rattle.run_lines.specs.Layout.{layout, is_trusted}
use Rattle.run_lines.specs.Feed.{outs_of, items_of}
use Rattle.run_lines.specs.Runs.{written}
use Rattle.run_lines.specs.Cuts.{cut, cut_overlay, trusted_weight}
use Rattle.proc_language.specs.declared.module.ModuleFields.{ModuleFields}
use Rattle.source_events.specs.declared.Item.{Item}
use Rattle.source_events.specs.declared.End.TheVariants.{Halt, Fail, Waiting}
use Rattle.source_events.specs.Outs.{OutLine, LeaveIntegers}
use Rattle.proc_semantics.specs.Values.{World}
use Rattle.source_laws.specs.Sources.{RunShows, MeaningEnds, MeaningBegins, MeaningTakes}
use Rattle.source_starts.specs.Links.{first_state}
use Rattle.source_starts.specs.Sources.{LinkedStart, LinkedSources, world_of}

-- whether pc stands in trusted code after so many instructions
abbrev pub runs_trusted : StartSeen → ℕ → Bool
runs_trusted s n = is_trusted (layout s) (faces (λ w. w) (plain n s.state).maps Pc)

-- whether it does at their cut point
abbrev pub cut_in_trusted : StartSeen → ℕ → Bool
cut_in_trusted s n = runs_trusted s (cut s n).at

-- the weight of the steps up to there that began in trusted code, with that of the next one
abbrev pub trusted_with : StartSeen → ℕ → ℕ
trusted_with s n = trusted_weight s n + weight_of (layout s) (cut_overlay s n)

-- what went out of the modules by the lines that so many instructions write
abbrev pub went_out : StartSeen → ℕ → List OutLine
went_out s n = outs_of (written s n)

-- and what came in
abbrev pub came_in : StartSeen → ℕ → List Item
came_in s n = items_of (layout s).stack.base (written s n)

-- the meaning of what came in is what went out
pub record RunMeans (world : World) (size : ℕ) (s : StartSeen) (steps : ℕ) : Type 0 where
  -- code that isn't trusted runs at the cut point: the meaning waits for an item (a return that such code
  -- began, and that fails in a sequence of trusted code, belongs here)
  pub waits : cut_in_trusted s steps ≡ false
      → MeaningEnds world size (came_in s steps) (went_out s steps) Waiting
  -- trusted code runs there: the meaning comes at least as far
  pub goes_on : cut_in_trusted s steps ≡ true
      → MeaningBegins world size (came_in s steps) (went_out s steps)
  -- and where the run has halted, or failed, from there, the meaning ends so
  pub halts : cut_in_trusted s steps ≡ true → last_step (plain steps s.state) ≡ Halted
      → (v : ℤ) × (reg (plain steps s.state).maps.regs A0 ≡ Int v)
      × MeaningEnds world size (came_in s steps) (went_out s steps) (Halt v)
      × MeaningTakes world size (came_in s steps) (went_out s steps) (trusted_with s steps)
  pub fails : cut_in_trusted s steps ≡ true → (cause : FailCause) (pc : ℤ)
      → last_step (plain steps s.state) ≡ Failed cause pc
      → MeaningEnds world size (came_in s steps) (went_out s steps) Fail
      × MeaningTakes world size (came_in s steps) (went_out s steps) (trusted_with s steps)
  -- a tick of the meaning pays for some instructions of steps that began in trusted code, and no more
  pub slow : MeaningTakes world size (came_in s steps) (went_out s steps) (trusted_weight s steps)
  -- each procedure that left gave an integer
  pub integers : LeaveIntegers (went_out s steps)

-- up to the cut point the run shows what its lines tell, and what weight is trusted code's
abbrev pub CutsShow : Type 0
CutsShow =
    (a : LinkedStart) (steps : ℕ)
    → RunShows (layout a.start) (first_state a.link) (cut a.start steps).at (trusted_weight a.start steps)
    (went_out a.start steps) (came_in a.start steps) (cut_overlay a.start steps)

-- of every run of linked sources
abbrev pub RunsMean : Type 0
RunsMean = (a : LinkedSources) (steps : ℕ) → RunMeans (world_of a) a.size a.start steps

-- stacks begin where the sources say
abbrev pub StacksBegin : Type 0
StacksBegin =
    (a : LinkedSources) (m : ModuleFields) (ms : List ModuleFields) → a.modules ≡ m ∷ ms
    → m.stack ≡ (layout a.start).stack.base
