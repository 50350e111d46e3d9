-- A run of which only the calls are counted.
use Rattle.std.specs.Prelude.{◌≡◌, ℕ, suc, List, [], ◌∷◌, Option, Some}
use Rattle.lcm_machine.specs.Run.{plain, answer}
use Rattle.linked_starts.specs.Started.{StartSeen}
use Rattle.trusted_border.specs.declared.events.Event.{Event}
use Rattle.trusted_border.specs.declared.events.Event.TheVariants.{Called}
use Rattle.trace_tool.specs.declared.count.Counted.{Counted}
use Rattle.run_lines.specs.Layout.{layout}
use Rattle.run_lines.specs.Lines.{Line, call}
use Rattle.run_lines.specs.Runs.{begun, lines_of}

-- how many of these lines are `call` lines
abbrev pub calls_in : List Line → ℕ
calls_in [] = 0
calls_in (call inward part site base last args words ∷ lines) = suc (calls_in lines)
calls_in (_ ∷ lines) = calls_in lines

-- how many `call` lines a run writes
abbrev pub calls_of_run : StartSeen → ℕ → ℕ
calls_of_run start steps = calls_in (lines_of (layout start) (begun start.state) steps)

-- all instructions were made, or all up to the end
pub record Counts (old : StartSeen) (steps : ℕ) (new : StartSeen) (result : Counted) : Type 0 where
  pub state : new ≡ record old { state = plain steps old.state }
  pub last : result.last ≡ answer (plain steps old.state)
  pub calls : result.calls ≡ calls_of_run old steps

-- ---- bodies

-- how many `call` lines an event has
abbrev pub calls_of : Option Event → ℕ
calls_of (Some (Called inward i base last)) = 1
calls_of _ = 0
