-- Runs over sinks of reserved memory.
use Rattle.std.specs.Prelude.{◌≡◌, ℕ, ◌≤◌, List, [], length, Option, Some, Result}
use Rattle.outside_io.specs.FilesSeen.{FilesSeen}
use Rattle.outside_io.specs.SafeSink.{SafeBytes, seen_of_safe_sink}
use Rattle.command_words.specs.declared.command.Linked.{Linked}
use Rattle.command_words.specs.declared.command.LinkDeed.TheVariants as link_deed
use Rattle.command_words.specs.declared.command.Command.TheVariants.{Links}
use Rattle.lcm_machine.specs.Run.{Run as Machine}
use Rattle.file_plans.specs.declared.refusal.Refusal.{Refusal}
use Rattle.file_plans.specs.Plans.{Plan}
use Rattle.refusal_lines.specs.declared.status.Status.TheVariants.{WriteFault}
use Rattle.ready_tasks.specs.Commands.{Task, plan_in}
use Rattle.lcm_cli.specs.Bytes.{ComesOf, ComesBy}
use Rattle.command_words.specs.Answers.{Answers, outside}
use Rattle.lcm_cli.specs.Answers.{Answer, IsAnswerOf, read_in, stk}

-- the answer to what came of the plan, which left the files so, is of these bytes, and its text has so many
-- bytes or more
pub record FillsRoom (plan : Plan Task) (read : List (List ℕ)) (files seen : FilesSeen) (room : ℕ)
    : Type 0 where
  pub due : Result Task Refusal
  pub came : ComesOf plan read files due seen
  pub makes : ComesBy plan read due
  pub gives : Answer
  pub is : IsAnswerOf due gives
  pub fills : room ≤ length gives.text

-- if a run over an empty sink of reserved memory ends with WriteFault, the text that is due of the bytes of
-- whatever answer explains it has as many bytes as the sink has room for, or more
abbrev pub SafeSinksHoldRuns : Type 0
SafeSinksHoldRuns =
    (room : ℕ) (first last : SafeBytes room) → first.taken.bytes ≡ [] → (l : Linked) (steps : ℕ)
    (files seen : FilesSeen) (kept left : Option Machine)
    → (let plan = plan_in (Some (Links l (link_deed.Run steps))) in
    (a : Answers stk plan (outside files (seen_of_safe_sink first) kept) WriteFault
    (outside seen (seen_of_safe_sink last) left))
    → FillsRoom plan (read_in a) files seen room)
