-- A sink of reserved memory that has room for a text takes all of it.
use Rattle.std.proofs.Common.{◌≡◌, ℕ, ◌+◌, ◌≤◌, List, [], length, ap, arith}
use Rattle.outside_io.specs.SinkSeen.{FailsToWrite}
use Rattle.outside_io.specs.SafeSink.{SafeBytes, seen_of_safe_sink}
use Rattle.outside_io.proofs.Offers.{failed_text_fills}
use Rattle.command_words.specs.Answers.{outside}
use Rattle.lcm_cli.proofs.Offers.{cut_run}
use Rattle.answer_laws.specs.SafeRuns.{SafeSinksHoldRuns}

-- the text of which a write failed fills the room
filled : (room : ℕ) (first last : SafeBytes room) (text : List ℕ) → first.taken.bytes ≡ []
    → FailsToWrite (seen_of_safe_sink first) text (seen_of_safe_sink last) → room ≤ length text
filled room first last text e f =
    let fills : room ≤ length first.taken.bytes + length text = failed_text_fills first last text f in
    let none : length first.taken.bytes ≡ 0 = ap length e in
    omega (arith, fills, none)

pub safe_sinks_hold : SafeSinksHoldRuns
safe_sinks_hold room first last e l steps files seen kept left answers =
    let k = cut_run l steps (outside files (seen_of_safe_sink first) kept)
    (outside seen (seen_of_safe_sink last) left) answers in
    record {
      due = k.due;
      came = k.came;
      makes = k.makes;
      gives = k.gives;
      is = k.is;
      fills = filled room first last k.gives.text e k.fails;
    }
