-- What the program hands on between the system and the top call.
use Rattle.std.specs.Prelude.{◌≡◌, ℕ, List, Option, None}
use Rattle.outside_io.specs.FilesSeen.{FilesSeen}
use Rattle.outside_io.specs.SinkSeen.{SinkSeen}
use Rattle.lcm_machine.specs.Run.{Run as Machine}
use Rattle.command_words.specs.Action.{asked_in}
use Rattle.refusal_lines.specs.declared.status.Status.{Status}
use Rattle.refusal_lines.specs.Status.{status_number}
use Rattle.command_words.specs.Answers.{outside}
use Rattle.lcm_cli.specs.Causes.{Promised}

-- the number is that of a status that the top call promises of these words, over these files and this sink
pub record IsAnswered (words : List (List ℕ)) (files : FilesSeen) (sink : SinkSeen) (number : ℕ)
    (files_then : FilesSeen) (sink_then : SinkSeen) : Type 0 where
  pub status : Status
  pub number_is : number ≡ status_number status
  pub kept : Option Machine
  pub promised : Promised (asked_in words) (outside files sink None) status
      (outside files_then sink_then kept)
