-- What the program hands on between the system and its call.
use Rattle.std.specs.Prelude.{◌≡◌, ℕ, List}
use Rattle.outside_io.specs.FilesSeen.{FilesSeen}
use Rattle.outside_io.specs.SinkSeen.{SinkSeen}
use Rattle.draw_call.specs.declared.status.DrawStatus.{DrawStatus}
use Rattle.draw_call.specs.Words.{call_in}
use Rattle.draw_call.specs.Answers.{DrawAnswers, draw_status_number, seen_by}

-- the number is that of the status that the call answers to these words, over these files and this sink
pub record IsAnswered (words : List (List ℕ)) (files : FilesSeen) (sink : SinkSeen) (number : ℕ)
    (files_then : FilesSeen) (sink_then : SinkSeen) : Type 0 where
  pub status : DrawStatus
  pub number_is : number ≡ draw_status_number status
  pub answers : DrawAnswers (call_in words) (seen_by files sink) status (seen_by files_then sink_then)
