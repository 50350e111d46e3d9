-- There is one report of a part, and one text of a start.
use Rattle.std.specs.Prelude.{◌≡◌, ℕ, List}
use Rattle.cap_words.specs.declared.Word.{Word}
use Rattle.lcm_machine.specs.Maps.{State}
use Rattle.linked_starts.specs.declared.owners.Owner.{Owner}
use Rattle.linked_starts.specs.Started.{StartSeen}
use Rattle.authority_report.specs.declared.reach.Reach.{Reach}
use Rattle.authority_report.specs.Report.{IsReport}
use Rattle.authority_report.specs.Text.{IsReachText}

abbrev pub ReportsAreOne : Type 0
ReportsAreOne = (m : State Word) (o : Owner) (r q : Reach) → IsReport m o r → IsReport m o q → r ≡ q

abbrev pub TextsAreOne : Type 0
TextsAreOne = (s : StartSeen) (t u : List ℕ) → IsReachText s t → IsReachText s u → t ≡ u
