-- Each place so far leads to itself.
use Rattle.authority_report.proofs.NoPlaces.{LeadNowhere}
use Rattle.authority_report.proofs.set.PlaceSet.new.Given as goal

abbrev pub invariant-loop-at : goal.invariant-loop-at
invariant-loop-at l = LeadNowhere l.next.items l.at
