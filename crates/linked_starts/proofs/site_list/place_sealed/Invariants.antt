-- None of the sites before has the seal.
use Rattle.std.proofs.Common.{◌-◌, ◌<◌, ◌≢◌, ℕ, length, get_or}
use Rattle.linked_starts.specs.declared.owners.Site.{Site}
use Rattle.linked_starts.proofs.site_list.place_sealed.Given as goal

abbrev pub invariant-loop-place : goal.invariant-loop-place
invariant-loop-place l = (k : ℕ) (d : Site) → k < l.place → (get_or l.sites k d).seal ≢ l.seal

abbrev pub decreases-loop-place : goal.decreases-loop-place
decreases-loop-place l = length l.sites - l.place
