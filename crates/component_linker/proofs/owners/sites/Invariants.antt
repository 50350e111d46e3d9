-- The sites of the parts so far are listed.
use Rattle.linked_starts.specs.Listing.{SitesUpto}
use Rattle.component_linker.proofs.owners.sites.Given as goal

abbrev pub invariant-loop-number : goal.invariant-loop-number
invariant-loop-number l = SitesUpto l.parts l.number 0 l.sites.items
