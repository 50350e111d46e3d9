-- The part's sites so far are listed.
use Rattle.linked_starts.specs.Listing.{SitesUpto}
use Rattle.component_linker.proofs.owners.push_sites.Given as goal

abbrev pub invariant-loop-index : goal.invariant-loop-index
invariant-loop-index l = SitesUpto l.parts l.number l.index l.sites.items
