use Rattle.std.proofs.Common.{sym, subst}
use Rattle.linked_starts.specs.Started.{Starts}
use Rattle.linked_starts.proofs.Offers.{separate}
use Rattle.component_linker.proofs.LaidOut.{are_laid}
use Rattle.component_linker.proofs.SitesInOrder.{in_order}
use Rattle.component_linker.proofs.started.start_of.Goals as goal

pub sites-requires-clause-separate : goal.sites-requires-clause-separate
sites-requires-clause-separate c = separate c.args.parts.now c.args.size c.requires.closed c.requires.apart

pub owners-requires-clause-separate : goal.owners-requires-clause-separate
owners-requires-clause-separate c = separate c.args.parts.now c.args.size c.requires.closed c.requires.apart

pub of-requires : goal.of-requires
of-requires c =
    are_laid c.args.parts.now c.requires.closed c.in_ok-owners.owners c.in_ok-owners.ensures
    (in_order c.args.parts.now c.in_ok-sites.sites c.requires.closed
    (separate c.args.parts.now c.args.size c.requires.closed c.requires.apart) c.in_ok-sites.ensures)

pub returns : goal.returns
returns c =
    subst (Starts c.args.parts.now c.args.size) (sym c.of.ensures) (record {
      state = c.in_ok-state.ensures;
      sites = c.in_ok-sites.ensures;
      owners = c.in_ok-owners.ensures;
      stack = c.stack_of.ensures.is;
    })
