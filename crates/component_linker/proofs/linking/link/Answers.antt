use Rattle.linked_starts.specs.Standing.{placed}
use Rattle.linked_starts.proofs.Offers.{breaks_first}
use Rattle.component_linker.proofs.linking.link.Goals as goal

pub returns-in-Err : goal.returns-in-Err
returns-in-Err c =
    rw c.told.ensures
    (breaks_first (placed c.args.parts.now c.args.stack) c.args.stack c.in-Err.at c.in-Err.ensures)
