-- The limits of a component have its exports ascend.
use Rattle.std.proofs.Common.{sym, subst, None}
use Rattle.linked_starts.specs.Start.{NamesAscend}
use Rattle.linked_starts.proofs.Offers.{exports_ascend}
use Rattle.component_linker.proofs.placed.Placed.exports.Goals as goal

pub returns-clause-ascend : goal.returns-clause-ascend
returns-clause-ascend c =
    subst NamesAscend (sym c.as_slice.ensures)
    (exports_ascend None c.self.inside.fields.now.exports c.self.invariant.exports.1)
