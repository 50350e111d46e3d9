use Rattle.std.proofs.Common.{sym, subst}
use Rattle.overlay_machine.specs.Machine.{FitsRegion}
use Rattle.overlay_machine.proofs.FitsLemmas.{fits-same}
use Rattle.overlay_machine.proofs.machine.Machine.step.Goals as goal

pub returns-in-Other-clause-fits : goal.returns-in-Other-clause-fits
returns-in-Other-clause-fits c =
    subst (FitsRegion c.args.layout.now) (sym c.other.ensures.rest)
    (fits-same c.args.layout.now c.args.self.now c.other.new.self.maps c.requires.fits
    c.other.ensures.same_cells)
