use Rattle.component_check.proofs.Meeting.{each_in_area}
use Rattle.component_check.proofs.linear.own_linear_at.Goals as goal

pub returns-clause-in_area : goal.returns-clause-in_area
returns-clause-in_area c =
    each_in_area c.args.c.now c.args.i c.linear_at.result c.requires.own c.requires.here
    c.requires.fits.linear.0 c.linear_at.ensures.is c.linear_at.ensures.in_order
