use Rattle.std.proofs.Common.{◌≢◌, ◌∙◌, ap, arith}
use Rattle.lcm_machine.specs.Cells.{cell}
use Rattle.lcm_machine.proofs.Offers.{cell-set_other}
use Rattle.overlay_machine.proofs.FrameLemmas.{closed-maps}
use Rattle.overlay_machine.proofs.frames.close_frame.Goals as goal

pub returns-clause-maps : goal.returns-clause-maps
returns-clause-maps c =
    closed-maps c.args.maps.now _ _ _ c.args.frames.now _ _ c.args.frame _ c.requires.newest
    c.insert_cell.ensures c.give_cells.ensures.maps c.give_cells.ensures.frames c.pop-first.ensures
    c.swap.ensures.now

pub give_cells-requires-clause-none : goal.give_cells-requires-clause-none
give_cells-requires-clause-none c = λ q lo hi.
    let w = c.requires.newest in
    ap (λ s. cell s.cells q) c.insert_cell.ensures
    ∙ cell-set_other c.args.maps.now.cells c.args.frame.base q _
    (let ne : q ≢ c.args.frame.base = omega (arith, lo) in ne)
    ∙ c.requires.none q (omega (arith, lo)) (omega (arith, lo, hi))
