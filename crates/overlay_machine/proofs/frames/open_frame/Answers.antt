use Rattle.std.proofs.Common.{◌+◌, ◌-◌, sym, ap, subst, ◌∙◌, rules, IsTrue, IsSome}
use Rattle.lcm_machine.specs.Cells.{cell, drop_cell, all_there}
use Rattle.overlay_machine.proofs.FrameLemmas.{first-there, rest-there, opened-maps, opened-frames}
use Rattle.overlay_machine.proofs.frames.open_frame.Goals as goal

pub remove_cell-requires : goal.remove_cell-requires
remove_cell-requires c = (
  search rules,
  subst (λ s. IsSome (cell s.cells c.args.frame.base)) (sym c.swap-first.ensures.now)
      (first-there _ _ _ c.requires.order c.requires.there),
)

pub take_cells-requires-clause-there : goal.take_cells-requires-clause-there
take_cells-requires-clause-there c =
    let m = ap (λ s. s.cells) c.remove_cell.ensures.now
    ∙ ap (λ s. drop_cell s.cells c.args.frame.base) c.swap-first.ensures.now in
    subst (λ s. IsTrue (all_there s (c.args.frame.base + 1) (c.args.frame.end - c.args.frame.base))) (sym m)
    (rest-there _ _ _ c.requires.order c.requires.there)

pub returns-clause-maps : goal.returns-clause-maps
returns-clause-maps c =
    opened-maps c.args.maps.now _ _ _ c.args.frame c.requires.order c.swap-first.ensures.now
    c.remove_cell.ensures.now c.take_cells.ensures.maps

pub returns-clause-frames : goal.returns-clause-frames
returns-clause-frames c =
    opened-frames c.args.maps.now _ _ c.args.frames.now _ _ _ c.args.frame _ c.swap-first.ensures.now
    c.remove_cell.ensures.now c.swap-first.ensures.was c.begin.ensures c.push.ensures
    c.take_cells.ensures.frames
