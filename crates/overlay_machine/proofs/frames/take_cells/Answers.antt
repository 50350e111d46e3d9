use Rattle.std.proofs.Common.{◌≡◌, ◌<◌, rules}
use Rattle.overlay_machine.proofs.TakeLemmas.{taking-start, taking-there, taking-open, taking-step}
use Rattle.overlay_machine.proofs.TakeLemmas.{taking-end}
use Rattle.overlay_machine.proofs.frames.take_cells.Goals as goal

pub loop-left-init : goal.loop-left-init
loop-left-init c = taking-start _ _ _ _ c.requires.there c.requires.room

pub remove_cell-word-requires : goal.remove_cell-word-requires
remove_cell-word-requires c = let p : 0 < c.loop-left.left =
    search rules in (search rules, taking-there _ _ _ _ _ _ _ _ c.loop-left.invariant p)

pub push-requires : goal.push-requires
push-requires c = let p : 0 < c.loop-left.left =
    search rules in taking-open _ _ _ _ _ _ _ _ c.loop-left.invariant p

pub overflow_add-at : goal.overflow_add-at
overflow_add-at c =
    let p = c.loop-left.invariant.place in
    let s = c.requires.space in
    search (rules, p, s)

pub loop-left-preserved : goal.loop-left-preserved
loop-left-preserved c = let p : 0 < c.loop-left.left =
    search rules in
    taking-step _ _ _ _ _ _ _ _ _ _ _ c.loop-left.invariant p c.remove_cell-word.ensures.was
    c.remove_cell-word.ensures.now c.push.ensures

pub returns-clause-maps : goal.returns-clause-maps
returns-clause-maps c = let z : c.loop-left.left ≡ 0 =
    search rules in (taking-end _ _ _ _ _ _ _ _ c.loop-left.invariant z).0

pub returns-clause-frames : goal.returns-clause-frames
returns-clause-frames c = let z : c.loop-left.left ≡ 0 =
    search rules in (taking-end _ _ _ _ _ _ _ _ c.loop-left.invariant z).1
