use Rattle.std.proofs.Common.{arith, ◌≡◌, ◌<◌, ◌+◌, ◌-◌, rules, sym, subst, IsTrue}
use Rattle.lcm_machine.specs.Spans.{in_spans}
use Rattle.overlay_machine.proofs.GiveLemmas.{giving-start, giving-some, giving-spans, giving-step}
use Rattle.overlay_machine.proofs.GiveLemmas.{giving-end, giving-none}
use Rattle.overlay_machine.proofs.frames.give_cells.Goals as goal

pub loop-left-init : goal.loop-left-init
loop-left-init c = giving-start _ _ _ _ c.requires.items c.requires.none

pub pop-word-requires : goal.pop-word-requires
pop-word-requires c = giving-some _ _ _ _ _ _ _ c.loop-left.invariant

pub insert_cell-requires : goal.insert_cell-requires
insert_cell-requires c =
    let r = giving-spans _ _ _ _ _ _ _ c.loop-left.invariant in
    let b = c.loop-left.invariant.below in
    let p : 0 < c.loop-left.left = search rules in (
      search rules,
      (
        subst (λ s. IsTrue (in_spans (c.args.base + (c.loop-left.left - 1)) s)) (sym r)
            (c.requires.spanned (c.args.base + (c.loop-left.left - 1)) (omega arith) (omega (arith, b, p))),
        giving-none _ _ _ _ _ _ _ c.loop-left.invariant p,
      ),
    )

pub loop-left-preserved : goal.loop-left-preserved
loop-left-preserved c = let p : 0 < c.loop-left.left =
    search rules in
    giving-step _ _ _ _ _ _ _ _ _ _ c.loop-left.invariant p c.pop-word.ensures c.insert_cell.ensures

pub returns-clause-maps : goal.returns-clause-maps
returns-clause-maps c = let z : c.loop-left.left ≡ 0 =
    search rules in (giving-end _ _ _ _ _ _ _ c.loop-left.invariant z).0

pub returns-clause-frames : goal.returns-clause-frames
returns-clause-frames c = let z : c.loop-left.left ≡ 0 =
    search rules in (giving-end _ _ _ _ _ _ _ c.loop-left.invariant z).1
