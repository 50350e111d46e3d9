use Rattle.std.proofs.Common.{◌≡◌, ◌∙◌, refl, rules, ◌≤◌, subst, ◌+◌}
use Rattle.overlay_machine.specs.Copies.{AreCopiedTo}
use Rattle.overlay_machine.proofs.CopyLemmas.{to_first, to_next}
use Rattle.overlay_machine.proofs.copies.copy_span.Goals as goal

pub loop-at-init : goal.loop-at-init
loop-at-init c = (to_first c.args.state.now.maps c.args.span.base c.args.maps.now.cells, refl, refl)

pub loop-at-preserved : goal.loop-at-preserved
loop-at-preserved c =
    let le : c.args.span.base ≤ c.loop-at.at = search rules in (
      to_next c.args.state.now.maps c.args.span.base c.loop-at.at c.args.maps.now.cells c.loop-at.maps.cells _
          le c.loop-at.invariant.0 c.copy_cell.ensures.here c.copy_cell.ensures.elsewhere,
      c.copy_cell.ensures.regs ∙ c.loop-at.invariant.1,
      c.copy_cell.ensures.spans ∙ c.loop-at.invariant.2,
    )

pub returns-clause-cells : goal.returns-clause-cells
returns-clause-cells c =
    let e : c.loop-at.at ≡ c.args.span.end + 1 = search rules in
    subst (λ k. AreCopiedTo c.args.state.now.maps c.args.span.base k c.args.maps.now.cells
    c.loop-at.maps.cells) e c.loop-at.invariant.0
