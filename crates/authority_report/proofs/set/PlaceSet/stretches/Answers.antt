use Rattle.std.proofs.Common.{◌+◌, sym, subst, ◌∙◌, ap}
use Rattle.std.specs.Prelude.{List}
use Rattle.authority_report.specs.declared.set.Stretch.{Stretch}
use Rattle.authority_report.specs.Stretches.{Found}
use Rattle.authority_report.proofs.StretchesFound.{push, skip}
use Rattle.authority_report.proofs.set.PlaceSet.stretches.Goals as goal
use Rattle.authority_report.proofs.set.PlaceSet.stretches.Goals.{then-is+in_ok-push, else-is}

pub loop-at-preserved : goal.loop-at-preserved
loop-at-preserved c =
    let set = c.args.self.now in
    let at = c.loop-at.at in
    let end = c.same_end-end.result in
    let e = c.same_end-end.ensures in
    let P : List Stretch → _ = λ rs. Found set (end + 1) rs in
    elim c.if-is.branch [
      | then-is+in_ok-push b ↦ subst P (sym (ap (λ v. v.items) b.list-is ∙ b.in_ok-push.ensures.items))
          (push set at end c.loop-at.list.items e.within.0 e.within.1 c.loop-at.invariant
          (λ a l h. sym b.if-is.true ∙ e.same a l h) (λ l k. e.maximal l (b.if-is.true ∙ k)))
      | else-is b ↦ subst P (sym (ap (λ v. v.items) b.list-is))
          (skip set at end c.loop-at.list.items e.within.0 e.within.1 c.loop-at.invariant
          (λ a l h. sym b.if-is.false ∙ e.same a l h))
    ]
