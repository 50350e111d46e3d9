use Rattle.std.proofs.Common.{◌≡◌, ◌∙◌, ◌+◌, sym, ap, length, subst, arith}
use Rattle.component_file.specs.Limits.{IsComponent}
use Rattle.call_sequence.proofs.Offers.{LeastOf, k3_is, least_more, least_same}
use Rattle.flow_check.proofs.lists.k3.Goals as goal
use Rattle.flow_check.proofs.lists.k3.Goals.{then-entry_is_bad, else-entry_is_bad}

pub loop-e-preserved : goal.loop-e-preserved
loop-e-preserved c =
    let es = c.as_slice-exports.result.now in
    elim c.if-entry_is_bad.branch
    as (λ _. LeastOf c.args.c.now es (c.loop-e.e-index + 1) c.if-entry_is_bad.least) [
      | then-entry_is_bad w ↦
          rw (w.least-is, w.least_of.ensures)
          (least_more c.args.c.now es c.loop-e.e-index c.loop-e-test.true c.loop-e.least c.e-item.result
          c.e-item.is (sym c.entry_is_bad.ensures ∙ w.if-entry_is_bad.true) c.loop-e.invariant)
      | else-entry_is_bad w ↦
          rw w.least-is
          (least_same c.args.c.now es c.loop-e.e-index c.loop-e-test.true c.loop-e.least c.e-item.result
          c.e-item.is (sym c.entry_is_bad.ensures ∙ w.if-entry_is_bad.false) c.loop-e.invariant)
    ]

pub returns : goal.returns
returns c =
    let es = c.as_slice-exports.result.now in
    let same : es ≡ c.args.c.now.exports =
    c.as_slice-exports.ensures ∙ ap (λ x. x.exports) c.fields.ensures.same in
    let end : c.loop-e.e-index ≡ length es = omega (arith, c.loop-e-test.false, c.loop-e.auto.e-index-end) in
    let all : LeastOf c.args.c.now es (length es) c.loop-e.least =
    subst (λ i. LeastOf c.args.c.now es i c.loop-e.least) end c.loop-e.invariant in
    k3_is c.args.c.now (subst IsComponent c.fields.ensures.same c.fields.ensures.within_limits)
    c.loop-e.least (subst (λ xs. LeastOf c.args.c.now xs (length xs) c.loop-e.least) same all)
