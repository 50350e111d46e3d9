use Rattle.std.proofs.Common.{◌∙◌, arith, length-set}
use Rattle.std.proofs.lemmas.Result.{err_from_is_err_and}
use Rattle.assembler.proofs.KindLemmas.{kind_read, kind_fails, kinds_read}
use Rattle.assembler.proofs.draft.Draft.kinds.Goals as goal

pub returns-in_err-kind : goal.returns-in_err-kind
returns-in_err-kind c =
    let p = err_from_is_err_and c.from_residual.result c.from_residual.ensures.1 in
    rw (p.1, p.2)
    (kind_fails c.in_err-kind.field-0.0 _ 15 c.loop-kind.kind-index _ _ _ (omega arith)
    c.in_err-kind.ensures c.loop-kind.invariant.1)

pub loop-kind-preserved : goal.loop-kind-preserved
loop-kind-preserved c = (
  length-set c.loop-kind.kind-items c.loop-kind.kind-index _ ∙ c.loop-kind.invariant.0,
  kind_read c.loop-kind.kind-items 15 c.loop-kind.kind-index _ _ _ _ _ _ (omega arith) (omega arith)
      c.in_ok-kind.ensures c.loop-kind.invariant.1,
)

pub returns : goal.returns
returns c = kinds_read c.loop-kind.kind-items 15 c.loop-kind.kind-index _ _ _ (omega arith)
    c.loop-kind.invariant.0 c.loop-kind.invariant.1
