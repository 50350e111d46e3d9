use Rattle.std.proofs.Common.{◌∙◌, arith, length-set, Some}
use Rattle.std.proofs.lemmas.Result.{err_from_is_err_and}
use Rattle.readers.proofs.Offers.{fails_with, telling_read, telling_fails, read_none}
use Rattle.component_file.specs.Fault.{in_file, is_refusal}
use Rattle.component_file.specs.Reading.{field, next_kind}
use Rattle.component_file.proofs.Lists.{read_place, read_places}
use Rattle.component_file.proofs.listed.kinds.Goals as goal

pub returns-in_err-kind : goal.returns-in_err-kind
returns-in_err-kind c =
    let p = err_from_is_err_and c.from_residual.result c.from_residual.ensures.1 in
    let fault = c.in_err-kind.field-0.0 in
    let failed = fails_with is_refusal (in_file fault) (field next_kind c.loop-kind.bytes)
    (telling_fails in_file next_kind c.loop-kind.bytes fault c.in_err-kind.ensures) in
    rw (p.1, p.2)
    (read_none (λ _ x. Some x) (λ _. field next_kind) is_refusal
    (in_file fault) _ _ 15 c.loop-kind.kind-index _ _ (omega arith) failed c.loop-kind.invariant.1)

pub loop-kind-preserved : goal.loop-kind-preserved
loop-kind-preserved c = (
  length-set c.loop-kind.kind-items c.loop-kind.kind-index _ ∙ c.loop-kind.invariant.0,
  read_place (field next_kind) c.loop-kind.kind-items 15 c.loop-kind.kind-index _ _ _ _ (omega arith)
      (omega arith) (telling_read in_file next_kind _ _ _ c.in_ok-kind.ensures) c.loop-kind.invariant.1,
)

pub returns : goal.returns
returns c = read_places (field next_kind) c.loop-kind.kind-items 15 c.loop-kind.kind-index _ _
    (omega arith) c.loop-kind.invariant.0 c.loop-kind.invariant.1
