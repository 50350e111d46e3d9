use Rattle.std.proofs.Common.{arith, ap, ◌∙◌}
use Rattle.std.specs.List.{position_or_len}
use Rattle.run_picture.specs.Heights.{reaches}
use Rattle.run_picture.proofs.Cuts.{found_at, put_at}
use Rattle.run_picture.proofs.heights.add_cut.Goals.{else-place-len-via-then-place-len+else-index-address}
use Rattle.run_picture.proofs.heights.add_cut.Goals.{else-place-len-via-else-place-len}
use Rattle.run_picture.proofs.heights.add_cut.Goals as goal

pub returns-then-index-address-clause-same : goal.returns-then-index-address-clause-same
returns-then-index-address-clause-same c =
    found_at c.args.address c.above-place.result c.args.cuts.now.items
    (c.above-place.ensures.same ∙ ap (position_or_len (reaches c.args.address)) c.deref.ensures.value)
    c.index.result.now (omega arith) c.if-index-address.true c.index.ensures

pub returns-clause-same : goal.returns-clause-same
returns-clause-same c =
    (c.in_ok-insert.ensures).items
    ∙ put_at c.args.address c.above-place.result c.args.cuts.now.items
    (c.above-place.ensures.same ∙ ap (position_or_len (reaches c.args.address)) c.deref.ensures.value)
    (λ lt. elim c.else-place-len.branch [
      | else-place-len-via-then-place-len+else-index-address w ↦
          (w.index.result.now, w.index.ensures, w.if-index-address.false)
      | else-place-len-via-else-place-len w ↦ absurd (omega arith)
    ])
