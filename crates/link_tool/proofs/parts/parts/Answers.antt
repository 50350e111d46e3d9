use Rattle.std.proofs.Common.{refl, ap, ◌+◌, ◌∙◌, arith}
use Rattle.std.proofs.lemmas.Result.{err_from_is_err_and}
use Rattle.std.proofs.lemmas.List.{length-append}
use Rattle.link_tool.specs.Parts.{part_at}
use Rattle.file_plans.proofs.Offers.{so_first, so_more, so_end, so_none, so_all}
use Rattle.link_tool.proofs.parts.parts.Goals as goal

pub loop-word-init : goal.loop-word-init
loop-word-init g c = record {
  index = refl;
  count = rw c.new-parts.ensures.items refl;
  so_far = rw c.new-parts.ensures.items (so_first part_at c.args.words.now _);
}

pub returns-in_err-part-clause-are : goal.returns-in_err-part-clause-are
returns-in_err-part-clause-are g c =
    let p = err_from_is_err_and c.from_residual.result c.from_residual.ensures.1 in
    rw (p.1, p.2) (so_end part_at c.args.words.now _ c.loop-word.word-index _ _ _ _ c.word-item.result _
    c.loop-word.invariant.so_far c.loop-word.invariant.index c.loop-word-test.true c.word-item.is
    c.in_err-part.ensures)

pub returns-in_err-push-clause-are : goal.returns-in_err-push-clause-are
returns-in_err-push-clause-are g c =
    let p = err_from_is_err_and c.from_residual-in_err-push.result c.from_residual-in_err-push.ensures.1 in
    rw (p.1, p.2) (so_none part_at c.args.words.now _ c.loop-word.word-index _ _ _ _ c.word-item.result _
    c.loop-word.invariant.so_far c.in_ok-part.ensures)

pub returns-clause-are : goal.returns-clause-are
returns-clause-are g c = rw c.of.ensures (so_all part_at c.args.words.now _ c.loop-word.word-index _ _
    c.loop-word.invariant.so_far (omega arith))

pub returns-clause-count : goal.returns-clause-count
returns-clause-count g c = rw c.of.ensures (c.loop-word.invariant.count ∙ omega arith)

pub loop-word-preserved : goal.loop-word-preserved
loop-word-preserved g c = record {
  index = rw c.loop-word.invariant.index refl;
  count = rw c.in_ok-push.ensures.items (length-append _ _ ∙ ap (λ n. n + 1) c.loop-word.invariant.count);
  so_far = rw c.in_ok-push.ensures.items
      (so_more part_at c.args.words.now _ c.loop-word.word-index _ _ _ _ c.word-item.result _
      c.loop-word.invariant.so_far c.loop-word.invariant.index c.loop-word-test.true c.word-item.is
      c.in_ok-part.ensures);
}
