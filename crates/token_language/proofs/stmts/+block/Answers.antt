use Rattle.std.proofs.Common.{◌+◌, ◌≤◌, sym, ◌∙◌, ap, subst, arith, length, ◌∷◌, drop}
use Rattle.std.proofs.lemmas.List.{drop_all}
use Rattle.proc_language.proofs.Offers.{drop_item}
use Rattle.token_language.specs.Tree.{block_size}
use Rattle.token_language.specs.StmtView.{block_of as token_block_of}
use Rattle.token_language.specs.Erased.{erased_block}
use Rattle.token_language.specs.Fronts.{stmts_before, at_most_one}
use Rattle.token_language.proofs.FrontLemmas.{stmts_end, stmts-append}
use Rattle.token_language.proofs.stmts.+block.Goals as goal

pub block-loop-s-preserved : goal.block-loop-s-preserved
block-loop-s-preserved t c =
    let i = c.loop-s.s-index in
    let stmts = c.args.stmts.now in
    let s = c.s-item.result in
    let kept = c.loop-s.kept.items in
    let next = drop_item stmts i s c.loop-s-test.true c.s-item.is in
    let rest = erased_block (token_block_of (drop (i + 1) stmts)) in
    record {
      told =
          ap (λ ss. stmts_before ss rest) c.in_ok-add.ensures
          ∙ stmts-append kept (at_most_one c.in_ok-statement.field-0) rest
          ∙ ap (stmts_before kept) (c.in_ok-statement.ensures rest)
          ∙ ap (λ l. stmts_before kept (erased_block (token_block_of l))) (sym next)
          ∙ c.loop-s.invariant.told;
      smaller =
          let whole = block_size (token_block_of stmts) in
          let h : block_size (token_block_of (s ∷ drop (i + 1) stmts)) ≤ whole =
          subst (λ l. block_size (token_block_of l) ≤ whole) next c.loop-s.invariant.smaller in
          omega (arith, h);
    }

pub block-returns : goal.block-returns
block-returns t c =
    let i = c.loop-s.s-index in
    let stmts = c.args.stmts.now in
    let kept = c.loop-s.kept.items in
    let over : length stmts ≤ i = omega arith in
    sym (stmts_end kept)
    ∙ ap (λ l. stmts_before kept (erased_block (token_block_of l))) (sym (drop_all i stmts over))
    ∙ c.loop-s.invariant.told
