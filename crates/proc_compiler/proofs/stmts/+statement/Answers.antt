use Rattle.std.proofs.Common.{◌≡◌, ◌+◌, ◌-◌, [], ◌∷◌, pos, length, drop, ap, subst, arith}
use Rattle.std.proofs.lemmas.List.{drop_all}
use Rattle.std.proofs.lemmas.Result.{on_ok_weaker}
use Rattle.call_sequence.specs.Sequences.{distance}
use Rattle.proc_program.specs.Program.{step_size, block_size}
use Rattle.proc_program.specs.StepView.{block_of}
use Rattle.proc_language.proofs.Offers.{drop_item}
use Rattle.proc_templates.specs.Items.{goes}
use Rattle.proc_templates.specs.Templates.{exp_words, step_words, block_words, block_code}
use Rattle.proc_templates.specs.Bounds.{BlockBound}
use Rattle.proc_compiler.specs.declared.counts.TheConstants.{JUMP_WORDS}
use Rattle.proc_compiler.specs.Drafts.{Emits}
use Rattle.proc_compiler.proofs.Branches.{labelled, followed, led, branched, repeated}
use Rattle.proc_compiler.proofs.Loops.{Left, one_more, none_left}
use Rattle.proc_compiler.proofs.stmts.+statement.Goals as goal

pub block-loop-s-preserved : goal.block-loop-s-preserved
block-loop-s-preserved t c =
    let f = c.args.f in
    let xs = c.args.steps.now in
    let i = c.loop-s.s-index in
    let s = c.s-item.result in
    let v = c.loop-s.invariant in
    let here = drop_item xs i s c.loop-s-test.true c.s-item.is in
    let rest = drop (i + 1) xs in
    let words : block_words (block_of (drop i xs)) ≡ step_words s + block_words (block_of rest) =
    ap (λ ys. block_words (block_of ys)) here in
    let size : block_size (block_of (drop i xs)) ≡ step_size s + block_size (block_of rest) + 1 =
    ap (λ ys. block_size (block_of ys)) here in
    let fewer = v.fewer in
    let smaller = v.smaller in
    record {
      left = one_more (subst (λ ys. Left f ys xs c.args.draft.now c.loop-s.draft) here v.left)
          c.in_ok-statement.ensures;
      fits = (subst (λ ys. BlockBound f (block_of ys)) here v.fits).1;
      fewer = omega (arith, words, fewer);
      smaller = omega (arith, size, smaller);
    }

pub block-returns : goal.block-returns
block-returns t c =
    let xs = c.args.steps.now in
    let over = c.loop-s-test.false in
    none_left (subst (λ ys. Left c.args.f ys xs c.args.draft.now c.loop-s.draft)
    (drop_all c.loop-s.s-index xs (omega (arith, over))) c.loop-s.invariant.left)

pub branch-returns : goal.branch-returns
branch-returns t c =
    let m = block_words (block_of c.args.body.now) in
    let n = block_words (block_of c.args.other.now) in
    let start = c.at-over_body.ensures in
    let body = labelled c.in_ok-label.ensures c.in_ok-block.ensures in
    let j1 = c.in_ok-jump.ensures.grown in
    let b1 = body.grown in
    let over : pos (length c.block.new.draft.laid.code + 3 - c.at-over_body.result) ≡ pos (m + 6) =
    ap pos (omega (arith, start, j1, b1)) in
    let again = c.at-over_other.ensures in
    let other = labelled c.in_ok-label-2.ensures c.in_ok-block-2.ensures in
    let j2 = c.in_ok-jump-2.ensures.grown in
    let b2 = other.grown in
    let beyond : pos (length c.block-2.new.draft.laid.code + 0 - c.at-over_other.result) ≡ pos (n + 3) =
    ap pos (omega (arith, again, j2, b2)) in
    on_ok_weaker c.label-3.result
    (branched m n c.in_ok-expr.ensures c.in_ok-jump_if.ensures
    (led start over c.in_ok-jump.ensures body c.lead.ensures)
    (led again beyond c.in_ok-jump-2.ensures other c.lead-2.ensures))
    c.label-3.ensures

pub repeat-returns : goal.repeat-returns
repeat-returns t c =
    let k = exp_words c.args.c.now in
    let m = block_words (block_of c.args.body.now) in
    let a0 = c.at-start.ensures in
    let l0 = c.in_ok-label.ensures.grown in
    let e0 = c.in_ok-expr.ensures.grown in
    let g0 = c.in_ok-jump_if.ensures.grown in
    let start = c.at-over_body.ensures in
    let j1 = c.in_ok-jump.ensures.grown in
    let l1 = c.in_ok-label-2.ensures.grown in
    let b1 = c.in_ok-block.ensures.grown in
    let a2 = c.at.ensures in
    let far : c.at.result - c.at-start.result ≡ k + 6 + m =
    omega (arith, a0, l0, e0, g0, start, j1, l1, b1, a2) in
    let back = subst (λ z. Emits (goes (distance z 0) ∷ []) JUMP_WORDS 0 c.block.new.draft
    c.jump_back.new.self) far c.in_ok-jump_back.ensures in
    let body = labelled c.in_ok-label-2.ensures (followed c.in_ok-block.ensures back) in
    let j2 = back.grown in
    let over : pos (length c.jump_back.new.self.laid.code + 0 - c.at-over_body.result) ≡ pos (m + 6) =
    ap pos (omega (arith, start, j1, l1, b1, j2)) in
    on_ok_weaker c.label-3.result
    (repeated (block_code c.args.f (block_of c.args.body.now)) k m c.in_ok-label.ensures
    c.in_ok-expr.ensures c.in_ok-jump_if.ensures
    (led start over c.in_ok-jump.ensures body c.lead.ensures))
    c.label-3.ensures
