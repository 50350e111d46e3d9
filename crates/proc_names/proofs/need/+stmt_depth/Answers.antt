use Rattle.std.proofs.Common.{rules, ◌≡◌, ◌≤◌, ◌+◌, ◌∷◌, sym, ap, ap₂, ◌∙◌, subst, arith, max, min, drop}
use Rattle.std.proofs.Common.{◌^◌, ◌-◌}
use Rattle.proc_language.specs.Tree.{block_size}
use Rattle.proc_language.specs.StmtView.{stmt_at, block_of}
use Rattle.proc_language.proofs.Offers.{drop_item}
use Rattle.proc_names.specs.Need.{stmt_depth, block_depth, depth, in_32_bits}
use Rattle.proc_names.proofs.NeedLemmas.{max_capped, one_more_capped, max_step}
use Rattle.proc_names.proofs.need.+stmt_depth.Goals as goal

pub stmt_depth-returns-in-SetAt : goal.stmt_depth-returns-in-SetAt
stmt_depth-returns-in-SetAt t c =
    let i = depth c.in-SetAt.index in let e = depth c.in-SetAt.e in
    let m : c.max.result ≡ max c.depth.result c.saturating_add.result = search rules in
    m ∙ ap₂ max c.depth.ensures (c.saturating_add.ensures
    ∙ ap (λ n. min (n + 1) (2 ^ 32 - 1)) c.depth-in-SetAt.ensures ∙ one_more_capped e)
    ∙ max_capped i (1 + e)
    ∙ ap (λ s. in_32_bits (stmt_depth s)) (sym (sym c.s.view_is ∙ ap (stmt_at c.s.inside.at) c.in-SetAt.is))

pub block_depth-loop-s-preserved : goal.block_depth-loop-s-preserved
block_depth-loop-s-preserved t c =
    let i = c.loop-s.s-index in let s = c.s-item.result in let stmts = c.args.stmts.now in
    let next = drop_item stmts i s c.loop-s-test.true c.s-item.is in
    let rest = block_depth (block_of (drop (i + 1) stmts)) in
    let m : c.max-most.result ≡ max c.loop-s.most c.stmt_depth.result = search rules in
    record {
      told = ap (λ n. max n (in_32_bits rest))
          (m ∙ ap (max c.loop-s.most) c.stmt_depth.ensures)
          ∙ max_step c.loop-s.most (stmt_depth s) rest
          ∙ ap (λ ss. max c.loop-s.most (in_32_bits (block_depth (block_of ss)))) (sym next)
          ∙ c.loop-s.invariant.told;
      smaller =
          let whole = block_size (block_of stmts) in
          let h : block_size (block_of (s ∷ drop (i + 1) stmts)) ≤ whole =
          subst (λ ss. block_size (block_of ss) ≤ whole) next c.loop-s.invariant.smaller in
          omega (arith, h);
    }
