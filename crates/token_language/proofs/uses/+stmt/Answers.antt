use Rattle.std.proofs.Common.{◌≤◌, ◌+◌, refl, subst, arith, ◌∷◌, drop}
use Rattle.token_language.specs.Tree.{block_size}
use Rattle.token_language.specs.StmtView.{block_of}
use Rattle.token_language.specs.TokenFaults.{stmt_faults, block_faults}
use Rattle.proc_language.proofs.Offers.{drop_item}
use Rattle.proc_names.proofs.Offers.{item_found}
use Rattle.token_language.proofs.uses.+stmt.Goals as goal

pub block_fault-loop-s-preserved : goal.block_fault-loop-s-preserved
block_fault-loop-s-preserved t c =
    let i = c.loop-s.s-index in
    let m = c.args.m.now in
    let p = c.args.p.now in
    let s = c.s-item.result in
    let stmts = c.args.stmts.now in
    record {
      told = item_found (λ ss. block_faults m p (block_of ss)) (stmt_faults m p s) stmts i s
          c.loop-s.found c.loop-s-test.true c.s-item.is refl c.earlier-found.ensures c.stmt_fault.ensures
          c.loop-s.invariant.told;
      smaller =
          let whole = block_size (block_of stmts) in
          let next = drop_item stmts i s c.loop-s-test.true c.s-item.is in
          let h : block_size (block_of (s ∷ drop (i + 1) stmts)) ≤ whole =
          subst (λ ss. block_size (block_of ss) ≤ whole) next c.loop-s.invariant.smaller in
          omega (arith, h);
    }
