use Rattle.std.proofs.Common.{◌+◌, ◌≤◌, arith}
use Rattle.authority_report.proofs.FoundLemmas.{look_end}
use Rattle.authority_report.proofs.found.Found.look.Goals as goal

through : (a b c : _) → a ≤ b → b ≤ c → a ≤ c
through a b c h k = omega (arith, h, k)

pub loop-at-init : goal.loop-at-init
loop-at-init c = (c.requires, omega arith)

pub loop-at-preserved : goal.loop-at-preserved
loop-at-preserved c = (
  c.in_ok-look_at.ensures.closed c.args.cells.end c.loop-at-test.true c.loop-at.invariant.0,
  through _ _ _ c.in_ok-look_at.ensures.fewer c.loop-at.invariant.1,
)

pub returns-in_ok-look_at-clause-closed : goal.returns-in_ok-look_at-clause-closed
returns-in_ok-look_at-clause-closed c =
    let k = c.in_ok-look_at.ensures.closed c.args.cells.end c.loop-at-test.true c.loop-at.invariant.0 in
    look_end c.args.state.now.maps c.args.owner.now c.look_at.new.self (c.loop-at.at + 1) c.args.cells.end
    (omega arith) k

pub returns-in_ok-look_at-clause-fewer : goal.returns-in_ok-look_at-clause-fewer
returns-in_ok-look_at-clause-fewer c =
    through _ _ _ c.in_ok-look_at.ensures.fewer c.loop-at.invariant.1

pub returns-clause-closed : goal.returns-clause-closed
returns-clause-closed c =
    look_end c.args.state.now.maps c.args.owner.now c.loop-at.self c.loop-at.at c.args.cells.end
    c.loop-at-test.false c.loop-at.invariant.0

pub returns-clause-fewer : goal.returns-clause-fewer
returns-clause-fewer c = c.loop-at.invariant.1
