use Rattle.std.proofs.Common.{◌+◌, ap, ◌∙◌, arith}
use Rattle.proc_language.specs.StmtView.{block_of as stmts_of}
use Rattle.proc_names.specs.Calls.{calls, block_calls}
use Rattle.proc_program.specs.Program.{If, While}
use Rattle.proc_program.specs.StepView.{block_of}
use Rattle.proc_program.specs.Lower.{steps_of}
use Rattle.proc_program.proofs.lower.+step_of.Goals as goal

pub branch_of-returns-clause-same : goal.branch_of-returns-clause-same
branch_of-returns-clause-same t c =
    let m = c.args.m.now in let p = c.args.p.now in
    let body = c.in_ok-body.ensures.same
    ∙ ap (λ k. steps_of m p k (stmts_of c.args.body.now)) c.in_ok-c.ensures.counted in
    let other = c.in_ok-steps_of.ensures.same
    ∙ ap (λ k. steps_of m p k (stmts_of c.args.other.now)) (c.in_ok-body.ensures.counted
    ∙ ap (λ k. k + block_calls (stmts_of c.args.body.now)) c.in_ok-c.ensures.counted) in
    λ i. If ((c.c.view_is ∙ c.in_ok-c.ensures.same) i) (block_of (body i)) (block_of (other i))

pub branch_of-returns-clause-counted : goal.branch_of-returns-clause-counted
branch_of-returns-clause-counted t c =
    let one = c.in_ok-c.ensures.counted in let two = c.in_ok-body.ensures.counted in
    let three = c.in_ok-steps_of.ensures.counted in
    omega (arith, one, two, three)

pub repeat_of-returns-clause-same : goal.repeat_of-returns-clause-same
repeat_of-returns-clause-same t c =
    let body = c.in_ok-steps_of.ensures.same
    ∙ ap (λ k. steps_of c.args.m.now c.args.p.now k (stmts_of c.args.body.now)) c.in_ok-c.ensures.counted in
    λ i. While (c.in_ok-c.ensures.same i) (block_of (body i))

pub repeat_of-returns-clause-counted : goal.repeat_of-returns-clause-counted
repeat_of-returns-clause-counted t c =
    let one = c.in_ok-c.ensures.counted in let two = c.in_ok-steps_of.ensures.counted in
    omega (arith, one, two)
