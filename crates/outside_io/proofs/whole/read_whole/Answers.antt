use Rattle.std.proofs.Common.{◌∙◌, arith}
use Rattle.outside_io.specs.declared.whole.ReadEnd.TheVariants.{Fault, NoMemory}
use Rattle.outside_io.proofs.Reading.{grown, ended, passed, failed, ran_out, at_length, if_this}
use Rattle.outside_io.proofs.whole.read_whole.Goals as goal

pub returns-then-count-eq0-clause-ok : goal.returns-then-count-eq0-clause-ok
returns-then-count-eq0-clause-ok g c =
    ended _ _ _ _ _ _ c.read.new.buf _ c.loop-whole.invariant c.if-count-eq0.true
    (at_length _ _ _ _ _ _ _ (c.len.ensures ∙ c.loop-whole.whole.ok.0) c.in_ok-count.ensures.ok)

pub returns-then-len-count-clause-err : goal.returns-then-len-count-clause-err
returns-then-len-count-clause-err g c =
    passed _ _ _ _ _ _ c.read.new.buf _ c.loop-whole.invariant
    (at_length _ _ _ _ _ _ _ (c.len.ensures ∙ c.loop-whole.whole.ok.0) c.in_ok-count.ensures.ok)
    (omega arith)

pub loop-whole-preserved : goal.loop-whole-preserved
loop-whole-preserved g c =
    rw c.in_ok-extend_from_slice.ensures.items
    (grown _ _ _ _ _ _ _ _ c.loop-whole.invariant (omega arith)
    (at_length _ _ _ _ _ _ _ (c.len.ensures ∙ c.loop-whole.whole.ok.0) c.in_ok-count.ensures.ok)
    (omega (arith, c.loop-whole.whole.ok.0)))

pub returns-in_err-count-clause-err : goal.returns-in_err-count-clause-err
returns-in_err-count-clause-err g c =
    if_this _ c.from_residual.result Fault c.from_residual.ensures.1
    (failed _ _ _ _ _ _ c.read.new.buf 0 c.loop-whole.invariant c.in_err-count.ensures.err)

pub returns-in_err-extend_from_slice-clause-err : goal.returns-in_err-extend_from_slice-clause-err
returns-in_err-extend_from_slice-clause-err g c =
    if_this _ c.from_residual-in_err-extend_from_slice.result NoMemory
    c.from_residual-in_err-extend_from_slice.ensures.1
    (ran_out _ _ _ _ _ _ _ _ c.loop-whole.invariant (omega arith)
    (at_length _ _ _ _ _ _ _ (c.len.ensures ∙ c.loop-whole.whole.ok.0) c.in_ok-count.ensures.ok)
    (omega (arith, c.loop-whole.whole.ok.0)))
