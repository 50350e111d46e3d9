use Rattle.std.proofs.Common.{subst}
use Rattle.std.specs.List.{concat}
use Rattle.outside_io.specs.SinkSeen.{FailsToWrite}
use Rattle.outside_io.proofs.Offers.{text_failed}
use Rattle.debug_tool.specs.Replies.{replies}
use Rattle.debug_tool.proofs.run.debug.Goals as goal

pub returns-in-Err-clause-err : goal.returns-in-Err-clause-err
returns-in-Err-clause-err g c =
    let old = g.S.Sink.seen c.args.out.now in
    let new = g.S.Sink.seen c.run_script-done.new.out in
    subst (λ d. FailsToWrite old (concat (replies c.args.script.now d)) new) c.in_ok-debugger.ensures
    (text_failed _ _ _ c.in-Err.ensures.err.at)
