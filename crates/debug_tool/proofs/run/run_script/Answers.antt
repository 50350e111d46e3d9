use Rattle.std.proofs.Common.{rules, ◌<◌, List, length, subst}
use Rattle.std.specs.Prelude.{Result, Ok, Err, OnErr}
use Rattle.debug_script.specs.declared.command.DebugCommand.{DebugCommand}
use Rattle.debug_script.specs.declared.command.DebugCommand.TheVariants.{Forward}
use Rattle.debug_tool.specs.Faults.{StopsAtReply}
use Rattle.debug_tool.proofs.Telling.{one_fails, one_told}
use Rattle.debug_tool.proofs.run.run_script.Goals as goal

on_err : {A E : Type 0} (r : Result A E) (P : Type 0) → P → OnErr r P
on_err (Ok x) P p = tt
on_err (Err e) P p = p

pub returns-in_err-run_command-clause-err : goal.returns-in_err-run_command-clause-err
returns-in_err-run_command-clause-err g c =
    let items = c.commands-command-items.result.now in
    let at = c.loop-command.command-index in
    let lt : at < length items = search rules in
    let seen = g.S.Sink.seen in
    let e = c.in_err-run_command.ensures in
    let P : List DebugCommand → _ = λ cs. StopsAtReply cs c.args.debugger.now (seen c.args.out.now)
    c.run_command.new.debugger (seen c.run_command.new.out) in
    on_err c.from_residual.result _ (subst P c.commands-command-items.ensures.are
    (one_fails _ _ items at _ _ (Forward 0) lt c.loop-command.invariant _ _ e.err e.counted e.after))

pub loop-command-preserved : goal.loop-command-preserved
loop-command-preserved g c =
    let items = c.commands-command-items.result.now in
    let at = c.loop-command.command-index in
    let lt : at < length items = search rules in
    let e = c.in_ok-run_command.ensures in
    one_told _ _ items at _ _ (Forward 0) lt c.loop-command.invariant _ _ e.ok e.counted e.after e.count
