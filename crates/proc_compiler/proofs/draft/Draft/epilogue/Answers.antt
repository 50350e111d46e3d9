use Rattle.std.proofs.lemmas.Result.{on_ok_weaker}
use Rattle.proc_compiler.proofs.Ends.{epilogue_written}
use Rattle.proc_compiler.proofs.draft.Draft.epilogue.Goals as goal

pub returns : goal.returns
returns c =
    on_ok_weaker c.leave.result
    (epilogue_written c.args.words c.requires c.in_ok-put.ensures c.in_ok-wipe.ensures
    c.in_ok-take_back.ensures c.in_ok-take_back-2.ensures)
    c.leave.ensures
