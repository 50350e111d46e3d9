use Rattle.std.proofs.lemmas.Result.{on_ok_weaker}
use Rattle.proc_compiler.proofs.Ends.{leave_written}
use Rattle.proc_compiler.proofs.draft.Draft.leave.Goals as goal

pub returns : goal.returns
returns c =
    on_ok_weaker c.words.result (leave_written c.args.self.now c.words.new.self) c.words.ensures
