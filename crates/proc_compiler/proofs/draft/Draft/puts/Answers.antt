use Rattle.std.proofs.lemmas.Result.{on_ok_weaker}
use Rattle.proc_compiler.proofs.Emitted.{plainly}
use Rattle.proc_compiler.proofs.draft.Draft.puts.Goals as goal

pub returns : goal.returns
returns c =
    on_ok_weaker c.words.result (plainly c.args.instrs.now c.args.self.now c.words.new.self) c.words.ensures
