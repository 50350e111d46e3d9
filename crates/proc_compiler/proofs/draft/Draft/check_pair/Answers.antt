use Rattle.std.proofs.Common.{rules}
use Rattle.std.proofs.lemmas.Result.{on_ok_weaker}
use Rattle.proc_compiler.proofs.Ends.{pair_written}
use Rattle.proc_compiler.proofs.draft.Draft.check_pair.Goals as goal

pub returns : goal.returns
returns c =
    on_ok_weaker c.words-2.result
    (pair_written c.args.r c.args.q (search rules) c.in_ok-words.ensures c.in_ok-check_half.ensures
    c.in_ok-check_half-2.ensures)
    c.words-2.ensures
