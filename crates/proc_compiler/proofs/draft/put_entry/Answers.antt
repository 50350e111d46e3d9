use Rattle.std.proofs.Common.{refl}
use Rattle.std.proofs.lemmas.Result.{on_ok_weaker}
use Rattle.call_sequence.specs.Sequences.{entry_code}
use Rattle.proc_compiler.proofs.Emitted.{one_code}
use Rattle.proc_compiler.proofs.draft.put_entry.Goals as goal

pub returns : goal.returns
unfolding entry_code
returns c =
    on_ok_weaker c.push_integers.result
    (one_code (entry_code 0 c.args.at c.args.stack_base) c.entry_words.ensures refl)
    c.push_integers.ensures
