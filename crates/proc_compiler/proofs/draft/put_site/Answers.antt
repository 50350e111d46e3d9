use Rattle.std.proofs.Common.{◌+◌, refl}
use Rattle.std.proofs.lemmas.Result.{on_ok_weaker}
use Rattle.call_sequence.specs.declared.TheConstants.{CALL_WORDS}
use Rattle.call_sequence.specs.Sequences.{call_code, return_code}
use Rattle.proc_compiler.proofs.Emitted.{one_code, two_codes}
use Rattle.proc_compiler.proofs.draft.put_site.Goals as goal

pub returns : goal.returns
unfolding call_code return_code
returns c =
    let call = call_code 1 c.args.at c.args.number in
    let back = return_code 0 (c.args.at + CALL_WORDS) c.args.stack_base in
    on_ok_weaker c.push_integers-2.result
    (λ h. two_codes call back (one_code call c.call_words.ensures refl c.in_ok-push_integers.ensures)
    (one_code back c.return_words.ensures refl h))
    c.push_integers-2.ensures
