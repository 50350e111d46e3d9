use Rattle.std.specs.Option.{option_and_then}
use Rattle.proc_language.specs.declared.module.Param.{Param}
use Rattle.proc_names.proofs.Looked.{there, past}
use Rattle.proc_names.proofs.uses.callback_arity.Goals as goal

pub returns-in-Some : goal.returns-in-Some
returns-in-Some c =
    let at = c.in-Some.ensures.lookup in
    there (option_and_then (λ (q : Param). q.arity)) c.args.params.now c.args.i c.in-Some.q.now at.3.0 at.1

pub returns-in-None : goal.returns-in-None
returns-in-None c =
    past (option_and_then (λ (q : Param). q.arity)) c.args.params.now c.args.i c.in-None.ensures.lookup.3
