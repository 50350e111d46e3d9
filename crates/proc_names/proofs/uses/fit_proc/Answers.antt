use Rattle.std.proofs.Common.{◌∙◌, ap, Option, false}
use Rattle.std.specs.Option.{option_map_or}
use Rattle.proc_language.specs.declared.module.Proc.{Proc}
use Rattle.proc_language.specs.View.{args_of}
use Rattle.proc_names.specs.NameFaults.{fit}
use Rattle.proc_names.proofs.Looked.{there, past}
use Rattle.proc_names.proofs.uses.fit_proc.Goals as goal

pub returns-in-Some : goal.returns-in-Some
returns-in-Some c =
    let args = args_of c.args.args.now in let at = c.in-Some.ensures.lookup in
    c.fit.ensures ∙ ap (fit args) c.as_slice.ensures
    ∙ there (λ (o : Option Proc). option_map_or (λ q. fit args q.params) o false) c.args.procs.now c.args.i
    c.in-Some.q.now at.3.0 at.1

pub returns-in-None : goal.returns-in-None
returns-in-None c =
    let args = args_of c.args.args.now in
    past (λ (o : Option Proc). option_map_or (λ q. fit args q.params) o false) c.args.procs.now c.args.i
    c.in-None.ensures.lookup.3
