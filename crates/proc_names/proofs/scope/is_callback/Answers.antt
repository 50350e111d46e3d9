use Rattle.std.proofs.Common.{◌∙◌, is_some, Option, false}
use Rattle.std.specs.Option.{option_map_or}
use Rattle.proc_language.specs.declared.module.Param.{Param}
use Rattle.proc_names.proofs.Looked.{there, past}
use Rattle.proc_names.proofs.scope.is_callback.Goals as goal

pub returns-in-Some : goal.returns-in-Some
returns-in-Some c =
    let at = c.in-Some.ensures.lookup in
    c.is_some.ensures ∙ there (λ (o : Option Param). option_map_or (λ q. is_some q.arity) o false)
    c.args.params.now c.args.i c.in-Some.q.now at.3.0 at.1

pub returns-in-None : goal.returns-in-None
returns-in-None c =
    past (λ (o : Option Param). option_map_or (λ q. is_some q.arity) o false) c.args.params.now c.args.i
    c.in-None.ensures.lookup.3
