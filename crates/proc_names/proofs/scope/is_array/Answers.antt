use Rattle.std.proofs.Common.{◌∙◌, is_some, Option, false}
use Rattle.std.specs.Option.{option_map_or}
use Rattle.proc_language.specs.declared.module.Global.{Global}
use Rattle.proc_names.proofs.Looked.{there, past}
use Rattle.proc_names.proofs.scope.is_array.Goals as goal

pub returns-in-Some : goal.returns-in-Some
returns-in-Some c =
    let at = c.in-Some.ensures.lookup in
    c.is_some.ensures ∙ there (λ (o : Option Global). option_map_or (λ g. is_some g.length) o false)
    c.args.globals.now c.args.i c.in-Some.g.now at.3.0 at.1

pub returns-in-None : goal.returns-in-None
returns-in-None c =
    past (λ (o : Option Global). option_map_or (λ g. is_some g.length) o false) c.args.globals.now c.args.i
    c.in-None.ensures.lookup.3
