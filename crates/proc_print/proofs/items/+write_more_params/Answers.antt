use Rattle.std.proofs.Common.{sym, subst, rules, List}
use Rattle.std.proofs.lemmas.List.{nil_from_length}
use Rattle.proc_language.specs.declared.module.Param.{Param}
use Rattle.proc_print.specs.Printed.{more_params}
use Rattle.proc_print.specs.Writing.{WritesPieces}
use Rattle.proc_print.proofs.Writing.{both, none, told_as}
use Rattle.proc_print.proofs.items.+write_more_params.Goals as goal

pub returns-in-None : goal.returns-in-None
returns-in-None t c =
    let text = c.args.text.now in
    subst (λ (params : List Param). WritesPieces text text (more_params params))
    (sym (nil_from_length c.args.params.now c.in-None.ensures.cases)) (none text)

pub returns-in-Some : goal.returns-in-Some
returns-in-Some t c =
    told_as (both c.sign.ensures (both c.write_param.ensures c.write_more_params.ensures)) (search rules)
