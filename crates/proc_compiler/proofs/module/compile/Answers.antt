use Rattle.std.proofs.Common.{subst}
use Rattle.proc_language.specs.Limits.{IsModule}
use Rattle.proc_compiler.proofs.Modules.{part_ready, part_named, ok_map, err_map, module_compiles}
use Rattle.proc_compiler.proofs.Modules.{module_causes}
use Rattle.proc_compiler.proofs.module.compile.Goals as goal

pub component_of-requires-clause-limits : goal.component_of-requires-clause-limits
component_of-requires-clause-limits c =
    let limits = c.fields-limits.ensures in
    part_ready c.args.m.now c.in_ok-part.part c.in_ok-part.ensures
    (subst IsModule limits.same limits.within_limits)

pub component_of-requires-clause-named : goal.component_of-requires-clause-named
component_of-requires-clause-named c =
    part_named c.args.m.now c.in_ok-part.part c.in_ok-part.ensures c.requires.resolved

pub returns-clause-compiles : goal.returns-clause-compiles
returns-clause-compiles c =
    ok_map c.component_of.result
    (λ _ h. module_compiles c.args.m.now c.in_ok-part.part c.in_ok-part.ensures h)
    c.component_of.ensures.compiles

pub returns-clause-causes : goal.returns-clause-causes
returns-clause-causes c =
    err_map c.component_of.result
    (λ f h. module_causes c.args.m.now c.in_ok-part.part f c.in_ok-part.ensures h)
    c.component_of.ensures.causes
