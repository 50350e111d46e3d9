use Rattle.std.proofs.lemmas.Result.{err_from_is_err_and}
use Rattle.ready_tasks.specs.Commands.{debug_plan, script_after}
use Rattle.link_tool.specs.Linked.{linked_plan}
use Rattle.file_plans.proofs.Offers.{follows_end}
use Rattle.ready_tasks.proofs.Debugs.{few_owners, debug_follows, debug_stops}
use Rattle.ready_tasks.proofs.debugging.ready_debug.Goals as goal

pub part_count-index-requires : goal.part_count-index-requires
part_count-index-requires g c =
    let f = c.in_ok-start.ensures in few_owners f.0.parts f.0.stack c.in_ok-start.start f.2

pub returns-in_err-start : goal.returns-in_err-start
unfolding debug_plan
returns-in_err-start g c =
    let p = err_from_is_err_and c.from_residual.result c.from_residual.ensures.1 in
    rw (p.1, p.2) (follows_end (linked_plan c.args.what.now) (script_after c.args.name.now) _ _
    c.in_err-start.field-0.0 c.in_err-start.ensures)

pub returns-in_err-script : goal.returns-in_err-script
returns-in_err-script g c =
    let f = c.in_ok-start.ensures in
    let p =
    err_from_is_err_and c.from_residual-in_err-script.result c.from_residual-in_err-script.ensures.1 in
    rw (p.1, p.2) (debug_stops c.args.what.now c.args.name.now f.0 c.in_ok-start.start
    c.part_count-index.result _ _ _ f.1 f.2 c.part_count-index.ensures c.in_err-script.field-0.0
    c.in_err-script.ensures)

pub returns : goal.returns
returns g c =
    let f = c.in_ok-start.ensures in
    debug_follows c.args.what.now c.args.name.now f.0 c.in_ok-start.start c.part_count-index.result _ _ _ f.1
    f.2 c.part_count-index.ensures c.in_ok-script.script c.in_ok-script.ensures
