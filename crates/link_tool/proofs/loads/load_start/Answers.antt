use Rattle.std.proofs.lemmas.Result.{err_from_is_err_and}
use Rattle.link_tool.specs.Loads.{load_parts, load_plan}
use Rattle.file_plans.proofs.Offers.{meets_end}
use Rattle.link_tool.proofs.LoadParts.{load_starts}
use Rattle.link_tool.proofs.loads.load_start.Goals as goal

pub returns-in_err-parts : goal.returns-in_err-parts
unfolding load_plan
returns-in_err-parts c =
    let p = err_from_is_err_and c.from_residual.result c.from_residual.ensures.1 in
    rw (p.1, p.2) (meets_end (load_parts c.args.load) _ c.in_err-parts.field-0.0 c.in_err-parts.ensures.are)

pub returns : goal.returns
returns c =
    load_starts c.args.load c.in_ok-parts.parts c.start_of.result c.in_ok-parts.ensures.are
    c.start_of.ensures.rules c.start_of.ensures.linked
