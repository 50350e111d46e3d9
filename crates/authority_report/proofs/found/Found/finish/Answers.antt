use Rattle.std.proofs.Common.{length, ap, ◌∙◌, arith}
use Rattle.std.proofs.lemmas.List.{length_push}
use Rattle.authority_report.proofs.FoundLemmas.{look_at}
use Rattle.authority_report.proofs.found.Found.finish.Goals as goal

pub look-requires : goal.look-requires
look-requires c =
    look_at c.args.state.now.maps c.args.owner.now c.loop-cells.self c.pop.new.self c.in-Some.cells
    c.in-Some.ensures.items c.loop-cells.invariant

pub loop-cells-smaller : goal.loop-cells-smaller
loop-cells-smaller c =
    let fewer = c.in_ok-look.ensures.fewer in
    let one = ap length c.in-Some.ensures.items ∙ length_push c.pop.new.self.items c.in-Some.cells in
    omega (arith, fewer, one)
