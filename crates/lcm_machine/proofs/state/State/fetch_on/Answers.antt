use Rattle.std.proofs.Common.{ap, sym, ◌∙◌}
use Rattle.lcm_machine.specs.Row.{cell_faces, fetch_word}
use Rattle.lcm_machine.proofs.Fetching.{fetched_by}
use Rattle.lcm_machine.proofs.state.State.fetch_on.Goals as goal

pub returns-clause-is : goal.returns-clause-is
returns-clause-is g c =
    fetched_by _ _ _
    (c.in_ok-c.ensures.is (cell_faces g.W.MachineWord.look c.args.self.now)
    ∙ ap (fetch_word c.in_ok-c.c) (sym c.fetched-found.ensures.is))
    c.decoded.ensures
