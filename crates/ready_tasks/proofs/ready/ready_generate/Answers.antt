use Rattle.std.proofs.Common.{ap, ◌∙◌}
use Rattle.link_tool.specs.Generated.{load_of}
use Rattle.ready_tasks.proofs.Loads.{load_done}
use Rattle.ready_tasks.proofs.ready.ready_generate.Goals as goal

pub returns : goal.returns
returns c =
    load_done c.args.seed c.load_of-load.result c.in_ok-start.start
    (c.load_of-load.ensures ∙ ap load_of c.number.ensures.same) c.in_ok-start.ensures
