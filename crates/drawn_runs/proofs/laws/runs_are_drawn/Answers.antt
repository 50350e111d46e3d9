use Rattle.drawn_runs.specs.Drawn.{text_of}
use Rattle.drawn_runs.proofs.Drawing.{passing_drawn}
use Rattle.drawn_runs.proofs.laws.runs_are_drawn.Goals as goal

pub returns : goal.returns
returns c = λ parts size s is steps small.
    passing_drawn (text_of s steps)
    ((c.traces_are_found.ensures.traces (text_of s steps)).0
    (c.runs_pass.ensures parts size s is steps small))
