use Rattle.lcm_machine.specs.Run.{plain, answer}
use Rattle.run_lines.specs.EndLines.{end_line}
use Rattle.run_lines.specs.Runs.{run_text, written}
use Rattle.audited_runs.proofs.Offers.{end_is}
use Rattle.audited_runs.proofs.EndsRead.{end_fits, end_read}
use Rattle.audited_runs.proofs.Passing.{passes}
use Rattle.audited_runs.proofs.laws.runs_pass.Goals as goal

pub returns : goal.returns
unfolding run_text
returns c = λ parts size s is n small.
    (let k = c.lines_are_followed.ensures parts size s is n in
    let r = plain n s.state in
    let fits = end_fits n s.state is.starts.state.count small (c.lines_fit.ensures.runs parts size s is n) in
    passes (end_line r) (_, end_is r) (end_read (answer r) r fits) (written s n) k.0
    (c.lines_fit.ensures.lines parts size s is n) k.1)
