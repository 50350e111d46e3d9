use Rattle.debug_script.specs.Script.{scripted}
use Rattle.file_plans.specs.Plans.{file, unless}
use Rattle.ready_tasks.specs.Debugs.{unscripted, script_at}
use Rattle.file_plans.proofs.Offers.{follows_meets}
use Rattle.ready_tasks.proofs.debugging.read_script.Goals as goal

pub returns : goal.returns
unfolding script_at
returns g c =
    follows_meets (file c.args.name.now c.args.index) (λ t. unless unscripted (scripted t)) _ _
    c.in_ok-text.text c.script.result c.in_ok-text.ensures.came (rw c.as_slice.ensures at c.script.ensures)
