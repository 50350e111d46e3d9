use Rattle.std.proofs.Common.{◌∙◌}
use Rattle.lcm_machine.specs.Run.{plain}
use Rattle.lcm_machine.proofs.RunLemmas.{next_within}
use Rattle.lcm_machine.proofs.TouchLemmas.{plain_same}
use Rattle.lcm_machine.proofs.HeldOnce.{plain_stays}
use Rattle.lcm_machine.proofs.machine.LcmState.run_within.Goals as goal

pub returns-clause-made : goal.returns-clause-made
returns-clause-made c = λ k lt.
    next_within c.args.from c.args.to (plain k c.args.self.now) ∙ c.go-made.ensures.made k lt

pub returns-clause-stops : goal.returns-clause-stops
returns-clause-stops c = λ lt.
    next_within c.args.from c.args.to c.go-made.new.self ∙ c.go-made.ensures.stops lt

pub returns-clause-same_cells : goal.returns-clause-same_cells
returns-clause-same_cells c = rw c.go-made.ensures.after (plain_same c.go-made.result c.args.self.now)

pub returns-clause-held_once : goal.returns-clause-held_once
returns-clause-held_once c = rw c.go-made.ensures.after (plain_stays c.go-made.result c.args.self.now)
