use Rattle.std.proofs.Common.{◌≡◌}
use Rattle.lcm_machine.specs.Run.{plain}
use Rattle.lcm_machine.proofs.RunLemmas.{run_ended, all_made}
use Rattle.lcm_machine.proofs.TouchLemmas.{plain_same}
use Rattle.lcm_machine.proofs.HeldOnce.{plain_stays}
use Rattle.lcm_machine.proofs.machine.LcmState.run.Goals as goal

came : (c : goal.After-last_answer) → c.go.new.self ≡ plain c.args.n c.args.self.now
came c =
    all_made c.args.n c.go.result c.args.self.now c.go.new.self c.go.ensures.after c.go.ensures.most
    c.go.ensures.stops

pub returns-clause-after : goal.returns-clause-after
returns-clause-after c = came c

pub returns-clause-ended : goal.returns-clause-ended
returns-clause-ended c =
    run_ended c.args.n c.args.self.now c.go.new.self c.last_answer.result (came c) c.last_answer.ensures

pub returns-clause-same_cells : goal.returns-clause-same_cells
returns-clause-same_cells c = rw (came c) (plain_same c.args.n c.args.self.now)

pub returns-clause-held_once : goal.returns-clause-held_once
returns-clause-held_once c = rw (came c) (plain_stays c.args.n c.args.self.now)
