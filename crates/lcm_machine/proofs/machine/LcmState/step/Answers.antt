use Rattle.std.proofs.Common.{◌≡◌, ap, ◌∙◌}
use Rattle.lcm_machine.specs.Run.{plain, answer}
use Rattle.lcm_machine.proofs.RunLemmas.{run_ended, next_stays, all_made}
use Rattle.lcm_machine.proofs.TouchLemmas.{next_state_same, next_state_untouched}
use Rattle.lcm_machine.proofs.HeldOnce.{next_state_stays}
use Rattle.lcm_machine.proofs.machine.LcmState.step.Goals as goal

came : (c : goal.After-last_answer) → c.go.new.self ≡ plain 1 c.args.self.now
came c =
    all_made 1 c.go.result c.args.self.now c.go.new.self c.go.ensures.after c.go.ensures.most
    c.go.ensures.stops

pub returns-clause-after : goal.returns-clause-after
returns-clause-after c = came c

pub returns-clause-ended : goal.returns-clause-ended
returns-clause-ended c =
    run_ended 1 c.args.self.now c.go.new.self c.last_answer.result (came c) c.last_answer.ensures

pub returns-clause-stays : goal.returns-clause-stays
returns-clause-stays c = λ other.
    rw (came c) (next_stays c.args.self.now (λ e. other (c.last_answer.ensures ∙ ap answer (came c) ∙ e)))

pub returns-clause-same_cells : goal.returns-clause-same_cells
returns-clause-same_cells c = rw (came c) (next_state_same c.args.self.now)

pub returns-clause-untouched : goal.returns-clause-untouched
returns-clause-untouched c = rw (came c) (next_state_untouched c.args.self.now)

pub returns-clause-held_once : goal.returns-clause-held_once
returns-clause-held_once c = rw (came c) (next_state_stays c.args.self.now)
