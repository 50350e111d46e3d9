-- The machine of a start, lent.
use Rattle.std.specs.Borrow.{Lends, MutBor, Fml}
use Rattle.lcm_machine.specs.Run.{Run}
use Rattle.lcm_machine.specs.contracts.machine.LcmState as machine_contracts
use Rattle.linked_starts.specs.contracts.started.Start.{the_row}
use Rattle.linked_starts.specs.Started.{StartSeen}

-- the start ends with the last value after r as its machine, and else as it was
abbrev pub LendsState : MutBor StartSeen → MutBor Run → Fml
LendsState s r = Lends the_row machine_contracts.the_row s r (λ w. record s.now { state = w })
