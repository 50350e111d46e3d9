use Rattle.lcm_machine.proofs.RunLemmas.{Making}
use Rattle.lcm_machine.proofs.machine.LcmState.go.Given as goal

-- the steps before this one were made, and are still to be counted
abbrev pub invariant-loop-made : goal.invariant-loop-made
invariant-loop-made l = Making l.initial.which l.initial.self l.made l.self
