use Rattle.call_sequence.proofs.Offers.{LeastOf}
use Rattle.flow_check.proofs.lists.k3.Given as goal

abbrev pub invariant-loop-e : goal.invariant-loop-e
invariant-loop-e l = LeastOf l.c l.exports l.e-index l.least
