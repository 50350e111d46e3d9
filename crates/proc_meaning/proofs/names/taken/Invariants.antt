use Rattle.std.proofs.Common.{◌≡◌, [], length}
use Rattle.proc_semantics.specs.Values.{taken}
use Rattle.proc_meaning.proofs.names.taken.Given as goal

abbrev pub invariant-loop-callback : goal.invariant-loop-callback
invariant-loop-callback l = taken l.env.items l.callbacks l.registers
    ≡ taken [] l.initial.callbacks l.initial.registers

abbrev pub decreases-loop-callback : goal.decreases-loop-callback
decreases-loop-callback l = length l.callbacks
