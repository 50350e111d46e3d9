use Rattle.std.proofs.Common.{◌≡◌, map, take}
use Rattle.proc_semantics.specs.Values.{register_of}
use Rattle.proc_meaning.proofs.places.registers.Given as goal

abbrev pub invariant-loop-value : goal.invariant-loop-value
invariant-loop-value l = l.registers.items ≡ map register_of (take l.value-index l.values)
