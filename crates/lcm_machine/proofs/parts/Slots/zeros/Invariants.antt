use Rattle.std.proofs.Common.{◌≡◌, Some, replicate}
use Rattle.cap_words.specs.Linear.{zero_word}
use Rattle.lcm_machine.proofs.parts.Slots.zeros.Given as goal

abbrev pub invariant-loop-i : goal.invariant-loop-i
invariant-loop-i g l = l.slots.items ≡ replicate l._i (Some (zero_word g.W.MachineWord.plain))
