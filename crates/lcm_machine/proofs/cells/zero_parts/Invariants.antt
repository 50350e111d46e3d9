use Rattle.std.proofs.Common.{◌≡◌, map, take}
use Rattle.lcm_machine.specs.Spans.{zero_part}
use Rattle.lcm_machine.proofs.cells.zero_parts.Given as goal

abbrev pub invariant-loop-span : goal.invariant-loop-span
invariant-loop-span g l = l.parts.items ≡ map (zero_part g.W.MachineWord.plain) (take l.span-index l.spans)
