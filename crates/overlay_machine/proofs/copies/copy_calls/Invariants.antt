-- The calls before are copied.
use Rattle.std.proofs.Common.{◌≡◌, take}
use Rattle.overlay_machine.proofs.copies.copy_calls.Given as goal

abbrev pub invariant-loop-call : goal.invariant-loop-call
invariant-loop-call l = l.copies.items ≡ take l.call-index l.calls
