use Rattle.std.proofs.Common.{◌≡◌, take}
use Rattle.token_language.proofs.items.globals.Given as goal

abbrev pub invariant-loop-g : goal.invariant-loop-g
invariant-loop-g l = l.same.items ≡ take l.g-index l.list
