use Rattle.std.proofs.Common.{◌≡◌, take}
use Rattle.token_language.proofs.items.imports.Given as goal

abbrev pub invariant-loop-i : goal.invariant-loop-i
invariant-loop-i l = l.same.items ≡ take l.i-index l.list
