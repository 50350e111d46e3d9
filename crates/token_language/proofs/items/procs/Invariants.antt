use Rattle.std.proofs.Common.{◌≡◌, map, take}
use Rattle.token_language.specs.Erased.{erased_proc}
use Rattle.token_language.proofs.items.procs.Given as goal

abbrev pub invariant-loop-p : goal.invariant-loop-p
invariant-loop-p l = l.kept.items ≡ map erased_proc (take l.p-index l.list)
