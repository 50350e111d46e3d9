use Rattle.std.proofs.Common.{◌≡◌, ◌++◌, drop}
use Rattle.token_language.specs.Erased.{erased_locals}
use Rattle.token_language.proofs.procs.locals.Given as goal

abbrev pub invariant-loop-x : goal.invariant-loop-x
invariant-loop-x l = l.kept.items ++ erased_locals (drop l.x-index l.list) ≡ erased_locals l.list
