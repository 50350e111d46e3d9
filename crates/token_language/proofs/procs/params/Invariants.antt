use Rattle.std.proofs.Common.{◌≡◌, ◌++◌, drop}
use Rattle.token_language.specs.Erased.{erased_params}
use Rattle.token_language.proofs.procs.params.Given as goal

abbrev pub invariant-loop-q : goal.invariant-loop-q
invariant-loop-q l = l.kept.items ++ erased_params (drop l.q-index l.list) ≡ erased_params l.list
