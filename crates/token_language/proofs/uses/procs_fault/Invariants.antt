use Rattle.std.proofs.Common.{◌≡◌, drop}
use Rattle.proc_names.specs.Faults.{first, earlier}
use Rattle.token_language.specs.TokenFaults.{procs_faults}
use Rattle.token_language.proofs.uses.procs_fault.Given as goal

abbrev pub invariant-loop-p : goal.invariant-loop-p
invariant-loop-p l =
    earlier l.found (first (procs_faults l.m (drop l.p-index l.procs))) ≡ first (procs_faults l.m l.procs)
