use Rattle.std.proofs.Common.{◌≡◌, ◌+◌, ◌++◌, drop, sum_by}
use Rattle.proc_names.specs.Calls.{proc_calls}
use Rattle.proc_program.specs.Lower.{procedures_of}
use Rattle.proc_program.proofs.lower.procedures_of.Given as goal

abbrev pub invariant-loop-p : goal.invariant-loop-p
invariant-loop-p l = record {
  told : l.lowered.items ++ procedures_of l.m l.next (drop l.p-index l.procs) ≡ procedures_of l.m 0 l.procs;
  counted : l.next + sum_by proc_calls (drop l.p-index l.procs) ≡ sum_by proc_calls l.procs;
}
