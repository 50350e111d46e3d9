use Rattle.std.proofs.Common.{◌≡◌, ◌<◌, ◌+◌, ◌^◌, drop, sum_by}
use Rattle.proc_names.specs.Need.{in_32_bits}
use Rattle.proc_program.specs.Calls.{procedure_calls}
use Rattle.proc_templates.specs.Compiled.{size_of_proc}
use Rattle.proc_compiler.proofs.counts.code_count.Given as goal

abbrev pub invariant-loop-p : goal.invariant-loop-p
invariant-loop-p l = record {
  words : in_32_bits (l.count.words + sum_by size_of_proc (drop l.p-index l.m.procs))
      ≡ in_32_bits (2 + sum_by size_of_proc l.m.procs);
  calls : in_32_bits (l.count.calls + sum_by procedure_calls (drop l.p-index l.m.procs))
      ≡ in_32_bits (sum_by procedure_calls l.m.procs);
  fit : (l.count.words < 2 ^ 32) × (l.count.calls < 2 ^ 32);
}
