use Rattle.std.proofs.Common.{◌≡◌, ◌≤◌, ◌<◌, ◌+◌, ◌^◌, drop}
use Rattle.proc_names.specs.Need.{in_32_bits}
use Rattle.proc_program.specs.Program.{step_size, block_size}
use Rattle.proc_program.specs.StepView.{block_of}
use Rattle.proc_program.specs.Calls.{block_calls}
use Rattle.proc_templates.specs.Templates.{block_words}
use Rattle.proc_compiler.proofs.counts.+step_count.Given as goal

abbrev pub decreases-step_count : goal.decreases-step_count
decreases-step_count l = step_size l.s.now

abbrev pub decreases-block_count : goal.decreases-block_count
decreases-block_count l = block_size (block_of l.steps.now)

abbrev pub invariant-block_count-loop-s : goal.invariant-block_count-loop-s
invariant-block_count-loop-s l = record {
  words : in_32_bits (l.count.words + block_words (block_of (drop l.s-index l.steps)))
      ≡ in_32_bits (block_words (block_of l.steps));
  calls : in_32_bits (l.count.calls + block_calls (block_of (drop l.s-index l.steps)))
      ≡ in_32_bits (block_calls (block_of l.steps));
  fit : (l.count.words < 2 ^ 32) × (l.count.calls < 2 ^ 32);
  smaller : block_size (block_of (drop l.s-index l.steps)) ≤ block_size (block_of l.steps);
}
