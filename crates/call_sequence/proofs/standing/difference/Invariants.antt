use Rattle.std.proofs.Common.{◌≡◌, ◌+◌}
use Rattle.std.specs.Prelude.{drop}
use Rattle.call_sequence.specs.Standing.{difference}
use Rattle.call_sequence.proofs.standing.difference.Given as goal

abbrev pub invariant-loop-number : goal.invariant-loop-number
invariant-loop-number l = record {
  place : l.at ≡ l.initial.at + l.number-index;
  rest : difference l.words l.at (drop l.number-index l.numbers) ≡ difference l.words l.initial.at l.numbers;
}
