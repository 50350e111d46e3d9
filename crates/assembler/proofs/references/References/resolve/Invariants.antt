use Rattle.std.proofs.Common.{◌≡◌, ◌≤◌, ℕ, length, map}
use Rattle.std.specs.Prelude.{reverse}
use Rattle.cap_words.specs.declared.TheConstants.{LONGEST_STRETCH}
use Rattle.assembler.specs.References.{AreReady, resolved}
use Rattle.assembler.proofs.Resolved.{referring}
use Rattle.assembler.proofs.references.References.resolve.Given as goal

abbrev pub decreases-loop-reference : goal.decreases-loop-reference
decreases-loop-reference l = length l.list.items

abbrev pub invariant-loop-reference : goal.invariant-loop-reference
invariant-loop-reference l = record {
  few : length l.code.items ≤ LONGEST_STRETCH;
  low : ℕ;
  ready : AreReady low l.code.items (reverse (map referring l.list.items));
  so_far : resolved l.labels (reverse (map referring l.list.items))
      l.code.items ≡ resolved l.labels l.fn.self l.fn.code.items;
}
