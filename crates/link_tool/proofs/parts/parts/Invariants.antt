-- The parts of the words so far.
use Rattle.std.proofs.Common.{◌≡◌, length}
use Rattle.link_tool.specs.Parts.{part_at}
use Rattle.file_plans.proofs.Offers.{SoFar}
use Rattle.link_tool.proofs.parts.parts.Given as goal

abbrev pub invariant-loop-word : goal.invariant-loop-word
invariant-loop-word g l = record {
  index : l.index ≡ l.word-index;
  count : length l.parts.items ≡ l.word-index;
  so_far : SoFar part_at l.words (g.F.Files.seen l.fn.files) l.word-index l.parts.items
      (g.F.Files.seen l.files);
}
