-- The modules of the words so far.
use Rattle.std.proofs.Common.{◌≡◌, length}
use Rattle.meaning_tool.specs.Subjects.{module_at}
use Rattle.file_plans.proofs.Offers.{SoFar}
use Rattle.meaning_tool.proofs.modules.modules.Given as goal

abbrev pub invariant-loop-word : goal.invariant-loop-word
invariant-loop-word g l = record {
  index : l.index ≡ l.word-index;
  count : length l.modules.items ≡ l.word-index;
  so_far : SoFar module_at l.words (g.F.Files.seen l.fn.files) l.word-index l.modules.items
      (g.F.Files.seen l.files);
}
