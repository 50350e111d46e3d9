use Rattle.std.proofs.Common.{◌≡◌, map, length}
use Rattle.asm_fields.specs.Fields.{seen, InText}
use Rattle.assembler.specs.Whole.{lines_of, drafted}
use Rattle.assembler.proofs.LineLemmas.{InLine, rest_drafted}
use Rattle.assembler.proofs.lines.take_lines.Given as goal

abbrev pub invariant-loop-token : goal.invariant-loop-token
invariant-loop-token l = record {
  slices : InText l.text l.line.items;
  in_line : InLine (map (seen l.text) l.line.items);
  so_far : rest_drafted l.text l.tokens l.token-index l.line.items l.draft ≡ drafted l.fn.draft
      (lines_of (map (seen l.text) l.fn.tokens) (length l.text));
}
