use Rattle.assembler.proofs.LineLemmas.{placed_in_text}
use Rattle.assembler.proofs.lines.draft_of.Goals as goal

pub take_text-requires-clause-slices : goal.take_text-requires-clause-slices
take_text-requires-clause-slices c =
    placed_in_text c.args.text.now 0 c.args.tokens.now c.requires.placed
