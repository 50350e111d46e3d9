use Rattle.std.proofs.Common.{◌≡◌, string_bytes, take}
use Rattle.worked_parts.specs.Pieces.{pieces_text}
use Rattle.worked_parts.proofs.text.Given as goal

-- the pieces passed have their texts
abbrev pub invariant-loop-piece : goal.invariant-loop-piece
invariant-loop-piece l = string_bytes l.whole ≡ pieces_text (take l.piece-index l.pieces)
