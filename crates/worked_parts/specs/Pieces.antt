-- The text of pieces.
use Rattle.std.specs.Prelude.{ℕ, List, [], ◌∷◌, ◌++◌, codes}
use Rattle.worked_parts.specs.declared.TheConstants.{ENTRY, CALL, CALL_ON, RETURN}
use Rattle.worked_parts.specs.declared.Piece.{Piece}
use Rattle.worked_parts.specs.declared.Piece.TheVariants.{Lines, Entry, Site}

-- a call up to the index of its site, the index, and what stands after it
abbrev pub site_text : List ℕ → List ℕ
site_text index = CALL.now ++ (index ++ (CALL_ON.now ++ RETURN.now))

abbrev pub piece_text : Piece → List ℕ
piece_text (Lines lines) = lines.now
piece_text (Entry label) = (label.now ++ codes ": ") ++ ENTRY.now
piece_text (Site label index) = (label.now ++ codes ": ") ++ site_text index.now

-- one after the other
abbrev pub pieces_text : List Piece → List ℕ
pieces_text [] = []
pieces_text (p ∷ ps) = piece_text p ++ pieces_text ps
