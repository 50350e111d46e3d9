-- The text of the pieces up to one more.
use Rattle.std.proofs.Common.{◌≡◌, ℕ, zero, suc, ◌+◌, ◌<◌, List, [], ◌∷◌, ◌++◌, length, take, get_or}
use Rattle.std.proofs.Common.{sym, ap, ◌∙◌, arith, add-one}
use Rattle.std.proofs.lemmas.List.{append_assoc, append-nil}
use Rattle.worked_parts.specs.declared.Piece.{Piece}
use Rattle.worked_parts.specs.Pieces.{piece_text, pieces_text}

pub text_more : (ps : List Piece) (i : ℕ) (d : Piece) → i < length ps
    → pieces_text (take (suc i) ps) ≡ pieces_text (take i ps) ++ piece_text (get_or ps i d)
text_more [] i d lt = absurd (omega (arith, lt))
text_more (p ∷ ps) zero d lt = append-nil (piece_text p)
text_more (p ∷ ps) (suc i) d lt =
    ap (λ t. piece_text p ++ t) (text_more ps i d (omega (arith, lt)))
    ∙ sym (append_assoc (piece_text p) (pieces_text (take i ps)) (piece_text (get_or ps i d)))

pub one_more : (a b : List ℕ) (ps : List Piece) (i : ℕ) (d : Piece) → a ≡ pieces_text (take i ps)
    → b ≡ a ++ piece_text (get_or ps i d) → i < length ps
    → b ≡ pieces_text (take (i + 1) ps)
one_more a b ps i d before e lt =
    rw add-one (e ∙ ap (λ t. t ++ piece_text (get_or ps i d)) before ∙ sym (text_more ps i d lt))
