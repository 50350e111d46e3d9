-- Tokens written one after another.
use Rattle.std.proofs.Common.{◌≡◌, ℕ, refl, sym, ◌∙◌, ap, subst, List, [], ◌∷◌, ◌++◌, append_assoc}
use Rattle.std.proofs.lemmas.List.{append-nil}
use Rattle.proc_print.specs.declared.pieces.TextWriter.{TextWriter}
use Rattle.proc_print.specs.Printed.{Piece, bytes_of, behind, spelled, appended}
use Rattle.proc_print.specs.Writing.{WritesPieces}

spelled-append : (ps qs : List Piece) → spelled (ps ++ qs) ≡ spelled ps ++ spelled qs
spelled-append [] qs = refl
spelled-append (p ∷ ps) qs =
    ap (λ l. bytes_of p ++ (behind p ++ l)) (spelled-append ps qs)
    ∙ ap (λ l. bytes_of p ++ l) (sym (append_assoc (behind p) (spelled ps) (spelled qs)))
    ∙ sym (append_assoc (bytes_of p) (behind p ++ spelled ps) (spelled qs))

appended-append : (text : List ℕ) (ps qs : List Piece)
    → appended text (ps ++ qs) ≡ appended (appended text ps) qs
unfolding appended
appended-append text ps qs =
    ap (λ l. text ++ l) (spelled-append ps qs) ∙ sym (append_assoc text (spelled ps) (spelled qs))

appended-nil : (text : List ℕ) → appended text [] ≡ text
unfolding appended
appended-nil text = append-nil text

-- some tokens, and then others
pub both : {a b c : TextWriter} {ps qs : List Piece} → WritesPieces a b ps → WritesPieces b c qs
    → WritesPieces a c (ps ++ qs)
both {a} {b} {c} {ps} {qs} first next = record {
  kept = λ fits.
      let behind = next.kept fits in
      let before = first.kept behind.0 in
      (before.0, behind.1 ∙ ap (λ t. appended t qs) before.1 ∙ sym (appended-append a.text.items ps qs));
}

-- no tokens
pub none : (a : TextWriter) → WritesPieces a a []
none a = record { kept = λ fits. (fits, sym (appended-nil a.text.items)) }

-- the same tokens, told otherwise
pub told_as : {a b : TextWriter} {ps qs : List Piece} → WritesPieces a b ps → ps ≡ qs → WritesPieces a b qs
told_as {a} {b} written same = subst (WritesPieces a b) same written
