-- A line that is written piece by piece.
use Rattle.std.proofs.Common.{◌≡◌, ℕ, List, [], ◌∷◌, ◌++◌, sym, ap, ◌∙◌, append-nil, append_assoc}
use Rattle.std.specs.List.{flat_map}
use Rattle.cap_words.specs.Text.{field_text, newline}

-- operands after a text, one after another
abbrev pub after : List ℕ → List (List ℕ) → List ℕ
after text [] = text
after text (operand ∷ operands) = after (text ++ field_text operand) operands

operands_glued : (text : List ℕ) (operands : List (List ℕ))
    → after text operands ≡ text ++ flat_map field_text operands
operands_glued text [] = sym (append-nil text)
operands_glued text (operand ∷ operands) = operands_glued (text ++ field_text operand) operands
    ∙ append_assoc text (field_text operand) (flat_map field_text operands)

-- a text, a directive, its operands and the newline
pub line_glued : (text directive : List ℕ) (operands : List (List ℕ))
    → after (text ++ directive) operands ++ newline
    ≡ text ++ (directive ++ (flat_map field_text operands ++ newline))
line_glued text directive operands =
    ap (λ t. t ++ newline) (operands_glued (text ++ directive) operands)
    ∙ append_assoc (text ++ directive) (flat_map field_text operands) newline
    ∙ append_assoc text directive (flat_map field_text operands ++ newline)
