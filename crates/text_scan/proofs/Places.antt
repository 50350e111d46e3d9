-- Where the tokens of a text stand, and what their bytes are.
use Rattle.std.proofs.Common.{◌≡◌, ℕ, ◌+◌, ◌-◌, ◌≤◌, List, [], ◌∷◌, ◌++◌, length, take, drop, Option, Some}
use Rattle.std.proofs.Common.{None, sym, ap, ◌∙◌, subst, arith, length-append, append_assoc, append-nil}
use Rattle.std.specs.Prelude.{slice_range, All}
use Rattle.std.specs.List.{slice_split, join_with_byte}
use Rattle.std.proofs.lemmas.List.{drop-drop}
use Rattle.std.proofs.lemmas.List.Elements.{All-append, All-cons, All-nil}
use Rattle.std.proofs.lemmas.List.Splits.{join_with_byte-slice_split}
use Rattle.std.proofs.Math.Seq.{drop-append_seam, take-append_seam}
use Rattle.text_scan.specs.declared.token.TokenKind.{TokenKind}
use Rattle.text_scan.specs.declared.token.Token.{Token}
use Rattle.text_scan.specs.Bytes.{newline, is_newline}
use Rattle.text_scan.specs.Tokens.{token_of, newline_at}
use Rattle.text_scan.specs.Grammar.{IsTokenText, IsPiece, IsCut, tokens_at, AreLines, HasTokens, Placed}
use Rattle.text_scan.specs.Grammar.{IsSpelled}

-- ---- places

-- tokens end after where they begin
pub placed_ends : (low high : ℕ) (tokens : List Token) → Placed low high tokens → low ≤ high
placed_ends low high [] placed = placed
placed_ends low high (t ∷ tokens) placed =
    let behind : t.at + t.len ≤ high = placed_ends (t.at + t.len) high tokens placed.1 in
    omega (arith, placed.0)

lower : (low other high : ℕ) (ts : List Token) → low ≤ other → Placed other high ts → Placed low high ts
lower low other high [] le h = omega (arith, h)
lower low other high (t ∷ ts) le h = (omega (arith, h.0), h.1)

joined : (low mid high : ℕ) (xs ys : List Token) → Placed low mid xs → Placed mid high ys
    → Placed low high (xs ++ ys)
joined low mid high [] ys h k = lower low mid high ys h k
joined low mid high (t ∷ xs) ys h k = (h.0, joined (t.at + t.len) mid high xs ys h.1 k)

-- tokens of a line stand in it
cut_placed : (at : ℕ) (pieces : List (Option TokenKind × List ℕ)) (line : List ℕ) → IsCut pieces line
    → Placed at (at + length line) (tokens_at at pieces)
cut_placed at [] line h = omega arith
cut_placed at (p ∷ pieces) line h =
    let rest = cut_placed (at + length p.1) pieces h.0 h.3 in
    let hi : at + length p.1 + length h.0 ≡ at + length line =
    omega (arith, ap length h.1, length-append p.1 h.0) in
    by_kind p.0 (subst (λ n. Placed (at + length p.1) n (tokens_at (at + length p.1) pieces)) hi rest)
  where
    by_kind : (k : Option TokenKind) → Placed (at + length p.1) (at + length line)
        (tokens_at (at + length p.1) pieces) → Placed at (at + length line)
        (token_of at k (length p.1) ++ tokens_at (at + length p.1) pieces)
    by_kind None placed = lower at (at + length p.1) (at + length line) _ (omega arith) placed
    by_kind (Some k) placed = (omega arith, placed)

lines_placed : (at : ℕ) (lines : List (List ℕ)) (ts : List Token) → AreLines at lines ts
    → Placed at (at + length (join_with_byte newline lines)) ts
lines_placed at [] ts h = subst (λ l. Placed at (at + 0) l) (sym h) (omega arith)
lines_placed at (line ∷ []) ts h = subst (λ l. Placed at (at + length line) l) (sym h.are)
    (cut_placed at h.pieces line h.cut)
lines_placed at (line ∷ next ∷ lines) ts h =
    let rest = join_with_byte newline (next ∷ lines) in
    let first = subst (λ l. Placed at (at + length line) l) (sym h.2.are)
    (cut_placed at h.2.pieces line h.2.cut) in
    let others = lines_placed (at + length line + 1) (next ∷ lines) h.1 h.3 in
    let high : at + length line + 1 + length rest ≡ at + length (line ++ newline ∷ rest) =
    omega (arith, length-append line (newline ∷ rest)) in
    let behind = subst (λ n. Placed (at + length line + 1) n h.1) high others in
    subst (λ l. Placed at (at + length (line ++ newline ∷ rest)) l) (sym h.4)
    (joined at (at + length line) (at + length (line ++ newline ∷ rest)) h.0
    (newline_at (at + length line) ∷ h.1) first (omega arith, behind))

pub text_placed : (text : List ℕ) (ts : List Token) → HasTokens text ts → Placed 0 (length text) ts
text_placed text ts h =
    let high : 0 + length (join_with_byte newline (slice_split is_newline text)) ≡ length text =
    omega (arith, ap length (join_with_byte-slice_split newline text)) in
    subst (λ n. Placed 0 n ts) high (lines_placed 0 (slice_split is_newline text) ts h)

-- ---- bytes

-- what stands at a place of the text, and after it
slice_here : (whole first rest : List ℕ) (at : ℕ) → drop at whole ≡ first ++ rest
    → slice_range whole at (at + length first) ≡ first
slice_here whole first rest at h =
    let n : at + length first - at ≡ length first = omega arith in
    ap (λ k. take k (drop at whole)) n ∙ ap (take (length first)) h ∙ take-append_seam first rest

pub next_here : (whole first rest : List ℕ) (at : ℕ) → drop at whole ≡ first ++ rest
    → drop (at + length first) whole ≡ rest
next_here whole first rest at h = sym (drop-drop (length first) at whole) ∙ ap (drop (length first)) h
    ∙ drop-append_seam first rest

cut_spelled : (whole : List ℕ) (at : ℕ) (pieces : List (Option TokenKind × List ℕ)) (line after : List ℕ)
    → IsCut pieces line → drop at whole ≡ line ++ after → All (IsSpelled whole) (tokens_at at pieces)
cut_spelled whole at [] line after h here = All-nil (IsSpelled whole)
cut_spelled whole at (p ∷ pieces) line after h here =
    let front : drop at whole ≡ p.1 ++ (h.0 ++ after) = here ∙ ap (λ l. l ++ after) h.1
    ∙ append_assoc p.1 h.0 after in
    let rest = cut_spelled whole (at + length p.1) pieces h.0 after h.3
    (next_here whole p.1 (h.0 ++ after) at front) in
    by_kind p.0 h.2 (slice_here whole p.1 (h.0 ++ after) at front) rest
  where
    by_kind : (k : Option TokenKind) → IsPiece k p.1 h.0 → slice_range whole at (at + length p.1) ≡ p.1
        → All (IsSpelled whole) (tokens_at (at + length p.1) pieces)
        → All (IsSpelled whole) (token_of at k (length p.1) ++ tokens_at (at + length p.1) pieces)
    by_kind None piece slice others = others
    by_kind (Some k) piece slice others = All-cons (IsSpelled whole)
        (record { kind = k; at = at; len = length p.1 }) (tokens_at (at + length p.1) pieces)
        (subst (IsTokenText k) (sym slice) piece.0) others

lines_spelled : (whole : List ℕ) (at : ℕ) (lines : List (List ℕ)) (ts : List Token) → AreLines at lines ts
    → drop at whole ≡ join_with_byte newline lines → All (IsSpelled whole) ts
lines_spelled whole at [] ts h here = subst (All (IsSpelled whole)) (sym h) (All-nil (IsSpelled whole))
lines_spelled whole at (line ∷ []) ts h here =
    subst (All (IsSpelled whole)) (sym h.are)
    (cut_spelled whole at h.pieces line [] h.cut (here ∙ sym (append-nil line)))
lines_spelled whole at (line ∷ next ∷ lines) ts h here =
    let rest = join_with_byte newline (next ∷ lines) in
    let first = subst (All (IsSpelled whole)) (sym h.2.are)
    (cut_spelled whole at h.2.pieces line (newline ∷ rest) h.2.cut here) in
    let end : drop (at + length line) whole ≡ (newline ∷ []) ++ rest = next_here whole line
    (newline ∷ rest) at here in
    let others = lines_spelled whole (at + length line + 1) (next ∷ lines) h.1 h.3
    (next_here whole (newline ∷ []) rest (at + length line) end) in
    subst (All (IsSpelled whole)) (sym h.4)
    (All-append (IsSpelled whole) h.0 (newline_at (at + length line) ∷ h.1) first
    (All-cons (IsSpelled whole) (newline_at (at + length line)) h.1
    (slice_here whole (newline ∷ []) rest (at + length line) end) others))

pub text_spelled : (text : List ℕ) (ts : List Token) → HasTokens text ts → All (IsSpelled text) ts
text_spelled text ts h = lines_spelled text 0 (slice_split is_newline text) ts h
    (sym (join_with_byte-slice_split newline text))
