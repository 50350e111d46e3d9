-- Reading a line piece by piece, and a text line by line.
use Rattle.std.proofs.Common.{◌≡◌, ℕ, zero, suc, ◌+◌, ◌-◌, ◌<◌, ◌≤◌, List, [], ◌∷◌, ◌++◌, length, drop}
use Rattle.std.proofs.Common.{Result, Ok, Err, refl, sym, ap, ◌∙◌, append_assoc, append-nil, arith}
use Rattle.std.proofs.Common.{false, take, length-drop}
use Rattle.std.specs.List.{slice_split, position_or_len}
use Rattle.std.proofs.lemmas.List.{take_all}
use Rattle.std.proofs.lemmas.List.Elements.{All-from_get_or}
use Rattle.std.proofs.lemmas.List.Sums.{fails_before_first}
use Rattle.std.proofs.lemmas.List.Splits.{slice_split_first, slice_split_none, length-slice_split}
use Rattle.text_scan.specs.Bytes.{is_newline}
use Rattle.text_scan.specs.declared.token.Token.{Token}
use Rattle.text_scan.specs.declared.fault.ScanFault.{ScanFault}
use Rattle.text_scan.specs.declared.piece.Piece.{Piece}
use Rattle.text_scan.specs.Tokens.{piece_at, token_of, line_from, line_tokens, newline_at, lines_from}
use Rattle.text_scan.specs.Tokens.{with_front}
use Rattle.text_scan.specs.Fault.{is_refusal}
use Rattle.readers.specs.Answers.{Fails}
use Rattle.readers.specs.Results.{◌>>=◌}
use Rattle.readers.proofs.Offers.{still_fails, fails_with}

-- after the piece that was read
pub behind : (at k : ℕ) (text : List ℕ) → line_from at k text ≡ line_from (at + k) 0 (drop k text)
unfolding line_from
behind at zero [] = refl
behind at (suc k) [] = refl
behind at zero (b ∷ text) = ap (λ n. line_from n 0 (b ∷ text)) (let e : at ≡ at + 0 = omega arith in e)
behind at (suc k) (b ∷ text) = behind (at + 1) k text ∙ ap (λ n. line_from n 0 (drop k text))
    (let e : at + 1 + k ≡ at + suc k = omega arith in e)

-- tokens before, and then more of them
pub regroup : (front more : List Token) (r : Result (List Token) ScanFault)
    → with_front front (with_front more r) ≡ with_front (front ++ more) r
regroup front more (Ok ts) = ap Ok (sym (append_assoc front more ts))
regroup front more (Err e) = refl

pub one_piece : (front : List Token) (at : ℕ) (b : ℕ) (text : List ℕ) (p : Piece) → 1 ≤ p.len
    → piece_at at (b ∷ text) ≡ Ok p
    → with_front front (line_from at 0 (b ∷ text)) ≡ with_front (front ++ token_of at p.kind p.len)
    (line_from (at + p.len) 0 (drop p.len (b ∷ text)))
unfolding line_from
one_piece front at b text p some read =
    let k : p.len ≡ suc (p.len - 1) = omega arith in
    let n : at + 1 + (p.len - 1) ≡ at + p.len = omega arith in
    let rest : line_from (at + 1) (p.len - 1) text ≡ line_from (at + p.len) 0 (drop p.len (b ∷ text)) =
    behind (at + 1) (p.len - 1) text ∙ ap (λ m. line_from m 0 (drop (p.len - 1) text)) n
    ∙ ap (λ m. line_from (at + p.len) 0 (drop m (b ∷ text))) (sym k) in
    let first : line_from at 0 (b ∷ text) ≡ with_front (token_of at p.kind p.len)
    (line_from (at + 1) (p.len - 1) text) =
    ap (λ r. r >>= λ q. line_from (at + 1) (q.len - 1) text >>= λ others.
    Ok (token_of at q.kind q.len ++ others)) read in
    ap (with_front front) first ∙ regroup front (token_of at p.kind p.len) _
    ∙ ap (with_front (front ++ token_of at p.kind p.len)) rest

pub next_piece : (front items : List Token) (at : ℕ) (text rest : List ℕ) (p : Piece)
    (total : Result (List Token) ScanFault) → 0 < length text → 1 ≤ p.len → Ok p ≡ piece_at at text
    → rest ≡ drop p.len text → items ≡ front ++ token_of at p.kind p.len
    → with_front front (line_from at 0 text) ≡ total → with_front items (line_from (at + p.len) 0 rest)
    ≡ total
next_piece front items at [] rest p total lt some read is pushed so_far = absurd (omega arith)
next_piece front items at (b ∷ text) rest p total lt some read is pushed so_far =
    rw (is, pushed) (sym (one_piece front at b text p some (sym read)) ∙ so_far)

pub front_fails : (front : List Token) (r : Result (List Token) ScanFault) (e : ScanFault)
    → with_front front r ≡ Err e → r ≡ Err e
front_fails front (Ok ts) e h = absurd cc
front_fails front (Err d) e h = h

-- the fault of a piece is that of all
pub piece_fails : (start front : List Token) (at : ℕ) (text : List ℕ) (e : ScanFault)
    (all : Result (List Token) ScanFault) → 0 < length text → Err e ≡ piece_at at text
    → with_front front (line_from at 0 text) ≡ with_front start all → Fails is_refusal e all
unfolding line_from
piece_fails start front at [] e all lt read so_far = absurd (omega arith)
piece_fails start front at (b ∷ text) e all lt read so_far =
    let first : line_from at 0 (b ∷ text) ≡ Err e =
    ap (λ r. r >>= λ q. line_from (at + 1) (q.len - 1) text >>= λ others.
    Ok (token_of at q.kind q.len ++ others)) (sym read) in
    fails_with is_refusal e all (front_fails start all e (sym so_far ∙ ap (with_front front) first))

pub line_done : (front : List Token) (at : ℕ) (text : List ℕ) (total : Result (List Token) ScanFault)
    → length text ≤ 0 → with_front front (line_from at 0 text) ≡ total → total ≡ Ok front
unfolding line_from
line_done front at [] total le so_far = sym so_far ∙ ap Ok (append-nil front)
line_done front at (b ∷ text) total le so_far = absurd (omega arith)

-- the first line ends at the first newline
pub split_here : (i : ℕ) (text : List ℕ) → i ≡ position_or_len is_newline text → i < length text
    → slice_split is_newline text ≡ take i text ∷ slice_split is_newline
    (take (length text - (i + 1)) (drop (i + 1) text))
split_here i text at lt =
    let all : take (length text - (i + 1)) (drop (i + 1) text) ≡ drop (i + 1) text =
    take_all (length text - (i + 1)) (drop (i + 1) text) (omega (arith, length-drop (i + 1) text)) in
    let parts : slice_split is_newline text ≡ take (position_or_len is_newline text) text ∷ slice_split
    is_newline (drop (position_or_len is_newline text + 1) text) = slice_split_first is_newline text 0
    (omega (arith, at)) in
    parts ∙ ap (λ n. take n text ∷ slice_split is_newline (drop (n + 1) text)) (sym at)
    ∙ ap (λ l. take i text ∷ slice_split is_newline l) (sym all)

pub one_line : (i : ℕ) (text : List ℕ) → i ≡ position_or_len is_newline text → length text ≤ i
    → slice_split is_newline text ≡ text ∷ []
one_line i text at le = slice_split_none is_newline text
    (All-from_get_or (λ b. is_newline b ≡ false) text 0
    (λ k lt. fails_before_first is_newline text k 0 (omega (arith, at))))

-- ---- the lines of a text

line_between : (front items : List Token) (r others : Result (List Token) ScanFault) (newline : Token)
    → with_front front r ≡ Ok items
    → with_front front (r >>= λ first. others >>= λ more. Ok (first ++ newline ∷ more)) ≡ with_front
    (items ++ newline ∷ []) others
line_between front items (Err e) others newline h = absurd cc
line_between front items (Ok first) (Err e) newline h = refl
line_between front items (Ok first) (Ok more) newline h =
    let same : front ++ first ≡ items = cc in
    ap Ok (sym (append_assoc front first (newline ∷ more)) ∙ ap (λ l. l ++ newline ∷ more) same
    ∙ sym (append_assoc items (newline ∷ []) more))

pub next_line : (front items : List Token) (line at next : ℕ) (text : List ℕ) (rest : List (List ℕ))
    (total : Result (List Token) ScanFault)
    → 0 < length rest → with_front front (line_tokens line at text) ≡ Ok items → next ≡ at + length text
    → with_front front (lines_from line at (text ∷ rest)) ≡ total
    → with_front (items ++ newline_at next ∷ []) (lines_from (line + 1) (next + 1) rest) ≡ total
unfolding lines_from
next_line front items line at next text [] total lt read is so_far = absurd (omega arith)
next_line front items line at next text (l ∷ rest) total lt read is so_far =
    ap (λ n. with_front (items ++ newline_at n ∷ []) (lines_from (line + 1) (n + 1) (l ∷ rest))) is
    ∙ sym
    (line_between front items (line_tokens line at text)
    (lines_from (line + 1) (at + length text + 1) (l ∷ rest)) (newline_at (at + length text)) read)
    ∙ so_far

pub last_line : (front items : List Token) (line at : ℕ) (text : List ℕ)
    (total : Result (List Token) ScanFault)
    → with_front front (line_tokens line at text) ≡ Ok items
    → with_front front (lines_from line at (text ∷ [])) ≡ total → total ≡ Ok items
unfolding lines_from
last_line front items line at text total read so_far = sym so_far ∙ read

line_faults : (front : List Token) (line at : ℕ) (text : List ℕ) (rest : List (List ℕ)) (e : ScanFault)
    → line_tokens line at text ≡ Err e → with_front front (lines_from line at (text ∷ rest)) ≡ Err e
unfolding lines_from
line_faults front line at text [] e h = ap (with_front front) h
line_faults front line at text (l ∷ rest) e h =
    ap
    (λ r. with_front front
    (r >>= λ first. lines_from (line + 1) (at + length text + 1) (l ∷ rest) >>= λ more.
    Ok (first ++ newline_at (at + length text) ∷ more))) h

-- the fault of a line is that of all
pub line_fails : (front : List Token) (line at : ℕ) (text : List ℕ) (rest : List (List ℕ)) (e : ScanFault)
    (total : Result (List Token) ScanFault)
    → Fails is_refusal e (line_tokens line at text) → with_front front (lines_from line at (text ∷ rest))
    ≡ total → Fails is_refusal e total
line_fails front line at text rest e total h so_far =
    still_fails is_refusal e (line_tokens line at text) total
    (λ is. sym so_far ∙ line_faults front line at text rest e is) h

-- there is a line
pub some_line : (text : List ℕ) → 0 < length (slice_split is_newline text)
some_line text = omega (arith, length-slice_split is_newline text)

pub begins : (r : Result (List Token) ScanFault) → with_front [] r ≡ r
begins (Ok ts) = refl
begins (Err e) = refl
