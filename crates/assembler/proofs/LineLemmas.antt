-- Taking the lines of a text one after another.
use Rattle.std.proofs.Common.{◌≡◌, ℕ, zero, suc, ◌+◌, ◌<◌, ◌≤◌, true, false, List, [], ◌∷◌, ◌++◌, map}
use Rattle.std.proofs.Common.{length, drop, get_or, Ok, Err, Result, refl, sym, ap, ◌∙◌, append_assoc}
use Rattle.std.proofs.Common.{append-nil, arith, subst, drop-cons}
use Rattle.std.proofs.lemmas.List.{drop_all}
use Rattle.text_scan.specs.declared.token.Token.{Token}
use Rattle.text_scan.specs.Grammar.{Placed}
use Rattle.text_scan.proofs.Offers.{placed_ends}
use Rattle.asm_fields.specs.declared.fault.AsmFault.{AsmFault}
use Rattle.readers.specs.Answers.{AnswersAs, Fails}
use Rattle.asm_fields.specs.Fault.{is_refusal}
use Rattle.asm_fields.specs.Fields.{Lexeme, Input, seen, InText}
use Rattle.assembler.specs.Draft.{Draft}
use Rattle.assembler.specs.Whole.{is_newline, lines_of, goes_to, line_or_none, drafted, MakesLine}
use Rattle.readers.proofs.Offers.{still_fails}

-- ---- tokens within the text

pub placed_in_text : (text : List ℕ) (low : ℕ) (tokens : List Token) → Placed low (length text) tokens
    → InText text tokens
placed_in_text text low [] placed = tt
placed_in_text text low (t ∷ tokens) placed = (
  placed_ends (t.at + t.len) (length text) tokens placed.1,
  placed_in_text text
      (t.at + t.len) tokens placed.1,
)

pub in_at : (text : List ℕ) (tokens : List Token) (i : ℕ) (d : Token) → i < length tokens
    → InText text tokens → (get_or tokens i d).at + (get_or tokens i d).len ≤ length text
in_at text [] i d lt h = absurd (omega arith)
in_at text (t ∷ ts) zero d lt h = h.0
in_at text (t ∷ ts) (suc i) d lt h = in_at text ts i d (omega arith) h.1

pub in_more : (text : List ℕ) (F : List Token) (t : Token) → InText text F → t.at + t.len ≤ length text
    → InText text (F ++ t ∷ [])
in_more text [] t h le = (le, tt)
in_more text (f ∷ F) t h le = (h.0, in_more text F t h.1 le)

-- ---- lines

-- no newline is among the fields
abbrev pub InLine : List Lexeme → Type 0
InLine [] = Unit {0}
InLine (f ∷ fs) = (is_newline f.kind ≡ false) × InLine fs

ends_here : (fs rest : List Lexeme) (n : Lexeme) (end : ℕ) → InLine fs → is_newline n.kind ≡ true
    → lines_of (fs ++ n ∷ rest) end ≡ record { rest = fs; end = n.at } ∷ lines_of rest end
unfolding lines_of
ends_here [] rest n end h new = rw new refl
ends_here (f ∷ fs) rest n end h new =
    let other : is_newline f.kind ≡ false = h.0 in
    rw (other, ends_here fs rest n end h.1 new) refl

last_line : (fs : List Lexeme) (end : ℕ) → InLine fs
    → lines_of fs end ≡ record { rest = fs; end = end } ∷ []
unfolding lines_of
last_line [] end h = refl
last_line (f ∷ fs) end h =
    let other : is_newline f.kind ≡ false = h.0 in
    rw (other, last_line fs end h.1) refl

one_more : (fs : List Lexeme) (f : Lexeme) → InLine fs → is_newline f.kind ≡ false → InLine (fs ++ f ∷ [])
one_more [] f h other = (other, tt)
one_more (g ∷ fs) f h other = (h.0, one_more fs f h.1 other)

step : (r : Result (Draft × Input) AsmFault) (new : Draft) (f : Draft → Result Draft AsmFault)
    → goes_to r (λ d. Ok d) ≡ Ok new → goes_to r f ≡ f new
step (Ok x) new f h = let same : x.0 ≡ new = cc in ap f same
step (Err e) new f h = absurd cc

line_taken : (old new : Draft) (line : Input) (lines : List Input) → goes_to (line_or_none old line)
    (λ d. Ok d) ≡ Ok new → drafted old (line ∷ lines) ≡ drafted new lines
unfolding drafted
line_taken old new line lines h = step (line_or_none old line) new (λ e. drafted e lines) h

line_faulty : (e : AsmFault) (old : Draft) (line : Input) (lines : List Input)
    (all : Result Draft AsmFault) → drafted old (line ∷ lines) ≡ all
    → Fails is_refusal e (line_or_none old line) → Fails is_refusal e all
unfolding drafted
line_faulty e old line lines all so_far failed =
    still_fails is_refusal e (line_or_none old line) all
    (λ h. sym so_far ∙ ap (λ r. goes_to r (λ d. drafted d lines)) h) failed

-- ---- token after token

at_index : (text : List ℕ) (tokens : List Token) (i : ℕ) (d : Token) → i < length tokens
    → map (seen text) (drop i tokens) ≡ seen text (get_or tokens i d) ∷ map (seen text)
    (drop (i + 1) tokens)
at_index text tokens i d lt =
    let k : suc i ≡ i + 1 = omega arith in
    ap (map (seen text)) (drop-cons tokens i d lt)
    ∙ ap (λ n. seen text (get_or tokens i d) ∷ map (seen text) (drop n tokens)) k

map_more : (text : List ℕ) (F : List Token) (t : Token) → map (seen text) (F ++ t ∷ []) ≡ map
    (seen text) F ++ seen text t ∷ []
map_more text [] t = refl
map_more text (f ∷ F) t = ap (λ l. seen text f ∷ l) (map_more text F t)

pub line_more : (text : List ℕ) (F : List Token) (t : Token) → InLine (map (seen text) F)
    → is_newline t.kind ≡ false → InLine (map (seen text) (F ++ t ∷ []))
line_more text F t h other = subst InLine (sym (map_more text F t))
    (one_more (map (seen text) F) (seen text t) h other)

-- what the fields of this line and the tokens from an index on make of a draft
abbrev pub rest_drafted : List ℕ → List Token → ℕ → List Token → Draft → Result Draft AsmFault
rest_drafted text tokens i F d =
    drafted d (lines_of (map (seen text) F ++ map (seen text) (drop i tokens)) (length text))

line_ends : (text : List ℕ) (tokens : List Token) (i : ℕ) (d : Token) (F : List Token) (old : Draft)
    → i < length tokens → is_newline (get_or tokens i d).kind ≡ true → InLine (map (seen text) F)
    → rest_drafted text tokens i F old ≡ drafted old
    (record { rest = map (seen text) F; end = (get_or tokens i d).at } ∷ lines_of
    (map (seen text) (drop (i + 1) tokens)) (length text))
line_ends text tokens i d F old lt newline inside =
    ap (λ l. drafted old (lines_of (map (seen text) F ++ l) (length text))) (at_index text tokens i d lt)
    ∙ ap (drafted old)
    (ends_here (map (seen text) F) (map (seen text) (drop (i + 1) tokens))
    (seen text (get_or tokens i d)) (length text) inside newline)

pub newline_kept : (text : List ℕ) (tokens : List Token) (i : ℕ) (d : Token) (F items : List Token)
    (old new joined : Draft) (total : Result Draft AsmFault) → i < length tokens
    → is_newline (get_or tokens i d).kind ≡ true
    → InLine (map (seen text) F) → items ≡ [] → joined ≡ new
    → goes_to (line_or_none old (record { rest = map (seen text) F; end = (get_or tokens i d).at }))
    (λ e. Ok e) ≡ Ok new
    → rest_drafted text tokens i F old ≡ total → rest_drafted text tokens (i + 1) items joined ≡ total
newline_kept text tokens i d F items old new joined total lt newline inside none is made so_far =
    let rest = map (seen text) (drop (i + 1) tokens) in
    rw (none, is) (sym (line_taken old new _ (lines_of rest (length text)) made)
    ∙ sym (line_ends text tokens i d F old lt newline inside) ∙ so_far)

pub newline_fails : (text : List ℕ) (tokens : List Token) (i : ℕ) (d : Token) (F line : List Token)
    (old : Draft) (e : AsmFault) (all : Result Draft AsmFault) → i < length tokens
    → is_newline (get_or tokens i d).kind ≡ true
    → InLine (map (seen text) F) → line ≡ F
    → Fails is_refusal e
    (line_or_none old (record { rest = map (seen text) line; end = (get_or tokens i d).at }))
    → rest_drafted text tokens i F old ≡ all → Fails is_refusal e all
newline_fails text tokens i d F line old e all lt newline inside is failed so_far =
    let here =
    subst
    (λ l. Fails is_refusal e
    (line_or_none old (record { rest = map (seen text) l; end = (get_or tokens i d).at }))) is failed in
    line_faulty e old _ (lines_of (map (seen text) (drop (i + 1) tokens)) (length text)) all
    (sym (line_ends text tokens i d F old lt newline inside) ∙ so_far) here

pub push_kept : (text : List ℕ) (tokens : List Token) (i : ℕ) (d : Token) (F items : List Token)
    (old joined : Draft) (total : Result Draft AsmFault) → i < length tokens
    → items ≡ F ++ get_or tokens i d ∷ [] → joined ≡ old
    → rest_drafted text tokens i F old ≡ total → rest_drafted text tokens (i + 1) items joined ≡ total
push_kept text tokens i d F items old joined total lt more is so_far =
    let rest = map (seen text) (drop (i + 1) tokens) in
    let t = get_or tokens i d in
    let all : map (seen text) (F ++ t ∷ []) ++ rest ≡ map (seen text) F ++ map (seen text) (drop i tokens) =
    ap (λ l. l ++ rest) (map_more text F t) ∙ append_assoc (map (seen text) F) (seen text t ∷ []) rest
    ∙ ap (λ l. map (seen text) F ++ l) (sym (at_index text tokens i d lt)) in
    rw (more, is) (ap (λ l. drafted old (lines_of l (length text))) all ∙ so_far)

-- ---- after the last token

at_end : (text : List ℕ) (tokens F : List Token) (i : ℕ) (old : Draft) → length tokens ≤ i
    → InLine (map (seen text) F) → rest_drafted text tokens i F old ≡ drafted old
    (record { rest = map (seen text) F; end = length text } ∷ [])
at_end text tokens F i old le inside =
    ap (λ l. drafted old (lines_of (map (seen text) F ++ map (seen text) l) (length text)))
    (drop_all i tokens le)
    ∙ ap (λ l. drafted old (lines_of l (length text))) (append-nil (map (seen text) F))
    ∙ ap (drafted old) (last_line (map (seen text) F) (length text) inside)

end_fails : (text : List ℕ) (tokens F line : List Token) (i : ℕ) (old : Draft) (e : AsmFault)
    (all : Result Draft AsmFault) → length tokens ≤ i → InLine (map (seen text) F) → line ≡ F
    → Fails is_refusal e (line_or_none old (record { rest = map (seen text) line; end = length text }))
    → rest_drafted text tokens i F old ≡ all → Fails is_refusal e all
end_fails text tokens F line i old e all le inside is failed so_far =
    let here =
    subst
    (λ l. Fails is_refusal e
    (line_or_none old (record { rest = map (seen text) l; end = length text }))) is failed in
    line_faulty e old _ [] all (sym (at_end text tokens F i old le inside) ∙ so_far) here

end_done : (text : List ℕ) (tokens F line : List Token) (i : ℕ) (old new : Draft)
    (all : Result Draft AsmFault) → length tokens ≤ i → InLine (map (seen text) F) → line ≡ F
    → goes_to (line_or_none old (record { rest = map (seen text) line; end = length text }))
    (λ e. Ok e) ≡ Ok new → rest_drafted text tokens i F old ≡ all → all ≡ Ok new
unfolding drafted
end_done text tokens F line i old new all le inside is made so_far =
    let here =
    subst (λ l. goes_to (line_or_none old (record { rest = map (seen text) l; end = length text }))
    (λ e. Ok e) ≡ Ok new) is made in
    sym so_far ∙ at_end text tokens F i old le inside ∙ line_taken old new _ [] here

-- the last line, whether or not it has a fault
pub end_taken : (text : List ℕ) (tokens F line : List Token) (i : ℕ) (old new : Draft)
    (answer : Result (Unit {0}) AsmFault) (all : Result Draft AsmFault) → length tokens ≤ i
    → InLine (map (seen text) F) → line ≡ F
    → MakesLine answer new (line_or_none old (record { rest = map (seen text) line; end = length text }))
    → rest_drafted text tokens i F old ≡ all → AnswersAs is_refusal (λ _. new) answer all
end_taken text tokens F line i old new (Ok x) all le inside is made so_far =
    end_done text tokens F line i old new all le inside is made so_far
end_taken text tokens F line i old new (Err e) all le inside is failed so_far =
    end_fails text tokens F line i old e all le inside is failed so_far
