-- A text that is cut at its first mark, and its parts.
use Rattle.std.proofs.Common.{◌≡◌, ℕ, ◌+◌, ◌<◌, ◌≤◌, Bool, true, false, cond, List, [], ◌∷◌, ◌++◌, length}
use Rattle.std.proofs.Common.{Option, Some, None, Bor, refl, sym, ap, ◌∙◌, arith}
use Rattle.std.specs.Prelude.{nat_lt, not, is_some, option_map}
use Rattle.std.specs.List.{join_with_byte, slice_split, position_or_len, before_first, after_first}
use Rattle.std.proofs.lemmas.Bool.{ltb-true, ltb-false}
use Rattle.std.proofs.lemmas.List.Elements.{All-from_get_or}
use Rattle.std.proofs.lemmas.List.Sums.{fails_before_first, count_by-le-length}
use Rattle.std.proofs.lemmas.List.Splits.{join_with_byte-slice_split, slice_split_first, slice_split_none}
use Rattle.std.proofs.lemmas.List.Splits.{length-slice_split}
use Rattle.std.proofs.lemmas.Option.{cond_some}
use Rattle.line_fields.specs.Cuts.{is_mark, cut, parts, parts_left}
use Rattle.line_fields.specs.Fields.{is_none_left, field}

cut_none : {A : Type 0} (b : Bool) (x : A) → cond b (Some x) None ≡ None → b ≡ false
cut_none true x h = absurd cc
cut_none false x h = refl

-- one part, and those after the mark
pub parts_at : (mark : ℕ) (text front back : List ℕ) → Some (front, back) ≡ cut mark text
    → parts mark text ≡ front ∷ parts mark back
unfolding cut parts
parts_at mark text front back h =
    let found =
    cond_some (nat_lt (position_or_len (is_mark mark) text) (length text))
    (before_first (is_mark mark) text, after_first (is_mark mark) text) (front, back) (sym h) in
    let lt : position_or_len (is_mark mark) text < length text = ltb-true _ _ found.0 in
    let one : before_first (is_mark mark) text ≡ front = ap (λ (p : List ℕ × List ℕ). p.0) found.1 in
    let two : after_first (is_mark mark) text ≡ back = ap (λ (p : List ℕ × List ℕ). p.1) found.1 in
    slice_split_first (is_mark mark) text 0 lt
    ∙ ap (λ l. l ∷ slice_split (is_mark mark) (after_first (is_mark mark) text)) one
    ∙ ap (λ l. front ∷ slice_split (is_mark mark) l) two

pub parts_none : (mark : ℕ) (text : List ℕ) → None ≡ cut mark text → parts mark text ≡ text ∷ []
unfolding cut parts
parts_none mark text h =
    let no =
    cut_none (nat_lt (position_or_len (is_mark mark) text) (length text))
    (before_first (is_mark mark) text, after_first (is_mark mark) text) (sym h) in
    let le : length text ≤ position_or_len (is_mark mark) text = ltb-false _ _ no in
    slice_split_none (is_mark mark) text
    (All-from_get_or (λ b. is_mark mark b ≡ false) text 0
    (λ k lt. fails_before_first (is_mark mark) text k 0 (omega (arith, le, lt))))

-- there are at most as many parts as bytes, and one more
pub parts_len : (mark : ℕ) (text : List ℕ) → length (parts mark text) ≤ length text + 1
unfolding parts
parts_len mark text =
    omega (arith, length-slice_split (is_mark mark) text, count_by-le-length (is_mark mark) text)

pub parts_some : (mark : ℕ) (text : List ℕ) → 0 < length (parts mark text)
unfolding parts
parts_some mark text = omega (arith, length-slice_split (is_mark mark) text)

joined : (mark : ℕ) (front : List ℕ) (ts : List (List ℕ)) → 0 < length ts
    → join_with_byte mark (front ∷ ts) ≡ front ++ mark ∷ join_with_byte mark ts
joined mark front [] h = absurd (omega arith)
joined mark front (t ∷ ts) h = refl

pub cut_is : (mark : ℕ) (text front back : List ℕ) → cut mark text ≡ Some (front, back)
    → text ≡ front ++ mark ∷ back
unfolding parts
cut_is mark text front back h =
    sym (join_with_byte-slice_split mark text)
    ∙ ap (join_with_byte mark) (parts_at mark text front back (sym h))
    ∙ joined mark front (parts mark back) (parts_some mark back)
    ∙ ap (λ t. front ++ mark ∷ t) (join_with_byte-slice_split mark back)

some_left : (ts : List (List ℕ)) → 0 < length ts → is_none_left ts ≡ false
some_left [] h = absurd (omega arith)
some_left (t ∷ ts) h = refl

-- ---- what is left, seen after its reference

abbrev pub seen : ℕ → Option (Bor (List ℕ)) → List (List ℕ)
seen mark o = parts_left mark (option_map (λ (r : Bor (List ℕ)). r.now) o)

pub first_part : (mark : ℕ) (text front back : List ℕ) (left : List (List ℕ)) → parts mark text ≡ left
    → Some (front, back) ≡ cut mark text → field left ≡ Some (front, parts mark back)
first_part mark text front back left is at = ap field (sym is ∙ parts_at mark text front back at)

pub last_part : (mark : ℕ) (text : List ℕ) (left : List (List ℕ)) → parts mark text ≡ left
    → None ≡ cut mark text → field left ≡ Some (text, [])
last_part mark text left is at = ap field (sym is ∙ parts_none mark text at)

not_false : (r : Bool) → false ≡ not r → r ≡ true
not_false true h = refl
not_false false h = absurd cc

not_true : (r : Bool) → true ≡ not r → r ≡ false
not_true true h = absurd cc
not_true false h = refl

pub none_left : (mark : ℕ) (o : Option (Bor (List ℕ))) (r : Bool) → is_some o ≡ not r
    → r ≡ is_none_left (seen mark o)
none_left mark None r h = not_false r h
none_left mark (Some text) r h =
    not_true r h ∙ sym (some_left (parts mark text.now) (parts_some mark text.now))

-- ---- lines

-- the next line, and those after it
pub next_line : (left : List (List ℕ)) (line : List ℕ) (rest : List (List ℕ)) → field left ≡ Some (line, rest)
    → left ≡ line ∷ rest
next_line [] line rest h = absurd (let k : None ≡ Some (line, rest) = h in cc)
next_line (t ∷ ts) line rest h =
    let both : (t, ts) ≡ (line, rest) = cc in
    let one : t ≡ line = ap (λ (p : List ℕ × List (List ℕ)). p.0) both in
    let two : ts ≡ rest = ap (λ (p : List ℕ × List (List ℕ)). p.1) both in
    λ i. one i ∷ two i
