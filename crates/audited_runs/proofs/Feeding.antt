-- A text of lines that fit, and then a line that is passed over, is a feed: the items of the lines.
use Rattle.std.proofs.Common.{◌≡◌, ℕ, ◌+◌, Bool, true, false, List, [], ◌∷◌, ◌++◌, Some}
use Rattle.std.proofs.Common.{Ok, refl, sym, ap, ◌∙◌, append_assoc}
use Rattle.std.specs.Prelude.{codes}
use Rattle.cap_words.specs.declared.Word.{Word}
use Rattle.source_events.specs.declared.FeedBack.{FeedBack}
use Rattle.source_events.specs.declared.Item.{Item}
use Rattle.source_events.specs.declared.Item.TheVariants.{Enter}
use Rattle.source_events.specs.Left.{left_in}
use Rattle.run_lines.specs.Lines.{Args, Line, call, ret, enter, pass, leave}
use Rattle.run_lines.specs.Texts.{line_text, lines_text}
use Rattle.run_lines.specs.Fits.{LineFits, LinesFit}
use Rattle.run_lines.specs.Feed as line
use Rattle.line_fields.specs.Cuts.{behind}
use Rattle.line_fields.specs.Fields.{lines}
use Rattle.line_fields.proofs.Offers.{parts_at, parts_none, is_free, cut_front}
use Rattle.line_fields.specs.Lines.{seen, is_enter}
use Rattle.line_fields.specs.Feed.{pairs_of, pairs_next, line_item as item_seen, with_item, fed_line}
use Rattle.line_fields.specs.Feed.{fed_from, fed}
use Rattle.audited_runs.proofs.Spaced.{cut_free}
use Rattle.audited_runs.proofs.FieldsRead.{integer_read, left_read}
use Rattle.audited_runs.proofs.LinesSeen.{line_told, body, line_text_is, line_seen}
use Rattle.audited_runs.proofs.EndLinesSeen.{IsPassedOver}

-- ---- a line's item

-- the pairs that a line tells after an enter line
pairs_told : (l : Line) → pairs_of (Some (line_told true l)) ≡ line.pairs_in l
pairs_told (call inward part site base last args words) = refl
pairs_told (ret true part site base last a0 words) = refl
pairs_told (ret false part site base last a0 words) = refl
pairs_told (enter part export stk args back) = refl
pairs_told (pass p0 p1 p2) = refl
pairs_told (leave part a0) = refl

-- the lines of the text after it have these pairs
abbrev HasPairs : List Line → List (List ℕ) → Type 0
HasPairs ls rest = pairs_next rest ≡ line.pairs_behind ls

entered_is : (base : ℕ) (part export : List ℕ) (stk : Word) (a : Args) (back : FeedBack) (ls : List Line)
    (rest : List (List ℕ)) → LineFits (enter part export stk a back) → HasPairs ls rest
    → item_seen base (line_told false (enter part export stk a back)) rest
    ≡ Some (Enter part export (left_in base stk) (line.integers_in a) (line.pairs_behind ls) back)
entered_is base part export stk a back ls rest h same =
    let s = left_read base stk h.2 in
    let x0 = integer_read a.a0 h.3.0 in
    let x1 = integer_read a.a1 h.3.1 in
    let x2 = integer_read a.a2 h.3.2 in
    let x3 = integer_read a.a3 h.3.3 in
    rw (s, x0, x1, x2, x3, same) refl

-- the items of a line, before those of the lines after it
told_is : (entry : Bool) (base : ℕ) (l : Line) (ls : List Line) (rest : List (List ℕ)) (items : List Item)
    → LineFits l → HasPairs ls rest
    → with_item (item_seen base (line_told entry l) rest) (Ok items) ≡ Ok (line.item_of base l ls ++ items)
told_is entry base (call inward part site b last args words) ls rest items h same = refl
told_is entry base (ret true part site b last a0 words) ls rest items h same = refl
told_is entry base (ret false part site b last a0 words) ls rest items h same =
    let x = integer_read a0 h.1 in rw x refl
told_is entry base (enter part export stk a back) ls rest items h same =
    ap (λ i. with_item i (Ok items)) (entered_is base part export stk a back ls rest h same)
told_is true base (pass p0 p1 p2) ls rest items h same = refl
told_is false base (pass p0 p1 p2) ls rest items h same = refl
told_is entry base (leave part a0) ls rest items h same = refl

-- ---- lines of a text

one_before : (text front rest : List ℕ) → text ≡ front ++ 10 ∷ rest → is_free 10 front ≡ true
    → lines text ≡ front ∷ lines rest
one_before text front rest is free =
    ap lines is ∙ parts_at 10 (front ++ 10 ∷ rest) front rest (sym (cut_front 10 front rest free))

no_more : lines [] ≡ [] ∷ []
no_more = parts_none 10 [] (sym (cut_free 10 [] refl))

before : (l : Line) (ls : List Line) (t : List ℕ)
    → lines_text (l ∷ ls) ++ t ≡ body l ++ 10 ∷ (lines_text ls ++ t)
before l ls t =
    append_assoc (line_text l) (lines_text ls) t ∙ ap (λ x. x ++ (lines_text ls ++ t)) (line_text_is l)
    ∙ append_assoc (body l) (codes "\n") (lines_text ls ++ t)

-- the lines of a text, the last one passed over
pub lines_are : (l : Line) (ls : List Line) (t : List ℕ) → LineFits l
    → lines (lines_text (l ∷ ls) ++ t) ≡ body l ∷ lines (lines_text ls ++ t)
lines_are l ls t h =
    let free = (line_seen l h).one.free in
    one_before (lines_text (l ∷ ls) ++ t) (body l) (lines_text ls ++ t) (before l ls t) free

pub end_line_is : (t : List ℕ) (e : IsPassedOver t) → lines t ≡ e.0 ∷ [] ∷ []
end_line_is t e = one_before t e.0 [] e.1.is e.1.one.free ∙ ap (λ ts. e.0 ∷ ts) no_more

pairs_are : (ls : List Line) (t : List ℕ) → LinesFit ls → IsPassedOver t
    → HasPairs ls (lines (lines_text ls ++ t))
pairs_are [] t h e = ap pairs_next (end_line_is t e) ∙ ap pairs_of (e.1.read true)
pairs_are (l ∷ ls) t h e =
    ap pairs_next (lines_are l ls t h.0) ∙ ap pairs_of ((line_seen l h.0).read true) ∙ pairs_told l

-- ---- the whole

empty_last : (base n : ℕ) → fed_from base false n ([] ∷ []) ≡ Ok []
unfolding fed_from seen behind
empty_last base n = refl

fed_end : (base n : ℕ) (entry : Bool) (t : List ℕ) → IsPassedOver t → fed_from base entry n (lines t) ≡ Ok []
unfolding fed_from
fed_end base n entry t e =
    ap (fed_from base entry n) (end_line_is t e)
    ∙ ap (λ s. fed_line base n ([] ∷ []) s (λ b. fed_from base b (n + 1) ([] ∷ []))) (e.1.read entry)
    ∙ empty_last base (n + 1)

fed_all : (base n : ℕ) (entry : Bool) (ls : List Line) (t : List ℕ) → LinesFit ls → IsPassedOver t
    → fed_from base entry n (lines (lines_text ls ++ t)) ≡ Ok (line.items_of base ls)
unfolding fed_from
fed_all base n entry [] t h e = fed_end base n entry t e
fed_all base n entry (l ∷ ls) t h e =
    let rest = lines (lines_text ls ++ t) in
    ap (fed_from base entry n) (lines_are l ls t h.0)
    ∙ ap (λ s. fed_line base n rest s (λ b. fed_from base b (n + 1) rest)) ((line_seen l h.0).read entry)
    ∙ ap (with_item (item_seen base (line_told entry l) rest))
    (fed_all base (n + 1) (is_enter (line_told entry l)) ls t h.1 e)
    ∙ told_is entry base l ls rest (line.items_of base ls) h.0 (pairs_are ls t h.1 e)

pub fed_is : (base : ℕ) (ls : List Line) (t : List ℕ) → LinesFit ls → IsPassedOver t
    → fed base (lines_text ls ++ t) ≡ Ok (line.items_of base ls)
unfolding fed
fed_is base ls t h e = fed_all base 1 false ls t h e
