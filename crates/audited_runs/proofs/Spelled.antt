-- Each line of a run is read by an audit as what it is.
use Rattle.std.proofs.Common.{◌≡◌, ℕ, Bool, true, false, List, [], ◌∷◌, ◌++◌, Some, refl, ap, ◌∙◌}
use Rattle.std.proofs.Common.{append_assoc}
use Rattle.std.specs.Prelude.{map, codes, decimal, ◌||◌, is_some}
use Rattle.std.specs.List.{list_all}
use Rattle.cap_words.specs.declared.Word.{Word}
use Rattle.cap_words.specs.Text.{word_text_of}
use Rattle.cap_words.specs.Names.{is_name}
use Rattle.source_events.specs.declared.FeedBack.{FeedBack}
use Rattle.source_events.specs.declared.FeedPair.{FeedPair}
use Rattle.source_events.specs.Forms.{IsName, back_text, pair_text, is_pair}
use Rattle.run_lines.specs.Lines.{Args, Line, call, ret, enter, pass, leave}
use Rattle.run_lines.specs.Texts.{direction, field, words_text, args_text, place_text}
use Rattle.run_lines.specs.Fits.{AllOf, ArgsOf, LineFits}
use Rattle.line_fields.specs.Words.{HasText, is_word}
use Rattle.line_fields.specs.Fields.{meant, tested, whole}
use Rattle.line_fields.proofs.Offers.{fits_has_text, text_is_back, text_is_handed, text_is_word}
use Rattle.audited_runs.proofs.Offers.{IsHigh, decimal_high, word_high, name_high, name_is, spaced, AllHigh}
use Rattle.audited_runs.proofs.Offers.{fields_are, words_spaced, words_high, natural_again}
use Rattle.audited_runs.proofs.Offers.{back_high, pair_high, body}
use Rattle.run_audit.specs.declared.line.Line.TheVariants.{Enter, Pass, Leave}
use Rattle.run_audit.specs.declared.line.Line.{Line as AuditLine}
use Rattle.run_audit.specs.Lines.{line_in, one_line, line_named, told, told_with, words_left, call as call_in}
use Rattle.run_audit.specs.Lines.{ret as ret_in, entered, passed, left}
use Rattle.audited_runs.specs.Audited.{line_seen}
use Rattle.audited_runs.specs.Spelling.{LineHasText, FittingHaveTexts}
use Rattle.cap_words.specs.WordBytes.{WordFits}

-- ---- words and directions

pub word_read : (w : Word) → HasText w → is_word (word_text_of w) ≡ true
word_read w h = ap is_some (text_is_word w (word_text_of w) (h, refl))

words_read : (ws : List Word) → AllOf HasText ws → list_all is_word (map word_text_of ws) ≡ true
words_read [] h = refl
words_read (w ∷ ws) h = let one = word_read w h.0 in let rest = words_read ws h.1 in rw (one, rest) refl

abbrev pub dir_text : Bool → List ℕ
dir_text true = codes "in"
dir_text false = codes "out"

dir_is : (b : Bool) → direction b ≡ dir_text b ++ codes " "
dir_is true = refl
dir_is false = refl

dir_high : (b : Bool) → IsHigh (dir_text b)
dir_high true = record { all = refl }
dir_high false = record { all = refl }

colon : IsHigh (codes ":")
colon = record { all = refl }

-- ---- a line's fields, the first of which is its name

pub read_by : (text : List ℕ) (name : List ℕ) (fs : List (List ℕ)) (l : AuditLine) → text ≡ name ++ spaced fs
    → IsHigh name → AllHigh fs → one_line (name ∷ fs) ≡ Some (l, []) → line_in text ≡ Some l
unfolding line_in
read_by text name fs l is high all read =
    ap line_in is ∙ ap (λ ts. whole (one_line ts)) (fields_are name fs high all) ∙ ap whole read

-- ---- call lines

regroup_call : (c sp d p s b l x0 x1 x2 x3 k w : List ℕ)
    → ((c ++ sp)
    ++ (((d ++ sp) ++ (p ++ ((sp ++ s) ++ ((sp ++ b) ++ (sp ++ l))))) ++ (((sp ++ x0) ++ ((sp ++ x1)
    ++ ((sp ++ x2) ++ (sp ++ x3)))) ++ (sp ++ k)))) ++ w
    ≡ c ++ (sp ++ (d ++ (sp ++ (p ++ (sp ++ (s ++ (sp ++ (b ++ (sp ++ (l ++ (sp ++ (x0 ++ (sp ++ (x1
    ++ (sp ++ (x2 ++ (sp ++ (x3 ++ (sp ++ (k ++ w))))))))))))))))))))
regroup_call c sp d p s b l x0 x1 x2 x3 k w = simp append_assoc

abbrev pub call_fields : Bool → List ℕ → ℕ → ℕ → ℕ → Args → List Word → List (List ℕ)
call_fields inward part site base last a words =
    dir_text inward ∷ part ∷ decimal site ∷ decimal base ∷ decimal last ∷ word_text_of a.a0 ∷ word_text_of
    a.a1
    ∷ word_text_of a.a2 ∷ word_text_of a.a3 ∷ codes ":" ∷ map word_text_of words

call_with : List ℕ → List ℕ → ℕ → ℕ → ℕ → Args → List ℕ → List ℕ
call_with d part site base last a w =
    (codes "call "
    ++ ((d ++ (part ++ (field (decimal site) ++ (field (decimal base) ++ field (decimal last)))))
    ++ ((field (word_text_of a.a0) ++ (field (word_text_of a.a1) ++ (field (word_text_of a.a2)
    ++ field (word_text_of a.a3)))) ++ codes " :"))) ++ w

pub call_body : (inward : Bool) (part : List ℕ) (site base last : ℕ) (a : Args) (words : List Word)
    → body (call inward part site base last a words)
    ≡ codes "call" ++ spaced (call_fields inward part site base last a words)
unfolding place_text args_text call_with
call_body inward part site base last a words =
    ap (λ d. call_with d part site base last a (words_text words)) (dir_is inward)
    ∙ ap (λ w. call_with (dir_text inward ++ codes " ") part site base last a w) (words_spaced words)
    ∙ regroup_call (codes "call") (codes " ") (dir_text inward) part (decimal site) (decimal base)
    (decimal last) (word_text_of a.a0) (word_text_of a.a1) (word_text_of a.a2) (word_text_of a.a3) (codes ":")
    (spaced (map word_text_of words))

call_high : (inward : Bool) (part : List ℕ) (site base last : ℕ) (a : Args) (words : List Word) → IsName part
    → AllHigh (call_fields inward part site base last a words)
call_high inward part site base last a words h =
    let args : AllHigh (word_text_of a.a2 ∷ word_text_of a.a3 ∷ codes ":" ∷ map word_text_of words) =
    (word_high a.a2, (word_high a.a3, (colon, words_high words))) in
    let numbers : AllHigh (decimal base ∷ decimal last ∷ word_text_of a.a0 ∷ word_text_of a.a1
    ∷ word_text_of a.a2 ∷ word_text_of a.a3 ∷ codes ":" ∷ map word_text_of words) =
    (decimal_high base, (decimal_high last, (word_high a.a0, (word_high a.a1, args)))) in
    (dir_high inward, (name_high part h, (decimal_high site, numbers)))

call_at : (inward : Bool) (part : List ℕ) (site base last : ℕ) (a : Args) (words : List Word)
    → LineHasText (call inward part site base last a words)
    → one_line (codes "call" ∷ call_fields inward part site base last a words)
    ≡ Some (line_seen (call inward part site base last a words), [])
unfolding one_line line_named call_in told told_with words_left meant tested
call_at inward part site base last a words h =
    let p : is_name part ≡ true = name_is part h.0.0 in
    let s = natural_again site h.0.1 in
    let b = natural_again base h.0.2 in
    let l = natural_again last h.0.3 in
    let x0 = word_read a.a0 h.1.0 in
    let x1 = word_read a.a1 h.1.1 in
    let x2 = word_read a.a2 h.1.2 in
    let x3 = word_read a.a3 h.1.3 in
    let w = words_read words h.2 in
    elim inward as (λ d. one_line (codes "call" ∷ call_fields d part site base last a words)
    ≡ Some (line_seen (call d part site base last a words), [])) [
      | true ↦ rw (p, s, b, l, x0, x1, x2, x3, w) refl
      | false ↦ rw (p, s, b, l, x0, x1, x2, x3, w) refl
    ]

-- ---- ret lines

regroup_ret : (c sp d p s b l x k w : List ℕ)
    → ((c ++ sp)
    ++ (((d ++ sp) ++ (p ++ ((sp ++ s) ++ ((sp ++ b) ++ (sp ++ l))))) ++ ((sp ++ x) ++ (sp ++ k)))) ++ w
    ≡ c ++ (sp ++ (d ++ (sp ++ (p ++ (sp ++ (s ++ (sp ++ (b ++ (sp ++ (l ++ (sp ++ (x ++ (sp ++ (k
    ++ w))))))))))))))
regroup_ret c sp d p s b l x k w = simp append_assoc

abbrev pub ret_fields : Bool → List ℕ → ℕ → ℕ → ℕ → Word → List Word → List (List ℕ)
ret_fields inward part site base last a0 words =
    dir_text inward ∷ part ∷ decimal site ∷ decimal base ∷ decimal last ∷ word_text_of a0 ∷ codes ":"
    ∷ map word_text_of words

ret_with : List ℕ → List ℕ → ℕ → ℕ → ℕ → Word → List ℕ → List ℕ
ret_with d part site base last a0 w =
    (codes "ret "
    ++ ((d ++ (part ++ (field (decimal site) ++ (field (decimal base) ++ field (decimal last)))))
    ++ (field (word_text_of a0) ++ codes " :"))) ++ w

pub ret_body : (inward : Bool) (part : List ℕ) (site base last : ℕ) (a0 : Word) (words : List Word)
    → body (ret inward part site base last a0 words)
    ≡ codes "ret" ++ spaced (ret_fields inward part site base last a0 words)
unfolding place_text ret_with
ret_body inward part site base last a0 words =
    ap (λ d. ret_with d part site base last a0 (words_text words)) (dir_is inward)
    ∙ ap (λ w. ret_with (dir_text inward ++ codes " ") part site base last a0 w) (words_spaced words)
    ∙ regroup_ret (codes "ret") (codes " ") (dir_text inward) part (decimal site) (decimal base)
    (decimal last)
    (word_text_of a0) (codes ":") (spaced (map word_text_of words))

ret_high : (inward : Bool) (part : List ℕ) (site base last : ℕ) (a0 : Word) (words : List Word) → IsName part
    → AllHigh (ret_fields inward part site base last a0 words)
ret_high inward part site base last a0 words h =
    let numbers : AllHigh (decimal last ∷ word_text_of a0 ∷ codes ":" ∷ map word_text_of words) =
    (decimal_high last, (word_high a0, (colon, words_high words))) in
    (dir_high inward, (name_high part h, (decimal_high site, (decimal_high base, numbers))))

ret_at : (inward : Bool) (part : List ℕ) (site base last : ℕ) (a0 : Word) (words : List Word)
    → LineHasText (ret inward part site base last a0 words)
    → one_line (codes "ret" ∷ ret_fields inward part site base last a0 words)
    ≡ Some (line_seen (ret inward part site base last a0 words), [])
unfolding one_line line_named ret_in told told_with words_left meant tested
ret_at inward part site base last a0 words h =
    let p : is_name part ≡ true = name_is part h.0.0 in
    let s = natural_again site h.0.1 in
    let b = natural_again base h.0.2 in
    let l = natural_again last h.0.3 in
    let x0 = word_read a0 h.1 in
    let w = words_read words h.2 in
    elim inward as (λ d. one_line (codes "ret" ∷ ret_fields d part site base last a0 words)
    ≡ Some (line_seen (ret d part site base last a0 words), [])) [
      | true ↦ rw (p, s, b, l, x0, w) refl
      | false ↦ rw (p, s, b, l, x0, w) refl
    ]

-- ---- enter lines

regroup_enter : (c sp p e s x0 x1 x2 x3 b : List ℕ)
    → ((c ++ sp)
    ++ (p ++ ((sp ++ e) ++ ((sp ++ s) ++ (((sp ++ x0) ++ ((sp ++ x1) ++ ((sp ++ x2) ++ (sp ++ x3))))
    ++ (sp ++ b)))))) ++ []
    ≡ c ++ (sp ++ (p ++ (sp ++ (e ++ (sp ++ (s ++ (sp ++ (x0 ++ (sp ++ (x1 ++ (sp ++ (x2 ++ (sp ++ (x3
    ++ (sp ++ (b ++ []))))))))))))))))
regroup_enter c sp p e s x0 x1 x2 x3 b = simp append_assoc

abbrev pub enter_fields : List ℕ → List ℕ → Word → Args → FeedBack → List (List ℕ)
enter_fields part export stk a back =
    part ∷ export ∷ word_text_of stk ∷ word_text_of a.a0 ∷ word_text_of a.a1 ∷ word_text_of a.a2
    ∷ word_text_of a.a3 ∷ back_text back ∷ []

pub enter_body : (part export : List ℕ) (stk : Word) (a : Args) (back : FeedBack)
    → body (enter part export stk a back) ≡ codes "enter" ++ spaced (enter_fields part export stk a back)
unfolding args_text
enter_body part export stk a back =
    regroup_enter (codes "enter") (codes " ") part export (word_text_of stk) (word_text_of a.a0)
    (word_text_of a.a1) (word_text_of a.a2) (word_text_of a.a3) (back_text back)

enter_high : (part export : List ℕ) (stk : Word) (a : Args) (back : FeedBack)
    → LineHasText (enter part export stk a back) → AllHigh (enter_fields part export stk a back)
enter_high part export stk a back h =
    let args : AllHigh (word_text_of a.a1 ∷ word_text_of a.a2 ∷ word_text_of a.a3 ∷ back_text back ∷ []) =
    (word_high a.a1, (word_high a.a2, (word_high a.a3, (back_high back h.4, tt)))) in
    (name_high part h.0, (name_high export h.1, (word_high stk, (word_high a.a0, args))))

enter_at : (part export : List ℕ) (stk : Word) (a : Args) (back : FeedBack)
    → LineHasText (enter part export stk a back)
    → one_line (codes "enter" ∷ enter_fields part export stk a back) ≡ Some (Enter, [])
unfolding one_line line_named entered meant tested
enter_at part export stk a back h =
    let p : is_name part ≡ true = name_is part h.0 in
    let e : is_name export ≡ true = name_is export h.1 in
    let s = word_read stk h.2 in
    let x0 = word_read a.a0 h.3.0 in
    let x1 = word_read a.a1 h.3.1 in
    let x2 = word_read a.a2 h.3.2 in
    let x3 = word_read a.a3 h.3.3 in
    let b = text_is_back back (back_text back) (h.4, refl) in
    rw (p, e, s, x0, x1, x2, x3, b) refl

-- ---- pass lines

pub regroup_pass : (c sp x y z : List ℕ)
    → ((c ++ sp) ++ (x ++ ((sp ++ y) ++ (sp ++ z)))) ++ [] ≡ c
    ++ (sp ++ (x ++ (sp ++ (y ++ (sp ++ (z ++ []))))))
regroup_pass c sp x y z = simp append_assoc

abbrev pub pass_fields : FeedPair → FeedPair → FeedPair → List (List ℕ)
pass_fields p0 p1 p2 = pair_text p0 ∷ pair_text p1 ∷ pair_text p2 ∷ []

some_told : (a b c : Bool) → (a || (b || c)) ≡ true → (a || b || c) ≡ true
some_told true b c e = refl
some_told false true c e = refl
some_told false false c e = e

pass_at : (p0 p1 p2 : FeedPair) → LineHasText (pass p0 p1 p2)
    → one_line (codes "pass" ∷ pass_fields p0 p1 p2) ≡ Some (Pass, [])
unfolding one_line line_named passed meant
pass_at p0 p1 p2 h =
    let x0 = text_is_handed p0 (pair_text p0) (h.0, refl) in
    let x1 = text_is_handed p1 (pair_text p1) (h.1, refl) in
    let x2 = text_is_handed p2 (pair_text p2) (h.2, refl) in
    let some = some_told (is_pair p0) (is_pair p1) (is_pair p2) h.3 in
    rw (x0, x1, x2, some) refl

-- ---- leave lines

pub regroup_leave : (c sp p x : List ℕ)
    → ((c ++ sp) ++ (p ++ (sp ++ x))) ++ [] ≡ c ++ (sp ++ (p ++ (sp ++ (x ++ []))))
regroup_leave c sp p x = simp append_assoc

leave_at : (part : List ℕ) (a0 : Word) → LineHasText (leave part a0)
    → one_line (codes "leave" ∷ part ∷ word_text_of a0 ∷ []) ≡ Some (Leave, [])
unfolding one_line line_named left tested
leave_at part a0 h =
    let p : is_name part ≡ true = name_is part h.0 in
    let x = word_read a0 h.1 in
    rw (p, x) refl

-- ---- each line

pub text_read : (l : Line) → LineHasText l → line_in (body l) ≡ Some (line_seen l)
text_read (call inward part site base last a words) h =
    read_by _ (codes "call") (call_fields inward part site base last a words) _
    (call_body inward part site base last a words) (record { all = refl })
    (call_high inward part site base last a words h.0.0) (call_at inward part site base last a words h)
text_read (ret inward part site base last a0 words) h =
    read_by _ (codes "ret") (ret_fields inward part site base last a0 words) _
    (ret_body inward part site base last a0 words) (record { all = refl })
    (ret_high inward part site base last a0 words h.0.0) (ret_at inward part site base last a0 words h)
text_read (enter part export stk a back) h =
    read_by _ (codes "enter") (enter_fields part export stk a back) _ (enter_body part export stk a back)
    (record { all = refl }) (enter_high part export stk a back h) (enter_at part export stk a back h)
text_read (pass p0 p1 p2) h =
    read_by _ (codes "pass") (pass_fields p0 p1 p2) _
    (regroup_pass (codes "pass") (codes " ") (pair_text p0) (pair_text p1) (pair_text p2))
    (record { all = refl }) (pair_high p0 h.0, (pair_high p1 h.1, (pair_high p2 h.2, tt)))
    (pass_at p0 p1 p2 h)
text_read (leave part a0) h =
    read_by _ (codes "leave") (part ∷ word_text_of a0 ∷ []) _
    (regroup_leave (codes "leave") (codes " ") part (word_text_of a0)) (record { all = refl })
    (name_high part h.0, (word_high a0, tt)) (leave_at part a0 h)

-- ---- lines that fit

fit_have_texts : (ws : List Word) → AllOf WordFits ws → AllOf HasText ws
fit_have_texts [] h = tt
fit_have_texts (w ∷ ws) h = (fits_has_text w h.0, fit_have_texts ws h.1)

args_have_texts : (a : Args) → ArgsOf WordFits a → ArgsOf HasText a
args_have_texts a h =
    (fits_has_text a.a0 h.0, fits_has_text a.a1 h.1, fits_has_text a.a2 h.2, fits_has_text a.a3 h.3)

pub fitting_have_texts : FittingHaveTexts
fitting_have_texts (call inward part site base last a words) h =
    (h.0, args_have_texts a h.1, fit_have_texts words h.2)
fitting_have_texts (ret inward part site base last a0 words) h =
    (h.0, fits_has_text a0 h.1, fit_have_texts words h.2)
fitting_have_texts (enter part export stk a back) h =
    (h.0, h.1, fits_has_text stk h.2, args_have_texts a h.3, h.4)
fitting_have_texts (pass p0 p1 p2) h = h
fitting_have_texts (leave part a0) h = (h.0, fits_has_text a0 h.1)

pub line_read : (l : Line) → LineFits l → line_in (body l) ≡ Some (line_seen l)
line_read l h = text_read l (fitting_have_texts l h)
