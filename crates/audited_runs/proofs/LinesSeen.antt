-- The lines of runs, as a feed's reader sees them.
use Rattle.std.proofs.Common.{◌≡◌, ℕ, Bool, true, false, List, [], ◌∷◌, ◌++◌, Some, refl, sym}
use Rattle.std.proofs.Common.{ap, ◌∙◌, subst, append_assoc}
use Rattle.std.specs.Prelude.{map, option_map, codes, decimal}
use Rattle.cap_words.specs.declared.Word.{Word}
use Rattle.cap_words.specs.Names.{is_name}
use Rattle.cap_words.specs.Text.{word_text_of}
use Rattle.source_events.specs.declared.FeedBack.{FeedBack}
use Rattle.source_events.specs.declared.FeedPair.{FeedPair}
use Rattle.source_events.specs.Forms.{IsName, back_text, pair_text}
use Rattle.run_lines.specs.Lines.{Args, Line, call, ret, enter, pass, leave}
use Rattle.run_lines.specs.Texts.{direction, field, words_text, args_text, place_text, head_text, words_of}
use Rattle.run_lines.specs.Texts.{line_text}
use Rattle.run_lines.specs.Fits.{LineFits}
use Rattle.line_fields.specs.Cuts.{behind}
use Rattle.line_fields.specs.Fields.{meant, tested, whole}
use Rattle.line_fields.specs.Seen.{EnterSeen}
use Rattle.line_fields.specs.Lines.{LineSeen, enter_line as Enter, ret_line as Ret, pass_line as Pass}
use Rattle.line_fields.specs.Lines.{other_line as Other}
use Rattle.line_fields.specs.Lines.{begun, entered, answered_with, answered, passed, enter_in}
use Rattle.line_fields.specs.Lines.{ret_in, pass_in, seen}
use Rattle.line_fields.proofs.Offers.{text_is_back, text_is_handed}
use Rattle.audited_runs.proofs.High.{IsHigh, decimal_high, word_high, name_high, name_is, IsOneLine}
use Rattle.audited_runs.proofs.High.{line_join, high_line}
use Rattle.audited_runs.proofs.Spaced.{spaced, AllHigh, fields_are, spaced_line, words_spaced, words_high}
use Rattle.audited_runs.proofs.FieldsRead.{natural_again, back_high, pair_high}

abbrev enter_told : List ℕ → List ℕ → Word → Args → FeedBack → EnterSeen
enter_told part export stk a back = record {
  part = part;
  name = export;
  stk = word_text_of stk;
  a0 = word_text_of a.a0;
  a1 = word_text_of a.a1;
  a2 = word_text_of a.a2;
  a3 = word_text_of a.a3;
  back = back;
}

-- what a line is seen as, right after an enter line or not
abbrev pub line_told : Bool → Line → LineSeen
line_told entry (call inward part site base last args words) = Other
line_told entry (ret true part site base last a0 words) = Other
line_told entry (ret false part site base last a0 words) =
    Ret (record { part = part; site = site; base = base; a0 = word_text_of a0 })
line_told entry (enter part export stk a back) = Enter (enter_told part export stk a back)
line_told true (pass p0 p1 p2) = Pass (record { p0 = p0; p1 = p1; p2 = p2 })
line_told false (pass p0 p1 p2) = Other
line_told entry (leave part a0) = Other

-- a line without its newline
abbrev pub body : Line → List ℕ
body l = head_text l ++ words_text (words_of l)

pub line_text_is : (l : Line) → line_text l ≡ body l ++ codes "\n"
unfolding line_text
line_text_is l = sym (append_assoc (head_text l) (words_text (words_of l)) (codes "\n"))

pub record IsSeen (text : List ℕ) (l : Line) : Type 0 where
  pub read : (entry : Bool) → seen entry text ≡ Some (line_told entry l)
  pub one : IsOneLine text

-- ---- what lines have in common

field_line : {t : List ℕ} → IsHigh t → IsOneLine (field t)
field_line h = let blank : IsOneLine (codes " ") = record { free = refl } in line_join blank (high_line h)

words_line : (ws : List Word) → IsOneLine (words_text ws)
words_line [] = record { free = refl }
words_line (w ∷ ws) = line_join (field_line (word_high w)) (words_line ws)

args_line : (a : Args) → IsOneLine (args_text a)
unfolding args_text
args_line a =
    line_join (field_line (word_high a.a0)) (line_join (field_line (word_high a.a1))
    (line_join (field_line (word_high a.a2)) (field_line (word_high a.a3))))

direction_line : (b : Bool) → IsOneLine (direction b)
direction_line true = record { free = refl }
direction_line false = record { free = refl }

place_line : (inward : Bool) (part : List ℕ) (site base last : ℕ) → IsName part
    → IsOneLine (place_text inward part site base last)
unfolding place_text
place_line inward part site base last h =
    let numbers = line_join (field_line (decimal_high base)) (field_line (decimal_high last)) in
    line_join (direction_line inward)
    (line_join (high_line (name_high part h)) (line_join (field_line (decimal_high site)) numbers))

colon_high : IsHigh (codes ":")
colon_high = record { all = refl }

-- ---- call lines

call_read : (entry inward : Bool) (part : List ℕ) (site base last : ℕ) (a : Args) (words : List Word)
    → seen entry (body (call inward part site base last a words)) ≡ Some Other
unfolding seen behind
call_read true inward part site base last a words = refl
call_read false inward part site base last a words = refl

call_seen : (inward : Bool) (part : List ℕ) (site base last : ℕ) (a : Args) (words : List Word)
    → LineFits (call inward part site base last a words)
    → IsSeen (body (call inward part site base last a words)) (call inward part site base last a words)
call_seen inward part site base last a words h =
    let name : IsOneLine (codes "call ") = record { free = refl } in
    let args = line_join (args_line a) (field_line colon_high) in
    record {
      read = λ entry. call_read entry inward part site base last a words;
      one = line_join (line_join name (line_join (place_line inward part site base last h.0.0) args))
          (words_line words);
    }

-- ---- ret lines

regroup_ret : (c d sp p s b l x k w : List ℕ)
    → (c ++ ((d ++ (p ++ ((sp ++ s) ++ ((sp ++ b) ++ (sp ++ l))))) ++ ((sp ++ x) ++ (sp ++ k)))) ++ w
    ≡ (c ++ d) ++ (p ++ (sp ++ (s ++ (sp ++ (b ++ (sp ++ (l ++ (sp ++ (x ++ (sp ++ (k ++ w)))))))))))
regroup_ret c d sp p s b l x k w = simp append_assoc

abbrev ret_fields : ℕ → ℕ → ℕ → Word → List Word → List (List ℕ)
ret_fields site base last a0 words =
    decimal site ∷ decimal base ∷ decimal last ∷ word_text_of a0 ∷ codes ":" ∷ map word_text_of words

ret_body : (part : List ℕ) (site base last : ℕ) (a0 : Word) (words : List Word)
    → body (ret false part site base last a0 words)
    ≡ codes "ret out " ++ (part ++ spaced (ret_fields site base last a0 words))
unfolding place_text
ret_body part site base last a0 words =
    ap (λ w. head_text (ret false part site base last a0 words) ++ w) (words_spaced words)
    ∙ regroup_ret (codes "ret ") (codes "out ") (codes " ") part (decimal site) (decimal base) (decimal last)
    (word_text_of a0) (codes ":") (spaced (map word_text_of words))

answer_at : (entry : Bool) (rest : List ℕ)
    → seen entry (codes "ret out " ++ rest) ≡ option_map Ret (ret_in rest)
unfolding seen behind
answer_at entry rest = refl

answer_in : (part : List ℕ) (site base last : ℕ) (a0 : Word) (words : List Word)
    → LineFits (ret false part site base last a0 words)
    → ret_in (part ++ spaced (ret_fields site base last a0 words))
    ≡ Some (record { part = part; site = site; base = base; a0 = word_text_of a0 })
unfolding ret_in answered answered_with meant tested
answer_in part site base last a0 words h =
    let behind : AllHigh (word_text_of a0 ∷ codes ":" ∷ map word_text_of words) =
    (word_high a0, (colon_high, words_high words)) in
    let all : AllHigh (ret_fields site base last a0 words) =
    (decimal_high site, (decimal_high base, (decimal_high last, behind))) in
    let fs = fields_are part (ret_fields site base last a0 words) (name_high part h.0.0) all in
    let name : is_name part ≡ true = name_is part h.0.0 in
    let s = natural_again site h.0.1 in
    let b = natural_again base h.0.2 in
    let l = natural_again last h.0.3 in
    ap (λ ts. begun (answered ts)) fs ∙ rw (name, s, b, l) refl

ret_read : (entry inward : Bool) (part : List ℕ) (site base last : ℕ) (a0 : Word) (words : List Word)
    → LineFits (ret inward part site base last a0 words)
    → seen entry (body (ret inward part site base last a0 words))
    ≡ Some (line_told entry (ret inward part site base last a0 words))
unfolding seen behind place_text
ret_read true true part site base last a0 words h = refl
ret_read false true part site base last a0 words h = refl
ret_read entry false part site base last a0 words h =
    ap (seen entry) (ret_body part site base last a0 words)
    ∙ answer_at entry (part ++ spaced (ret_fields site base last a0 words))
    ∙ ap (option_map Ret) (answer_in part site base last a0 words h)

ret_seen : (inward : Bool) (part : List ℕ) (site base last : ℕ) (a0 : Word) (words : List Word)
    → LineFits (ret inward part site base last a0 words)
    → IsSeen (body (ret inward part site base last a0 words)) (ret inward part site base last a0 words)
ret_seen inward part site base last a0 words h =
    let name : IsOneLine (codes "ret ") = record { free = refl } in
    let value = line_join (field_line (word_high a0)) (field_line colon_high) in
    record {
      read = λ entry. ret_read entry inward part site base last a0 words h;
      one = line_join (line_join name (line_join (place_line inward part site base last h.0.0) value))
          (words_line words);
    }

-- ---- leave lines

leave_read : (entry : Bool) (part : List ℕ) (a0 : Word) → seen entry (body (leave part a0)) ≡ Some Other
unfolding seen behind
leave_read true part a0 = refl
leave_read false part a0 = refl

leave_seen : (part : List ℕ) (a0 : Word) → LineFits (leave part a0)
    → IsSeen (body (leave part a0)) (leave part a0)
leave_seen part a0 h =
    let name : IsOneLine (codes "leave ") = record { free = refl } in
    let value = line_join (high_line (name_high part h.0)) (field_line (word_high a0)) in
    record {
      read = λ entry. leave_read entry part a0;
      one = line_join (line_join name value) (words_line []);
    }

-- ---- enter lines

regroup_enter : (c sp p e s x0 x1 x2 x3 b : List ℕ)
    → (c ++ (p ++ ((sp ++ e) ++ ((sp ++ s) ++ (((sp ++ x0) ++ ((sp ++ x1) ++ ((sp ++ x2) ++ (sp ++ x3))))
    ++ (sp ++ b)))))) ++ []
    ≡ c ++ (p ++ (sp ++ (e ++ (sp ++ (s ++ (sp ++ (x0 ++ (sp ++ (x1 ++ (sp ++ (x2 ++ (sp ++ (x3
    ++ (sp ++ (b ++ [])))))))))))))))
regroup_enter c sp p e s x0 x1 x2 x3 b = simp append_assoc

abbrev enter_fields : List ℕ → Word → Args → FeedBack → List (List ℕ)
enter_fields export stk a back =
    export ∷ word_text_of stk ∷ word_text_of a.a0 ∷ word_text_of a.a1 ∷ word_text_of a.a2 ∷ word_text_of a.a3
    ∷ back_text back ∷ []

enter_body : (part export : List ℕ) (stk : Word) (a : Args) (back : FeedBack)
    → body (enter part export stk a back)
    ≡ codes "enter " ++ (part ++ spaced (enter_fields export stk a back))
unfolding args_text
enter_body part export stk a back =
    regroup_enter (codes "enter ") (codes " ") part export (word_text_of stk) (word_text_of a.a0)
    (word_text_of a.a1) (word_text_of a.a2) (word_text_of a.a3) (back_text back)

entered_high : (part export : List ℕ) (stk : Word) (a : Args) (back : FeedBack)
    → LineFits (enter part export stk a back) → AllHigh (enter_fields export stk a back)
entered_high part export stk a back h =
    let args : AllHigh (word_text_of a.a2 ∷ word_text_of a.a3 ∷ back_text back ∷ []) =
    (word_high a.a2, (word_high a.a3, (back_high back h.4, tt))) in
    (name_high export h.1, (word_high stk, (word_high a.a0, (word_high a.a1, args))))

enter_at : (entry : Bool) (rest : List ℕ)
    → seen entry (codes "enter " ++ rest) ≡ option_map Enter (enter_in rest)
unfolding seen behind
enter_at entry rest = refl

entered_in : (part export : List ℕ) (stk : Word) (a : Args) (back : FeedBack)
    → LineFits (enter part export stk a back)
    → enter_in (part ++ spaced (enter_fields export stk a back))
    ≡ Some (enter_told part export stk a back)
unfolding enter_in entered meant tested
entered_in part export stk a back h =
    let all = entered_high part export stk a back h in
    let fs = fields_are part (enter_fields export stk a back) (name_high part h.0) all in
    let p : is_name part ≡ true = name_is part h.0 in
    let e : is_name export ≡ true = name_is export h.1 in
    let b = text_is_back back (back_text back) (h.4, refl) in
    ap (λ ts. whole (entered ts)) fs ∙ rw (p, e, b) refl

enter_seen : (part export : List ℕ) (stk : Word) (a : Args) (back : FeedBack)
    → LineFits (enter part export stk a back)
    → IsSeen (body (enter part export stk a back)) (enter part export stk a back)
enter_seen part export stk a back h =
    let name : IsOneLine (codes "enter ") = record { free = refl } in
    let fs = enter_fields export stk a back in
    let is = enter_body part export stk a back in
    let behind = spaced_line fs (entered_high part export stk a back h) in
    let rest = line_join (high_line (name_high part h.0)) behind in
    record {
      read = λ entry. ap (seen entry) is ∙ enter_at entry (part ++ spaced fs)
          ∙ ap (option_map Enter) (entered_in part export stk a back h);
      one = subst IsOneLine (sym is) (line_join name rest);
    }

-- ---- pass lines

regroup_pass : (c sp x y z : List ℕ)
    → (c ++ (x ++ ((sp ++ y) ++ (sp ++ z)))) ++ [] ≡ c ++ (x ++ (sp ++ (y ++ (sp ++ (z ++ [])))))
regroup_pass c sp x y z = simp append_assoc

abbrev pass_fields : FeedPair → FeedPair → List (List ℕ)
pass_fields p1 p2 = pair_text p1 ∷ pair_text p2 ∷ []

pass_at : (rest : List ℕ) → seen true (codes "pass " ++ rest) ≡ option_map Pass (pass_in rest)
unfolding seen behind
pass_at rest = refl

other_pass : (rest : List ℕ) → seen false (codes "pass " ++ rest) ≡ Some Other
unfolding seen behind
other_pass rest = refl

passed_in : (p0 p1 p2 : FeedPair) → LineFits (pass p0 p1 p2)
    → pass_in (pair_text p0 ++ spaced (pass_fields p1 p2))
    ≡ Some (record { p0 = p0; p1 = p1; p2 = p2 })
unfolding pass_in passed meant
passed_in p0 p1 p2 h =
    let all : AllHigh (pass_fields p1 p2) = (pair_high p1 h.1, (pair_high p2 h.2, tt)) in
    let fs = fields_are (pair_text p0) (pass_fields p1 p2) (pair_high p0 h.0) all in
    let x0 = text_is_handed p0 (pair_text p0) (h.0, refl) in
    let x1 = text_is_handed p1 (pair_text p1) (h.1, refl) in
    let x2 = text_is_handed p2 (pair_text p2) (h.2, refl) in
    ap (λ ts. whole (passed ts)) fs ∙ rw (x0, x1, x2) refl

pass_read : (entry : Bool) (p0 p1 p2 : FeedPair) → LineFits (pass p0 p1 p2)
    → seen entry (codes "pass " ++ (pair_text p0 ++ spaced (pass_fields p1 p2)))
    ≡ Some (line_told entry (pass p0 p1 p2))
pass_read true p0 p1 p2 h =
    pass_at (pair_text p0 ++ spaced (pass_fields p1 p2)) ∙ ap (option_map Pass) (passed_in p0 p1 p2 h)
pass_read false p0 p1 p2 h = other_pass (pair_text p0 ++ spaced (pass_fields p1 p2))

pass_seen : (p0 p1 p2 : FeedPair) → LineFits (pass p0 p1 p2) → IsSeen (body (pass p0 p1 p2)) (pass p0 p1 p2)
pass_seen p0 p1 p2 h =
    let name : IsOneLine (codes "pass ") = record { free = refl } in
    let is = regroup_pass (codes "pass ") (codes " ") (pair_text p0) (pair_text p1) (pair_text p2) in
    let rest = spaced_line (pass_fields p1 p2) (pair_high p1 h.1, (pair_high p2 h.2, tt)) in
    record {
      read = λ entry. ap (seen entry) is ∙ pass_read entry p0 p1 p2 h;
      one = subst IsOneLine (sym is) (line_join name (line_join (high_line (pair_high p0 h.0)) rest));
    }

-- ---- each line

pub line_seen : (l : Line) → LineFits l → IsSeen (body l) l
line_seen (call inward part site base last args words) h = call_seen inward part site base last args words h
line_seen (ret inward part site base last a0 words) h = ret_seen inward part site base last a0 words h
line_seen (enter part export stk args back) h = enter_seen part export stk args back h
line_seen (pass p0 p1 p2) h = pass_seen p0 p1 p2 h
line_seen (leave part a0) h = leave_seen part a0 h
