-- A text is refused with the number of its first bad line.
use Rattle.std.proofs.Common.{◌≡◌, ℕ, zero, suc, ◌+◌, ◌<◌, Bool, true, false, List, [], ◌∷◌, Option, Some}
use Rattle.std.proofs.Common.{None, Result, Ok, Err, refl, sym, ap, ◌∙◌, subst, arith}
use Rattle.std.specs.Prelude.{is_some, IsOk, is_ok}
use Rattle.source_events.specs.declared.Item.{Item}
use Rattle.line_fields.specs.Fields.{lines}
use Rattle.line_fields.specs.declared.fault.FeedFault.{FeedFault}
use Rattle.line_fields.specs.declared.fault.FeedFault.TheVariants.{Line}
use Rattle.line_fields.specs.declared.line.FeedLine.{FeedLine}
use Rattle.line_fields.specs.Lines.{seen}
use Rattle.line_fields.specs.Feed.{line_item, with_item, fed_line, fed_from, fed}
use Rattle.line_fields.specs.Bad.{KeepsForm, begins_enter, IsBadLine, IsFirstBad}
use Rattle.line_fields.proofs.Feeding.{one_line, nothing_left}
use Rattle.line_fields.proofs.FormLemmas.{keeps, there, enter_told}

-- ---- one line, and those after it

abbrev Fed : Type 0
Fed = Result (List Item) FeedFault

with_err : (o : Option Item) (r : Fed) (e : FeedFault) → with_item o r ≡ Err e → r ≡ Err e
with_err None r e h = h
with_err (Some i) (Ok items) e h = absurd cc
with_err (Some i) (Err f) e h = cc

err_with : (o : Option Item) (r : Fed) (e : FeedFault) → r ≡ Err e → with_item o r ≡ Err e
err_with None r e h = h
err_with (Some i) (Ok items) e h = absurd cc
err_with (Some i) (Err f) e h = cc

ok_with : (o : Option Item) (r : Fed) → is_ok (with_item o r) ≡ is_ok r
ok_with None r = refl
ok_with (Some i) (Ok items) = refl
ok_with (Some i) (Err e) = refl

-- the lines after a line that keeps its form
behind_good : (base : ℕ) (entry : Bool) (n : ℕ) (line : List ℕ) (rest : List (List ℕ)) → KeepsForm entry line
    → (o : Option Item)
    × (fed_from base entry n (line ∷ rest) ≡ with_item o (fed_from base (begins_enter line) (n + 1) rest))
behind_good base entry n line rest k = by_seen (seen entry line) refl (there entry line k)
  where
    by_seen : (s : Option FeedLine) → seen entry line ≡ s → is_some s ≡ true
        → (o : Option Item)
        × (fed_from base entry n (line ∷ rest) ≡ with_item o (fed_from base (begins_enter line) (n + 1) rest))
    by_seen None is h = absurd cc
    by_seen (Some found) is h = (
      line_item base found rest,
      one_line base entry n line rest
          ∙ ap (λ s. fed_line base n rest s (λ b. fed_from base b (n + 1) rest)) is
          ∙ ap (λ b. with_item (line_item base found rest) (fed_from base b (n + 1) rest))
          (enter_told entry line found is),
    )

-- a line that breaks its form
at_bad : (base : ℕ) (entry : Bool) (n : ℕ) (line : List ℕ) (rest : List (List ℕ)) → ¬ KeepsForm entry line
    → fed_from base entry n (line ∷ rest) ≡ Err (Line n)
at_bad base entry n line rest bad = by_seen (seen entry line) refl
  where
    by_seen : (s : Option FeedLine) → seen entry line ≡ s → fed_from base entry n (line ∷ rest) ≡ Err (Line n)
    by_seen None is =
        one_line base entry n line rest ∙ ap
        (λ s. fed_line base n rest s (λ b. fed_from base b (n + 1) rest)) is
    by_seen (Some found) is = absurd (bad (keeps entry line (ap is_some is)))

-- a line keeps its form or breaks it
data Judged (entry : Bool) (line : List ℕ) : Type 0 where
  good : KeepsForm entry line → Judged entry line
  bad : (¬ KeepsForm entry line) → Judged entry line

judged : (entry : Bool) (line : List ℕ) → Judged entry line
judged entry line = by_seen (is_some (seen entry line)) refl
  where
    by_seen : (b : Bool) → is_some (seen entry line) ≡ b → Judged entry line
    by_seen true is = good (keeps entry line is)
    by_seen false is = bad (λ k. let both : true ≡ false = sym (there entry line k) ∙ is in cc)

-- ---- the first bad line, of lines the first of which stands right after an `enter` line or not

-- counted from 1
abbrev First : Bool → List (List ℕ) → ℕ → Type 0
First entry left k = IsBadLine entry left k × ((m : ℕ) → m < k → ¬ IsBadLine entry left m)

-- where it is found, the lines before it being good ones
abbrev Found : Bool → List (List ℕ) → ℕ → FeedFault → Type 0
Found entry left n e = (k : ℕ) × First entry left (suc k) × (e ≡ Line (n + k))

first_here : (entry : Bool) (line : List ℕ) (rest : List (List ℕ)) → ¬ KeepsForm entry line
    → First entry (line ∷ rest) 1
first_here entry line rest h = (h, before)
  where
    before : (m : ℕ) → m < 1 → ¬ IsBadLine entry (line ∷ rest) m
    before zero lt b = b
    before (suc m) lt b = absurd (omega (arith, lt))

first_later : (entry : Bool) (line : List ℕ) (rest : List (List ℕ)) (k : ℕ) → KeepsForm entry line
    → First (begins_enter line) rest (suc k) → First entry (line ∷ rest) (suc (suc k))
first_later entry line rest k g f = (f.0, before)
  where
    before : (m : ℕ) → m < suc (suc k) → ¬ IsBadLine entry (line ∷ rest) m
    before zero lt b = b
    before (suc zero) lt b = b g
    before (suc (suc m)) lt b = f.1 (suc m) (omega (arith, lt)) b

found : (base : ℕ) (entry : Bool) (n : ℕ) (left : List (List ℕ)) (e : FeedFault)
    → fed_from base entry n left ≡ Err e → Found entry left n e
found base entry n [] e h = absurd (let bad : Ok [] ≡ Err e = sym (nothing_left base entry n) ∙ h in cc)
found base entry n (line ∷ rest) e h = elim (judged entry line) [
  | good k ↦
      let g = behind_good base entry n line rest k in
      let more = with_err g.0 (fed_from base (begins_enter line) (n + 1) rest) e (sym g.1 ∙ h) in
      let f = found base (begins_enter line) (n + 1) rest e more in
      let next : n + 1 + f.0 ≡ n + suc f.0 = omega arith in
      (suc f.0, first_later entry line rest f.0 k f.1, f.2 ∙ ap Line next)
  | bad b ↦
      let here : Err (Line n) ≡ Err e = sym (at_bad base entry n line rest b) ∙ h in
      let same : Line n ≡ e = cc in
      let none : n ≡ n + 0 = omega arith in
      (0, first_here entry line rest b, sym same ∙ ap Line none)
]

later_none : (entry : Bool) (line : List ℕ) (rest : List (List ℕ)) (k : ℕ)
    → ((m : ℕ) → m < suc (suc k) → ¬ IsBadLine entry (line ∷ rest) m)
    → (m : ℕ) → m < suc k → ¬ IsBadLine (begins_enter line) rest m
later_none entry line rest k before zero lt b = no_zero (begins_enter line) rest b
  where
    no_zero : (entry : Bool) (left : List (List ℕ)) → ¬ IsBadLine entry left zero
    no_zero entry [] b = b
    no_zero entry (line ∷ rest) b = b
later_none entry line rest k before (suc m) lt b = before (suc (suc m)) (omega (arith, lt)) b

stopped : (base : ℕ) (entry : Bool) (n : ℕ) (left : List (List ℕ)) (k : ℕ) → First entry left (suc k)
    → fed_from base entry n left ≡ Err (Line (n + k))
stopped base entry n [] k f = absurd f.0
stopped base entry n (line ∷ rest) zero f =
    let none : n ≡ n + 0 = omega arith in
    at_bad base entry n line rest f.0 ∙ ap (λ i. Err (Line i)) none
stopped base entry n (line ∷ rest) (suc k) f = elim (judged entry line) [
  | good g ↦
      let b = behind_good base entry n line rest g in
      let next : n + 1 + k ≡ n + suc k = omega arith in
      let later : First (begins_enter line) rest (suc k) = (f.0, later_none entry line rest k f.1) in
      let more = stopped base (begins_enter line) (n + 1) rest k later in
      b.1 ∙ err_with b.0 (fed_from base (begins_enter line) (n + 1) rest) (Line (n + 1 + k)) more
      ∙ ap (λ i. Err (Line i)) next
  | bad b ↦ absurd (f.1 1 (omega arith) b)
]

-- ---- and where there is none

passes : (base : ℕ) (entry : Bool) (n : ℕ) (left : List (List ℕ)) → ((m : ℕ) → ¬ IsBadLine entry left m)
    → is_ok (fed_from base entry n left) ≡ true
passes base entry n [] none = ap is_ok (nothing_left base entry n)
passes base entry n (line ∷ rest) none = elim (judged entry line) [
  | good k ↦
      let g = behind_good base entry n line rest k in
      let behind : (m : ℕ) → ¬ IsBadLine (begins_enter line) rest m =
      λ m. later_none entry line rest m (λ i lt. none i) m (omega arith) in
      ap is_ok g.1 ∙ ok_with g.0 (fed_from base (begins_enter line) (n + 1) rest)
      ∙ passes base (begins_enter line) (n + 1) rest behind
  | bad b ↦ absurd (none 1 b)
]

good_all : (base : ℕ) (entry : Bool) (n : ℕ) (left : List (List ℕ))
    → is_ok (fed_from base entry n left) ≡ true
    → (m : ℕ) → ¬ IsBadLine entry left m
good_all base entry n [] h m b = b
good_all base entry n (line ∷ rest) h zero b = b
good_all base entry n (line ∷ rest) h (suc zero) b =
    let stop : true ≡ false = sym h ∙ ap is_ok (at_bad base entry n line rest b) in
    cc
good_all base entry n (line ∷ rest) h (suc (suc m)) b = elim (judged entry line) [
  | good k ↦
      let g = behind_good base entry n line rest k in
      good_all base (begins_enter line) (n + 1) rest
      (sym (ok_with g.0 (fed_from base (begins_enter line) (n + 1) rest)) ∙ sym (ap is_ok g.1) ∙ h) (suc m) b
  | bad x ↦ let stop : true ≡ false = sym h ∙ ap is_ok (at_bad base entry n line rest x) in cc
]

-- ---- of a text

pub told_first : (base n : ℕ) (text : List ℕ) → fed base text ≡ Err (Line n) → IsFirstBad text n
unfolding fed
told_first base n text h =
    let f = found base false 1 (lines text) (Line n) h in
    let number : n ≡ 1 + f.0 = line_number n (1 + f.0) f.2 in
    let same : suc f.0 ≡ n = omega (arith, number) in
    subst (First false (lines text)) same f.1
  where
    line_number : (a b : ℕ) → Line a ≡ Line b → a ≡ b
    line_number a b h = cc

pub first_told : (base n : ℕ) (text : List ℕ) → IsFirstBad text n → fed base text ≡ Err (Line n)
unfolding fed
first_told base zero text f = absurd (no_zero (lines text) f.0)
  where
    no_zero : (left : List (List ℕ)) → ¬ IsBadLine false left zero
    no_zero [] b = b
    no_zero (line ∷ rest) b = b
first_told base (suc k) text f =
    let same : 1 + k ≡ suc k = omega arith in
    stopped base false 1 (lines text) k f ∙ ap (λ i. Err (Line i)) same

pub fed_good : (base : ℕ) (text : List ℕ) → IsOk (fed base text) → (n : ℕ) → ¬ IsBadLine false (lines text) n
unfolding fed
fed_good base text h = good_all base false 1 (lines text) h

pub good_fed : (base : ℕ) (text : List ℕ) → ((n : ℕ) → ¬ IsBadLine false (lines text) n)
    → IsOk (fed base text)
unfolding fed
good_fed base text h = passes base false 1 (lines text) h
