-- A line is read exactly where it keeps its form.
use Rattle.std.proofs.Common.{◌≡◌, ℕ, ◌++◌, Bool, true, false, List, [], ◌∷◌, Option, Some, None, refl, sym}
use Rattle.std.proofs.Common.{ap, ◌∙◌, subst}
use Rattle.std.specs.Prelude.{is_some, codes, option_map}
use Rattle.std.specs.Str.{bytes_eq}
use Rattle.std.proofs.lemmas.Slice.Eq.{bytes_eq-Decides}
use Rattle.cap_words.specs.Names.{is_name}
use Rattle.line_fields.specs.Options.{where_true}
use Rattle.line_fields.specs.Cuts.{behind}
use Rattle.line_fields.specs.Numbers.{natural_in}
use Rattle.line_fields.specs.Forms.{back_in, handed_in}
use Rattle.line_fields.specs.Fields.{Reader, reads_on, ◌>>=◌, done, field, unless_none, meant, tested}
use Rattle.line_fields.specs.Fields.{is_none_left, whole, fields}
use Rattle.line_fields.proofs.Fronts.{behind_front, behind_is}
use Rattle.line_fields.proofs.Numbers.{chosen, some_of}
use Rattle.line_fields.specs.declared.line.FeedLine.{FeedLine}
use Rattle.line_fields.specs.declared.line.FeedLine.TheVariants.{Enter, Ret, Pass, Other}
use Rattle.line_fields.specs.Seen.{EnterSeen, RetSeen, PassSeen}
use Rattle.line_fields.specs.Lines.{entered, answered_with, answered, passed, begun, enter_in}
use Rattle.line_fields.specs.Lines.{ret_in, pass_in}
use Rattle.line_fields.specs.Lines.{pass_seen, ret_seen, enter_seen, seen, is_enter}
use Rattle.line_fields.specs.Bad.{IsEnterForm, IsRetForm, IsPassForm, KeepsForm, begins_enter}

-- ---- what is read at the front of fields

abbrev Fields : Type 0
Fields = List (List ℕ)

more_of : {A B : Type 0} (f : A → Reader B) (o : Option A) (rest : Fields) (y : B × Fields)
    → reads_on (unless_none o rest) f ≡ Some y → (x : A) × (o ≡ Some x) × (f x rest ≡ Some y)
more_of f None rest y h = absurd cc
more_of f (Some x) rest y h = (x, refl, h)

by_meaning : {A B : Type 0} (read : List ℕ → Option A) (f : A → Reader B) (ts : Fields) (y : B × Fields)
    (P : Fields → Type 0) → (meant read >>= f) ts ≡ Some y
    → ((t : List ℕ) (rest : Fields) (x : A) → is_some (read t) ≡ true → f x rest ≡ Some y → P (t ∷ rest))
    → P ts
unfolding meant
by_meaning read f [] y P h goal = absurd cc
by_meaning read f (t ∷ ts) y P h goal =
    let k = more_of f (read t) ts y h in
    goal t ts k.0 (ap is_some k.1) k.2

by_test : {B : Type 0} (test : List ℕ → Bool) (f : List ℕ → Reader B) (ts : Fields) (y : B × Fields)
    (P : Fields → Type 0) → (tested test >>= f) ts ≡ Some y
    → ((t : List ℕ) (rest : Fields) (x : List ℕ) → test t ≡ true → f x rest ≡ Some y → P (t ∷ rest)) → P ts
unfolding tested
by_test test f [] y P h goal = absurd cc
by_test test f (t ∷ ts) y P h goal =
    let k = more_of f (where_true (test t) t) ts y h in
    goal t ts k.0 (chosen (test t) t k.0 k.1).0 k.2

by_field : {B : Type 0} (f : List ℕ → Reader B) (ts : Fields) (y : B × Fields) (P : Fields → Type 0)
    → (field >>= f) ts ≡ Some y → ((t : List ℕ) (rest : Fields) → f t rest ≡ Some y → P (t ∷ rest)) → P ts
by_field f [] y P h goal = absurd cc
by_field f (t ∷ ts) y P h goal = goal t ts h

none_left : (ts : Fields) → is_none_left ts ≡ true → ts ≡ []
none_left [] h = refl
none_left (t ∷ ts) h = absurd cc

rest_of : {A : Type 0} → Option (A × Fields) → Fields
rest_of None = []
rest_of (Some x) = x.1

at_end : {A : Type 0} (x : A) (rest : Fields) (y : A × Fields) (P : Fields → Type 0) → done x rest ≡ Some y
    → is_none_left y.1 ≡ true → P [] → P rest
unfolding rest_of
at_end x rest y P h last p = subst P (sym (none_left rest (ap is_none_left (ap rest_of h) ∙ last))) p

is_there : {A : Type 0} (o : Option A) → is_some o ≡ true → (x : A) × (o ≡ Some x)
is_there None h = absurd cc
is_there (Some x) h = (x, refl)

-- ---- where fields are read, they have their forms

enter_form : (ts : Fields) (y : EnterSeen × Fields) → entered ts ≡ Some y → is_none_left y.1 ≡ true
    → IsEnterForm ts
unfolding entered
enter_form ts y h last =
    by_test is_name _ ts y IsEnterForm h (λ part r1 x1 is_part h1.
    by_test is_name _ r1 y (λ r. IsEnterForm (part ∷ r)) h1 (λ name r2 x2 is_name h2.
    by_field _ r2 y (λ r. IsEnterForm (part ∷ name ∷ r)) h2 (λ stk r3 h3.
    by_field _ r3 y (λ r. IsEnterForm (part ∷ name ∷ stk ∷ r)) h3 (λ a0 r4 h4.
    by_field _ r4 y (λ r. IsEnterForm (part ∷ name ∷ stk ∷ a0 ∷ r)) h4 (λ a1 r5 h5.
    by_field _ r5 y (λ r. IsEnterForm (part ∷ name ∷ stk ∷ a0 ∷ a1 ∷ r)) h5 (λ a2 r6 h6.
    by_field _ r6 y (λ r. IsEnterForm (part ∷ name ∷ stk ∷ a0 ∷ a1 ∷ a2 ∷ r)) h6 (λ a3 r7 h7.
    by_meaning back_in _ r7 y (λ r. IsEnterForm (part ∷ name ∷ stk ∷ a0 ∷ a1 ∷ a2 ∷ a3 ∷ r)) h7
    (λ back r8 x8 is_back h8.
    at_end _ r8 y (λ r. IsEnterForm (part ∷ name ∷ stk ∷ a0 ∷ a1 ∷ a2 ∷ a3 ∷ back ∷ r)) h8 last
    (is_part, is_name, is_back)))))))))

ret_form : (ts : Fields) (y : RetSeen × Fields) → answered ts ≡ Some y → IsRetForm ts
unfolding answered answered_with
ret_form ts y h =
    by_test is_name _ ts y IsRetForm h (λ part r1 x1 is_part h1.
    by_meaning natural_in _ r1 y (λ r. IsRetForm (part ∷ r)) h1 (λ site r2 x2 is_site h2.
    by_meaning natural_in _ r2 y (λ r. IsRetForm (part ∷ site ∷ r)) h2 (λ base r3 x3 is_base h3.
    by_meaning natural_in _ r3 y (λ r. IsRetForm (part ∷ site ∷ base ∷ r)) h3 (λ last r4 x4 is_last h4.
    by_field _ r4 y (λ r. IsRetForm (part ∷ site ∷ base ∷ last ∷ r)) h4 (λ a0 r5 h5.
    by_test (bytes_eq (codes ":")) _ r5 y (λ r. IsRetForm (part ∷ site ∷ base ∷ last ∷ a0 ∷ r)) h5
    (λ colon r6 x6 is_colon h6.
    (is_part, is_site, is_base, is_last, sym ((bytes_eq-Decides (codes ":") colon).0 is_colon))))))))

pass_form : (ts : Fields) (y : PassSeen × Fields) → passed ts ≡ Some y → is_none_left y.1 ≡ true
    → IsPassForm ts
unfolding passed
pass_form ts y h last =
    by_meaning handed_in _ ts y IsPassForm h (λ p0 r1 x1 is_p0 h1.
    by_meaning handed_in _ r1 y (λ r. IsPassForm (p0 ∷ r)) h1 (λ p1 r2 x2 is_p1 h2.
    by_meaning handed_in _ r2 y (λ r. IsPassForm (p0 ∷ p1 ∷ r)) h2 (λ p2 r3 x3 is_p2 h3.
    at_end _ r3 y (λ r. IsPassForm (p0 ∷ p1 ∷ p2 ∷ r)) h3 last (is_p0, is_p1, is_p2))))

whole_is : {A : Type 0} (o : Option (A × List (List ℕ))) → is_some (whole o) ≡ true
    → (y : A × List (List ℕ)) × (o ≡ Some y) × (is_none_left y.1 ≡ true)
whole_is None h = absurd cc
whole_is (Some y) h = (y, refl, one_test (is_none_left y.1) y.0 h)
  where
    one_test : {A : Type 0} (b : Bool) (x : A) → is_some (where_true b x) ≡ true → b ≡ true
    one_test true x h = refl
    one_test false x h = absurd cc

begun_is : {A : Type 0} (o : Option (A × List (List ℕ))) → is_some (begun o) ≡ true
    → (y : A × List (List ℕ)) × (o ≡ Some y)
begun_is None h = absurd cc
begun_is (Some y) h = (y, refl)

enter_is_form : (rest : List ℕ) → is_some (enter_in rest) ≡ true → IsEnterForm (fields rest)
unfolding enter_in
enter_is_form rest h = let k = whole_is (entered (fields rest)) h in enter_form (fields rest) k.0 k.1 k.2

ret_is_form : (rest : List ℕ) → is_some (ret_in rest) ≡ true → IsRetForm (fields rest)
unfolding ret_in
ret_is_form rest h = let k = begun_is (answered (fields rest)) h in ret_form (fields rest) k.0 k.1

pass_is_form : (rest : List ℕ) → is_some (pass_in rest) ≡ true → IsPassForm (fields rest)
unfolding pass_in
pass_is_form rest h = let k = whole_is (passed (fields rest)) h in pass_form (fields rest) k.0 k.1 k.2

-- ---- and where they have their forms, they are read

enter_read : (ts : List (List ℕ)) → IsEnterForm ts → is_some (whole (entered ts)) ≡ true
unfolding entered tested meant
enter_read (part ∷ name ∷ stk ∷ a0 ∷ a1 ∷ a2 ∷ a3 ∷ back ∷ []) h =
    let one : is_name part ≡ true = h.0 in
    let two : is_name name ≡ true = h.1 in
    let k = is_there (back_in back) h.2 in
    let three : back_in back ≡ Some k.0 = k.1 in
    rw (one, two, three) refl
enter_read _ h = absurd h

ret_read : (ts : List (List ℕ)) → IsRetForm ts → is_some (begun (answered ts)) ≡ true
unfolding answered answered_with tested meant
ret_read (part ∷ site ∷ base ∷ last ∷ a0 ∷ colon ∷ words) h =
    let one : is_name part ≡ true = h.0 in
    let k = is_there (natural_in site) h.1 in
    let two : natural_in site ≡ Some k.0 = k.1 in
    let l = is_there (natural_in base) h.2 in
    let three : natural_in base ≡ Some l.0 = l.1 in
    let m = is_there (natural_in last) h.3 in
    let four : natural_in last ≡ Some m.0 = m.1 in
    let five : bytes_eq (codes ":") colon ≡ true = (bytes_eq-Decides (codes ":") colon).1 (sym h.4) in
    rw (one, two, three, four, five) refl
ret_read _ h = absurd h

pass_read : (ts : List (List ℕ)) → IsPassForm ts → is_some (whole (passed ts)) ≡ true
unfolding passed meant
pass_read (p0 ∷ p1 ∷ p2 ∷ []) h =
    let k = is_there (handed_in p0) h.0 in
    let one : handed_in p0 ≡ Some k.0 = k.1 in
    let l = is_there (handed_in p1) h.1 in
    let two : handed_in p1 ≡ Some l.0 = l.1 in
    let m = is_there (handed_in p2) h.2 in
    let three : handed_in p2 ≡ Some m.0 = m.1 in
    rw (one, two, three) refl
pass_read _ h = absurd h

-- ---- lines

same_behind : (front line rest more : List ℕ) → behind front line ≡ Some rest → line ≡ front ++ more
    → rest ≡ more
same_behind front line rest more h e =
    let both : Some rest ≡ Some more = sym h ∙ ap (behind front) e ∙ behind_front front more in
    cc

not_behind : {A : Type 0} (front line more : List ℕ) → behind front line ≡ None → line ≡ front ++ more → A
not_behind front line more h e =
    absurd (let bad : None ≡ Some more = sym h ∙ ap (behind front) e ∙ behind_front front more in cc)

-- a line begins in one way at most
no_ret_enter : (rest : List ℕ) → behind (codes "enter ") (codes "ret out " ++ rest) ≡ None
unfolding behind
no_ret_enter rest = refl

no_pass_enter : (rest : List ℕ) → behind (codes "enter ") (codes "pass " ++ rest) ≡ None
unfolding behind
no_pass_enter rest = refl

no_pass_ret : (rest : List ℕ) → behind (codes "ret out ") (codes "pass " ++ rest) ≡ None
unfolding behind
no_pass_ret rest = refl

other_front : {A : Type 0} (front line rest : List ℕ) (other : List ℕ) → behind front line ≡ Some rest
    → line ≡ other → behind front other ≡ None → A
other_front front line rest other h e none =
    absurd (let bad : Some rest ≡ None = sym h ∙ ap (behind front) e ∙ none in cc)

some_map : {A B : Type 0} (o : Option A) (f : A → B) → is_some (option_map f o) ≡ is_some o
some_map None f = refl
some_map (Some x) f = refl

pass_keeps : (entry : Bool) (line : List ℕ) (o : Option (List ℕ)) → behind (codes "enter ") line ≡ None
    → behind (codes "ret out ") line ≡ None → behind (codes "pass ") line ≡ o
    → is_some (pass_seen entry o) ≡ true → KeepsForm entry line
pass_keeps true line (Some rest) no_enter no_ret is h = record {
  enter = λ more e. not_behind (codes "enter ") line more no_enter e;
  ret = λ more e. not_behind (codes "ret out ") line more no_ret e;
  pass = λ more yes e.
      subst (λ r. IsPassForm (fields r)) (same_behind (codes "pass ") line rest more is e)
      (pass_is_form rest (sym (some_map (pass_in rest) Pass) ∙ h));
}
pass_keeps false line (Some rest) no_enter no_ret is h = record {
  enter = λ more e. not_behind (codes "enter ") line more no_enter e;
  ret = λ more e. not_behind (codes "ret out ") line more no_ret e;
  pass = λ more yes e. absurd cc;
}
pass_keeps entry line None no_enter no_ret is h = record {
  enter = λ more e. not_behind (codes "enter ") line more no_enter e;
  ret = λ more e. not_behind (codes "ret out ") line more no_ret e;
  pass = λ more yes e. not_behind (codes "pass ") line more is e;
}

ret_keeps : (entry : Bool) (line : List ℕ) (o : Option (List ℕ)) → behind (codes "enter ") line ≡ None
    → behind (codes "ret out ") line ≡ o → is_some (ret_seen entry line o) ≡ true → KeepsForm entry line
ret_keeps entry line (Some rest) no_enter is h = record {
  enter = λ more e. not_behind (codes "enter ") line more no_enter e;
  ret = λ more e.
      subst (λ r. IsRetForm (fields r)) (same_behind (codes "ret out ") line rest more is e)
      (ret_is_form rest (sym (some_map (ret_in rest) Ret) ∙ h));
  pass = λ more yes e.
      other_front (codes "ret out ") line rest (codes "pass " ++ more) is e (no_pass_ret more);
}
ret_keeps entry line None no_enter is h =
    pass_keeps entry line (behind (codes "pass ") line) no_enter is refl h

enter_keeps : (entry : Bool) (line : List ℕ) (o : Option (List ℕ)) → behind (codes "enter ") line ≡ o
    → is_some (enter_seen entry line o) ≡ true → KeepsForm entry line
enter_keeps entry line (Some rest) is h = record {
  enter = λ more e.
      subst (λ r. IsEnterForm (fields r)) (same_behind (codes "enter ") line rest more is e)
      (enter_is_form rest (sym (some_map (enter_in rest) Enter) ∙ h));
  ret = λ more e. other_front (codes "enter ") line rest (codes "ret out " ++ more) is e (no_ret_enter more);
  pass = λ more yes e.
      other_front (codes "enter ") line rest (codes "pass " ++ more) is e (no_pass_enter more);
}
enter_keeps entry line None is h = ret_keeps entry line (behind (codes "ret out ") line) is refl h

-- a line that is read keeps its form
pub keeps : (entry : Bool) (line : List ℕ) → is_some (seen entry line) ≡ true → KeepsForm entry line
unfolding seen
keeps entry line h = enter_keeps entry line (behind (codes "enter ") line) refl h

pass_there : (entry : Bool) (line : List ℕ) (o : Option (List ℕ)) → behind (codes "pass ") line ≡ o
    → KeepsForm entry line → is_some (pass_seen entry o) ≡ true
unfolding pass_in
pass_there true line (Some rest) is k =
    some_map (pass_in rest) Pass
    ∙ pass_read (fields rest) (k.pass rest refl (behind_is (codes "pass ") line rest is))
pass_there false line (Some rest) is k = refl
pass_there entry line None is k = refl

ret_there : (entry : Bool) (line : List ℕ) (o : Option (List ℕ)) → behind (codes "ret out ") line ≡ o
    → KeepsForm entry line → is_some (ret_seen entry line o) ≡ true
unfolding ret_in
ret_there entry line (Some rest) is k =
    some_map (ret_in rest) Ret
    ∙ ret_read (fields rest) (k.ret rest (behind_is (codes "ret out ") line rest is))
ret_there entry line None is k = pass_there entry line (behind (codes "pass ") line) refl k

enter_there : (entry : Bool) (line : List ℕ) (o : Option (List ℕ)) → behind (codes "enter ") line ≡ o
    → KeepsForm entry line → is_some (enter_seen entry line o) ≡ true
unfolding enter_in
enter_there entry line (Some rest) is k =
    some_map (enter_in rest) Enter
    ∙ enter_read (fields rest) (k.enter rest (behind_is (codes "enter ") line rest is))
enter_there entry line None is k = ret_there entry line (behind (codes "ret out ") line) refl k

-- and one that keeps its form is read
pub there : (entry : Bool) (line : List ℕ) → KeepsForm entry line → is_some (seen entry line) ≡ true
unfolding seen
there entry line k = enter_there entry line (behind (codes "enter ") line) refl k

-- ---- what is told of an entry

is_enter_by_pass : (entry : Bool) (o : Option (List ℕ)) (found : FeedLine) → pass_seen entry o ≡ Some found
    → is_enter found ≡ false
is_enter_by_pass true (Some rest) found h =
    let k = some_of (pass_in rest) Pass found h in
    ap is_enter (sym k.2)
is_enter_by_pass false (Some rest) found h = let same : Other ≡ found = cc in ap is_enter (sym same)
is_enter_by_pass entry None found h = let same : Other ≡ found = cc in ap is_enter (sym same)

is_enter_by_ret : (entry : Bool) (line : List ℕ) (o : Option (List ℕ)) (found : FeedLine)
    → ret_seen entry line o ≡ Some found → is_enter found ≡ false
is_enter_by_ret entry line (Some rest) found h =
    let k = some_of (ret_in rest) Ret found h in
    ap is_enter (sym k.2)
is_enter_by_ret entry line None found h = is_enter_by_pass entry (behind (codes "pass ") line) found h

is_enter_by : (entry : Bool) (line : List ℕ) (o : Option (List ℕ)) (found : FeedLine)
    → enter_seen entry line o ≡ Some found → is_enter found ≡ is_some o
is_enter_by entry line (Some rest) found h =
    let k = some_of (enter_in rest) Enter found h in
    ap is_enter (sym k.2)
is_enter_by entry line None found h = is_enter_by_ret entry line (behind (codes "ret out ") line) found h

-- a line tells of an entry where it begins with `enter`
pub enter_told : (entry : Bool) (line : List ℕ) (found : FeedLine) → seen entry line ≡ Some found
    → is_enter found ≡ begins_enter line
unfolding seen
enter_told entry line found h = is_enter_by entry line (behind (codes "enter ") line) found h
