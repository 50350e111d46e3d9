-- An audit, line by line.
use Rattle.std.proofs.Common.{◌≡◌, ℕ, ◌+◌, ◌<◌, ◌≤◌, ◌^◌, Bool, true, false, List, [], ◌∷◌, ◌++◌, length}
use Rattle.std.proofs.Common.{Some, None, Result, Ok, Err, refl, sym, ap, ◌∙◌, subst, arith}
use Rattle.std.specs.Prelude.{if◌then◌else◌}
use Rattle.line_fields.specs.Fields.{field, lines, is_none_left}
use Rattle.line_fields.proofs.Offers.{next_line, parts_len}
use Rattle.run_audit.specs.declared.fault.AuditFault.{AuditFault}
use Rattle.run_audit.specs.declared.fault.AuditFault.TheVariants.{Form, Width, Overlap, Unopened, Mismatch}
use Rattle.run_audit.specs.declared.fault.AuditFault.TheVariants.{NoMemory}
use Rattle.run_audit.specs.declared.line.Line.{Line}
use Rattle.run_audit.specs.declared.line.Line.TheVariants.{Call, Ret, Enter, Pass, Leave, End}
use Rattle.run_audit.specs.Lines.{line_in, is_end}
use Rattle.run_audit.specs.Audit.{OpenSeen, is_ended, at_end, audit_on, stepped, judged, audited_from}
use Rattle.run_audit.specs.Audit.{OpensDue}
use Rattle.run_audit.specs.Audit.{AnswersDue, followed}

-- ---- lines

pub before_more : (s : OpenSeen) (n : ℕ) (line : List ℕ) (ts : List (List ℕ)) → 0 < length ts
    → audited_from s n (line ∷ ts) ≡ judged s n (line_in line) ts (λ t. audited_from t (n + 1) ts)
unfolding audited_from
before_more s n line [] h = absurd (omega arith)
before_more s n line (t ∷ ts) h = refl

pub judged_end : (s : OpenSeen) (n : ℕ) (l : Line) (rest : List (List ℕ)) (f : OpenSeen
    → Result (Unit {0}) AuditFault) → is_end l ≡ true → judged s n (Some l) rest f ≡ at_end (n + 1) rest
judged_end s n End rest f h = refl
judged_end s n (Call t) rest f h = absurd cc
judged_end s n (Ret t) rest f h = absurd cc
judged_end s n Enter rest f h = absurd cc
judged_end s n Pass rest f h = absurd cc
judged_end s n Leave rest f h = absurd cc

pub judged_event : (s : OpenSeen) (n : ℕ) (l : Line) (rest : List (List ℕ)) (f : OpenSeen
    → Result (Unit {0}) AuditFault) → is_end l ≡ false
    → judged s n (Some l) rest f ≡ audit_on (stepped s n l) f
judged_event s n End rest f h = absurd cc
judged_event s n (Call t) rest f h = refl
judged_event s n (Ret t) rest f h = refl
judged_event s n Enter rest f h = refl
judged_event s n Pass rest f h = refl
judged_event s n Leave rest f h = refl

-- ---- what is left, taken line by line

-- the next line, and those after it
some_left : (ts : List (List ℕ)) → is_none_left ts ≡ false → 0 < length ts
some_left [] h = absurd cc
some_left (t ∷ ts) h = omega arith

none_at : (s : OpenSeen) (n : ℕ) (left : List (List ℕ)) → field left ≡ None
    → audited_from s n left ≡ Err (Form n)
unfolding audited_from
none_at s n [] h = refl
none_at s n (t ∷ ts) h = absurd (let e : Some (t, ts) ≡ None = h in cc)

last_at : (s : OpenSeen) (n : ℕ) (line : List ℕ) (rest : List (List ℕ)) → is_none_left rest ≡ true
    → audited_from s n (line ∷ rest) ≡ Err (Form n)
unfolding audited_from
last_at s n line [] h = refl
last_at s n line (t ∷ ts) h = absurd cc

module _ (s : OpenSeen) (n : ℕ) (left : List (List ℕ)) where
  pub nothing_left : field left ≡ None → audited_from s n left ≡ Err (Form n)
  nothing_left h = none_at s n left h

  module _ (line : List ℕ) (rest : List (List ℕ)) (at : field left ≡ Some (line, rest)) where
    pub fewer : length left ≡ length rest + 1
    fewer = omega (arith, ap length (next_line left line rest at))

    pub last_line : is_none_left rest ≡ true → audited_from s n left ≡ Err (Form n)
    last_line h = ap (audited_from s n) (next_line left line rest at) ∙ last_at s n line rest h

    module _ (more : is_none_left rest ≡ false) where
      one_line : audited_from s n left
          ≡ judged s n (line_in line) rest (λ t. audited_from t (n + 1) rest)
      one_line =
          ap (audited_from s n) (next_line left line rest at)
          ∙ before_more s n line rest (some_left rest more)

      -- a line of none of the forms
      pub bad_line : None ≡ line_in line → audited_from s n left ≡ Err (Form n)
      bad_line is = one_line ∙ ap (λ l. judged s n l rest (λ t. audited_from t (n + 1) rest)) (sym is)

      module _ (l : Line) (is : Some l ≡ line_in line) where
        line_is : audited_from s n left ≡ judged s n (Some l) rest (λ t. audited_from t (n + 1) rest)
        line_is = one_line ∙ ap (λ l. judged s n l rest (λ t. audited_from t (n + 1) rest)) (sym is)

        pub end_line : is_end l ≡ true → audited_from s n left ≡ at_end (n + 1) rest
        end_line h = line_is ∙ judged_end s n l rest (λ t. audited_from t (n + 1) rest) h

        pub event_line : is_end l ≡ false
            → audited_from s n left ≡ audit_on (stepped s n l) (λ t. audited_from t (n + 1) rest)
        event_line h = line_is ∙ judged_event s n l rest (λ t. audited_from t (n + 1) rest) h

-- there are few lines
pub few : (left : List (List ℕ)) (text : List ℕ) → left ≡ lines text → length text < 2 ^ 63
    → 1 + length left ≤ 2 ^ 63 + 2
few left text is lt = omega (arith, ap length is, parts_len 10 text)

-- at the end line
either_answers : (n : ℕ) (b : Bool)
    → (let due : Result (Unit {0}) AuditFault = if b then Ok tt else Err (Form n) in
    AnswersDue due due)
either_answers n true = refl
either_answers n false = refl

pub end_answers : (n : ℕ) (rest : List (List ℕ)) (r due : Result (Unit {0}) AuditFault) → r ≡ at_end n rest
    → due ≡ at_end n rest → AnswersDue r due
end_answers n rest r due one two =
    subst (λ (x : Result (Unit {0}) AuditFault). AnswersDue x due) (sym one)
    (subst (AnswersDue (at_end n rest)) (sym two) (either_answers n (is_ended rest)))

-- a fault of a line is that of the text
pub line_fails : (A B : Type 0) (e : AuditFault) (new : OpenSeen) (due : Result OpenSeen AuditFault)
    (f : OpenSeen → Result (Unit {0}) AuditFault) (whole : Result (Unit {0}) AuditFault)
    → (let r : Result A AuditFault = Err e in OpensDue r new due) → audit_on due f ≡ whole
    → (let r : Result B AuditFault = Err e in AnswersDue r whole)
line_fails A B (Form n) new due f whole h is = sym is ∙ ap (λ r. audit_on r f) h
line_fails A B (Width n) new due f whole h is = sym is ∙ ap (λ r. audit_on r f) h
line_fails A B (Overlap n) new due f whole h is = sym is ∙ ap (λ r. audit_on r f) h
line_fails A B (Unopened n) new due f whole h is = sym is ∙ ap (λ r. audit_on r f) h
line_fails A B (Mismatch n) new due f whole h is = sym is ∙ ap (λ r. audit_on r f) h
line_fails A B NoMemory new due f whole h is = tt

-- ---- lines as values

then_goes : (r : Result OpenSeen AuditFault) (f g : OpenSeen → Result OpenSeen AuditFault)
    → audit_on (audit_on r f) g ≡ audit_on r (λ t. audit_on (f t) g)
then_goes (Ok s) f g = refl
then_goes (Err e) f g = refl

same_goes : (r : Result OpenSeen AuditFault) (f g : OpenSeen → Result OpenSeen AuditFault)
    → ((t : OpenSeen) → f t ≡ g t) → audit_on r f ≡ audit_on r g
same_goes (Ok s) f g h = h s
same_goes (Err e) f g h = refl

-- lines after others
pub followed_append : (s : OpenSeen) (n : ℕ) (xs ys : List Line)
    → followed s n (xs ++ ys) ≡ audit_on (followed s n xs) (λ t. followed t (n + length xs) ys)
followed_append s n [] ys = ap (λ k. followed s k ys) (omega arith)
followed_append s n (x ∷ xs) ys =
    same_goes (stepped s n x) (λ t. followed t (n + 1) (xs ++ ys))
    (λ t. audit_on (followed t (n + 1) xs) (λ u. followed u (n + length (x ∷ xs)) ys))
    (λ t. followed_append t (n + 1) xs ys
    ∙ ap (λ k. audit_on (followed t (n + 1) xs) (λ u. followed u k ys)) (omega arith))
    ∙ sym (then_goes (stepped s n x) (λ t. followed t (n + 1) xs) (λ u. followed u (n + length (x ∷ xs)) ys))
