-- What an audit answers is right, and what is right is answered.
use Rattle.std.proofs.Common.{◌≡◌, ◌≢◌, ℕ, ◌+◌, ◌<◌, Bool, true, false, List, [], ◌∷◌, ◌++◌}
use Rattle.std.proofs.Common.{length, Option, Some, None, Result, Ok, Err, refl, sym, ap, ◌∙◌, subst, arith}
use Rattle.std.proofs.Common.{inl, inr, append_assoc, length-append}
use Rattle.std.specs.Prelude.{◌⊎◌, OnOk, IfErr}
use Rattle.std.proofs.lemmas.Bool.{ltb-true}
use Rattle.run_audit.specs.declared.fault.AuditFault.{AuditFault}
use Rattle.run_audit.specs.declared.fault.AuditFault.TheVariants.{Form, Width, Overlap, Unopened, Mismatch}
use Rattle.run_audit.specs.declared.fault.AuditFault.TheVariants.{NoMemory}
use Rattle.run_audit.specs.declared.line.Line.{Line}
use Rattle.run_audit.specs.declared.line.Line.TheVariants.{Call, Ret, Enter, Pass, Leave, End}
use Rattle.run_audit.specs.Told.{ToldSeen, is_wide, is_below, same_told}
use Rattle.line_fields.specs.Fields.{lines}
use Rattle.line_fields.proofs.Offers.{parts_some}
use Rattle.run_audit.specs.Lines.{line_in, is_end}
use Rattle.run_audit.specs.Audit.{OpenSeen, nothing_open, at_end, audit_on, stepped, judged, audited_from}
use Rattle.run_audit.specs.Audit.{audited, followed, AnswersDue}
use Rattle.run_audit.specs.Traces.{IsLine, AreLines, AreInPlace, IsWide, IsClean, IsTrace}
use Rattle.run_audit.specs.Traces.{entered_by, Spoils, misplaced, call_width, ret_width, overlaps, unopened}
use Rattle.run_audit.specs.Traces.{differs, GoesWrong, HasFault}
use Rattle.run_audit.proofs.Same.{told_decides}
use Rattle.run_audit.proofs.Steps.{before_more, judged_end, judged_event, followed_append}
use Rattle.run_audit.proofs.Clean.{at, wide_true, true_wide, StepIs, step_is, NoEnd, clean_of, follow_clean}

-- ---- what is answered

abbrev Whole : List ℕ → Result (Unit {0}) AuditFault → Type 0
Whole text (Ok x) = IsTrace text
Whole text (Err e) = HasFault text e

lines_then : (ts : List (List ℕ)) (ls : List Line) (t : List ℕ) (l : Line) → AreLines ts ls → IsLine t l
    → AreLines (ts ++ t ∷ []) (ls ++ l ∷ [])
lines_then [] [] t l h k = (k, tt)
lines_then [] (l' ∷ ls) t l h k = absurd h
lines_then (t' ∷ ts) [] t l h k = absurd h
lines_then (t' ∷ ts) (l' ∷ ls) t l h k = (h.0, lines_then ts ls t l h.1 k)

no_end_then : (ls : List Line) (l : Line) → NoEnd ls → is_end l ≡ false → NoEnd (ls ++ l ∷ [])
no_end_then [] l h k = (k, tt)
no_end_then (l' ∷ ls) l h k = (h.0, no_end_then ls l h.1 k)

is_end_is : (l : Line) → is_end l ≡ true → l ≡ End
is_end_is (Call t) h = absurd cc
is_end_is (Ret t) h = absurd cc
is_end_is Enter h = absurd cc
is_end_is Pass h = absurd cc
is_end_is Leave h = absurd cc
is_end_is End h = refl

-- lines that were followed so far, and what stands after them
record Reached (text : List ℕ) (front rest : List (List ℕ)) (seen : List Line) (s : OpenSeen)
    (n : ℕ) : Type 0 where
  text_is : lines text ≡ front ++ rest
  are : AreLines front seen
  no_end : NoEnd seen
  followed_is : followed nothing_open 1 seen ≡ Ok s
  number : n ≡ 1 + length front
  lines_number : length seen ≡ length front

module _ (text : List ℕ) where
  clean_at : (front rest : List (List ℕ)) (seen : List Line) (s : OpenSeen) (n : ℕ)
      → Reached text front rest seen s n → IsClean seen s.calls × (s.entered ≡ entered_by false seen)
  clean_at front rest seen s n r =
      let k = clean_of seen [] false 1 s r.no_end r.followed_is tt in (
        record {
          in_place = k.in_place;
          bracketed = k.bracketed;
          wide = k.wide;
          apart =
              k.apart;
        },
        k.entered_is,
      )

  wrong_at : (front rest : List (List ℕ)) (seen : List Line) (s : OpenSeen) (n : ℕ) (e : AuditFault)
      → Reached text front rest seen s n → GoesWrong s.entered n s.calls rest e → HasFault text e
  wrong_at front rest seen s n e r w =
      let k = clean_at front rest seen s n r in
      record {
        front = front;
        rest = rest;
        text_is = r.text_is;
        seen = seen;
        are = r.are;
        open_now = s.calls;
        clean =
            k.0;
        wrong = subst (λ m. GoesWrong (entered_by false seen) m s.calls rest e) r.number
            (subst (λ b. GoesWrong b n s.calls rest e) k.1 w);
      }

  more_at : (front rest : List (List ℕ)) (t : List ℕ) (seen : List Line) (l : Line) (s v : OpenSeen) (n : ℕ)
      → Reached text front (t ∷ rest) seen s n → IsLine t l → is_end l ≡ false → stepped s n l ≡ Ok v
      → Reached text (front ++ t ∷ []) rest (seen ++ l ∷ []) v (n + 1)
  more_at front rest t seen l s v n r is_line more step = record {
    text_is = r.text_is ∙ sym (append_assoc front (t ∷ []) rest);
    are = lines_then front seen t l r.are is_line;
    no_end = no_end_then seen l r.no_end more;
    followed_is = followed_append nothing_open 1 seen (l ∷ [])
        ∙ ap (λ q. audit_on q (λ w. followed w (1 + length seen) (l ∷ []))) r.followed_is
        ∙ ap (λ m. audit_on (stepped s m l) (λ w. Ok w)) (omega (arith, r.number, r.lines_number))
        ∙ ap (λ q. audit_on q (λ w. Ok w)) step;
    number = omega (arith, r.number, length-append front (t ∷ []));
    lines_number = omega (arith, r.lines_number, length-append front (t ∷ []), length-append seen (l ∷ []));
  }

  end_is : (front : List (List ℕ)) (t u : List ℕ) (us : List (List ℕ)) (seen : List Line) (s : OpenSeen)
      (n : ℕ) → Reached text front (t ∷ u ∷ us) seen s n → IsLine t End → Whole text (at_end (n + 1) (u ∷ us))
  end_is front t [] [] seen s n r h =
      let k = clean_at front _ seen s n r in
      record {
        front = front;
        last = t;
        text_is = r.text_is;
        seen = seen;
        are = r.are;
        ends = h;
        open_now =
            s.calls;
        clean = k.0;
      }
  end_is front t [] (v ∷ vs) seen s n r h = wrong_at front _ seen s n _ r (inr (inl (h, (λ e. cc), refl)))
  end_is front t (b ∷ bs) us seen s n r h = wrong_at front _ seen s n _ r (inr (inl (h, (λ e. cc), refl)))

  step_on : (front : List (List ℕ)) (t u : List ℕ) (us : List (List ℕ)) (seen : List Line) (s : OpenSeen)
      (n : ℕ) (f : OpenSeen → Result (Unit {0}) AuditFault) → Reached text front (t ∷ u ∷ us) seen s n
      → (l : Line) → IsLine t l → is_end l ≡ false
      → ((v : OpenSeen) → stepped s n l ≡ Ok v → Whole text (f v)) → (q : Result OpenSeen AuditFault)
      → stepped s n l ≡ q → Whole text (audit_on q f)
  step_on front t u us seen s n f r l is_line more rec (Ok v) e = rec v e
  step_on front t u us seen s n f r l is_line more rec (Err x) e =
      wrong_at front _ seen s n x r
      (inr
      (inr (l, is_line, subst (StepIs s.calls s.entered n l) e (step_is s.calls s.entered n l more))))

  line_on : (front : List (List ℕ)) (t u : List ℕ) (us : List (List ℕ)) (seen : List Line) (s : OpenSeen)
      (n : ℕ) (f : OpenSeen → Result (Unit {0}) AuditFault) → Reached text front (t ∷ u ∷ us) seen s n
      → ((l : Line) (v : OpenSeen) → IsLine t l → is_end l ≡ false → stepped s n l ≡ Ok v → Whole text (f v))
      → (o : Option Line) → line_in t ≡ o → Whole text (judged s n o (u ∷ us) f)
  line_on front t u us seen s n f r rec None e =
      wrong_at front _ seen s n _ r (inl ((λ l h. let bad : None ≡ Some l = sym e ∙ h in cc), refl))
  line_on front t u us seen s n f r rec (Some l) e = elim (cases_end l) [
    | inl last ↦ subst (Whole text) (sym (judged_end s n l (u ∷ us) f last))
        (end_is front t u us seen s n r (e ∙ ap Some (is_end_is l last)))
    | inr more ↦ subst (Whole text) (sym (judged_event s n l (u ∷ us) f more))
        (step_on front t u us seen s n f r l e more (λ v step. rec l v e more step) (stepped s n l) refl)
  ]
    where
      cases_end : (l : Line) → (is_end l ≡ true) ⊎ (is_end l ≡ false)
      cases_end l = by_bool (is_end l) refl
        where
          by_bool : (b : Bool) → is_end l ≡ b → (is_end l ≡ true) ⊎ (is_end l ≡ false)
          by_bool true h = inl h
          by_bool false h = inr h

  answered : (rest front : List (List ℕ)) (seen : List Line) (s : OpenSeen) (n : ℕ) → 0 < length rest
      → Reached text front rest seen s n → Whole text (audited_from s n rest)
  unfolding audited_from
  answered [] front seen s n some r = absurd (omega arith)
  answered (t ∷ []) front seen s n some r = wrong_at front (t ∷ []) seen s n (Form n) r refl
  answered (t ∷ u ∷ us) front seen s n some r =
      line_on front t u us seen s n (λ v. audited_from v (n + 1) (u ∷ us)) r
      (λ l v is_line more step. answered (u ∷ us) (front ++ t ∷ []) (seen ++ l ∷ []) v (n + 1) (omega arith)
      (more_at front (u ∷ us) t seen l s v n r is_line more step))
      (line_in t) refl

pub what_is_answered : (text : List ℕ) → Whole text (audited text)
unfolding audited
what_is_answered text = answered text (lines text) [] [] nothing_open 1 (parts_some 10 text)
    (record { text_is = refl; are = tt; no_end = tt; followed_is = refl; number = refl; lines_number = refl })

-- ---- what is right

place_no_end : (ls : List Line) (b : Bool) → AreInPlace b ls → NoEnd ls
place_no_end [] b h = tt
place_no_end (Call t ∷ ls) b h = (refl, place_no_end ls false h.1)
place_no_end (Ret t ∷ ls) b h = (refl, place_no_end ls false h.1)
place_no_end (Enter ∷ ls) b h = (refl, place_no_end ls true h.1)
place_no_end (Pass ∷ ls) b h = (refl, place_no_end ls false h.1)
place_no_end (Leave ∷ ls) b h = (refl, place_no_end ls false h.1)
place_no_end (End ∷ ls) b h = absurd h.0

on_both : (q : Result OpenSeen AuditFault) (f : OpenSeen → Result (Unit {0}) AuditFault) (g : OpenSeen
    → Result OpenSeen AuditFault) (k : OpenSeen → Result (Unit {0}) AuditFault)
    → ((v : OpenSeen) → f v ≡ audit_on (g v) k) → audit_on q f ≡ audit_on (audit_on q g) k
on_both (Ok v) f g k h = h v
on_both (Err e) f g k h = refl

along : (front rest : List (List ℕ)) (seen : List Line) (s : OpenSeen) (n : ℕ) → AreLines front seen
    → NoEnd seen → 0 < length rest
    → audited_from s n (front ++ rest) ≡ audit_on (followed s n seen)
    (λ v. audited_from v (n + length front) rest)
along [] rest [] s n are no_end some = ap (λ m. audited_from s m rest) (omega arith)
along [] rest (l ∷ seen) s n are no_end some = absurd are
along (t ∷ front) rest [] s n are no_end some = absurd are
along (t ∷ front) rest (l ∷ seen) s n are no_end some =
    let f : OpenSeen → Result (Unit {0}) AuditFault = λ v. audited_from v (n + 1) (front ++ rest) in
    before_more s n t (front ++ rest) (omega (arith, length-append front rest))
    ∙ ap (λ o. judged s n o (front ++ rest) f) are.0
    ∙ judged_event s n l (front ++ rest) f no_end.0
    ∙ on_both (stepped s n l) f (λ v. followed v (n + 1) seen)
    (λ v. audited_from v (n + length (t ∷ front)) rest)
    (λ v. along front rest seen v (n + 1) are.1 no_end.1 some
    ∙ ap (λ m. audit_on (followed v (n + 1) seen) (λ w. audited_from w m rest)) (omega arith))

-- after lines that spoil nothing
behind : (text : List ℕ) (front rest : List (List ℕ)) (seen : List Line) (now : List ToldSeen)
    → lines text ≡ front ++ rest → AreLines front seen → IsClean seen now → 0 < length rest
    → audited text ≡ audited_from (at now (entered_by false seen)) (1 + length front) rest
unfolding audited
behind text front rest seen now is are clean some =
    ap (audited_from nothing_open 1) is
    ∙ along front rest seen nothing_open 1 are (place_no_end seen false clean.in_place) some
    ∙ ap (λ q. audit_on q (λ v. audited_from v (1 + length front) rest))
    (follow_clean seen [] now false 1 clean.in_place clean.bracketed clean.wide clean.apart)

pub trace_answered : (text : List ℕ) → IsTrace text → audited text ≡ Ok tt
trace_answered text t =
    behind text t.front (t.last ∷ [] ∷ []) t.seen t.open_now t.text_is t.are t.clean (omega arith)
    ∙ before_more (at t.open_now (entered_by false t.seen)) (1 + length t.front) t.last ([] ∷ [])
    (omega arith)
    ∙ ap
    (λ o. judged (at t.open_now (entered_by false t.seen)) (1 + length t.front) o ([] ∷ [])
    (λ v. audited_from v (1 + length t.front + 1) ([] ∷ []))) t.ends

-- ---- faults

wide_false : (t : ToldSeen) → ¬ (IsWide t) → is_wide t ≡ false
wide_false t h = by_bool (is_wide t) refl
  where
    by_bool : (b : Bool) → is_wide t ≡ b → is_wide t ≡ false
    by_bool true e = absurd (h (true_wide t e))
    by_bool false e = e

below_false : (t o : ToldSeen) → ¬ (t.last < o.base) → is_below t o ≡ false
below_false t o h = by_bool (is_below t o) refl
  where
    by_bool : (b : Bool) → is_below t o ≡ b → is_below t o ≡ false
    by_bool true e = absurd (h (ltb-true _ _ e))
    by_bool false e = e

same_false : (a b : ToldSeen) → a ≢ b → same_told a b ≡ false
same_false a b h = by_bool (same_told a b) refl
  where
    by_bool : (r : Bool) → same_told a b ≡ r → same_told a b ≡ false
    by_bool true e = absurd (h ((told_decides a b).0 e))
    by_bool false e = e

spoiled : (entered : Bool) (n : ℕ) (now : List ToldSeen) (l : Line) (e : AuditFault)
    → Spoils entered n now l e → (is_end l ≡ false) × (stepped (at now entered) n l ≡ Err e)
unfolding stepped
spoiled entered n now _ _ (misplaced h) = (refl, rw h refl)
spoiled entered n now _ _ (call_width {t = t} w) = (refl, let k = wide_false t w in rw k refl)
spoiled entered n now _ _ (ret_width {t = t} w) = (refl, let k = wide_false t w in rw k refl)
spoiled entered n _ _ _ (overlaps {t = t} {newest = o} w h) =
    (refl, let k = wide_true t w in let b = below_false t o h in rw (k, b) refl)
spoiled entered n _ _ _ (unopened {t = t} w) = (refl, let k = wide_true t w in rw k refl)
spoiled entered n _ _ _ (differs {t = t} {newest = o} w h) = (
  refl,
  let k = wide_true t w in
      let b = same_false o t h in rw (k, b) refl,
)

not_ended : (n : ℕ) (u : List ℕ) (us : List (List ℕ)) → ¬ (u ∷ us ≡ [] ∷ [])
    → at_end n (u ∷ us) ≡ Err (Form n)
not_ended n [] [] h = absurd (h refl)
not_ended n [] (v ∷ vs) h = refl
not_ended n (b ∷ bs) us h = refl

no_form : (s : OpenSeen) (n : ℕ) (t : List ℕ) (rest : List (List ℕ)) (f : OpenSeen
    → Result (Unit {0}) AuditFault) → ((l : Line) → ¬ (IsLine t l)) → (o : Option Line) → line_in t ≡ o
    → judged s n o rest f ≡ Err (Form n)
no_form s n t rest f h None e = refl
no_form s n t rest f h (Some l) e = absurd (h l e)

goes_wrong : (entered : Bool) (n : ℕ) (now : List ToldSeen) (rest : List (List ℕ)) (e : AuditFault)
    → GoesWrong entered n now rest e → (0 < length rest) × (audited_from (at now entered) n rest ≡ Err e)
unfolding audited_from
goes_wrong entered n now [] e w = absurd w
goes_wrong entered n now (t ∷ []) e w = (omega arith, ap Err (sym w))
goes_wrong entered n now (t ∷ u ∷ us) e (inl w) = (
  omega arith,
  no_form (at now entered) n t (u ∷ us) (λ v. audited_from v (n + 1) (u ∷ us)) w.0
      (line_in t) refl ∙ ap Err (sym w.1),
)
goes_wrong entered n now (t ∷ u ∷ us) e (inr (inl w)) = (
  omega arith,
  ap (λ o. judged (at now entered) n o (u ∷ us) (λ v. audited_from v (n + 1) (u ∷ us))) w.0
      ∙ not_ended (n + 1) u us w.1 ∙ ap Err (sym w.2),
)
goes_wrong entered n now (t ∷ u ∷ us) e (inr (inr (l, is_line, w))) =
    let k = spoiled entered n now l e w in (
      omega arith,
      ap (λ o. judged (at now entered) n o (u ∷ us) (λ v. audited_from v (n + 1) (u ∷ us)))
          is_line
          ∙ judged_event (at now entered) n l (u ∷ us) (λ v. audited_from v (n + 1) (u ∷ us)) k.0
          ∙ ap (λ q. audit_on q (λ v. audited_from v (n + 1) (u ∷ us))) k.1,
    )

pub fault_answered : (text : List ℕ) (e : AuditFault) → HasFault text e → audited text ≡ Err e
fault_answered text e h =
    let w = goes_wrong (entered_by false h.seen) (1 + length h.front) h.open_now h.rest e h.wrong in
    behind text h.front h.rest h.seen h.open_now h.text_is h.are h.clean w.0 ∙ w.1

-- ---- both ways

pub answered_trace : (text : List ℕ) → audited text ≡ Ok tt → IsTrace text
answered_trace text h = subst (Whole text) h (what_is_answered text)

pub answered_fault : (text : List ℕ) (e : AuditFault) → audited text ≡ Err e → HasFault text e
answered_fault text e h = subst (Whole text) h (what_is_answered text)

-- ---- the clauses of an answer

no_fault : (due : Result (Unit {0}) AuditFault) (e : AuditFault) → due ≡ Ok tt → due ≡ Err e → ⊥
no_fault due e h k = let bad : (let r : Result (Unit {0}) AuditFault = Ok tt in r) ≡ Err e = sym h ∙ k in cc

err_same : (x y : AuditFault) → (let r : Result (Unit {0}) AuditFault = Err x in r) ≡ Err y → x ≡ y
err_same x y h = cc

-- of an error
record OfError (e : AuditFault) (text : List ℕ) : Type 0 where
  only : IsTrace text → e ≡ NoMemory
  fails : (e ≡ NoMemory) ⊎ HasFault text e
  first : (fault : AuditFault) → HasFault text fault → (e ≡ fault) ⊎ (e ≡ NoMemory)

told : (e : AuditFault) (text : List ℕ) → audited text ≡ Err e → OfError e text
told e text h = record {
  only = λ t. absurd (no_fault (audited text) e (trace_answered text t) h);
  fails = inr (answered_fault text e h);
  first = λ f k. inl (err_same e f (sym h ∙ fault_answered text f k));
}

of_error : (e : AuditFault) (text : List ℕ)
    → (let r : Result (Unit {0}) AuditFault = Err e in AnswersDue r (audited text)) → OfError e text
of_error (Form n) text h = told (Form n) text h
of_error (Width n) text h = told (Width n) text h
of_error (Overlap n) text h = told (Overlap n) text h
of_error (Unopened n) text h = told (Unopened n) text h
of_error (Mismatch n) text h = told (Mismatch n) text h
of_error NoMemory text h = record { only = λ t. refl; fails = inl refl; first = λ f k. inr refl }

pub record IsRight (r : Result (Unit {0}) AuditFault) (text : List ℕ) : Type 0 where
  pub found : OnOk r (IsTrace text)
  pub only : IsTrace text → (r ≡ Ok tt) ⊎ (r ≡ Err NoMemory)
  pub fails : IfErr r (λ e. (e ≡ NoMemory) ⊎ HasFault text e)
  pub first : (fault : AuditFault) → HasFault text fault → (r ≡ Err fault) ⊎ (r ≡ Err NoMemory)

in_err : (e f : AuditFault) → (e ≡ f) ⊎ (e ≡ NoMemory)
    → (let r : Result (Unit {0}) AuditFault = Err e in (r ≡ Err f) ⊎ (r ≡ Err NoMemory))
in_err e f (inl h) = inl (ap Err h)
in_err e f (inr h) = inr (ap Err h)

pub is_right : (r : Result (Unit {0}) AuditFault) (text : List ℕ) → AnswersDue r (audited text)
    → IsRight r text
is_right (Ok x) text h = record {
  found = answered_trace text h;
  only = λ t. inl refl;
  fails = tt;
  first = λ f k. absurd (no_fault (audited text) f h (fault_answered text f k));
}
is_right (Err e) text h =
    let o = of_error e text h in
    record {
      found = tt;
      only = λ t. inr (ap Err (o.only t));
      fails = o.fails;
      first = λ f k. in_err e f (o.first f k);
    }
