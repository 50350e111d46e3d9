-- The lines of a text that passes the audit, as what they change.
use Rattle.std.proofs.Common.{◌≡◌, ℕ, ◌+◌, ◌<◌, Bool, true, false, List, [], ◌∷◌, length, Option, Some, None}
use Rattle.std.proofs.Common.{Result, Ok, Err, refl, sym, ap, ◌∙◌, subst, arith, map}
use Rattle.std.specs.Prelude.{codes, not, ◌||◌, if◌then◌else◌}
use Rattle.std.specs.Str.{bytes_eq}
use Rattle.std.proofs.lemmas.Bool.{ltb-true, eqb-true}
use Rattle.cap_words.specs.Names.{is_name}
use Rattle.source_events.specs.Forms.{is_pair}
use Rattle.line_fields.specs.Options.{where_true}
use Rattle.line_fields.specs.Numbers.{natural_in, number_in}
use Rattle.line_fields.specs.Words.{is_word}
use Rattle.line_fields.specs.Forms.{back_in, handed_in}
use Rattle.line_fields.specs.Fields.{Reader, done, meant, tested, fields, lines}
use Rattle.line_fields.proofs.Offers.{chosen, Fields, goes, meant_is, same_read, tested_is, unless_is}
use Rattle.line_fields.proofs.Offers.{whole_is}
use Rattle.run_audit.proofs.Offers.{told_decides}
use Rattle.run_audit.specs.declared.fault.AuditFault.{AuditFault}
use Rattle.run_audit.specs.declared.fault.AuditFault.TheVariants.{Form, Width, Overlap, Mismatch}
use Rattle.run_audit.specs.declared.line.Line.{Line}
use Rattle.run_audit.specs.declared.line.Line.TheVariants as audit_line
use Rattle.run_audit.specs.Told.{ToldSeen, is_wide, same_told}
use Rattle.run_audit.specs.Lines.{is_direction, is_cause, is_address, registers, words_left, told_with, told}
use Rattle.run_audit.specs.Lines.{call, ret}
use Rattle.run_audit.specs.Lines.{entered as enter_line, passed, left, steps, halted, failed, running}
use Rattle.run_audit.specs.Lines.{line_named, one_line, line_in}
use Rattle.run_audit.specs.Audit.{OpenSeen, nothing_open, below_newest, closed_by, audit_on, judged, stepped}
use Rattle.run_audit.specs.Audit.{at_end, audited_from, audited}
use Rattle.run_picture.specs.declared.turn.Side.{Side}
use Rattle.run_picture.specs.declared.turn.Extent.{Extent}
use Rattle.run_picture.specs.declared.turn.Turn.{Turn}
use Rattle.run_picture.specs.declared.turn.Turn.TheVariants.{Call, Ret, Enter, Leave}
use Rattle.run_picture.specs.Turns.{side_of, call_or_ret, spanned, entered, turn_named, one_turn, turn_read}
use Rattle.run_picture.specs.Turns.{turn_of}
use Rattle.run_picture.specs.Events.{EventSeen, event_of, events_in, events}
use Rattle.run_picture.specs.Laws.{IsNeither}
use Rattle.run_picture.specs.OpenLaws.{Passes}
use Rattle.run_picture.proofs.Fits.{LiesUnder, IsRange, Apart, under_all, Fits, ends, opens, closes, goes_by}

-- ---- what a line changes is what the audit takes it for

span_of : ToldSeen → Extent
span_of t = record { base = t.base; last = t.last }

abbrev pub IsSame : Line → Turn → Type 0
IsSame (audit_line.Call t) u = (side : Side) × (u ≡ Call side (record { base = t.base; last = t.last }))
IsSame (audit_line.Ret t) u = (side : Side) × (u ≡ Ret side (record { base = t.base; last = t.last }))
IsSame audit_line.Enter u = IsNeither u
IsSame audit_line.Pass u = IsNeither u
IsSame audit_line.Leave u = IsNeither u
IsSame audit_line.End u = IsNeither u

spanned_is : (c : Bool) (d p s b l : List ℕ) (r : Fields) (base last : ℕ) → natural_in b ≡ Some base
    → natural_in l ≡ Some last
    → spanned c (d ∷ p ∷ s ∷ b ∷ l ∷ r)
    ≡ Some (call_or_ret c (side_of d) (record { base = base; last = last }), r)
unfolding spanned meant
spanned_is c d p s b l r base last h k = rw (h, k) refl

told_is : (b : Bool) (ts : Fields) (t : ToldSeen) (rest : Fields) → told b ts ≡ Some (t, rest)
    → (side : Side) × (r : Fields)
    × (spanned b ts ≡ Some (call_or_ret b side (record { base = t.base; last = t.last }), r))
unfolding told told_with
told_is b ts t rest h =
    let g1 = goes (tested is_direction ts) _ (t, rest) h in
    let g2 = goes (tested is_name g1.rest) _ (t, rest) g1.next in
    let g3 = goes (meant natural_in g2.rest) _ (t, rest) g2.next in
    let g4 = goes (meant natural_in g3.rest) _ (t, rest) g3.next in
    let g5 = goes (meant natural_in g4.rest) _ (t, rest) g4.next in
    let g6 = goes (registers b g5.rest) _ (t, rest) g5.next in
    let g7 = goes (tested (bytes_eq (codes ":")) g6.rest) _ (t, rest) g6.next in
    let g8 = goes (words_left g7.rest) _ (t, rest) g7.next in
    let same = (same_read g8.next).0 in
    let k1 = tested_is is_direction ts g1.value g1.rest g1.first in
    let k2 = tested_is is_name g1.rest g2.value g2.rest g2.first in
    let k3 = meant_is natural_in g2.rest g3.value g3.rest g3.first in
    let k4 = meant_is natural_in g3.rest g4.value g4.rest g4.first in
    let k5 = meant_is natural_in g4.rest g5.value g5.rest g5.first in
    let are : ts ≡ g1.value ∷ g2.value ∷ k3.0 ∷ k4.0 ∷ k5.0 ∷ g5.rest =
    k1.1 ∙ ap (λ us. g1.value ∷ us) (k2.1 ∙ ap (λ us. g2.value ∷ us) (k3.2 ∙ ap (λ us. k3.0 ∷ us)
    (k4.2 ∙ ap (λ us. k4.0 ∷ us) k5.2))) in
    let low : natural_in k4.0 ≡ Some t.base = k4.1 ∙ ap (λ (u : ToldSeen). Some u.base) same in
    let high : natural_in k5.0 ≡ Some t.last = k5.1 ∙ ap (λ (u : ToldSeen). Some u.last) same in (
      side_of g1.value,
      g5.rest,
      ap (spanned b) are ∙ spanned_is b g1.value g2.value k3.0 k4.0 k5.0 g5.rest t.base t.last low high,
    )

call_is : (ts : Fields) (l : Line) (rest : Fields) → call ts ≡ Some (l, rest)
    → IsSame l (turn_read (spanned true ts))
unfolding call
call_is ts l rest h =
    let g = goes (told true ts) _ (l, rest) h in
    let k = told_is true ts g.value g.rest g.first in
    subst (λ m. IsSame m (turn_read (spanned true ts))) (same_read g.next).0 (k.0, ap turn_read k.2)

ret_is : (ts : Fields) (l : Line) (rest : Fields) → ret ts ≡ Some (l, rest)
    → IsSame l (turn_read (spanned false ts))
unfolding ret
ret_is ts l rest h =
    let g = goes (told false ts) _ (l, rest) h in
    let k = told_is false ts g.value g.rest g.first in
    subst (λ m. IsSame m (turn_read (spanned false ts))) (same_read g.next).0 (k.0, ap turn_read k.2)

-- ---- the lines that are neither

abbrev IsPlain : Line → Type 0
IsPlain (audit_line.Call t) = ⊥
IsPlain (audit_line.Ret t) = ⊥
IsPlain audit_line.Enter = Unit {0}
IsPlain audit_line.Pass = Unit {0}
IsPlain audit_line.Leave = Unit {0}
IsPlain audit_line.End = Unit {0}

both_plain : (l : Line) (u : Turn) → IsPlain l → IsNeither u → IsSame l u
both_plain (audit_line.Call t) u h k = absurd h
both_plain (audit_line.Ret t) u h k = absurd h
both_plain audit_line.Enter u h k = k
both_plain audit_line.Pass u h k = k
both_plain audit_line.Leave u h k = k
both_plain audit_line.End u h k = k

enter_plain : (ts : Fields) (l : Line) (rest : Fields) → enter_line ts ≡ Some (l, rest) → IsPlain l
unfolding enter_line
enter_plain ts l rest h =
    let g1 = goes (tested is_name ts) _ (l, rest) h in
    let g2 = goes (tested is_name g1.rest) _ (l, rest) g1.next in
    let g3 = goes (tested is_word g2.rest) _ (l, rest) g2.next in
    let g4 = goes (registers true g3.rest) _ (l, rest) g3.next in
    let g5 = goes (meant back_in g4.rest) _ (l, rest) g4.next in
    subst IsPlain (same_read g5.next).0 tt

pass_plain : (ts : Fields) (l : Line) (rest : Fields) → passed ts ≡ Some (l, rest) → IsPlain l
unfolding passed
pass_plain ts l rest h =
    let g1 = goes (meant handed_in ts) _ (l, rest) h in
    let g2 = goes (meant handed_in g1.rest) _ (l, rest) g1.next in
    let g3 = goes (meant handed_in g2.rest) _ (l, rest) g2.next in
    let b = is_pair g1.value || is_pair g2.value || is_pair g3.value in
    let k = unless_is (where_true b audit_line.Pass) g3.rest l rest g3.next in
    subst IsPlain (chosen b audit_line.Pass l k.0).1 tt

leave_plain : (ts : Fields) (l : Line) (rest : Fields) → left ts ≡ Some (l, rest) → IsPlain l
unfolding left
leave_plain ts l rest h =
    let g1 = goes (tested is_name ts) _ (l, rest) h in
    let g2 = goes (tested is_word g1.rest) _ (l, rest) g1.next in
    subst IsPlain (same_read g2.next).0 tt

steps_plain : (ts : Fields) (l : Line) (rest : Fields) → steps ts ≡ Some (l, rest) → IsPlain l
unfolding steps
steps_plain ts l rest h =
    let g1 = goes (tested (bytes_eq (codes "steps")) ts) _ (l, rest) h in
    let g2 = goes (meant (number_in 18446744073709551615) g1.rest) _ (l, rest) g1.next in
    subst IsPlain (same_read g2.next).0 tt

halted_plain : (ts : Fields) (l : Line) (rest : Fields) → halted ts ≡ Some (l, rest) → IsPlain l
unfolding halted
halted_plain ts l rest h =
    let g1 = goes (tested is_word ts) _ (l, rest) h in
    steps_plain g1.rest l rest g1.next

failed_plain : (ts : Fields) (l : Line) (rest : Fields) → failed ts ≡ Some (l, rest) → IsPlain l
unfolding failed
failed_plain ts l rest h =
    let g1 = goes (tested is_address ts) _ (l, rest) h in
    let g2 = goes (tested is_cause g1.rest) _ (l, rest) g1.next in
    steps_plain g2.rest l rest g2.next

running_plain : (ts : Fields) (l : Line) (rest : Fields) → running ts ≡ Some (l, rest) → IsPlain l
unfolding running
running_plain ts l rest h =
    let g1 = goes (tested is_address ts) _ (l, rest) h in
    steps_plain g1.rest l rest g1.next

pick : (b : Bool) (r s : Reader Line) (ts : Fields) (l : Line) (rest : Fields) (P : Type 0)
    → (if b then r else s) ts ≡ Some (l, rest) → (r ts ≡ Some (l, rest) → P) → (s ts ≡ Some (l, rest) → P) → P
pick true r s ts l rest P h p q = p h
pick false r s ts l rest P h p q = q h

entered_neither : (ts : Fields) → IsNeither (turn_read (entered ts))
unfolding entered
entered_neither [] = tt
entered_neither (a ∷ []) = tt
entered_neither (a ∷ b ∷ []) = tt
entered_neither (a ∷ b ∷ c ∷ ts) = tt

rest_neither : (b c : Bool) (ts : Fields) → IsNeither
    (turn_read ((if b then entered else (if c then done Leave else λ us. None)) ts))
rest_neither true c ts = entered_neither ts
rest_neither false true ts = tt
rest_neither false false ts = tt

named_is : (name : List ℕ) (ts : Fields) (l : Line) (rest : Fields) → line_named name ts ≡ Some (l, rest)
    → (a b : Bool) → bytes_eq (codes "call") name ≡ a → bytes_eq (codes "ret") name ≡ b
    → IsSame l (turn_read (turn_named name ts))
unfolding line_named turn_named
named_is name ts l rest h true b e f = let k = rw e at h in rw e (call_is ts l rest k)
named_is name ts l rest h false true e f = let k = rw (e, f) at h in rw (e, f) (ret_is ts l rest k)
named_is name ts l rest h false false e f =
    let k = rw (e, f) at h in
    rw (e, f)
    (both_plain l _
    (pick (bytes_eq (codes "enter") name) enter_line _ ts l rest (IsPlain l) k (enter_plain ts l rest) (λ k2.
    pick (bytes_eq (codes "pass") name) passed _ ts l rest (IsPlain l) k2 (pass_plain ts l rest) (λ k3.
    pick (bytes_eq (codes "leave") name) left _ ts l rest (IsPlain l) k3 (leave_plain ts l rest) (λ k4.
    pick (bytes_eq (codes "halted") name) halted _ ts l rest (IsPlain l) k4 (halted_plain ts l rest) (λ k5.
    pick (bytes_eq (codes "failed") name) failed _ ts l rest (IsPlain l) k5 (failed_plain ts l rest) (λ k6.
    pick (bytes_eq (codes "running") name) running _ ts l rest (IsPlain l) k6 (running_plain ts l rest)
    (λ k7. absurd (let n : None ≡ Some (l, rest) = k7 in cc))))))))
    (rest_neither (bytes_eq (codes "enter") name) (bytes_eq (codes "leave") name) ts))

line_fields_is : (ts : Fields) (l : Line) (rest : Fields) → one_line ts ≡ Some (l, rest)
    → IsSame l (turn_read (one_turn ts))
unfolding one_line one_turn
line_fields_is [] l rest h = absurd cc
line_fields_is (name ∷ ts) l rest h =
    named_is name ts l rest h (bytes_eq (codes "call") name) (bytes_eq (codes "ret") name) refl refl

pub line_is : (line : List ℕ) (l : Line) → line_in line ≡ Some l → IsSame l (turn_of line)
unfolding line_in turn_of
line_is line l h =
    line_fields_is (fields line) l [] (whole_is (one_line (fields line)) l h)

-- ---- line by line

abbrev spans : List ToldSeen → List Extent
spans ts = map span_of ts

pub step_ok : (q : Result OpenSeen AuditFault) (f : OpenSeen → Result (Unit {0}) AuditFault)
    → audit_on q f ≡ Ok tt
    → (v : OpenSeen) × (q ≡ Ok v) × (f v ≡ Ok tt)
step_ok (Ok v) f h = (v, refl, h)
step_ok (Err e) f h = absurd cc

opened_by : (w b : Bool) (n : ℕ) (r v : OpenSeen)
    → (let due : Result OpenSeen AuditFault =
    if not w then Err (Width n) else (if not b then Err (Overlap n) else Ok r) in due ≡ Ok v)
    → (w ≡ true) × (b ≡ true) × (r ≡ v)
opened_by true true n r v h = (refl, refl, cc)
opened_by true false n r v h = absurd cc
opened_by false b n r v h = absurd cc

closed_by_is : (calls : List ToldSeen) (n : ℕ) (t : ToldSeen) (v : OpenSeen) → closed_by calls n t ≡ Ok v
    → calls ≡ t ∷ v.calls
closed_by_is [] n t v h = absurd cc
closed_by_is (o ∷ os) n t v h = by_same (same_told o t) refl h
  where
    by_same : (b : Bool) → same_told o t ≡ b
        → (let due : Result OpenSeen AuditFault =
        if b then Ok (record { calls = os; entered = false }) else Err (Mismatch n) in due ≡ Ok v)
        → o ∷ os ≡ t ∷ v.calls
    by_same true e k =
        let is : o ≡ t = (told_decides o t).0 e in
        let left : record { calls = os; entered = false } ≡ v = cc in
        ap (λ u. u ∷ os) is ∙ ap (λ (w : OpenSeen). t ∷ w.calls) left
    by_same false e k = absurd cc

closed_is : (w : Bool) (calls : List ToldSeen) (n : ℕ) (t : ToldSeen) (v : OpenSeen)
    → (let due : Result OpenSeen AuditFault = if w then closed_by calls n t else Err (Width n) in due ≡ Ok v)
    → calls ≡ t ∷ v.calls
closed_is true calls n t v h = closed_by_is calls n t v h
closed_is false calls n t v h = absurd cc

pass_is : (b : Bool) (n : ℕ) (r v : OpenSeen)
    → (let due : Result OpenSeen AuditFault = if b then Ok r else Err (Form n) in due ≡ Ok v) → r ≡ v
pass_is true n r v h = cc
pass_is false n r v h = absurd cc

is_range : (t : ToldSeen) → is_wide t ≡ true → IsRange (span_of t)
unfolding span_of
is_range t h =
    let e : t.base + length t.words ≡ t.last + 1 = eqb-true (t.base + length t.words) (t.last + 1) h in
    omega arith

lies_under : (t : ToldSeen) (calls : List ToldSeen) → below_newest t calls ≡ true → Apart (spans calls)
    → LiesUnder (span_of t) (spans calls)
unfolding span_of
lies_under t [] h a = tt
lies_under t (o ∷ os) h a =
    let lt : t.last < o.base = ltb-true t.last o.base h in
    (lt, under_all (span_of t) (span_of o) (spans os) lt a.0.0 a.0.1)

-- what a line leads to
record Leads (t : List ℕ) (s v : OpenSeen) : Type 0 where
  apart : Apart (spans v.calls)
  fits : (es : List EventSeen) → Fits (spans v.calls) es → Fits (spans s.calls) (event_of t ∷ es)

plain_leads : (t : List ℕ) (s v : OpenSeen) → s.calls ≡ v.calls → IsNeither (turn_of t)
    → Apart (spans s.calls) → Leads t s v
plain_leads t s v e h a = record {
  apart = subst (λ cs. Apart (spans cs)) e a;
  fits = λ es f. goes_by h (subst (λ cs. Fits (spans cs) es) (sym e) f);
}

line_leads : (t : List ℕ) (l : Line) (s v : OpenSeen) (n : ℕ) → IsSame l (turn_of t) → stepped s n l ≡ Ok v
    → Apart (spans s.calls) → Leads t s v
unfolding stepped span_of
line_leads t (audit_line.Call told) s v n same h a =
    let o = opened_by (is_wide told) (below_newest told s.calls) n
    (record { calls = told ∷ s.calls; entered = false }) v h in
    let calls : told ∷ s.calls ≡ v.calls = ap (λ (w : OpenSeen). w.calls) o.2 in
    let range = is_range told o.0 in
    let under = lies_under told s.calls o.1 a in
    record {
      apart = subst (λ cs. Apart (spans cs)) calls ((range, under), a);
      fits = λ es f. opens same.0 (span_of told) same.1 range under
          (subst (λ cs. Fits (spans cs) es) (sym calls) f);
    }
line_leads t (audit_line.Ret told) s v n same h a =
    let calls : s.calls ≡ told ∷ v.calls = closed_is (is_wide told) s.calls n told v h in
    let b : Apart (spans (told ∷ v.calls)) = subst (λ cs. Apart (spans cs)) calls a in
    record {
      apart = b.1;
      fits = λ es f. subst (λ cs. Fits (spans cs) (event_of t ∷ es)) (sym calls)
          (closes {s = span_of told} same.0 same.1 f);
    }
line_leads t audit_line.Enter s v n same h a =
    let is : record { calls = s.calls; entered = true } ≡ v = cc in
    plain_leads t s v (ap (λ (w : OpenSeen). w.calls) is) same a
line_leads t audit_line.Pass s v n same h a =
    plain_leads t s v
    (ap (λ (w : OpenSeen). w.calls)
    (pass_is s.entered n (record { calls = s.calls; entered = false }) v h)) same a
line_leads t audit_line.Leave s v n same h a =
    let is : record { calls = s.calls; entered = false } ≡ v = cc in
    plain_leads t s v (ap (λ (w : OpenSeen). w.calls) is) same a
line_leads t audit_line.End s v n same h a =
    let is : record { calls = s.calls; entered = false } ≡ v = cc in
    plain_leads t s v (ap (λ (w : OpenSeen). w.calls) is) same a

end_rest : (n : ℕ) (u : List ℕ) (us : List (List ℕ)) → at_end n (u ∷ us) ≡ Ok tt → events_in (u ∷ us) ≡ []
end_rest n [] [] h = refl
end_rest n [] (v ∷ vs) h = absurd cc
end_rest n (b ∷ bs) us h = absurd cc

module _ (t u : List ℕ) (us : List (List ℕ)) (s : OpenSeen) (n : ℕ)
    (rec : (v : OpenSeen) → audited_from v (n + 1) (u ∷ us) ≡ Ok tt → Apart (spans v.calls)
    → Fits (spans v.calls) (events_in (u ∷ us)))
    (a : Apart (spans s.calls)) where
  event_on : (l : Line) → line_in t ≡ Some l
      → audit_on (stepped s n l) (λ v. audited_from v (n + 1) (u ∷ us)) ≡ Ok tt
      → Fits (spans s.calls) (event_of t ∷ events_in (u ∷ us))
  event_on l e h =
      let k = step_ok (stepped s n l) (λ v. audited_from v (n + 1) (u ∷ us)) h in
      let d = line_leads t l s k.0 n (line_is t l e) k.1 a in
      d.fits (events_in (u ∷ us)) (rec k.0 k.2 d.apart)

  line_on : (o : Option Line) → line_in t ≡ o
      → judged s n o (u ∷ us) (λ v. audited_from v (n + 1) (u ∷ us)) ≡ Ok tt
      → Fits (spans s.calls) (event_of t ∷ events_in (u ∷ us))
  line_on None e h = absurd cc
  line_on (Some audit_line.End) e h =
      let none = end_rest (n + 1) u us h in
      subst (λ es. Fits (spans s.calls) (event_of t ∷ es)) (sym none)
      (goes_by (line_is t audit_line.End e) ends)
  line_on (Some (audit_line.Call told)) e h = event_on (audit_line.Call told) e h
  line_on (Some (audit_line.Ret told)) e h = event_on (audit_line.Ret told) e h
  line_on (Some audit_line.Enter) e h = event_on audit_line.Enter e h
  line_on (Some audit_line.Pass) e h = event_on audit_line.Pass e h
  line_on (Some audit_line.Leave) e h = event_on audit_line.Leave e h

fits_from : (ts : List (List ℕ)) (s : OpenSeen) (n : ℕ) → audited_from s n ts ≡ Ok tt
    → Apart (spans s.calls) → Fits (spans s.calls) (events_in ts)
unfolding audited_from
fits_from [] s n h a = ends
fits_from (t ∷ []) s n h a = ends
fits_from (t ∷ u ∷ us) s n h a =
    line_on t u us s n (λ v k b. fits_from (u ∷ us) v (n + 1) k b) a (line_in t) refl h

pub passes_fit : (text : List ℕ) → Passes text → Fits [] (events text)
unfolding audited
passes_fit text h = fits_from (lines text) nothing_open 1 h tt
