-- A text that passes the audit has no byte that is escaped.
use Rattle.std.proofs.Common.{◌≡◌, ℕ, ◌+◌, ◌≤◌, Bool, true, false, List, [], ◌∷◌, Option, Some}
use Rattle.std.proofs.Common.{None, Ok, refl, sym, subst, arith, inl, inr}
use Rattle.std.specs.Prelude.{ℤ, codes, is_some, if◌then◌else◌, ◌||◌}
use Rattle.std.specs.Str.{bytes_eq}
use Rattle.std.specs.List.{list_all}
use Rattle.std.proofs.lemmas.Bool.{and_parts, or_cases}
use Rattle.std.proofs.lemmas.Slice.Eq.{bytes_eq-Decides}
use Rattle.std.proofs.lemmas.List.Splits.{join_with_byte-slice_split}
use Rattle.cap_words.specs.declared.Word.{Word}
use Rattle.cap_words.specs.Names.{is_name}
use Rattle.source_events.specs.declared.FeedBack.{FeedBack}
use Rattle.source_events.specs.declared.FeedPair.{FeedPair}
use Rattle.source_events.specs.Forms.{is_pair}
use Rattle.line_fields.specs.Options.{where_true}
use Rattle.line_fields.specs.Cuts.{parts, behind}
use Rattle.line_fields.specs.Numbers.{number_in, natural_in, integer_in}
use Rattle.line_fields.specs.Words.{word_in, is_word}
use Rattle.line_fields.specs.Forms.{back_in, handed_in}
use Rattle.line_fields.specs.Fields.{Reader, meant, tested, fields, lines}
use Rattle.line_fields.specs.declared.TheConstants.{LAST_NATURAL}
use Rattle.line_fields.proofs.Offers.{chosen, number_is, integer_is, word_is, back_is, handed_is, behind_is}
use Rattle.line_fields.proofs.Offers.{Fields, goes, meant_is, same_read, tested_is, unless_is, whole_is}
use Rattle.run_audit.specs.declared.line.Line.{Line}
use Rattle.run_audit.specs.declared.line.Line.TheVariants.{Call, Ret, Enter, Pass, Leave, End}
use Rattle.run_audit.specs.Told.{ToldSeen}
use Rattle.run_audit.specs.Lines.{is_direction, is_cause_behind, is_cause, is_address, registers, words_left}
use Rattle.run_audit.specs.Lines.{told_with, told, call, ret, entered, passed, left, steps, halted, failed}
use Rattle.run_audit.specs.Lines.{running}
use Rattle.run_audit.specs.Lines.{line_named, one_line, line_in}
use Rattle.run_audit.specs.Audit.{OpenSeen, nothing_open, stepped, at_end, audit_on, judged, audited_from}
use Rattle.run_audit.specs.Audit.{audited}
use Rattle.run_picture.specs.LengthLaws.{TracesArePlain}
use Rattle.run_picture.proofs.Passes.{step_ok}
use Rattle.run_picture.proofs.Plain.{Plain, both, name_plain, decimal_plain, integer_plain, word_plain}
use Rattle.run_picture.proofs.Plain.{back_plain, handed_plain, AllPlain, joined_plain}

-- ---- single fields

same_plain : (front t : List ℕ) → Plain front → bytes_eq front t ≡ true → Plain t
same_plain front t h e = subst Plain ((bytes_eq-Decides front t).0 e) h

number_plain : (most n : ℕ) (t : List ℕ) → most ≤ 18446744073709551615 → number_in most t ≡ Some n → Plain t
number_plain most n t le h =
    let k = number_is most n t (omega arith) h in
    let small = k.0 in
    subst Plain (sym k.1) (decimal_plain n (omega arith))

direction_plain : (t : List ℕ) → is_direction t ≡ true → Plain t
direction_plain t h = elim (or_cases (bytes_eq (codes "in") t) (bytes_eq (codes "out") t) h) [
  | inl e ↦ same_plain (codes "in") t (record { same = refl }) e
  | inr e ↦ same_plain (codes "out") t (record { same = refl }) e
]

is_word_plain : (t : List ℕ) → is_word t ≡ true → Plain t
is_word_plain t h = by_word (word_in t) refl h
  where
    by_word : (o : Option Word) → word_in t ≡ o → is_some o ≡ true → Plain t
    by_word None e k = absurd cc
    by_word (Some w) e k = let d = word_is w t e in subst Plain (sym d.1) (word_plain w d.0)

is_integer_plain : (t : List ℕ) → is_some (integer_in t) ≡ true → Plain t
is_integer_plain t h = by_integer (integer_in t) refl h
  where
    by_integer : (o : Option ℤ) → integer_in t ≡ o → is_some o ≡ true → Plain t
    by_integer None e k = absurd cc
    by_integer (Some z) e k = integer_plain z t (integer_is z t e)

address_plain : (t : List ℕ) → is_address t ≡ true → Plain t
unfolding is_address
address_plain t h = elim (or_cases (bytes_eq (codes "-") t) (is_some (integer_in t)) h) [
  | inl e ↦ same_plain (codes "-") t (record { same = refl }) e
  | inr e ↦ is_integer_plain t e
]

cause_plain : (t : List ℕ) → is_cause t ≡ true → Plain t
unfolding is_cause
cause_plain t h = by_rest (behind (codes "F") t) refl h
  where
    by_number : (number : List ℕ) (o : Option ℕ) → number_in 14 number ≡ o
        → is_cause_behind (Some number) ≡ true → Plain number
    by_number number None e k = absurd (let bad = rw e at k in cc)
    by_number number (Some n) e k = number_plain 14 n number (omega arith) e

    by_rest : (o : Option (List ℕ)) → behind (codes "F") t ≡ o → is_cause_behind o ≡ true → Plain t
    by_rest None e k = absurd cc
    by_rest (Some number) e k =
        let front : Plain (codes "F") = record { same = refl } in
        subst Plain (sym (behind_is (codes "F") t number e))
        (both front (by_number number (number_in 14 number) refl k))

back_in_plain : (t : List ℕ) (b : FeedBack) → back_in t ≡ Some b → Plain t
back_in_plain t b h = let k = back_is b t h in subst Plain (sym k.1) (back_plain b k.0)

handed_in_plain : (t : List ℕ) (p : FeedPair) → handed_in t ≡ Some p → Plain t
handed_in_plain t p h = let k = handed_is p t h in subst Plain (sym k.1) (handed_plain p k.0)

natural_plain : (t : List ℕ) (n : ℕ) → natural_in t ≡ Some n → Plain t
natural_plain t n h = number_plain LAST_NATURAL n t (omega arith) h

count_plain : (t : List ℕ) (n : ℕ) → number_in 18446744073709551615 t ≡ Some n → Plain t
count_plain t n h = number_plain 18446744073709551615 n t (omega arith) h

-- ---- one field, and those after it

by_test : (test : List ℕ → Bool) → ((t : List ℕ) → test t ≡ true → Plain t) → (ts : Fields) (x : List ℕ)
    (rest : Fields) → tested test ts ≡ Some (x, rest) → AllPlain rest → AllPlain ts
by_test test each ts x rest h a =
    let k = tested_is test ts x rest h in
    subst AllPlain (sym k.1) (each x k.0, a)

by_meaning : {A : Type 0} (read : List ℕ → Option A) → ((t : List ℕ) (x : A) → read t ≡ Some x → Plain t)
    → (ts : Fields) (x : A) (rest : Fields) → meant read ts ≡ Some (x, rest) → AllPlain rest → AllPlain ts
by_meaning read each ts x rest h a =
    let (t, means, is) = meant_is read ts x rest h in
    subst AllPlain (sym is) (each t x means, a)

-- ---- lines

registers_plain : (b : Bool) (ts : Fields) (x : List ℕ) (rest : Fields) → registers b ts ≡ Some (x, rest)
    → AllPlain rest → AllPlain ts
registers_plain false ts x rest h a = by_test is_word is_word_plain ts x rest h a
registers_plain true ts x rest h a =
    let g1 = goes (tested is_word ts) _ (x, rest) h in
    let g2 = goes (tested is_word g1.rest) _ (x, rest) g1.next in
    let g3 = goes (tested is_word g2.rest) _ (x, rest) g2.next in
    by_test is_word is_word_plain ts g1.value g1.rest g1.first
    (by_test is_word is_word_plain g1.rest g2.value g2.rest g2.first
    (by_test is_word is_word_plain g2.rest g3.value g3.rest g3.first
    (by_test is_word is_word_plain g3.rest x rest g3.next a)))

all_words : (ts : Fields) → list_all is_word ts ≡ true → AllPlain ts
all_words [] h = tt
all_words (t ∷ ts) h =
    let k = and_parts (is_word t) (list_all is_word ts) h in
    (is_word_plain t k.0, all_words ts k.1)

words_plain : (ts : Fields) (x : Fields) (rest : Fields) → words_left ts ≡ Some (x, rest) → AllPlain ts
unfolding words_left
words_plain ts x rest h =
    let k = unless_is (where_true (list_all is_word ts) ts) [] x rest h in
    all_words ts (chosen (list_all is_word ts) ts x k.0).0

told_plain : (b : Bool) (ts : Fields) (t : ToldSeen) (rest : Fields) → told b ts ≡ Some (t, rest)
    → AllPlain ts
unfolding told told_with
told_plain b ts t rest h =
    let g1 = goes (tested is_direction ts) _ (t, rest) h in
    let g2 = goes (tested is_name g1.rest) _ (t, rest) g1.next in
    let g3 = goes (meant natural_in g2.rest) _ (t, rest) g2.next in
    let g4 = goes (meant natural_in g3.rest) _ (t, rest) g3.next in
    let g5 = goes (meant natural_in g4.rest) _ (t, rest) g4.next in
    let g6 = goes (registers b g5.rest) _ (t, rest) g5.next in
    let g7 = goes (tested (bytes_eq (codes ":")) g6.rest) _ (t, rest) g6.next in
    let g8 = goes (words_left g7.rest) _ (t, rest) g7.next in
    by_test is_direction direction_plain ts g1.value g1.rest g1.first
    (by_test is_name name_plain g1.rest g2.value g2.rest g2.first
    (by_meaning natural_in natural_plain g2.rest g3.value g3.rest g3.first
    (by_meaning natural_in natural_plain g3.rest g4.value g4.rest g4.first
    (by_meaning natural_in natural_plain g4.rest g5.value g5.rest g5.first
    (registers_plain b g5.rest g6.value g6.rest g6.first
    (by_test (bytes_eq (codes ":")) (λ u. same_plain (codes ":") u (record { same = refl })) g6.rest g7.value
    g7.rest g7.first (words_plain g7.rest g8.value g8.rest g8.first)))))))

call_plain : (ts : Fields) (l : Line) (rest : Fields) → call ts ≡ Some (l, rest) → AllPlain ts
unfolding call
call_plain ts l rest h =
    let g = goes (told true ts) _ (l, rest) h in
    told_plain true ts g.value g.rest g.first

ret_plain : (ts : Fields) (l : Line) (rest : Fields) → ret ts ≡ Some (l, rest) → AllPlain ts
unfolding ret
ret_plain ts l rest h =
    let g = goes (told false ts) _ (l, rest) h in
    told_plain false ts g.value g.rest g.first

enter_plain : (ts : Fields) (l : Line) (rest : Fields) → entered ts ≡ Some (l, rest) → AllPlain rest
    → AllPlain ts
unfolding entered
enter_plain ts l rest h a =
    let g1 = goes (tested is_name ts) _ (l, rest) h in
    let g2 = goes (tested is_name g1.rest) _ (l, rest) g1.next in
    let g3 = goes (tested is_word g2.rest) _ (l, rest) g2.next in
    let g4 = goes (registers true g3.rest) _ (l, rest) g3.next in
    let g5 = goes (meant back_in g4.rest) _ (l, rest) g4.next in
    by_test is_name name_plain ts g1.value g1.rest g1.first
    (by_test is_name name_plain g1.rest g2.value g2.rest g2.first
    (by_test is_word is_word_plain g2.rest g3.value g3.rest g3.first
    (registers_plain true g3.rest g4.value g4.rest g4.first
    (by_meaning back_in back_in_plain g4.rest g5.value g5.rest g5.first
    (subst AllPlain (sym (same_read g5.next).1) a)))))

pass_plain : (ts : Fields) (l : Line) (rest : Fields) → passed ts ≡ Some (l, rest) → AllPlain rest
    → AllPlain ts
unfolding passed
pass_plain ts l rest h a =
    let g1 = goes (meant handed_in ts) _ (l, rest) h in
    let g2 = goes (meant handed_in g1.rest) _ (l, rest) g1.next in
    let g3 = goes (meant handed_in g2.rest) _ (l, rest) g2.next in
    let b = is_pair g1.value || is_pair g2.value || is_pair g3.value in
    let k = unless_is (where_true b Pass) g3.rest l rest g3.next in
    by_meaning handed_in handed_in_plain ts g1.value g1.rest g1.first
    (by_meaning handed_in handed_in_plain g1.rest g2.value g2.rest g2.first
    (by_meaning handed_in handed_in_plain g2.rest g3.value g3.rest g3.first (subst AllPlain (sym k.1) a)))

leave_plain : (ts : Fields) (l : Line) (rest : Fields) → left ts ≡ Some (l, rest) → AllPlain rest
    → AllPlain ts
unfolding left
leave_plain ts l rest h a =
    let g1 = goes (tested is_name ts) _ (l, rest) h in
    let g2 = goes (tested is_word g1.rest) _ (l, rest) g1.next in
    by_test is_name name_plain ts g1.value g1.rest g1.first
    (by_test is_word is_word_plain g1.rest g2.value g2.rest g2.first
    (subst AllPlain (sym (same_read g2.next).1) a))

steps_plain : (ts : Fields) (l : Line) (rest : Fields) → steps ts ≡ Some (l, rest) → AllPlain rest
    → AllPlain ts
unfolding steps
steps_plain ts l rest h a =
    let g1 = goes (tested (bytes_eq (codes "steps")) ts) _ (l, rest) h in
    let g2 = goes (meant (number_in 18446744073709551615) g1.rest) _ (l, rest) g1.next in
    by_test (bytes_eq (codes "steps")) (λ u. same_plain (codes "steps") u (record { same = refl })) ts
    g1.value g1.rest g1.first
    (by_meaning (number_in 18446744073709551615) count_plain g1.rest g2.value g2.rest g2.first
    (subst AllPlain (sym (same_read g2.next).1) a))

halted_plain : (ts : Fields) (l : Line) (rest : Fields) → halted ts ≡ Some (l, rest) → AllPlain rest
    → AllPlain ts
unfolding halted
halted_plain ts l rest h a =
    let g1 = goes (tested is_word ts) _ (l, rest) h in
    by_test is_word is_word_plain ts g1.value g1.rest g1.first (steps_plain g1.rest l rest g1.next a)

failed_plain : (ts : Fields) (l : Line) (rest : Fields) → failed ts ≡ Some (l, rest) → AllPlain rest
    → AllPlain ts
unfolding failed
failed_plain ts l rest h a =
    let g1 = goes (tested is_address ts) _ (l, rest) h in
    let g2 = goes (tested is_cause g1.rest) _ (l, rest) g1.next in
    by_test is_address address_plain ts g1.value g1.rest g1.first
    (by_test is_cause cause_plain g1.rest g2.value g2.rest g2.first (steps_plain g2.rest l rest g2.next a))

running_plain : (ts : Fields) (l : Line) (rest : Fields) → running ts ≡ Some (l, rest) → AllPlain rest
    → AllPlain ts
unfolding running
running_plain ts l rest h a =
    let g1 = goes (tested is_address ts) _ (l, rest) h in
    by_test is_address address_plain ts g1.value g1.rest g1.first (steps_plain g1.rest l rest g1.next a)

-- where the name is one that stays, and else
by_name : (front name : List ℕ) → Plain front → (b : Bool) → bytes_eq front name ≡ b → (r s : Reader Line)
    (ts : Fields) (y : Line × Fields) → (if b then r else s) ts ≡ Some y → (r ts ≡ Some y → AllPlain ts)
    → (s ts ≡ Some y → Plain name × AllPlain ts) → Plain name × AllPlain ts
by_name front name f true e r s ts y h p q = (same_plain front name f e, p h)
by_name front name f false e r s ts y h p q = q h

named_plain : (name : List ℕ) (ts : Fields) (l : Line) (rest : Fields) → line_named name ts ≡ Some (l, rest)
    → AllPlain rest → Plain name × AllPlain ts
unfolding line_named
named_plain name ts l rest h a =
    by_name (codes "call") name (record { same = refl }) _ refl call _ ts (l, rest) h (call_plain ts l rest)
    (λ k2. by_name (codes "ret") name (record { same = refl }) _ refl ret _ ts (l, rest) k2
    (ret_plain ts l rest)
    (λ k3. by_name (codes "enter") name (record { same = refl }) _ refl entered _ ts (l, rest) k3
    (λ e. enter_plain ts l rest e a)
    (λ k4. by_name (codes "pass") name (record { same = refl }) _ refl passed _ ts (l, rest) k4
    (λ e. pass_plain ts l rest e a)
    (λ k5. by_name (codes "leave") name (record { same = refl }) _ refl left _ ts (l, rest) k5
    (λ e. leave_plain ts l rest e a)
    (λ k6. by_name (codes "halted") name (record { same = refl }) _ refl halted _ ts (l, rest) k6
    (λ e. halted_plain ts l rest e a)
    (λ k7. by_name (codes "failed") name (record { same = refl }) _ refl failed _ ts (l, rest) k7
    (λ e. failed_plain ts l rest e a)
    (λ k8. by_name (codes "running") name (record { same = refl }) _ refl running _ ts (l, rest) k8
    (λ e. running_plain ts l rest e a)
    (λ k9. absurd (let n : None ≡ Some (l, rest) = k9 in cc)))))))))

fields_plain : (ts : Fields) (l : Line) (rest : Fields) → one_line ts ≡ Some (l, rest) → AllPlain rest
    → AllPlain ts
unfolding one_line
fields_plain [] l rest h a = absurd cc
fields_plain (name ∷ ts) l rest h a = named_plain name ts l rest h a

line_plain : (t : List ℕ) (l : Line) → line_in t ≡ Some l → Plain t
unfolding line_in parts
line_plain t l h =
    let all = fields_plain (fields t) l [] (whole_is (one_line (fields t)) l h) tt in
    subst Plain (join_with_byte-slice_split 32 t) (joined_plain 32 refl (fields t) all)

-- ---- texts

end_plain : (n : ℕ) (ts : List (List ℕ)) → at_end n ts ≡ Ok tt → AllPlain ts
end_plain n [] h = absurd cc
end_plain n ([] ∷ []) h = (record { same = refl }, tt)
end_plain n ([] ∷ u ∷ us) h = absurd cc
end_plain n ((b ∷ bs) ∷ us) h = absurd cc

module _ (t u : List ℕ) (us : List (List ℕ)) (s : OpenSeen) (n : ℕ)
    (rec : (v : OpenSeen) → audited_from v (n + 1) (u ∷ us) ≡ Ok tt → AllPlain (u ∷ us)) where
  event_plain : (l : Line) → line_in t ≡ Some l
      → audit_on (stepped s n l) (λ v. audited_from v (n + 1) (u ∷ us)) ≡ Ok tt → AllPlain (t ∷ u ∷ us)
  event_plain l e h =
      let k = step_ok (stepped s n l) (λ v. audited_from v (n + 1) (u ∷ us)) h in
      (line_plain t l e, rec k.0 k.2)

  judged_plain : (o : Option Line) → line_in t ≡ o
      → judged s n o (u ∷ us) (λ v. audited_from v (n + 1) (u ∷ us)) ≡ Ok tt → AllPlain (t ∷ u ∷ us)
  judged_plain None e h = absurd cc
  judged_plain (Some End) e h = (line_plain t End e, end_plain (n + 1) (u ∷ us) h)
  judged_plain (Some (Call told)) e h = event_plain (Call told) e h
  judged_plain (Some (Ret told)) e h = event_plain (Ret told) e h
  judged_plain (Some Enter) e h = event_plain Enter e h
  judged_plain (Some Pass) e h = event_plain Pass e h
  judged_plain (Some Leave) e h = event_plain Leave e h

lines_plain : (ts : List (List ℕ)) (s : OpenSeen) (n : ℕ) → audited_from s n ts ≡ Ok tt → AllPlain ts
unfolding audited_from
lines_plain [] s n h = absurd cc
lines_plain (t ∷ []) s n h = absurd cc
lines_plain (t ∷ u ∷ us) s n h =
    judged_plain t u us s n (λ v k. lines_plain (u ∷ us) v (n + 1) k) (line_in t) refl h

pub traces_are_plain : TracesArePlain
unfolding audited parts
traces_are_plain text h =
    let all = lines_plain (lines text) nothing_open 1 h in
    (subst Plain (join_with_byte-slice_split 10 text) (joined_plain 10 refl (lines text) all)).same
