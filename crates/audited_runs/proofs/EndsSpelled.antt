-- An end line is read of its own text alone.
use Rattle.std.proofs.Common.{◌≡◌, ℕ, ◌+◌, ◌<◌, ◌≤◌, ◌^◌, length, Bool, true, false, List, [], ◌∷◌, ◌++◌}
use Rattle.std.proofs.Common.{Option, Some, None, refl, sym, ap, ◌∙◌, subst, arith, append_assoc}
use Rattle.std.specs.Prelude.{ℤ, pos, codes, decimal, is_some, ◌||◌, ◌==◌, not}
use Rattle.std.specs.Str.{bytes_eq}
use Rattle.std.specs.Fmt.{digits}
use Rattle.std.proofs.lemmas.Bool.{eqb-true, eqb-false}
use Rattle.std.proofs.lemmas.List.{append_cancel_right}
use Rattle.std.proofs.lemmas.Slice.Eq.{bytes_eq-Decides}
use Rattle.cap_words.specs.declared.Perm.TheVariants.{No}
use Rattle.cap_words.specs.declared.Lin.TheVariants.{Normal}
use Rattle.cap_words.specs.declared.Word.{Word}
use Rattle.cap_words.specs.declared.Word.TheVariants.{Int, Mem}
use Rattle.cap_words.specs.Text.{word_text_of}
use Rattle.lcm_isa.specs.declared.Reg.{Reg}
use Rattle.lcm_isa.specs.declared.Reg.TheVariants.{Pc, A0}
use Rattle.lcm_machine.specs.declared.FailCause.{FailCause}
use Rattle.lcm_machine.specs.declared.FailCause.TheVariants.{F1, F2, F3, F4, F5, F6, F7, F8, F9, F10}
use Rattle.lcm_machine.specs.declared.FailCause.TheVariants.{F11, F12, F13, F14}
use Rattle.run_lines.specs.Views.{View}
use Rattle.run_lines.specs.EndLines.{cause_text, pc_text}
use Rattle.line_fields.specs.Cuts.{behind}
use Rattle.line_fields.specs.Numbers.{number_in, integer_in}
use Rattle.line_fields.specs.Words.{HasText, is_word}
use Rattle.line_fields.specs.Fields.{meant, tested}
use Rattle.line_fields.proofs.Offers.{number_is, integer_is, behind_is, Fields, goes, same_read, tested_is}
use Rattle.audited_runs.proofs.Offers.{decimal_high, word_high, spaced, cause_high, pc_high}
use Rattle.run_audit.specs.declared.line.Line.{Line as AuditLine}
use Rattle.run_audit.specs.declared.line.Line.TheVariants.{End}
use Rattle.run_audit.specs.Lines.{is_address, is_number_of_cause, is_cause_behind, is_cause, steps, halted}
use Rattle.run_audit.specs.Lines.{failed, running, line_in}
use Rattle.audited_runs.specs.Spelling.{IsEndText, EndIsSpelled, IsSpelled}
use Rattle.audited_runs.specs.Spelling.IsEndText.{halted as is_halted, running as is_running}
use Rattle.audited_runs.specs.Spelling.IsEndText.{failed as is_failed}
use Rattle.audited_runs.proofs.Spelled.{read_by}
use Rattle.audited_runs.proofs.EndsRead.{steps_high, halted_at, running_at, failed_at}
use Rattle.audited_runs.proofs.Taken.{and_then, number_taken, word_taken, mark_taken}

-- ---- fields

address_of : (a : Bool) (o : Option ℤ) (x : List ℕ) → bytes_eq (codes "-") x ≡ a → integer_in x ≡ o
    → (a || is_some o) ≡ true → (w : Word) × HasText w × (x ≡ pc_text w)
address_of true o x p q h = (Int (pos 0), omega arith, sym ((bytes_eq-Decides (codes "-") x).0 p))
address_of false None x p q h = absurd cc
address_of false (Some z) x p q h =
    let k = integer_is z x q in (
      Mem (record { perm = No; lin = Normal; base = 0; end = 0; addr = z }),
      ((omega arith, omega arith), k.0),
      k.1,
    )

address_taken : (ts : Fields) (x : List ℕ) (rest : Fields) → tested is_address ts ≡ Some (x, rest)
    → (w : Word) × HasText w × (ts ≡ pc_text w ∷ rest)
unfolding is_address
address_taken ts x rest h =
    let k = tested_is is_address ts x rest h in
    let w = address_of _ _ x refl refl k.0 in
    (w.0, w.1, k.1 ∙ ap (λ u. u ∷ rest) w.2)

-- causes from a number on
abbrev Numbered : ℕ → List FailCause → Type 0
Numbered k [] = Unit {0}
Numbered k (f ∷ fs) = (cause_text f ≡ codes "F" ++ decimal k) × Numbered (k + 1) fs

find : (n k : ℕ) (fs : List FailCause) → Numbered k fs → k ≤ n → n < k + length fs
    → (f : FailCause) × (cause_text f ≡ codes "F" ++ decimal n)
find n k [] all low high = absurd (omega (arith, low, high))
find n k (f ∷ fs) all low high =
    by_test (n == k) refl
    (λ e. find n (k + 1) fs all.1 (omega (arith, low, eqb-false n k e)) (omega (arith, high)))
  where
    by_test : (b : Bool) → (n == k) ≡ b
        → ((n == k) ≡ false → (g : FailCause) × (cause_text g ≡ codes "F" ++ decimal n))
        → (g : FailCause) × (cause_text g ≡ codes "F" ++ decimal n)
    by_test true e more = (f, all.0 ∙ ap (λ m. codes "F" ++ decimal m) (sym (eqb-true n k e)))
    by_test false e more = more e

causes : List FailCause
causes = F1 ∷ F2 ∷ F3 ∷ F4 ∷ F5 ∷ F6 ∷ F7 ∷ F8 ∷ F9 ∷ F10 ∷ F11 ∷ F12 ∷ F13 ∷ F14 ∷ []

all_numbered : Numbered 1 causes
unfolding digits causes
all_numbered =
    let last : Numbered 8 (F8 ∷ F9 ∷ F10 ∷ F11 ∷ F12 ∷ F13 ∷ F14 ∷ []) =
    (refl, (refl, (refl, (refl, (refl, (refl, (refl, tt))))))) in
    (refl, (refl, (refl, (refl, (refl, (refl, (refl, last)))))))

cause_numbered : (n : ℕ) → (n == 0) ≡ false → n ≤ 14
    → (f : FailCause) × (cause_text f ≡ codes "F" ++ decimal n)
unfolding causes
cause_numbered n h k =
    find n 1 causes all_numbered (omega (arith, eqb-false n 0 h)) (omega (arith, k))

cause_of : (x : List ℕ) (o : Option (List ℕ)) → behind (codes "F") x ≡ o → is_cause_behind o ≡ true
    → (f : FailCause) × (x ≡ cause_text f)
cause_of x None e h = absurd cc
cause_of x (Some t) e h = by_number (number_in 14 t) refl h
  where
    by_number : (o : Option ℕ) → number_in 14 t ≡ o → is_number_of_cause o ≡ true
        → (f : FailCause) × (x ≡ cause_text f)
    by_number None p q = absurd cc
    by_number (Some n) p q =
        let k = number_is 14 n t (omega arith) p in
        let f = cause_numbered n (not_true (n == 0) q) k.0 in
        (f.0, behind_is (codes "F") x t e ∙ ap (λ u. codes "F" ++ u) k.1 ∙ sym f.1)
      where
        not_true : (b : Bool) → not b ≡ true → b ≡ false
        not_true true r = absurd cc
        not_true false r = refl

cause_taken : (ts : Fields) (x : List ℕ) (rest : Fields) → tested is_cause ts ≡ Some (x, rest)
    → (f : FailCause) × (ts ≡ cause_text f ∷ rest)
unfolding is_cause
cause_taken ts x rest h =
    let k = tested_is is_cause ts x rest h in
    let f = cause_of x _ refl k.0 in
    (f.0, k.1 ∙ ap (λ u. u ∷ rest) f.1)

steps_taken : (ts : Fields) (y : AuditLine × Fields) → steps ts ≡ Some y
    → (n : ℕ) × (n < 2 ^ 64) × (ts ≡ codes "steps" ∷ decimal n ∷ y.1) × (y.0 ≡ End)
unfolding steps
steps_taken ts y h =
    let g0 = goes (tested (bytes_eq (codes "steps")) ts) _ y h in
    let g1 = goes (meant (number_in 18446744073709551615) g0.rest) _ y g0.next in
    let s = mark_taken (codes "steps") ts g0.value g0.rest g0.first in
    let n = number_taken 18446744073709551615 g0.rest g1.value g1.rest (omega arith) g1.first in
    let both = same_read g1.next in
    (g1.value, omega (arith, n.0), and_then s (and_then n.1 both.1), sym both.0)

-- ---- lines

abbrev holding : Word → View
holding w = record { reg = λ r. w; cell = λ a. None }

-- after a name, a field and the count; two fields and the count
one_field : (c sp w st n nl : List ℕ)
    → (c ++ (sp ++ (w ++ (sp ++ (st ++ (sp ++ (n ++ []))))))) ++ nl
    ≡ (c ++ sp) ++ (w ++ (((sp ++ st) ++ sp) ++ (n ++ nl)))
one_field c sp w st n nl = simp append_assoc

two_fields : (c sp w f st n nl : List ℕ)
    → (c ++ (sp ++ (w ++ (sp ++ (f ++ (sp ++ (st ++ (sp ++ (n ++ []))))))))) ++ nl
    ≡ (c ++ sp) ++ (w ++ (sp ++ (f ++ (((sp ++ st) ++ sp) ++ (n ++ nl)))))
two_fields c sp w f st n nl = simp append_assoc

module _ (text : List ℕ) (fs : Fields) (l : AuditLine) where
  ending : l ≡ End → EndIsSpelled text → IsSpelled text l
  ending e s = subst (IsSpelled text) (sym e) s

  pub halted_spelled : text ≡ codes "halted" ++ spaced fs → halted fs ≡ Some (l, []) → IsSpelled text l
  unfolding halted
  halted_spelled is h =
      let g = goes (tested is_word fs) _ (l, []) h in
      let w = word_taken fs g.value g.rest g.first in
      let n = steps_taken g.rest (l, []) g.next in
      ending n.3 (record {
        view = holding w.0;
        words = λ r. w.1;
        count = n.0;
        small = n.1;
        is = is_halted (ap (λ t. t ++ codes "\n")
            (is ∙ ap (λ ts. codes "halted" ++ spaced ts) (and_then w.2 n.2))
            ∙ one_field (codes "halted") (codes " ") (word_text_of w.0) (codes "steps") (decimal n.0)
            (codes "\n"));
      })

  pub running_spelled : text ≡ codes "running" ++ spaced fs → running fs ≡ Some (l, []) → IsSpelled text l
  unfolding running
  running_spelled is h =
      let g = goes (tested is_address fs) _ (l, []) h in
      let w = address_taken fs g.value g.rest g.first in
      let n = steps_taken g.rest (l, []) g.next in
      ending n.3 (record {
        view = holding w.0;
        words = λ r. w.1;
        count = n.0;
        small = n.1;
        is = is_running (ap (λ t. t ++ codes "\n")
            (is ∙ ap (λ ts. codes "running" ++ spaced ts) (and_then w.2 n.2))
            ∙ one_field (codes "running") (codes " ") (pc_text w.0) (codes "steps") (decimal n.0)
            (codes "\n"));
      })

  pub failed_spelled : text ≡ codes "failed" ++ spaced fs → failed fs ≡ Some (l, []) → IsSpelled text l
  unfolding failed
  failed_spelled is h =
      let g0 = goes (tested is_address fs) _ (l, []) h in
      let g1 = goes (tested is_cause g0.rest) _ (l, []) g0.next in
      let w = address_taken fs g0.value g0.rest g0.first in
      let c = cause_taken g0.rest g1.value g1.rest g1.first in
      let n = steps_taken g1.rest (l, []) g1.next in
      ending n.3 (record {
        view = holding w.0;
        words = λ r. w.1;
        count = n.0;
        small = n.1;
        is = is_failed c.0 (ap (λ t. t ++ codes "\n")
            (is ∙ ap (λ ts. codes "failed" ++ spaced ts) (and_then w.2 (and_then c.1 n.2)))
            ∙ two_fields (codes "failed") (codes " ") (pc_text w.0) (cause_text c.0) (codes "steps")
            (decimal n.0) (codes "\n"));
      })

-- ---- and back

module _ (text : List ℕ) (v : View) (n : ℕ) (words : (r : Reg) → HasText (v.reg r)) (small : n < 2 ^ 64) where
  end_back : IsEndText v n (text ++ codes "\n") → line_in text ≡ Some End
  end_back (is_halted e) =
      let t = word_text_of (v.reg A0) in
      let is = one_field (codes "halted") (codes " ") t (codes "steps") (decimal n) (codes "\n") in
      read_by text (codes "halted") (t ∷ codes "steps" ∷ decimal n ∷ []) End
      (append_cancel_right _ _ (codes "\n") (e ∙ sym is)) (record { all = refl })
      (word_high (v.reg A0), (steps_high, (decimal_high n, tt))) (halted_at (v.reg A0) n (words A0) small)
  end_back (is_running e) =
      let t = pc_text (v.reg Pc) in
      let is = one_field (codes "running") (codes " ") t (codes "steps") (decimal n) (codes "\n") in
      read_by text (codes "running") (t ∷ codes "steps" ∷ decimal n ∷ []) End
      (append_cancel_right _ _ (codes "\n") (e ∙ sym is)) (record { all = refl })
      (pc_high (v.reg Pc), (steps_high, (decimal_high n, tt))) (running_at (v.reg Pc) n (words Pc) small)
  end_back (is_failed f e) =
      let t = pc_text (v.reg Pc) in
      let c = cause_text f in
      let is = two_fields (codes "failed") (codes " ") t c (codes "steps") (decimal n) (codes "\n") in
      read_by text (codes "failed") (t ∷ c ∷ codes "steps" ∷ decimal n ∷ []) End
      (append_cancel_right _ _ (codes "\n") (e ∙ sym is)) (record { all = refl })
      (pc_high (v.reg Pc), (cause_high f, (steps_high, (decimal_high n, tt))))
      (failed_at (v.reg Pc) f n (words Pc) small)

pub end_text_read : (text : List ℕ) → EndIsSpelled text → line_in text ≡ Some End
end_text_read text s = end_back text s.view s.count s.words s.small s.is
