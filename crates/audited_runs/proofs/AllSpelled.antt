-- What an audit reads as a line is the text of a line.
use Rattle.std.proofs.Common.{◌≡◌, ℕ, Bool, true, false, List, [], ◌++◌, Some, refl, sym, ap, ◌∙◌}
use Rattle.std.specs.Prelude.{codes, if◌then◌else◌}
use Rattle.std.specs.Str.{bytes_eq}
use Rattle.std.proofs.lemmas.List.{append_cancel_right}
use Rattle.std.proofs.lemmas.Slice.Eq.{bytes_eq-Decides}
use Rattle.line_fields.specs.Fields.{Reader, field, fields}
use Rattle.audited_runs.proofs.Offers.{spaced, body, line_text_is}
use Rattle.run_audit.specs.declared.line.Line.{Line as AuditLine}
use Rattle.run_audit.specs.declared.line.Line.TheVariants.{Call, Ret, Enter, Pass, Leave, End}
use Rattle.run_audit.specs.Lines.{call, ret, entered, passed, left, halted, failed, running}
use Rattle.run_audit.specs.Lines.{line_named, one_line, line_in}
use Rattle.audited_runs.specs.Spelling.{LineIsSpelled, IsSpelled, LinesAreRead}
use Rattle.audited_runs.proofs.Spelled.{text_read}
use Rattle.line_fields.proofs.Offers.{Fields, goes, whole_is}
use Rattle.audited_runs.proofs.Taken.{field_is, by_fields}
use Rattle.audited_runs.proofs.Spelling.{Spells, call_spelled, ret_spelled, enter_spelled, pass_spelled}
use Rattle.audited_runs.proofs.Spelling.{leave_spelled, spelled}
use Rattle.audited_runs.proofs.EndsSpelled.{halted_spelled, failed_spelled, running_spelled, end_text_read}
use Rattle.audited_runs.proofs.Passing.{no_end}

-- ---- what is a text

line_text_read : (text : List ℕ) (l : AuditLine) → LineIsSpelled text l → line_in text ≡ Some l
line_text_read text l s =
    ap line_in (sym (append_cancel_right (body s.line) text (codes "\n") (sym (line_text_is s.line) ∙ s.is)))
    ∙ text_read s.line s.has_text
    ∙ ap Some s.seen

text_is_read : (text : List ℕ) (l : AuditLine) → IsSpelled text l → line_in text ≡ Some l
text_is_read text (Call t) s = line_text_read text (Call t) s
text_is_read text (Ret t) s = line_text_read text (Ret t) s
text_is_read text Enter s = line_text_read text Enter s
text_is_read text Pass s = line_text_read text Pass s
text_is_read text Leave s = line_text_read text Leave s
text_is_read text End s = end_text_read text s

-- ---- what is read

-- by one name and others
named : {P : Type 0} (this name : List ℕ) (r others : Reader AuditLine) (fs : Fields)
    (y : AuditLine × Fields) → (if bytes_eq this name then r else others) fs ≡ Some y
    → (name ≡ this → r fs ≡ Some y → P) → (others fs ≡ Some y → P) → P
named {P = P} this name r others fs y h found other = by_test (bytes_eq this name) refl h
  where
    by_test : (b : Bool) → bytes_eq this name ≡ b → (if b then r else others) fs ≡ Some y → P
    by_test true e k = found (sym ((bytes_eq-Decides this name).0 e)) k
    by_test false e k = other k

-- of the event that a line tells, no line is an end line
event : (text : List ℕ) (l : AuditLine) → LineIsSpelled text l → IsSpelled text l
event text (Call t) s = s
event text (Ret t) s = s
event text Enter s = s
event text Pass s = s
event text Leave s = s
event text End s = absurd (let one = no_end s.line in let other = s.seen in cc)

module _ (text name : List ℕ) (fs : Fields) (l : AuditLine) (is : text ≡ name ++ spaced fs) where
  under : (this : List ℕ) → name ≡ this → text ≡ this ++ spaced fs
  under this e = is ∙ ap (λ n. n ++ spaced fs) e

  by_event : (this : List ℕ) → name ≡ this → Spells this fs l → IsSpelled text l
  by_event this e s = event text l (spelled text this fs l (under this e) s)

  by_name : line_named name fs ≡ Some (l, []) → IsSpelled text l
  unfolding line_named
  by_name h =
      named (codes "call") name call _ fs (l, []) h (λ e k. by_event _ e (call_spelled fs l k)) (λ h1.
      named (codes "ret") name ret _ fs (l, []) h1 (λ e k. by_event _ e (ret_spelled fs l k)) (λ h2.
      named (codes "enter") name entered _ fs (l, []) h2 (λ e k. by_event _ e (enter_spelled fs l k)) (λ h3.
      named (codes "pass") name passed _ fs (l, []) h3 (λ e k. by_event _ e (pass_spelled fs l k)) (λ h4.
      named (codes "leave") name left _ fs (l, []) h4 (λ e k. by_event _ e (leave_spelled fs l k)) (λ h5.
      named (codes "halted") name halted _ fs (l, []) h5
      (λ e k. halted_spelled text fs l (under _ e) k) (λ h6.
      named (codes "failed") name failed _ fs (l, []) h6
      (λ e k. failed_spelled text fs l (under _ e) k) (λ h7.
      named (codes "running") name running _ fs (l, []) h7
      (λ e k. running_spelled text fs l (under _ e) k) (λ h8. absurd cc))))))))

read_is_text : (text : List ℕ) (l : AuditLine) → line_in text ≡ Some l → IsSpelled text l
unfolding line_in one_line
read_is_text text l h =
    let g = goes (field (fields text)) line_named (l, []) (whole_is _ l h) in
    let is = by_fields text g.value g.rest (field_is (fields text) g.value g.rest g.first) in
    by_name text g.value g.rest l is g.next

pub lines_are_read : LinesAreRead
lines_are_read text l = (read_is_text text l, text_is_read text l)
