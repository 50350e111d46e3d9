-- An end line is one line, and a feed's reader passes it over.
use Rattle.std.proofs.Common.{◌≡◌, ℕ, Bool, true, false, List, ◌++◌, Some, refl, append_assoc}
use Rattle.std.specs.Prelude.{codes, decimal}
use Rattle.cap_words.specs.declared.Word.{Word}
use Rattle.cap_words.specs.declared.Word.TheVariants.{Int, Mem, Seal, Sealed}
use Rattle.cap_words.specs.Text.{word_text_of}
use Rattle.lcm_isa.specs.declared.Reg.TheVariants.{Pc, A0}
use Rattle.lcm_machine.specs.declared.FailCause.{FailCause}
use Rattle.lcm_machine.specs.declared.FailCause.TheVariants.{F1, F2, F3, F4, F5, F6, F7, F8, F9, F10}
use Rattle.lcm_machine.specs.declared.FailCause.TheVariants.{F11, F12, F13, F14}
use Rattle.lcm_machine.specs.declared.Step.{Step}
use Rattle.lcm_machine.specs.declared.Step.TheVariants.{Went, Halted, Failed}
use Rattle.lcm_machine.specs.Run.{Run, answer}
use Rattle.run_lines.specs.Views.{View, view_of}
use Rattle.run_lines.specs.EndLines.{cause_text, pc_text, halted_text, running_text, failed_text}
use Rattle.run_lines.specs.EndLines.{failed_by_text, line_at, end_line}
use Rattle.line_fields.specs.Cuts.{behind}
use Rattle.line_fields.specs.Lines.{other_line as Other, seen}
use Rattle.audited_runs.proofs.High.{IsHigh, decimal_high, signed_high, word_high, IsOneLine, line_join}
use Rattle.audited_runs.proofs.High.{high_line}

-- the text is this line with its newline, and the line is passed over
pub record PassesOver (line text : List ℕ) : Type 0 where
  pub is : text ≡ line ++ codes "\n"
  pub read : (entry : Bool) → seen entry line ≡ Some Other
  pub one : IsOneLine line

abbrev pub IsPassedOver : List ℕ → Type 0
IsPassedOver text = (line : List ℕ) × PassesOver line text

pub cause_high : (f : FailCause) → IsHigh (cause_text f)
cause_high F1 = record { all = refl }
cause_high F2 = record { all = refl }
cause_high F3 = record { all = refl }
cause_high F4 = record { all = refl }
cause_high F5 = record { all = refl }
cause_high F6 = record { all = refl }
cause_high F7 = record { all = refl }
cause_high F8 = record { all = refl }
cause_high F9 = record { all = refl }
cause_high F10 = record { all = refl }
cause_high F11 = record { all = refl }
cause_high F12 = record { all = refl }
cause_high F13 = record { all = refl }
cause_high F14 = record { all = refl }

pub pc_high : (w : Word) → IsHigh (pc_text w)
pc_high (Mem c) = signed_high c.addr
pc_high (Int n) = record { all = refl }
pc_high (Seal s) = record { all = refl }
pc_high (Sealed n x) = record { all = refl }

regroup : (a b c d nl : List ℕ) → a ++ (b ++ (c ++ (d ++ nl))) ≡ (a ++ (b ++ (c ++ d))) ++ nl
regroup a b c d nl = simp append_assoc

regroup_two : (a b s f c d nl : List ℕ)
    → a ++ (b ++ (s ++ (f ++ (c ++ (d ++ nl))))) ≡ (a ++ (b ++ (s ++ (f ++ (c ++ d))))) ++ nl
regroup_two a b s f c d nl = simp append_assoc

-- its name, a field and the count
field_line : {name t : List ℕ} → IsOneLine name → IsHigh t → (n : ℕ)
    → IsOneLine (name ++ (t ++ (codes " steps " ++ decimal n)))
field_line h k n =
    let steps : IsOneLine (codes " steps ") = record { free = refl } in
    line_join h (line_join (high_line k) (line_join steps (high_line (decimal_high n))))

running_read : (entry : Bool) (rest : List ℕ) → seen entry (codes "running " ++ rest) ≡ Some Other
unfolding seen behind
running_read true rest = refl
running_read false rest = refl

halted_read : (entry : Bool) (rest : List ℕ) → seen entry (codes "halted " ++ rest) ≡ Some Other
unfolding seen behind
halted_read true rest = refl
halted_read false rest = refl

failed_read : (entry : Bool) (rest : List ℕ) → seen entry (codes "failed " ++ rest) ≡ Some Other
unfolding seen behind
failed_read true rest = refl
failed_read false rest = refl

-- ---- end lines, without their newline

abbrev pub halted_body : View → ℕ → List ℕ
halted_body v n = codes "halted " ++ (word_text_of (v.reg A0) ++ (codes " steps " ++ decimal n))

abbrev pub running_body : View → ℕ → List ℕ
running_body v n = codes "running " ++ (pc_text (v.reg Pc) ++ (codes " steps " ++ decimal n))

abbrev pub failed_body : View → ℕ → List ℕ
failed_body v n = codes "failed " ++ (pc_text (v.reg Pc) ++ (codes " steps " ++ decimal n))

abbrev pub failed_by_body : View → FailCause → ℕ → List ℕ
failed_by_body v f n =
    codes "failed " ++ (pc_text (v.reg Pc) ++ (codes " " ++ (cause_text f ++ (codes " steps " ++ decimal n))))

pub halted_is : (v : View) (n : ℕ) → PassesOver (halted_body v n) (halted_text v n)
halted_is v n =
    let t = word_text_of (v.reg A0) in
    record {
      is = regroup (codes "halted ") t (codes " steps ") (decimal n) (codes "\n");
      read = λ entry. halted_read entry (t ++ (codes " steps " ++ decimal n));
      one = field_line {name = codes "halted "} (record { free = refl }) (word_high (v.reg A0)) n;
    }

pub running_is : (v : View) (n : ℕ) → PassesOver (running_body v n) (running_text v n)
running_is v n =
    let t = pc_text (v.reg Pc) in
    record {
      is = regroup (codes "running ") t (codes " steps ") (decimal n) (codes "\n");
      read = λ entry. running_read entry (t ++ (codes " steps " ++ decimal n));
      one = field_line {name = codes "running "} (record { free = refl }) (pc_high (v.reg Pc)) n;
    }

pub failed_is : (v : View) (n : ℕ) → PassesOver (failed_body v n) (failed_text v n)
failed_is v n =
    let t = pc_text (v.reg Pc) in
    record {
      is = regroup (codes "failed ") t (codes " steps ") (decimal n) (codes "\n");
      read = λ entry. failed_read entry (t ++ (codes " steps " ++ decimal n));
      one = field_line {name = codes "failed "} (record { free = refl }) (pc_high (v.reg Pc)) n;
    }

failed_by_is : (v : View) (f : FailCause) (n : ℕ) → PassesOver (failed_by_body v f n) (failed_by_text v f n)
failed_by_is v f n =
    let t = pc_text (v.reg Pc) in
    let c = cause_text f in
    let blank : IsOneLine (codes " ") = record { free = refl } in
    let name : IsOneLine (codes "failed ") = record { free = refl } in
    record {
      is = regroup_two (codes "failed ") t (codes " ") c (codes " steps ") (decimal n) (codes "\n");
      read = λ entry. failed_read entry (t ++ (codes " " ++ (c ++ (codes " steps " ++ decimal n))));
      one = line_join name (line_join (high_line (pc_high (v.reg Pc))) (field_line blank (cause_high f) n));
    }

-- of a plain run
abbrev pub end_body : Step → Run → List ℕ
end_body Went r = running_body (view_of r.maps) r.count
end_body Halted r = halted_body (view_of r.maps) r.count
end_body (Failed f at) r = failed_by_body (view_of r.maps) f r.count

by_answer : (e : Step) (r : Run) → PassesOver (end_body e r) (line_at e r)
by_answer Went r = running_is (view_of r.maps) r.count
by_answer Halted r = halted_is (view_of r.maps) r.count
by_answer (Failed f at) r = failed_by_is (view_of r.maps) f r.count

pub end_is : (r : Run) → PassesOver (end_body (answer r) r) (end_line r)
end_is r = by_answer (answer r) r
