-- The end line of a run is read by an audit as one.
use Rattle.std.proofs.Common.{◌≡◌, ℕ, ◌+◌, ◌<◌, ◌^◌, Bool, true, false, List, [], ◌∷◌, ◌++◌, Some, refl, ap}
use Rattle.std.proofs.Common.{arith, append_assoc, append-nil}
use Rattle.std.specs.Prelude.{codes, decimal, is_some, ◌||◌}
use Rattle.cap_words.specs.declared.Word.{Word}
use Rattle.cap_words.specs.declared.Word.TheVariants.{Int, Mem, Seal, Sealed}
use Rattle.cap_words.specs.Text.{word_text_of}
use Rattle.cap_words.specs.WordBytes.{WordFits}
use Rattle.lcm_isa.specs.declared.Reg.TheVariants.{Pc, A0}
use Rattle.lcm_machine.specs.declared.FailCause.{FailCause}
use Rattle.lcm_machine.specs.declared.FailCause.TheVariants.{F1, F2, F3, F4, F5, F6, F7, F8, F9, F10}
use Rattle.lcm_machine.specs.declared.FailCause.TheVariants.{F11, F12, F13, F14}
use Rattle.lcm_machine.specs.declared.Step.{Step}
use Rattle.lcm_machine.specs.declared.Step.TheVariants.{Went, Halted, Failed}
use Rattle.lcm_machine.specs.Places.{reg}
use Rattle.lcm_machine.specs.Fitting.{MapsFit}
use Rattle.lcm_machine.specs.Run.{Run, plain}
use Rattle.lcm_machine.proofs.Offers.{plain_count}
use Rattle.run_lines.specs.EndLines.{cause_text, pc_text}
use Rattle.line_fields.specs.Cuts.{behind}
use Rattle.line_fields.specs.Numbers.{number_in}
use Rattle.line_fields.specs.Words.{HasText}
use Rattle.line_fields.specs.Fields.{tested, meant}
use Rattle.line_fields.proofs.Offers.{number_again, integer_again, fits_has_text}
use Rattle.audited_runs.proofs.Offers.{IsHigh, decimal_high, word_high, cause_high, pc_high, end_body}
use Rattle.run_audit.specs.declared.line.Line.TheVariants.{End}
use Rattle.run_audit.specs.Lines.{is_address, is_cause, line_in, one_line, line_named, halted, failed}
use Rattle.run_audit.specs.Lines.{running, steps}
use Rattle.audited_runs.proofs.Spelled.{word_read, read_by}

-- ---- fields

cause_read : (f : FailCause) → is_cause (cause_text f) ≡ true
unfolding is_cause behind number_in
cause_read F1 = refl
cause_read F2 = refl
cause_read F3 = refl
cause_read F4 = refl
cause_read F5 = refl
cause_read F6 = refl
cause_read F7 = refl
cause_read F8 = refl
cause_read F9 = refl
cause_read F10 = refl
cause_read F11 = refl
cause_read F12 = refl
cause_read F13 = refl
cause_read F14 = refl

or_true : (a b : Bool) → b ≡ true → (a || b) ≡ true
or_true true b h = refl
or_true false b h = h

pc_read : (w : Word) → HasText w → is_address (pc_text w) ≡ true
unfolding is_address
pc_read (Mem c) h = or_true _ _ (ap is_some (integer_again c.addr h.1))
pc_read (Int n) h = refl
pc_read (Seal s) h = refl
pc_read (Sealed n x) h = refl

count_read : (n : ℕ) → n < 2 ^ 64 → number_in 18446744073709551615 (decimal n) ≡ Some n
count_read n h = number_again 18446744073709551615 n (omega (arith, h)) h

-- ---- lines

-- the words of a0 and pc have texts, and the count has 64 bits
pub record EndFits (r : Run) : Type 0 where
  pub a0 : WordFits (reg r.maps.regs A0)
  pub pc : WordFits (reg r.maps.regs Pc)
  pub count : r.count < 2 ^ 64

-- a field and the count; two fields and the count
regroup_one : (c sp w st n : List ℕ) → (c ++ sp) ++ (w ++ (((sp ++ st) ++ sp) ++ n))
    ≡ c ++ (sp ++ (w ++ (sp ++ (st ++ (sp ++ (n ++ []))))))
regroup_one c sp w st n = simp (append_assoc, append-nil)

regroup_two : (c sp w f st n : List ℕ) → (c ++ sp) ++ (w ++ (sp ++ (f ++ (((sp ++ st) ++ sp) ++ n))))
    ≡ c ++ (sp ++ (w ++ (sp ++ (f ++ (sp ++ (st ++ (sp ++ (n ++ []))))))))
regroup_two c sp w f st n = simp (append_assoc, append-nil)

pub steps_high : IsHigh (codes "steps")
steps_high = record { all = refl }

pub halted_at : (w : Word) (n : ℕ) → HasText w → n < 2 ^ 64
    → one_line (codes "halted" ∷ word_text_of w ∷ codes "steps" ∷ decimal n ∷ []) ≡ Some (End, [])
unfolding one_line line_named halted steps tested meant
halted_at w n h lt = let x = word_read w h in let k = count_read n lt in rw (x, k) refl

pub running_at : (w : Word) (n : ℕ) → HasText w → n < 2 ^ 64
    → one_line (codes "running" ∷ pc_text w ∷ codes "steps" ∷ decimal n ∷ []) ≡ Some (End, [])
unfolding one_line line_named running steps tested meant
running_at w n h lt = let x = pc_read w h in let k = count_read n lt in rw (x, k) refl

pub failed_at : (w : Word) (f : FailCause) (n : ℕ) → HasText w → n < 2 ^ 64
    → one_line (codes "failed" ∷ pc_text w ∷ cause_text f ∷ codes "steps" ∷ decimal n ∷ []) ≡ Some (End, [])
unfolding one_line line_named failed steps tested meant
failed_at w f n h lt =
    let x = pc_read w h in let c = cause_read f in let k = count_read n lt in rw (x, c, k) refl

pub end_read : (e : Step) (r : Run) → EndFits r → line_in (end_body e r) ≡ Some End
end_read Went r h =
    let w = reg r.maps.regs Pc in
    read_by _ (codes "running") (pc_text w ∷ codes "steps" ∷ decimal r.count ∷ []) End
    (regroup_one (codes "running") (codes " ") (pc_text w) (codes "steps") (decimal r.count))
    (record { all = refl }) (pc_high w, (steps_high, (decimal_high r.count, tt)))
    (running_at w r.count (fits_has_text w h.pc) h.count)
end_read Halted r h =
    let w = reg r.maps.regs A0 in
    read_by _ (codes "halted") (word_text_of w ∷ codes "steps" ∷ decimal r.count ∷ []) End
    (regroup_one (codes "halted") (codes " ") (word_text_of w) (codes "steps") (decimal r.count))
    (record { all = refl }) (word_high w, (steps_high, (decimal_high r.count, tt)))
    (halted_at w r.count (fits_has_text w h.a0) h.count)
end_read (Failed f at) r h =
    let w = reg r.maps.regs Pc in
    read_by _ (codes "failed") (pc_text w ∷ cause_text f ∷ codes "steps" ∷ decimal r.count ∷ []) End
    (regroup_two (codes "failed") (codes " ") (pc_text w) (cause_text f) (codes "steps") (decimal r.count))
    (record { all = refl }) (pc_high w, (cause_high f, (steps_high, (decimal_high r.count, tt))))
    (failed_at w f r.count (fits_has_text w h.pc) h.count)

pub end_fits : (n : ℕ) (r : Run) → r.count ≡ 0 → n < 2 ^ 64 → MapsFit (plain n r).maps → EndFits (plain n r)
end_fits n r none small h = record {
  a0 = h.0 A0;
  pc = h.0 Pc;
  count = (let c = plain_count n r in omega (arith, c, none, small));
}
