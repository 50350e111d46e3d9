-- What is drawn, and what is told in its place.
use Rattle.std.proofs.Common.{◌≡◌, ℕ, true, false, List, Result, Ok, Err, refl, sym, ap, ◌∙◌}
use Rattle.run_audit.specs.declared.fault.AuditFault.{AuditFault}
use Rattle.run_audit.specs.declared.fault.AuditFault.TheVariants.{Form, Width, Overlap, Unopened, Mismatch}
use Rattle.run_audit.specs.declared.fault.AuditFault.TheVariants.{NoMemory}
use Rattle.run_audit.specs.Audit.{AnswersDue, audited}
use Rattle.run_picture.specs.declared.fault.DrawFault.{DrawFault}
use Rattle.run_picture.specs.declared.fault.DrawFault.TheVariants.{TooLong, Audit}
use Rattle.run_picture.specs.Picture.{Draws, is_too_long, drawn_if, drawn, picture}

pub too_long : (text : List ℕ) → is_too_long text ≡ true → drawn text ≡ Err TooLong
unfolding drawn
too_long text h = rw h refl

if_short : (text : List ℕ) → is_too_long text ≡ false → drawn text ≡ drawn_if (audited text) text
unfolding drawn
if_short text h = rw h refl

fault_is : (text : List ℕ) (e : AuditFault) → is_too_long text ≡ false → audited text ≡ Err e
    → drawn text ≡ Err (Audit e)
fault_is text e h k = if_short text h ∙ ap (λ r. drawn_if r text) k

pub spoiled : {A : Type 0} (view : A → List ℕ) (text : List ℕ) (e : AuditFault) → is_too_long text ≡ false
    → (let r : Result (Unit {0}) AuditFault = Err e in AnswersDue r (audited text))
    → (let r : Result A DrawFault = Err (Audit e) in Draws view r (drawn text))
spoiled view text (Form n) h k = fault_is text (Form n) h k
spoiled view text (Width n) h k = fault_is text (Width n) h k
spoiled view text (Overlap n) h k = fault_is text (Overlap n) h k
spoiled view text (Unopened n) h k = fault_is text (Unopened n) h k
spoiled view text (Mismatch n) h k = fault_is text (Mismatch n) h k
spoiled view text NoMemory h k = tt

pub drawn_is : (text items : List ℕ) → is_too_long text ≡ false → audited text ≡ Ok tt → items ≡ picture text
    → drawn text ≡ Ok items
drawn_is text items h k is = if_short text h ∙ ap (λ r. drawn_if r text) k ∙ ap Ok (sym is)
