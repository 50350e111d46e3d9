-- What an audit goes by: the calls that are open, line by line.
use Rattle.std.specs.Prelude.{◌≡◌, ℕ, ◌+◌, Bool, true, false, not, List, [], ◌∷◌, Option, Some, None}
use Rattle.std.specs.Prelude.{Result, Ok, Err, if◌then◌else◌}
use Rattle.run_audit.specs.declared.fault.AuditFault.{AuditFault}
use Rattle.run_audit.specs.declared.fault.AuditFault.TheVariants.{Form, Width, Overlap, Unopened, Mismatch}
use Rattle.run_audit.specs.declared.fault.AuditFault.TheVariants.{NoMemory}
use Rattle.run_audit.specs.declared.line.Line.{Line}
use Rattle.run_audit.specs.declared.line.Line.TheVariants.{Call, Ret, Enter, Pass, Leave, End}
use Rattle.run_audit.specs.Told.{ToldSeen, is_wide, is_below, same_told}
use Rattle.line_fields.specs.Fields.{lines}
use Rattle.run_audit.specs.Lines.{line_in}

-- the calls that are open, newest first, and whether the last line was an enter line
pub record OpenSeen : Type 0 where
  pub calls : List ToldSeen
  pub entered : Bool

abbrev pub nothing_open : OpenSeen
nothing_open = record { calls = []; entered = false }

abbrev pub below_newest : ToldSeen → List ToldSeen → Bool
below_newest t [] = true
below_newest t (newest ∷ older) = is_below t newest

abbrev pub opened : OpenSeen → ℕ → ToldSeen → Result OpenSeen AuditFault
opened s n t =
    if not (is_wide t) then Err (Width n)
    else if not (below_newest t s.calls) then Err (Overlap n)
    else Ok (record { calls = t ∷ s.calls; entered = false })

abbrev pub closed_by : List ToldSeen → ℕ → ToldSeen → Result OpenSeen AuditFault
closed_by [] n t = Err (Unopened n)
closed_by (newest ∷ older) n t =
    if same_told newest t then Ok (record { calls = older; entered = false }) else Err (Mismatch n)

abbrev pub closed : OpenSeen → ℕ → ToldSeen → Result OpenSeen AuditFault
closed s n t = if is_wide t then closed_by s.calls n t else Err (Width n)

abbrev pub passes : OpenSeen → ℕ → Result OpenSeen AuditFault
passes s n = if s.entered then Ok (record { calls = s.calls; entered = false }) else Err (Form n)

-- after a line of a number, or its fault
unfoldable pub stepped : OpenSeen → ℕ → Line → Result OpenSeen AuditFault
stepped s n (Call t) = opened s n t
stepped s n (Ret t) = closed s n t
stepped s n Enter = Ok (record { calls = s.calls; entered = true })
stepped s n Pass = passes s n
stepped s n Leave = Ok (record { calls = s.calls; entered = false })
stepped s n End = Ok (record { calls = s.calls; entered = false })

-- nothing stands after the newline of the end line
abbrev pub is_ended : List (List ℕ) → Bool
is_ended ([] ∷ []) = true
is_ended _ = false

abbrev pub at_end : ℕ → List (List ℕ) → Result (Unit {0}) AuditFault
at_end n rest = if is_ended rest then Ok tt else Err (Form n)

abbrev pub audit_on : {A : Type 0} → Result OpenSeen AuditFault → (OpenSeen → Result A AuditFault)
    → Result A AuditFault
audit_on (Ok s) f = f s
audit_on (Err e) f = Err e

-- by what a line is, what stands after it, and what comes of that
abbrev pub judged : OpenSeen → ℕ → Option Line → List (List ℕ)
    → (OpenSeen → Result (Unit {0}) AuditFault) → Result (Unit {0}) AuditFault
judged s n None rest f = Err (Form n)
judged s n (Some End) rest f = at_end (n + 1) rest
judged s n (Some l) rest f = audit_on (stepped s n l) f

-- of lines from one of a number on; each line but what stands after the last newline has ended
unfoldable pub audited_from : OpenSeen → ℕ → List (List ℕ) → Result (Unit {0}) AuditFault
audited_from s n [] = Err (Form n)
audited_from s n (line ∷ []) = Err (Form n)
audited_from s n (line ∷ next ∷ lines) =
    judged s n (line_in line) (next ∷ lines) (λ t. audited_from t (n + 1) (next ∷ lines))

unfoldable pub audited : List ℕ → Result (Unit {0}) AuditFault
audited text = audited_from nothing_open 1 (lines text)

-- the answer is the one that is due, unless memory was refused
abbrev pub AnswersDue : {A : Type 0} → Result A AuditFault → Result (Unit {0}) AuditFault → Type 0
AnswersDue (Ok x) due = due ≡ Ok tt
AnswersDue (Err NoMemory) due = Unit {0}
AnswersDue (Err e) due = due ≡ Err e

abbrev pub OpensDue : {A : Type 0} → Result A AuditFault → OpenSeen → Result OpenSeen AuditFault → Type 0
OpensDue (Ok x) new due = due ≡ Ok new
OpensDue (Err NoMemory) new due = Unit {0}
OpensDue (Err e) new due = due ≡ Err e

-- ---- lines as values

-- after lines, the first of which has this number, or their first fault
abbrev pub followed : OpenSeen → ℕ → List Line → Result OpenSeen AuditFault
followed s n [] = Ok s
followed s n (l ∷ ls) = audit_on (stepped s n l) (λ t. followed t (n + 1) ls)
