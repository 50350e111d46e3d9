-- A text that is audited: why its plan ends, and what comes of it.
use Rattle.std.proofs.Common.{◌≡◌, ◌≢◌, ℕ, List, [], ◌∷◌, Option, Some, refl, sym, ap, subst, ◌∙◌}
use Rattle.std.specs.Prelude.{Result, Ok, Err}
use Rattle.outside_io.specs.FilesSeen.{FilesSeen}
use Rattle.outside_io.specs.Whole.{GivesWhole as ComesWhole}
use Rattle.command_words.specs.declared.command.Command.{Command}
use Rattle.command_words.specs.declared.command.Command.TheVariants as asked
use Rattle.run_audit.specs.declared.fault.AuditFault.{AuditFault}
use Rattle.run_audit.specs.Audit.{audited}
use Rattle.run_audit.proofs.Offers.{answered_trace, answered_fault}
use Rattle.file_plans.specs.declared.TheConstants.{LONGEST_FILE}
use Rattle.file_plans.specs.declared.refusal.Refusal.{Refusal}
use Rattle.file_plans.specs.declared.refusal.Refusal.TheVariants as refusal
use Rattle.file_plans.specs.Plans.{Plan, Made, ◌>>=◌, unless, whole as read, too_long, unread, Comes}
use Rattle.refusal_lines.specs.declared.status.Status.{Status}
use Rattle.refusal_lines.specs.declared.status.Status.TheVariants as status
use Rattle.ready_tasks.specs.Audits.{audit_at}
use Rattle.ready_tasks.specs.Commands.{Task, Write, ok_text, plan_of, plan_in}
use Rattle.command_words.specs.Answers.{with_files, AnswersWhole, whole, unput, unwritten, Answers, answer}
use Rattle.command_words.specs.Answers.{nothing}
use Rattle.lcm_cli.specs.Answers.{Answer, Outside, writes, refused, IsAnswerOf, read_in, stk}
use Rattle.lcm_cli.specs.Bytes.{bytes_of}
use Rattle.lcm_cli.specs.Causes.{AuditTold}
use Rattle.lcm_cli.proofs.Ends.{Never, never_reads, never_unless}
use Rattle.lcm_cli.proofs.Reasons.{Reasoned, ByBytes, reason_by, reads_reasoned}

-- ---- why it ends

audit_by : (name : List ℕ)
    → ByBytes (Some (asked.Audit name)) name 0 (λ text. unless refusal.Audit (audited text))
audit_by name =
    reason_by (Some (asked.Audit name)) refusal.Audit audited name 0
    (λ old mid text f w e.
    (name, refl, ([], old, (refl, refl, refl), text, refl, w, answered_fault text f e)))

pub audit_reasoned : (name : List ℕ) → Reasoned (Some (asked.Audit name)) (audit_at name)
unfolding audit_at
audit_reasoned name =
    reads_reasoned (Some (asked.Audit name)) name 0 (λ text. unless refusal.Audit (audited text))
    (audit_by name)

-- by its own file alone
pub never_audit : (why : Refusal) → refusal.TooLong 0 ≢ why → refusal.ReadFault ≢ why
    → ((f : AuditFault) → refusal.Audit f ≢ why) → (name : List ℕ) → Never (audit_at name) why
unfolding audit_at
never_audit why long fault differ name =
    never_reads name 0 (λ text. unless refusal.Audit (audited text)) why long fault
    (λ text. never_unless refusal.Audit (audited text) why differ)

-- ---- what comes of it

-- what is due, by the file, whose text is all that was read
data AuditDue (name : List ℕ) (taken : List (List ℕ)) (old : FilesSeen) (due : Result Task Refusal)
    (new : FilesSeen) : Type 0 where
  passes : (text : List ℕ) → taken ≡ text ∷ [] → ComesWhole old name LONGEST_FILE text new
      → audited text ≡ Ok tt → due ≡ Ok (Write ok_text) → AuditDue name taken old due new
  fails : (text : List ℕ) (f : AuditFault) → taken ≡ text ∷ [] → ComesWhole old name LONGEST_FILE text new
      → audited text ≡ Err f → due ≡ Err (refusal.Audit f) → AuditDue name taken old due new
  long : due ≡ Err (refusal.TooLong 0) → AuditDue name taken old due new
  none : due ≡ Err refusal.ReadFault → AuditDue name taken old due new

module _ (name : List ℕ) (old : FilesSeen) (due : Result Task Refusal) (new : FilesSeen) where
  abbrev Behind : Result (Unit {0}) AuditFault → Plan Task
  Behind r = unless refusal.Audit r >>= (λ u. Made (Write ok_text))

  due_by : (text : List ℕ) (mid : FilesSeen) → ComesWhole old name LONGEST_FILE text mid
      → (r : Result (Unit {0}) AuditFault) → audited text ≡ r
      → (h : Comes (Behind r) mid due new)
      → AuditDue name (text ∷ bytes_of (Behind r) mid due new h) old due new
  due_by text mid w (Ok u) e h =
      passes text refl (subst (λ z. ComesWhole old name LONGEST_FILE text z) (sym h.1) w) e h.0
  due_by text mid w (Err f) e h =
      fails text f refl (subst (λ z. ComesWhole old name LONGEST_FILE text z) (sym h.1) w) e h.0

  audit_due : (c : Comes (plan_of (asked.Audit name)) old due new)
      → AuditDue name (bytes_of (plan_of (asked.Audit name)) old due new c) old due new
  unfolding audit_at
  audit_due (read text mid w h) = due_by text mid w (audited text) refl h
  audit_due (too_long k e) = long e
  audit_due (unread k e) = none e

-- ---- what was told

abbrev status_of : Answer → Status
status_of a = a.status

-- the answer to what is due is given whole
module _ (name : List ℕ) (taken : List (List ℕ)) (old : Outside) (ended : Status) (new : Outside)
    (a : Answer) (seen : FilesSeen) (g : AnswersWhole (with_files old seen) a ended new) where
  -- no other status is that of this answer
  other : {T : Type 0} (b : Answer) (s : Status) → a ≡ b → b.status ≢ s → ended ≡ s → T
  other b s e differ is = absurd (differ (ap status_of (sym e) ∙ sym g.status_is ∙ is))

  given : (b : Answer) → a ≡ b → AnswersWhole (with_files old seen) b ended new
  given b e = subst (λ x. AnswersWhole (with_files old seen) x ended new) e g

  told_by : (due : Result Task Refusal) → AuditDue name taken old.files due seen → IsAnswerOf due a
      → AuditTold name taken old ended new
  told_by _ (passes text q w e d) x =
      let y : a ≡ writes status.Done ok_text = subst (λ q. IsAnswerOf q a) d x in
      let h = given (writes status.Done ok_text) y in (
        λ is. record {
          text = text;
          read_is = q;
          came = subst (λ z. ComesWhole old.files name LONGEST_FILE text z) (sym h.put) w;
          is_trace = answered_trace text e;
          written = h.written;
          kept_is = h.kept_is;
        },
        other (writes status.Done ok_text) status.AuditRefused y (λ k. cc),
      )
  told_by _ (fails text f q w e d) x =
      let y : a ≡ refused (refusal.Audit f) = subst (λ q. IsAnswerOf q a) d x in
      let h = given (refused (refusal.Audit f)) y in (
        other (refused (refusal.Audit f)) status.Done y (λ k. cc),
        λ is. record {
          text = text;
          read_is = q;
          came = subst (λ z. ComesWhole old.files name LONGEST_FILE text z) (sym h.put) w;
          fault = f;
          is_fault = answered_fault text f e;
          written = h.written;
          kept_is = h.kept_is;
        },
      )
  told_by _ (long d) x =
      let y : a ≡ refused (refusal.TooLong 0) = subst (λ q. IsAnswerOf q a) d x in (
        other (refused (refusal.TooLong 0)) status.Done y (λ k. cc),
        other (refused (refusal.TooLong 0)) status.AuditRefused y (λ k. cc),
      )
  told_by _ (none d) x =
      let y : a ≡ refused refusal.ReadFault = subst (λ q. IsAnswerOf q a) d x in (
        other (refused refusal.ReadFault) status.Done y (λ k. cc),
        other (refused refusal.ReadFault) status.AuditRefused y (λ k. cc),
      )

-- neither status is this one
neither : (name : List ℕ) (taken : List (List ℕ)) (old : Outside) (ended s : Status) (new : Outside)
    → ended ≡ s → s ≢ status.Done
    → s ≢ status.AuditRefused → AuditTold name taken old ended new
neither name taken old ended s new e d f = (λ is. absurd (d (sym e ∙ is)), λ is. absurd (f (sym e ∙ is)))

audit_told_by : (name : List ℕ) (old : Outside) (ended : Status) (new : Outside)
    (a : Answers stk (plan_of (asked.Audit name)) old ended new) → AuditTold name (read_in a) old ended new
audit_told_by name old ended new (nothing n) =
    neither name [] old ended status.NoMemory new n.status_is (λ k. cc) (λ k. cc)
audit_told_by name old ended new (answer due a seen c x (whole g)) =
    told_by name (bytes_of (plan_of (asked.Audit name)) old.files due seen c) old ended new a seen g due
    (audit_due name old.files due seen c) x
audit_told_by name old ended new (answer due a seen c x (unput f i w u k s)) =
    neither name (bytes_of (plan_of (asked.Audit name)) old.files due seen c) old ended status.WriteFault new
    s (λ k. cc) (λ k. cc)
audit_told_by name old ended new (answer due a seen c x (unwritten p w k s)) =
    neither name (bytes_of (plan_of (asked.Audit name)) old.files due seen c) old ended status.WriteFault new
    s (λ k. cc) (λ k. cc)

pub audits : (words : Option Command) (old : Outside) (ended : Status) (new : Outside)
    (a : Answers stk (plan_in words) old ended new) (name : List ℕ) → words ≡ Some (asked.Audit name)
    → AuditTold name (read_in a) old ended new
audits words old ended new a name e =
    subst (λ q. (b : Answers stk (plan_in q) old ended new) → AuditTold name (read_in b) old ended new)
    (sym e) (audit_told_by name old ended new) a
