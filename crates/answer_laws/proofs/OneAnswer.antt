-- The words and the bytes of the files determine the answer.
use Rattle.std.proofs.Common.{◌≡◌, ℕ, ◌<◌, ◌≤◌, ◌⊎◌, List, length, Option, Some, sym, ap, subst, ◌∙◌}
use Rattle.std.proofs.Common.{arith, inl, inr}
use Rattle.std.specs.Prelude.{Result, Ok, Err}
use Rattle.command_words.specs.declared.command.Command.{Command}
use Rattle.authority_report.specs.One.{TextsAreOne}
use Rattle.authority_report.specs.Text.{IsReachText}
use Rattle.debug_tool.specs.Replies.{debug_text}
use Rattle.linked_starts.specs.Standing.{placed}
use Rattle.linked_starts.specs.Started.{StartSeen}
use Rattle.overlay_machine.specs.Seen.{OverlaySeen, IsOverlayOf}
use Rattle.file_plans.specs.declared.TheConstants.{LONGEST_FILE}
use Rattle.file_plans.specs.declared.refusal.Refusal.{Refusal}
use Rattle.file_plans.specs.declared.refusal.Refusal.TheVariants as refusal
use Rattle.file_plans.specs.Plans.{Plan, Reads, Ends, Made}
use Rattle.ready_tasks.specs.Commands.{Task, Run, Trace, Reach, Debug, Put, Write, Tell, plan_in}
use Rattle.command_words.specs.Plans.{Settles}
use Rattle.command_words.specs.Answers.{IsWritten}
use Rattle.lcm_cli.specs.Answers.{Answer, IsAnswerOf, writes, ran, ran_overlay, stk}
use Rattle.refusal_lines.specs.declared.status.Status.TheVariants.{Done}
use Rattle.answer_laws.proofs.OneStart.{one_start}
use Rattle.answer_laws.proofs.OneOverlay.{one_overlay}

-- ---- files settle one due

one_read : (held : List ℕ → Option (List ℕ)) (name b d : List ℕ) → held name ≡ Some b → held name ≡ Some d → b
    ≡ d
one_read held name b d h k = let e : Some b ≡ Some d = sym h ∙ k in cc

-- what is due to the bytes of a file
abbrev AtBytes : {A : Type 0} → (List ℕ → Option (List ℕ)) → ℕ → (List ℕ → Plan A) → Result A Refusal → List ℕ
    → Type 0
AtBytes held index next due b = ((length b ≤ LONGEST_FILE) × Settles held (next b) due)
    ⊎ ((LONGEST_FILE < length b) × (due ≡ Err (refusal.TooLong index)))

at_same : {A : Type 0} (held : List ℕ → Option (List ℕ)) (index : ℕ) (next : List ℕ → Plan A)
    (due last : Result A Refusal) → ((x : List ℕ) → Settles held (next x) due → Settles held (next x) last
    → due ≡ last)
    → (b : List ℕ) → AtBytes held index next due b → AtBytes held index next last b → due ≡ last
at_same held index next due last f b (inl u) (inl v) = f b u.1 v.1
at_same held index next due last f b (inl u) (inr v) =
    absurd (let n = u.0 in let m = v.0 in omega (arith, n, m))
at_same held index next due last f b (inr u) (inl v) =
    absurd (let n = u.0 in let m = v.0 in omega (arith, n, m))
at_same held index next due last f b (inr u) (inr v) = u.1 ∙ sym v.1

at_bytes : {A : Type 0} (held : List ℕ → Option (List ℕ)) (index : ℕ) (next : List ℕ → Plan A)
    (due last : Result A Refusal) → ((x : List ℕ) → Settles held (next x) due → Settles held (next x) last
    → due ≡ last)
    → (b d : List ℕ) → b ≡ d → AtBytes held index next due b → AtBytes held index next last d → due ≡ last
at_bytes held index next due last f b d e h k =
    at_same held index next due last f d (subst (AtBytes held index next due) e h) k

one_due : {A : Type 0} (held : List ℕ → Option (List ℕ)) (plan : Plan A) (due last : Result A Refusal)
    → Settles held plan due → Settles held plan last → due ≡ last
one_due held (Made x) due last h k = h ∙ sym k
one_due held (Ends why) due last h k = h ∙ sym k
one_due held (Reads name index next) due last (b, e, h) (d, f, k) =
    at_bytes held index next due last (λ x. one_due held (next x) due last) b d
    (one_read held name b d e f) h k

-- ---- and so one answer

one_of : TextsAreOne → (due : Result Task Refusal) (a b : Answer) → IsAnswerOf due a
    → IsAnswerOf due b → a ≡ b
one_of one (Err why) a b h k = h ∙ sym k
one_of one (Ok (Put name c)) a b h k = h.1 ∙ sym k.1
one_of one (Ok (Write text)) a b h k = h ∙ sym k
one_of one (Ok (Tell subject fuel)) a b h k = h ∙ sym k
one_of one (Ok (Run i steps telling)) a b h k =
    let e = one_start (placed i.parts i.stack) i.stack h.0 k.0 h.1.rules h.1.starts k.1.starts in
    h.2 ∙ ap (λ (m : StartSeen). ran m steps telling) e ∙ sym k.2
one_of one (Ok (Trace i steps)) a b h k =
    let e = one_start (placed i.parts i.stack) i.stack h.0 k.0 h.2.rules h.2.starts k.2.starts in
    h.4 ∙ ap (λ (o : OverlaySeen). ran_overlay o steps)
    (one_overlay k.0 h.1 k.1 (subst (λ m. IsOverlayOf m h.1) e h.3) k.3) ∙ sym k.4
one_of one (Ok (Debug i script)) a b h k =
    let e : h.0 ≡ k.0 = one_start (placed i.parts i.stack) i.stack h.0 k.0 h.1.rules h.1.starts k.1.starts in
    h.2 ∙ ap (λ (m : StartSeen). writes Done (debug_text m.state script)) e ∙ sym k.2
one_of one (Ok (Reach i)) a b h k =
    let e : h.0 ≡ k.0 = one_start (placed i.parts i.stack) i.stack h.0 k.0 h.2.rules h.2.starts k.2.starts in
    h.4 ∙ ap (writes Done) (one k.0 h.1 k.1 (subst (λ s. IsReachText s h.1) e h.3) k.3) ∙ sym k.4

pub one_answer : TextsAreOne → (asked : Option Command) (held : List ℕ → Option (List ℕ)) (a b : Answer)
    → IsWritten stk held (plan_in asked) a → IsWritten stk held (plan_in asked) b → a ≡ b
one_answer one asked held a b h k =
    one_of one k.0 a b (subst (λ d. IsAnswerOf d a) (one_due held (plan_in asked) h.0 k.0 h.1 k.1) h.2) k.2
