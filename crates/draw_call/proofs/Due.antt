-- Why what is due is due, and the files that stay.
use Rattle.std.proofs.Common.{◌≡◌, List, ℕ, Bool, true, false, Option, Some, None, refl, ap, subst, inl, inr}
use Rattle.std.specs.Prelude.{Result, Ok, Err, if◌then◌else◌}
use Rattle.outside_io.specs.FilesSeen.{FilesSeen}
use Rattle.run_audit.specs.declared.fault.AuditFault.{AuditFault}
use Rattle.run_audit.specs.Audit.{audited}
use Rattle.run_audit.specs.Laws.{TracesAreFound, FaultsAreFound}
use Rattle.run_picture.specs.declared.fault.DrawFault.TheVariants as fault
use Rattle.run_picture.specs.Picture.{drawn, drawn_if, is_too_long}
use Rattle.command_words.specs.Plans.{whole, too_long, unread, Comes}
use Rattle.command_words.specs.Answers.{answer, nothing, with_files, GivesAnswer, StayBut}
use Rattle.command_words.proofs.Offers.{comes_contents, ends_as, stay_but}
use Rattle.draw_call.specs.declared.words.DrawCall.{DrawCall}
use Rattle.draw_call.specs.declared.refusal.DrawRefusal.{DrawRefusal}
use Rattle.draw_call.specs.declared.refusal.DrawRefusal.TheVariants.{Usage, ReadFault, TooLong, Audit}
use Rattle.draw_call.specs.declared.status.DrawStatus.{DrawStatus}
use Rattle.draw_call.specs.declared.status.DrawStatus.TheVariants.{WriteFault}
use Rattle.draw_call.specs.Answers.{picture_plan, plan_in, answer_to, out_of, stk_draw, CallSeen}
use Rattle.draw_call.specs.Answers.{DrawAnswers, IsDue, Cause, StayAt}

module _ (traces : TracesAreFound) (faults : FaultsAreFound) where
  is_due : (asked : Option DrawCall) (old new : FilesSeen) (due : Result (List ℕ) DrawRefusal)
      → Comes (plan_in asked) old due new → IsDue asked old due new
  unfolding drawn
  is_due None old new due h = h
  is_due (Some c) old new due (too_long t e) = rw e (inl t)
  is_due (Some c) old new due (unread f e) = rw e f
  is_due (Some c) old new due (whole text mid w h) = by (is_too_long text) (audited text) refl refl h
    where
      by : (b : Bool) (r : Result (Unit {0}) AuditFault) → is_too_long text ≡ b → audited text ≡ r
          → Comes (picture_plan (if b then Err fault.TooLong else drawn_if r text)) mid due new
          → IsDue (Some c) old due new
      by true r l a h = rw (h.0, h.1) (inr (text, w, l))
      by false (Ok u) l a h = rw (h.0, h.1) (text, w, (l, (traces text).1 a, refl))
      by false (Err f) l a h = rw (h.0, h.1) (text, w, (l, (faults text f).1 a))

  pub caused : (asked : Option DrawCall) (old : CallSeen) (status : DrawStatus) (new : CallSeen)
      → DrawAnswers asked old status new → Cause asked old status new
  caused asked old status new (nothing n) = inl n
  caused asked old status new (answer due a seen c x g) =
      inr (
        due,
        seen,
        is_due asked old.files seen due c,
        subst (λ b. GivesAnswer (stk_draw (out_of asked)) (with_files old seen) b status new) x g,
      )

  -- ---- files that stay

  due_stays : (asked : Option DrawCall) (old seen new : FilesSeen) (due : Result (List ℕ) DrawRefusal)
      → IsDue asked old due seen → StayBut (answer_to (out_of asked) due).file old new
      → StayAt asked old (answer_to (out_of asked) due).status new × StayAt asked old WriteFault new
  due_stays None old seen new (Ok svg) h g = absurd (let e = h.0 in cc)
  due_stays (Some c) old seen new (Ok svg) h g = (g, inr g)
  due_stays asked old seen new (Err Usage) h g = (g, inl g)
  due_stays asked old seen new (Err ReadFault) h g = (g, inl g)
  due_stays asked old seen new (Err TooLong) h g = (g, inl g)
  due_stays asked old seen new (Err (Audit f)) h g = (g, inl g)

  pub others_stay : (asked : Option DrawCall) (old : CallSeen) (status : DrawStatus) (new : CallSeen)
      → DrawAnswers asked old status new → StayAt asked old.files status new.files
  others_stay asked old status new (nothing n) = rw n.status_is (ap (λ (s : FilesSeen). s.contents) n.quiet)
  others_stay asked old status new (answer due a seen c x g) =
      let p = stk_draw (out_of asked) in
      let b = answer_to (out_of asked) due in
      let given : GivesAnswer p (with_files old seen) b status new =
      subst (λ d. GivesAnswer p (with_files old seen) d status new) x g in
      let stays = due_stays asked old.files seen new.files due (is_due asked old.files seen due c)
      (stay_but p old seen b status new (comes_contents (plan_in asked) old.files seen due c) given) in
      elim (ends_as p (with_files old seen) b status new given)
      as (λ _. StayAt asked old.files status new.files) [
        | inl e ↦ rw e stays.0
        | inr e ↦ rw e stays.1
      ]
