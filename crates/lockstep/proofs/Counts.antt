-- The numbers of calls along a run, and that of a call that goes out.
use Rattle.std.proofs.Common.{◌≡◌, ℕ, ◌≤◌, List, [], ◌∷◌, Option, Some, None, Bool, true, false, refl, sym}
use Rattle.std.proofs.Common.{ap, ◌∙◌, subst, arith}
use Rattle.std.specs.Prelude.{is_some, if◌then◌else◌, option_and_then}
use Rattle.cap_words.specs.Faces.{address}
use Rattle.lcm_isa.specs.declared.Reg.TheVariants.{Pc}
use Rattle.lcm_machine.specs.Row.{faces}
use Rattle.linked_starts.specs.declared.owners.Owner.{Owner}
use Rattle.trusted_border.specs.declared.layout.Layout.{Layout}
use Rattle.trusted_border.specs.declared.events.Event.{Event}
use Rattle.trusted_border.specs.declared.events.Event.TheVariants.{Called, Left}
use Rattle.trusted_border.specs.Reaches.{entry_number, closure_owner}
use Rattle.overlay_machine.specs.declared.cases.Case.{Case}
use Rattle.overlay_machine.specs.declared.cases.Case.TheVariants.{Call, Entry, Back, Other}
use Rattle.overlay_machine.specs.Words.{look}
use Rattle.overlay_machine.specs.State.{OpenFrame, OState}
use Rattle.overlay_machine.specs.Step.{goes, case_of, step_by, overlay_step, new_frame}
use Rattle.overlay_machine.specs.Events.{step_event, note_by, note_return, note_jump, event_after, jumped}
use Rattle.overlay_machine.specs.Events.{entered_event, owner_now}
use Rattle.overlay_machine.specs.Runs.{Reached, goes_on}
use Rattle.overlay_machine.specs.Link.{Link}
use Rattle.overlay_machine.specs.Linked.{IsLink}
use Rattle.overlay_machine.proofs.Offers.{called, stays_open}
use Rattle.source_laws.specs.Secrets.{Until, still_there, one_more}
use Rattle.lockstep.specs.Lockstep.{HoldsAlong}

abbrev NoCall : Option Event → Type 0
NoCall (Some (Called t i b e)) = ⊥
NoCall _ = Unit {0}

no_call : (x : Option Event) (t : Bool) (i b e : ℕ) → NoCall x → x ≡ Some (Called t i b e) → ⊥
no_call x t i b e n h = subst NoCall h n

no_entered : (l : Layout) (q : OState) (p : Owner) (k : Option ℕ) → entry_number p (faces look q.maps Pc) ≡ k
    → NoCall (entered_event l q p)
no_entered l q p None e = rw e tt
no_entered l q p (Some k) e = rw e tt

no_jumped : (l : Layout) (q : OState) (from : Option ℕ) (seal : ℕ) → NoCall (jumped l q from seal)
no_jumped l q None seal = by (closure_owner l seal)
  where
    by : (w : Option Owner) → NoCall (option_and_then (entered_event l q) w)
    by None = tt
    by (Some p) = no_entered l q p _ refl
no_jumped l q (Some part) seal = by (is_some (owner_now l q))
  where
    by : (b : Bool) → NoCall (if b then None else Some (Left part))
    by true = tt
    by false = tt

no_note : (l : Layout) (q : OState) (from seal : Option ℕ) → NoCall (event_after l (note_jump from seal) q)
no_note l q from None = tt
no_note l q from (Some seal) = no_jumped l q from seal

no_return : (l : Layout) (q : OState) (t : Bool) (fs : List OpenFrame)
    → NoCall (event_after l (note_return t fs) q)
no_return l q t [] = tt
no_return l q t (f ∷ fs) = tt

-- the call whose line a step writes has the next number
module _ (l : Layout) (x q : OState) (step : overlay_step l x ≡ goes q) (t : Bool) (i b e : ℕ)
    (event : step_event l x q ≡ Some (Called t i b e)) (f : OpenFrame) (older : List OpenFrame)
    (frames : q.frames ≡ f ∷ older) where
  head_is : (d : OpenFrame) (ds : List OpenFrame) → q.frames ≡ d ∷ ds → f ≡ d
  head_is d ds h = let s : f ∷ older ≡ d ∷ ds = sym frames ∙ h in cc

  by_case : (c : Case) → step_by l c x ≡ goes q → event_after l (note_by l x c) q ≡ Some (Called t i b e)
      → f.call ≡ x.calls
  by_case (Call j) s ev =
      let k = called l j x q s in
      ap (λ y. y.call) (head_is (new_frame j (address k.cap.addr) k.cap.end x) x.frames
      (ap (λ y. y.frames) k.result))
  by_case (Entry a) s ev = absurd (no_call _ t i b e tt ev)
  by_case (Back r1 r2) s ev = absurd (no_call _ t i b e (no_return l q _ x.frames) ev)
  by_case Other s ev = absurd (no_call _ t i b e (no_note l q _ _) ev)

  pub call_new : f.call ≡ x.calls
  unfolding overlay_step step_event
  call_new = by_case (case_of l x.maps) step event

module _ (g : Link) (linked : IsLink g) (o : OState) (holds : HoldsAlong g o) where
  -- a step counts no call back
  pub step_rises : (i : ℕ) (p q : OState) → Reached g.layout o i p → overlay_step g.layout p ≡ goes q
      → p.calls ≤ q.calls
  step_rises i p q r e = let k = holds i p r in (stays_open g linked p k.0 k.1 q e).0

  pub until_reached : (p q : OState) (i : ℕ) → Reached g.layout o i p → Until g.layout p q
      → (j : ℕ) × Reached g.layout o j q × (p.calls ≤ q.calls)
  until_reached p _ i r (still_there h) = (i, r, omega arith)
  until_reached p q i r (one_more {p = m} u s h) =
      let k = until_reached p m i r u in
      let up = step_rises k.0 m q k.1 s in
      let low = k.2 in
      (_, goes_on k.1 s, omega (arith, up, low))
