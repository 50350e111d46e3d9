-- A ret line comes of a step that returns, and of no other.
use Rattle.std.proofs.Common.{◌≡◌, ℕ, Bool, true, false, List, [], ◌∷◌, Option, Some, None, refl, sym, ◌∙◌}
use Rattle.std.specs.Prelude.{is_some, if◌then◌else◌, option_map, option_and_then}
use Rattle.lcm_isa.specs.declared.Reg.{Reg}
use Rattle.lcm_isa.specs.declared.Reg.TheVariants.{Pc, Rcode, Rdata, C1}
use Rattle.lcm_machine.specs.Row.{faces, opens, cell_faces, fetch}
use Rattle.linked_starts.specs.declared.owners.Owner.{Owner}
use Rattle.trusted_border.specs.declared.layout.Layout.{Layout}
use Rattle.trusted_border.specs.declared.events.Event.{Event}
use Rattle.trusted_border.specs.declared.events.Event.TheVariants.{Called, Returned, Entered, Left}
use Rattle.trusted_border.specs.Reaches.{entry_number, closure_owner, back_of}
use Rattle.overlay_machine.specs.declared.cases.Case.{Case}
use Rattle.overlay_machine.specs.declared.cases.Case.TheVariants.{Call, Entry, Back, Other}
use Rattle.overlay_machine.specs.declared.frames.Frame.{Frame}
use Rattle.overlay_machine.specs.declared.notes.StepNote.{StepNote}
use Rattle.overlay_machine.specs.declared.notes.StepNote.TheVariants.{Nothing, Calls, Returns, Jumps}
use Rattle.overlay_machine.specs.Words.{look}
use Rattle.overlay_machine.specs.State.{OpenFrame, OState}
use Rattle.overlay_machine.specs.Step.{case_of}
use Rattle.overlay_machine.specs.Events.{note_call, site_opened, owner_now, note_jump, jump_seal, note_by}
use Rattle.overlay_machine.specs.Events.{called_event, shown_word, entered_event, jumped, event_after}
use Rattle.overlay_machine.specs.Events.{step_event}
use Rattle.run_lines.specs.Views.{flat_view}
use Rattle.run_lines.specs.Lines.{lines_for}
use Rattle.run_lines.specs.Told.{step_lines}
use Rattle.headline.specs.Brackets.{IsRet}

abbrev is_return : Option Event → Bool
is_return (Some (Returned inward i b e)) = true
is_return _ = false

-- ---- which event

no_call : (b : Bool) (fs : List OpenFrame) → is_return (called_event b fs) ≡ false
no_call b [] = refl
no_call b (f ∷ fs) = refl

no_entry : (l : Layout) (q : OState) (p : Owner) → is_return (entered_event l q p) ≡ false
no_entry l q p = by (entry_number p (faces look q.maps Pc))
  where
    by : (n : Option ℕ)
        → is_return (option_map (λ k. Entered p.part k
        (back_of l (shown_word l q Rcode) (shown_word l q Rdata))) n)
        ≡ false
    by None = refl
    by (Some k) = refl

no_jump : (l : Layout) (q : OState) (from : Option ℕ) (seal : ℕ) → is_return (jumped l q from seal) ≡ false
no_jump l q None seal = by (closure_owner l seal)
  where
    by : (p : Option Owner) → is_return (option_and_then (entered_event l q) p) ≡ false
    by None = refl
    by (Some p) = no_entry l q p
no_jump l q (Some part) seal = by (is_some (owner_now l q))
  where
    by : (b : Bool) → is_return (if b then None else Some (Left part)) ≡ false
    by true = refl
    by false = refl

-- ---- which note, and which case

abbrev Noted : StepNote → Type 0
Noted n = (t : Bool) × (f : Frame) × (n ≡ Returns t f)

by_note : (l : Layout) (q : OState) (n : StepNote) → is_return (event_after l n q) ≡ true → Noted n
by_note l q Nothing h = cc
by_note l q Calls h =
    absurd (let bad : false ≡ true = sym (no_call (is_some (owner_now l q)) q.frames) ∙ h in cc)
by_note l q (Returns t f) h = (t, f, refl)
by_note l q (Jumps from seal) h = absurd (let bad : false ≡ true = sym (no_jump l q from seal) ∙ h in cc)

abbrev Returning : Case → Type 0
Returning c = (r1 : Reg) × (r2 : Reg) × (c ≡ Back r1 r2)

by_case : (l : Layout) (o : OState) (c : Case) → Noted (note_by l o c) → Returning c
by_case l o (Call i) h = absurd (by (site_opened l (opens look o.maps C1)) h)
  where
    by : (s : Option ℕ) → Noted (note_call s) → ⊥
    by None h = (let bad : Calls ≡ Returns h.0 h.1 = h.2 in cc)
    by (Some s) h = (let bad : Nothing ≡ Returns h.0 h.1 = h.2 in cc)
by_case l o (Entry a) h = absurd (let bad : Nothing ≡ Returns h.0 h.1 = h.2 in cc)
by_case l o (Back r1 r2) h = (r1, r2, refl)
by_case l o Other h =
    absurd (by (option_map (λ p. p.part) (owner_now l o))
    (jump_seal o.maps (fetch (faces look o.maps Pc) (cell_faces look o.maps))) h)
  where
    by : (from seal : Option ℕ) → Noted (note_jump from seal) → ⊥
    by from None h = (let bad : Nothing ≡ Returns h.0 h.1 = h.2 in cc)
    by from (Some seal) h = (let bad : Jumps from seal ≡ Returns h.0 h.1 = h.2 in cc)

-- ---- the line

of_line : (l : Layout) (q : OState) (e : Option Event) → IsRet (lines_for l (flat_view l q) e)
    → is_return e ≡ true
of_line l q None h = absurd (let bad = h.7 in cc)
of_line l q (Some (Called inward i b e)) h = absurd (let bad = h.7 in cc)
of_line l q (Some (Returned inward i b e)) h = refl
of_line l q (Some (Entered p k back)) h = absurd (let bad = h.7 in cc)
of_line l q (Some (Left p)) h = absurd (let bad = h.7 in cc)

pub ret_returns : (l : Layout) (o q : OState) → IsRet (step_lines l o q) → Returning (case_of l o.maps)
unfolding step_event
ret_returns l o q h =
    by_case l o (case_of l o.maps)
    (by_note l q (note_by l o (case_of l o.maps)) (of_line l q (step_event l o q) h))
