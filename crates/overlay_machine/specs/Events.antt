-- What is told of a step that went: what is noted of the state before it, and the event after it.
use Rattle.std.specs.Prelude.{ℕ, Bool, List, [], ◌∷◌, Option, Some, None}
use Rattle.std.specs.Prelude.{is_some, if◌then◌else◌, option_map, option_and_then}
use Rattle.cap_words.specs.declared.Word.{Word}
use Rattle.cap_words.specs.declared.Opened.{Opened}
use Rattle.lcm_isa.specs.declared.Reg.{Reg}
use Rattle.lcm_isa.specs.declared.Reg.TheVariants.{Pc, Rcode, Rdata, C1}
use Rattle.lcm_isa.specs.declared.Instr.TheVariants.{Xjmp}
use Rattle.lcm_machine.specs.Maps.{State}
use Rattle.lcm_machine.specs.Places.{reg}
use Rattle.lcm_machine.specs.Row.{faces, opens, cell_faces, Fetched, some, fetch}
use Rattle.linked_starts.specs.declared.owners.Owner.{Owner}
use Rattle.trusted_border.specs.declared.layout.Layout.{Layout}
use Rattle.trusted_border.specs.declared.events.Event.{Event}
use Rattle.trusted_border.specs.declared.events.Event.TheVariants.{Called, Returned, Entered, Left}
use Rattle.trusted_border.specs.Layout.{trusted_owner}
use Rattle.trusted_border.specs.Reaches.{entry_number, closure_owner, site_of_seal, back_of}
use Rattle.overlay_machine.specs.declared.words.OWord.{OWord}
use Rattle.overlay_machine.specs.declared.cases.Case.{Case}
use Rattle.overlay_machine.specs.declared.cases.Case.TheVariants.{Call, Entry, Back as BackCase, Other}
use Rattle.overlay_machine.specs.declared.frames.Frame.{Frame}
use Rattle.overlay_machine.specs.declared.notes.StepNote.{StepNote}
use Rattle.overlay_machine.specs.declared.notes.StepNote.TheVariants.{Nothing, Calls, Returns, Jumps}
use Rattle.overlay_machine.specs.Words.{look}
use Rattle.overlay_machine.specs.State.{OpenFrame, OState}
use Rattle.overlay_machine.specs.Step.{case_of}
use Rattle.overlay_machine.specs.Flat.{flat}

-- ---- what is noted before a step

-- a call, unless its `xjmp` is under a return seal
abbrev pub note_call : Option ℕ → StepNote
note_call None = Calls
note_call (Some i) = Nothing

-- the site of the return seal that an `xjmp` opens, where it is one
abbrev pub site_opened : Layout → Option Opened → Option ℕ
site_opened l None = None
site_opened l (Some code) = site_of_seal l code.seal

abbrev pub owner_now : Layout → OState → Option Owner
owner_now l o = trusted_owner l (faces look o.maps Pc)

abbrev pub head_of : OpenFrame → Frame
head_of f = record { call = f.call; site = f.site; base = f.base; end = f.end }

-- a return ends the newest call
abbrev pub note_return : Bool → List OpenFrame → StepNote
note_return trusted [] = Nothing
note_return trusted (f ∷ fs) = Returns trusted (head_of f)

-- the seal that an `xjmp` opens
abbrev pub jump_seal : State OWord → Fetched → Option ℕ
jump_seal s (some (Xjmp r1 r2) next) = option_map (λ k. k.seal) (opens look s r1)
jump_seal s _ = None

-- an `xjmp` outside a call, by the trusted part in which it stands, if one
abbrev pub note_jump : Option ℕ → Option ℕ → StepNote
note_jump from None = Nothing
note_jump from (Some seal) = Jumps from seal

abbrev pub note_by : Layout → OState → Case → StepNote
note_by l o (Call i) = note_call (site_opened l (opens look o.maps C1))
note_by l o (Entry a) = Nothing
note_by l o (BackCase r1 r2) = note_return (is_some (owner_now l o)) o.frames
note_by l o Other =
    note_jump (option_map (λ p. p.part) (owner_now l o))
    (jump_seal o.maps (fetch (faces look o.maps Pc) (cell_faces look o.maps)))

-- ---- the event after it

-- a call has made the newest frame; whether it went to trusted code
abbrev pub called_event : Bool → List OpenFrame → Option Event
called_event trusted [] = None
called_event trusted (f ∷ fs) = Some (Called trusted f.site f.base f.end)

abbrev pub shown_word : Layout → OState → Reg → Word
shown_word l o r = flat l o.frames (reg o.maps.regs r)

abbrev pub entered_event : Layout → OState → Owner → Option Event
entered_event l o p =
    option_map (λ k. Entered p.part k (back_of l (shown_word l o Rcode) (shown_word l o Rdata)))
    (entry_number p (faces look o.maps Pc))

-- untrusted code went to a trusted part under its closure seal, or trusted code to untrusted code
abbrev pub jumped : Layout → OState → Option ℕ → ℕ → Option Event
jumped l o None seal = option_and_then (entered_event l o) (closure_owner l seal)
jumped l o (Some part) seal = if is_some (owner_now l o) then None else Some (Left part)

abbrev pub event_after : Layout → StepNote → OState → Option Event
event_after l Nothing o = None
event_after l Calls o = called_event (is_some (owner_now l o)) o.frames
event_after l (Returns trusted f) o = Some (Returned trusted f.site f.base f.end)
event_after l (Jumps from seal) o = jumped l o from seal

-- the event of a step from one state to another
unfoldable pub step_event : Layout → OState → OState → Option Event
step_event l o q = event_after l (note_by l o (case_of l o.maps)) q
