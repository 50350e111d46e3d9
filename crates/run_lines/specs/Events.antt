-- What a plain instruction does at the border of trusted code: what is noted of the state before it, and the
-- event after it.
use Rattle.std.specs.Prelude.{ℕ, ◌+◌, ◌-◌, Bool, Option, Some, None, if◌then◌else◌, is_some, option_map}
use Rattle.std.specs.Prelude.{option_and_then}
use Rattle.cap_words.specs.declared.Content.{Content}
use Rattle.cap_words.specs.declared.Content.TheVariants.{Mem, Seal}
use Rattle.cap_words.specs.declared.CapFields.{CapFields}
use Rattle.cap_words.specs.declared.Opened.{Opened}
use Rattle.cap_words.specs.declared.Face.{Face}
use Rattle.cap_words.specs.declared.Word.{Word}
use Rattle.cap_words.specs.Face.{face_of, opened_of}
use Rattle.cap_words.specs.Faces.{target_of, memory_in}
use Rattle.lcm_isa.specs.declared.Reg.{Reg}
use Rattle.lcm_isa.specs.declared.Reg.TheVariants.{Pc, Rcode, Rdata, Stk}
use Rattle.lcm_machine.specs.Maps.{State}
use Rattle.lcm_machine.specs.Row.{faces, opens, jump_at}
use Rattle.linked_starts.specs.declared.owners.Owner.{Owner}
use Rattle.call_sequence.specs.declared.TheConstants.{CALL_WORDS, RETURN_WORDS}
use Rattle.trusted_border.specs.declared.layout.Layout.{Layout}
use Rattle.trusted_border.specs.declared.events.Event.{Event}
use Rattle.trusted_border.specs.declared.events.Event.TheVariants.{Called, Returned, Entered, Left}
use Rattle.trusted_border.specs.Reaches.{entry_number, closure_owner, site_of_seal, back_of}
use Rattle.run_lines.specs.declared.note.Jump.{Jump}
use Rattle.run_lines.specs.declared.note.Note.{Note}
use Rattle.run_lines.specs.declared.note.Note.TheVariants.{Nothing, Last, Leap}
use Rattle.run_lines.specs.Layout.{is_trusted, trusted_part, site_word}
use Rattle.run_lines.specs.Views.{View}

-- ---- before an instruction

-- the last word of a site
abbrev pub note_last : Option ℕ → Note
note_last None = Nothing
note_last (Some i) = Last i

-- an `xjmp`: the trusted part in which it stands, the site whose call it ends, and the seal that it opens
abbrev pub noted_by : Layout → State Word → Option Reg → Note
noted_by l s None = note_last (site_word l (CALL_WORDS + RETURN_WORDS - 1) (faces (λ w. w) s Pc))
noted_by l s (Some r1) = Leap (record {
  from = trusted_part l (faces (λ w. w) s Pc);
  call = site_word l (CALL_WORDS - 1) (faces (λ w. w) s Pc);
  seal = option_map (λ k. k.seal) (opens (λ w. w) s r1);
})

unfoldable pub noted : Layout → State Word → Note
noted l s = noted_by l s (jump_at (λ w. w) s)

-- whether the last `xjmp` that went stood in trusted code
abbrev pub inward_after : Note → Bool → Bool
inward_after (Leap j) inward = is_some j.from
inward_after _ inward = inward

-- ---- after an instruction that went

abbrev pub reaches_trusted : Layout → View → Bool
reaches_trusted l v = is_trusted l (face_of (v.reg Pc))

-- rdata is a sealed range, that of the frame
abbrev pub called_with : Bool → ℕ → Content → Option Event
called_with inward i (Mem c) = Some (Called inward i c.base c.end)
called_with inward i (Seal s) = None

abbrev pub called : Bool → ℕ → Option Opened → Option Event
called inward i half = option_and_then (λ k. called_with inward i k.content) half

-- stk's address is in its range, which ends at the frame's end
abbrev pub returned_at : Bool → ℕ → Option CapFields → Option ℕ → Option Event
returned_at inward i (Some c) (Some a) = Some (Returned inward i a c.end)
returned_at inward i _ _ = None

abbrev pub returned : Bool → ℕ → Face → Option Event
returned inward i stk = returned_at inward i (memory_in stk) (target_of stk)

-- at the first entry by name at which pc stands
abbrev pub entered : Layout → View → Owner → Option Event
entered l v o =
    option_map (λ k. Entered o.part k (back_of l (v.reg Rcode) (v.reg Rdata)))
    (entry_number o (face_of (v.reg Pc)))

-- an `xjmp` of untrusted code, of trusted code outside a call, and of a call
abbrev pub leapt_by : Layout → Option ℕ → Option ℕ → Option ℕ → View → Option Event
leapt_by l None call seal v = option_and_then (entered l v) (option_and_then (closure_owner l) seal)
leapt_by l (Some part) None seal v = if reaches_trusted l v then None else Some (Left part)
leapt_by l (Some part) (Some i) seal v =
    if is_some (option_and_then (site_of_seal l) seal)
    then None
    else called (reaches_trusted l v) i (opened_of (v.reg Rdata))

abbrev pub leapt : Layout → Jump → View → Option Event
leapt l j v = leapt_by l j.from j.call j.seal v

-- by what was noted before it
unfoldable pub event_after : Layout → Note → Bool → View → Option Event
event_after l Nothing inward v = None
event_after l (Last i) inward v = returned inward i (face_of (v.reg Stk))
event_after l (Leap j) inward v = leapt l j v
