-- The event of a step by which code outside comes in.
use Rattle.std.proofs.Common.{◌≡◌, List, ◌∷◌, Option, Some, None, true, false, refl, ap, ◌∙◌}
use Rattle.std.specs.Prelude.{◌&&◌, is_some, if◌then◌else◌, option_map, option_and_then}
use Rattle.cap_words.specs.declared.Word.{Word}
use Rattle.cap_words.specs.declared.Word.TheVariants.{Int, Mem, Seal, Sealed}
use Rattle.cap_words.specs.declared.Sealable.TheVariants.{Mem as MemIn, Seal as SealIn}
use Rattle.cap_words.specs.declared.Opened.{Opened}
use Rattle.cap_words.specs.Face.{opened_of}
use Rattle.lcm_isa.specs.declared.Reg.{Reg}
use Rattle.lcm_isa.specs.declared.Reg.TheVariants.{Pc}
use Rattle.lcm_isa.specs.declared.Instr.{Instr}
use Rattle.lcm_isa.specs.declared.Instr.TheVariants.{Xjmp}
use Rattle.lcm_machine.specs.Maps.{State}
use Rattle.lcm_machine.specs.Places.{reg}
use Rattle.lcm_machine.specs.Row.{faces, opens, cell_faces, fetch, some}
use Rattle.lcm_machine.proofs.Offers.{is_none}
use Rattle.linked_starts.specs.declared.owners.Owner.{Owner}
use Rattle.trusted_border.specs.declared.events.Event.TheVariants.{Returned}
use Rattle.trusted_border.specs.Reaches.{closure_owner}
use Rattle.overlay_machine.specs.declared.cases.Case.TheVariants.{Back, Other}
use Rattle.overlay_machine.specs.declared.words.OWord.{OWord}
use Rattle.overlay_machine.specs.declared.words.OWord.TheVariants.{Plain}
use Rattle.overlay_machine.specs.Safe.{IsOpenSeal}
use Rattle.overlay_machine.specs.Words.{look, is_plain}
use Rattle.overlay_machine.specs.State.{OpenFrame, OState}
use Rattle.overlay_machine.specs.Step.{case_fetched}
use Rattle.overlay_machine.specs.Events.{step_event, event_after, note_by, note_jump, note_return, jump_seal}
use Rattle.overlay_machine.specs.Events.{entered_event, owner_now}
use Rattle.overlay_machine.specs.Link.{Link}
use Rattle.overlay_machine.specs.Linked.{IsLink}
use Rattle.template_runs.proofs.Offers.{open_no_owner}
use Rattle.lockstep.specs.Related.{StandsOutside, IsOurs}
use Rattle.lockstep.proofs.Outer.{case_out}

seal_never : (s : State OWord) (n : Instr) (next : Word) → ((r1 r2 : Reg) → n ≡ Xjmp r1 r2 → ⊥)
    → (case_fetched s (some n next) ≡ Other) × (jump_seal s (some n next) ≡ None)
seal_never s (Xjmp r1 r2) next f = absurd (f r1 r2 refl)
seal_never s _ next f = (refl, refl)

module _ (g : Link) (linked : IsLink g) (o : OState) (h : StandsOutside g o) where
  abbrev IsOpen : Option Opened → Type 0
  IsOpen None = Unit {0}
  IsOpen (Some x) = IsOpenSeal g x.seal

  no_owner : owner_now g.layout o ≡ None
  no_owner = is_none (owner_now g.layout o) h.outside

  module _ (r1 r2 : Reg) (next : Word) (q : OState) where
    pub enter_event : (x : Opened) → fetch (faces look o.maps Pc) (cell_faces look o.maps) ≡ some (Xjmp r1 r2)
        next → (is_plain (reg o.maps.regs r1) && is_plain (reg o.maps.regs r2)) ≡ true
        → opened_of (look (reg o.maps.regs r1)) ≡ Some x
        → step_event g.layout o q ≡ option_and_then (entered_event g.layout q) (closure_owner g.layout x.seal)
    unfolding step_event opens
    enter_event x f p k =
        ap (λ c. event_after g.layout (note_by g.layout o c) q)
        (case_out g linked o h ∙ ap (case_fetched o.maps) f ∙ ap (λ b. if b then Other else Back r1 r2) p)
        ∙ ap (λ y. event_after g.layout (note_jump (option_map (λ (w : Owner). w.part) (owner_now g.layout o))
        (jump_seal o.maps y)) q) f
        ∙ ap (λ y. event_after g.layout (note_jump (option_map (λ (w : Owner). w.part) (owner_now g.layout o))
        (option_map (λ (z : Opened). z.seal) y)) q) k
        ∙ ap (λ y. event_after g.layout (note_jump (option_map (λ (w : Owner). w.part) y) (Some x.seal)) q)
        no_owner

    pub return_event : fetch (faces look o.maps Pc) (cell_faces look o.maps) ≡ some (Xjmp r1 r2) next
        → (is_plain (reg o.maps.regs r1) && is_plain (reg o.maps.regs r2)) ≡ false
        → (f : OpenFrame) (fs : List OpenFrame) → o.frames ≡ f ∷ fs
        → step_event g.layout o q ≡ Some (Returned false f.site f.base f.end)
    unfolding step_event
    return_event e p f fs ef =
        ap (λ c. event_after g.layout (note_by g.layout o c) q)
        (case_out g linked o h ∙ ap (case_fetched o.maps) e ∙ ap (λ b. if b then Other else Back r1 r2) p)
        ∙ ap (λ y. event_after g.layout (note_return (is_some y) o.frames) q) no_owner
        ∙ ap (λ y. event_after g.layout (note_return false y) q) ef

    -- and steps by which it stays outside have none
    silent : (x : Option Opened) → fetch (faces look o.maps Pc) (cell_faces look o.maps) ≡ some (Xjmp r1 r2)
        next → (is_plain (reg o.maps.regs r1) && is_plain (reg o.maps.regs r2)) ≡ true
        → opened_of (look (reg o.maps.regs r1)) ≡ x → IsOpen x → step_event g.layout o q ≡ None
    unfolding step_event opens
    silent None f p k op =
        ap (λ c. event_after g.layout (note_by g.layout o c) q)
        (case_out g linked o h ∙ ap (case_fetched o.maps) f ∙ ap (λ b. if b then Other else Back r1 r2) p)
        ∙ ap (λ y. event_after g.layout (note_jump (option_map (λ (w : Owner). w.part) (owner_now g.layout o))
        (jump_seal o.maps y)) q) f
        ∙ ap (λ y. event_after g.layout (note_jump (option_map (λ (w : Owner). w.part) (owner_now g.layout o))
        (option_map (λ (z : Opened). z.seal) y)) q) k
    silent (Some x) f p k op =
        enter_event x f p k ∙ ap (option_and_then (entered_event g.layout q))
        (open_no_owner g linked x.seal op)

    pub own_event : (a : Word) → fetch (faces look o.maps Pc) (cell_faces look o.maps) ≡ some (Xjmp r1 r2)
        next → (is_plain (reg o.maps.regs r1) && is_plain (reg o.maps.regs r2)) ≡ true
        → reg o.maps.regs r1 ≡ Plain a → IsOurs g a → step_event g.layout o q ≡ None
    own_event a f p k own = silent (opened_of a) f p (ap (λ w. opened_of (look w)) k) (by a own)
      where
        by : (a : Word) → IsOurs g a → IsOpen (opened_of a)
        by (Int z) own = tt
        by (Mem z) own = tt
        by (Seal z) own = tt
        by (Sealed n (MemIn c)) own = own
        by (Sealed n (SealIn c)) own = own

  pub straight_event : (n : Instr) (next : Word) (q : OState)
      → fetch (faces look o.maps Pc) (cell_faces look o.maps) ≡ some n next
      → ((r1 r2 : Reg) → n ≡ Xjmp r1 r2 → ⊥) → step_event g.layout o q ≡ None
  unfolding step_event
  straight_event n next q f never =
      let k = seal_never o.maps n next never in
      ap (λ c. event_after g.layout (note_by g.layout o c) q)
      (case_out g linked o h ∙ ap (case_fetched o.maps) f ∙ k.0)
      ∙ ap (λ y. event_after g.layout (note_jump (option_map (λ (w : Owner). w.part) (owner_now g.layout o))
      (jump_seal o.maps y)) q) f
      ∙ ap (λ y. event_after g.layout
      (note_jump (option_map (λ (w : Owner). w.part) (owner_now g.layout o)) y) q) k.1
