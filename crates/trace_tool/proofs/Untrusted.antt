-- Where no part is trusted, no instruction has an event.
use Rattle.std.proofs.Common.{◌≡◌, ℕ, zero, suc, Bool, true, false, List, [], ◌∷◌, ◌++◌, Option, Some, None}
use Rattle.std.proofs.Common.{refl, sym, ap, ◌∙◌, arith, subst}
use Rattle.std.specs.Prelude.{find, option_and_then}
use Rattle.outside_io.specs.SinkSeen.{SinkSeen}
use Rattle.outside_io.specs.Writes.{AddsPieces}
use Rattle.outside_io.proofs.Offers.{pieces_none}
use Rattle.std.specs.List.{list_any}
use Rattle.cap_words.specs.declared.Face.{Face}
use Rattle.cap_words.specs.declared.Face.TheVariants.{Number, Memory, Seals, Sealed}
use Rattle.cap_words.specs.declared.Word.{Word}
use Rattle.lcm_isa.specs.declared.Reg.{Reg}
use Rattle.lcm_machine.specs.declared.Step.{Step}
use Rattle.lcm_machine.specs.declared.Step.TheVariants.{Went, Halted, Failed}
use Rattle.lcm_machine.specs.Maps.{State}
use Rattle.lcm_machine.specs.Row.{jump_at}
use Rattle.lcm_machine.specs.Run.{next_state, plain, answer}
use Rattle.linked_starts.specs.declared.owners.Owner.{Owner}
use Rattle.linked_starts.specs.Started.{StartSeen}
use Rattle.trusted_border.specs.declared.layout.Layout.{Layout}
use Rattle.trusted_border.specs.declared.events.Event.{Event}
use Rattle.trusted_border.specs.Layout.{runs_part, trusted_owner}
use Rattle.trusted_border.specs.Reaches.{closure_owner}
use Rattle.run_lines.specs.declared.run.RunEnd.{RunEnd}
use Rattle.run_lines.specs.Layout.{layout, site_word}
use Rattle.run_lines.specs.Views.{View, view_of}
use Rattle.run_lines.specs.Events.{noted_by, noted, entered, event_after}
use Rattle.run_lines.specs.Lines.{lines_for}
use Rattle.run_lines.specs.Texts.{lines_pieces}
use Rattle.run_lines.specs.EndLines.{end_line}
use Rattle.run_lines.specs.Runs.{Watched, begun, if_went, watched, line_next, lines_of, end_of, Runs, EndsBy}
use Rattle.run_lines.proofs.Offers.{ends}

-- no owner is trusted
abbrev pub NoneTrusted : Layout → Type 0
NoneTrusted l = list_any (λ o. o.trusted) l.owners ≡ false

neither : (a b : Bool) → Rattle.std.specs.Prelude.◌||◌ a b ≡ false → (a ≡ false) × (b ≡ false)
neither true b e = absurd cc
neither false b e = (refl, e)

none_found : (p : Owner → Bool) (os : List Owner) → ((o : Owner) → o.trusted ≡ false → p o ≡ false)
    → list_any (λ o. o.trusted) os ≡ false → find p os ≡ None
none_found p [] h e = refl
none_found p (x ∷ xs) h e = let k =
    neither x.trusted (list_any (λ o. o.trusted) xs) e in rw (h x k.0) (none_found p xs h k.1)

module _ (l : Layout) (none : NoneTrusted l) where
  no_owner : (pc : Face) → trusted_owner l pc ≡ None
  no_owner (Memory c) = none_found (runs_part c) l.owners (λ o e. rw e refl) none
  no_owner (Number z) = refl
  no_owner (Seals s) = refl
  no_owner (Sealed s) = refl

  no_site : (off : ℕ) (pc : Face) → site_word l off pc ≡ None
  unfolding site_word
  no_site off pc = rw (no_owner pc) refl

  no_closure : (seal : Option ℕ) → option_and_then (closure_owner l) seal ≡ None
  no_closure None = refl
  no_closure (Some s) = none_found _ l.owners (λ o e. rw e refl) none

  no_event_by : (s : State Word) (o : Option Reg) (inward : Bool) (v : View)
      → event_after l (noted_by l s o) inward v ≡ None
  unfolding event_after
  no_event_by s None inward v = rw (no_site _ _) refl
  no_event_by s (Some r1) inward v = rw (no_owner _) (ap (option_and_then (entered l v)) (no_closure _))

  no_event : (s : State Word) (inward : Bool) (v : View) → event_after l (noted l s) inward v ≡ None
  unfolding noted
  no_event s inward v = no_event_by s (jump_at (λ w. w) s) inward v

  none_went : (a : Step) → if_went {A = Option Event} a None None ≡ None
  none_went Went = refl
  none_went Halted = refl
  none_went (Failed cause at) = refl

  no_line : (w : Watched) → line_next l w ≡ []
  unfolding line_next
  no_line w =
      let v = view_of (next_state w.run).maps in
      ap (λ e. lines_for l v (if_went (answer (next_state w.run)) e None)) (no_event w.run.maps w.inward v)
      ∙ ap (lines_for l v) (none_went (answer (next_state w.run)))

  pub no_lines : (w : Watched) (n : ℕ) → lines_of l w n ≡ []
  no_lines w zero = refl
  no_lines w (suc n) = ap (λ x. x ++ line_next l (watched l w n)) (no_lines w n) ∙ no_line (watched l w n)

-- so the end line is the whole text
pub ends_untrusted : (init : StartSeen) (sink : SinkSeen) (steps : ℕ) (start : StartSeen) (after : SinkSeen)
    (step : Step) (line : List ℕ) (result : RunEnd)
    → NoneTrusted (layout init)
    → start ≡ record init { state = plain steps init.state } → step ≡ answer start.state
    → line ≡ end_line start.state → EndsBy sink line (end_of step) after result
    → Runs init steps sink start after result
ends_untrusted init sink steps start after step line result none same is last e =
    ends init sink steps steps start sink after step line result (omega arith) same refl refl
    (subst (λ ls. AddsPieces sink (lines_pieces ls) sink)
    (sym (no_lines (layout init) none (begun init.state) steps)) (pieces_none sink)) is last e
