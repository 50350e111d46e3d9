-- The lines of a step that is a row: an ordinary instruction, an `xjmp` of plain words.
use Rattle.call_sequence.specs.declared.TheConstants.{CALL_WORDS, SITE_WORDS}
use Rattle.std.proofs.Common.{◌-◌, ◌≡◌, ◌⊎◌, inl, inr, ℕ, ◌<◌, Bool, true, List, Option, Some, None, refl}
use Rattle.std.proofs.Common.{sym, ap, ◌∙◌, arith}
use Rattle.std.specs.Prelude.{option_map, option_and_then, is_some, if◌then◌else◌}
use Rattle.cap_words.specs.declared.Word.{Word}
use Rattle.cap_words.specs.declared.Opened.{Opened}
use Rattle.cap_words.specs.Face.{face_of, opened_of}
use Rattle.lcm_isa.specs.declared.Reg.{Reg}
use Rattle.lcm_isa.specs.declared.Reg.TheVariants.{Pc, Rcode, Rdata}
use Rattle.lcm_isa.specs.declared.Instr.TheVariants.{Fail, Xjmp}
use Rattle.lcm_machine.specs.declared.Place.TheVariants.{R}
use Rattle.lcm_machine.specs.Maps.{State}
use Rattle.lcm_machine.specs.Places.{reg}
use Rattle.lcm_machine.specs.Row.{faces, cell_faces, opens, fetch, Fetched, none, some, jump_in, jump_at, row}
use Rattle.lcm_machine.specs.Row.{plan_in, Outcome, went, halted, failed, step_of, step_fetched}
use Rattle.lcm_machine.specs.Runs.{run_of}
use Rattle.lcm_machine.proofs.Offers.{fetch_commutes, run_one, fetched_row}
use Rattle.linked_starts.specs.declared.owners.Owner.{Owner}
use Rattle.trusted_border.specs.declared.layout.Layout.{Layout}
use Rattle.trusted_border.specs.declared.events.Event.TheVariants.{Entered, Left}
use Rattle.trusted_border.specs.Layout.{trusted_owner}
use Rattle.trusted_border.specs.Reaches.{closure_owner, entry_number, back_of}
use Rattle.overlay_machine.specs.declared.words.OWord.{OWord}
use Rattle.overlay_machine.specs.declared.words.OWord.TheVariants.{Plain}
use Rattle.overlay_machine.specs.declared.cases.Case.TheVariants.{Other}
use Rattle.overlay_machine.specs.Words.{look, is_plain}
use Rattle.overlay_machine.specs.State.{OpenFrame, OState}
use Rattle.overlay_machine.specs.Step.{goes, case_fetched, with_frames, other_step}
use Rattle.overlay_machine.specs.Flat.{flat, beside, IsFlat}
use Rattle.overlay_machine.specs.Agree.{Looks, FramesFree}
use Rattle.overlay_machine.specs.Events.{owner_now, jump_seal, note_jump, note_by}
use Rattle.overlay_machine.specs.Events.{jumped, event_after as told_after}
use Rattle.overlay_machine.specs.Link.{Link}
use Rattle.overlay_machine.specs.Linked.{IsLink}
use Rattle.overlay_machine.proofs.Offers.{flat-opened, plain_both, free_pc, View}
use Rattle.run_lines.specs.Layout.{trusted_part, site_word}
use Rattle.run_lines.specs.Views.{flat_view}
use Rattle.run_lines.specs.Events.{noted, noted_by, note_last, leapt_by, event_after}
use Rattle.run_lines.specs.Lines.{lines_for}
use Rattle.run_lines.specs.Runs.{lines_of}
use Rattle.headline.proofs.alike.Calm.{id, at_state}
use Rattle.headline.proofs.alike.Mute.{line_flat}
use Rattle.headline.proofs.alike.Apart.{other_apart}
use Rattle.headline.proofs.alike.Lands.{xjmp_opens}

-- an overlay step that went is the row's
row_went : (fs : List OpenFrame) (n : ℕ) (r : Outcome OWord) (q : OState) → with_frames fs n r ≡ goes q
    → (s : State OWord) × (r ≡ went s)
row_went fs n (went s) q e = (s, refl)
row_went fs n halted q e = cc
row_went fs n (failed c at) q e = cc

other_went : (o q : OState) → other_step o ≡ goes q → (s : State OWord) × (step_of look Plain o.maps ≡ went s)
unfolding other_step
other_went o q e = row_went o.frames o.calls (step_of look Plain o.maps) q e

never_fail : (next : Word) (s s' : State OWord) → row look Plain Fail next s ≡ went s' → ⊥
unfolding row plan_in
never_fail next s s' e = cc

-- an `xjmp` was fetched, or nothing is noted
abbrev IsJump : Fetched → Type 0
IsJump f =
    ((r1 : Reg) × (r2 : Reg) × (next : Word) × (f ≡ some (Xjmp r1 r2) next))
    ⊎ ((jump_in f ≡ None) × ((s : State OWord) → jump_seal s f ≡ None))

is_jump : (f : Fetched) → IsJump f
is_jump (none c) = inr (refl, λ s. refl)
is_jump (some (Xjmp r1 r2) next) = inl (r1, r2, next, refl)
is_jump (some _ next) = inr (refl, λ s. refl)

-- ---- what a leap is told as

module _ (l : Layout) (q : OState) (k : Looks l q) where
  pub face_now : face_of ((flat_view l q).reg Pc) ≡ faces look q.maps Pc
  unfolding faces
  face_now = k.0 (R Pc) (reg q.maps.regs Pc) refl

  entered_same : (seal : ℕ) → leapt_by l None None (Some seal) (flat_view l q) ≡ jumped l q None seal
  entered_same seal = by_owner (closure_owner l seal)
    where
      by_owner : (p : Option Owner)
          → option_and_then (Rattle.run_lines.specs.Events.entered l (flat_view l q))
          p ≡ option_and_then (Rattle.overlay_machine.specs.Events.entered_event l q) p
      by_owner None = refl
      by_owner (Some p) =
          ap (λ f. option_map
          (λ n. Entered p.part n (back_of l ((flat_view l q).reg Rcode) ((flat_view l q).reg Rdata)))
          (entry_number p f)) face_now

  leap_same : (from : Option ℕ) (seal : ℕ)
      → leapt_by l from None (Some seal) (flat_view l q) ≡ jumped l q from seal
  leap_same None seal = entered_same seal
  leap_same (Some part) seal =
      ap (λ f. if is_some (trusted_owner l f) then None else Some (Left part)) face_now

module _ (l : Layout) (o : OState) (t : State Word) (m : IsFlat l o t) (k : Looks l o) where
  pub face_same : (r : Reg) → faces id t r ≡ faces look o.maps r
  unfolding faces
  face_same r = ap face_of (m.regs r) ∙ k.0 (R r) (reg o.maps.regs r) refl

  opens_same : (r : Reg) → is_plain (reg o.maps.regs r) ≡ true → opens id t r ≡ opens look o.maps r
  unfolding opens
  opens_same r p = ap opened_of (m.regs r) ∙ flat-opened l o.frames (reg o.maps.regs r) p

  -- the event of a row, where no site's word is at pc
  row_event : (free : FramesFree o) (u : State Word) (q : OState) (inward : Bool)
      → case_fetched o.maps (fetch (faces look o.maps Pc) (cell_faces look o.maps)) ≡ Other
      → ((off : ℕ) → 0 < off → off < SITE_WORDS → site_word l off (faces look o.maps Pc) ≡ None)
      → step_of id id t ≡ went u → Looks l q
      → event_after l (noted l t) inward (flat_view l q) ≡ told_after l (note_by l o Other) q
  unfolding event_after noted jump_at step_of opens
  row_event free u q inward c off e kq =
      elim (is_jump (fetch (faces look o.maps Pc) (cell_faces look o.maps)))
      as (λ _. event_after l (noted l t) inward (flat_view l q) ≡ told_after l (note_by l o Other) q) [
        | inr silent ↦ quiet silent.0 (silent.1 o.maps)
        | inl j ↦
            (let p = plain_both o.maps j.0 j.1 j.2 (ap (case_fetched o.maps) (sym j.3) ∙ c) in
            leaps j.0 j.1 j.2 j.3 p.0)
      ]
    where
      got : fetch (faces id t Pc) (cell_faces id t) ≡ fetch (faces look o.maps Pc) (cell_faces look o.maps)
      got = fetch_commutes look id (flat l o.frames) (beside l o.frames)
          o.maps t m k.0 (free_pc l o t m k free)

      quiet : jump_in (fetch (faces look o.maps Pc) (cell_faces look o.maps)) ≡ None
          → jump_seal o.maps (fetch (faces look o.maps Pc) (cell_faces look o.maps)) ≡ None
          → event_after l (noted l t) inward (flat_view l q) ≡ told_after l (note_by l o Other) q
      quiet a b =
          ap (λ j. event_after l (noted_by l t j) inward (flat_view l q)) (ap jump_in got ∙ a)
          ∙ ap (λ w. event_after l (note_last w) inward (flat_view l q))
          (ap (site_word l (SITE_WORDS - 1)) (face_same Pc)
          ∙ off (SITE_WORDS - 1) (omega arith) (omega arith))
          ∙ sym (ap (λ s. told_after l (note_jump (option_map (λ p. p.part) (owner_now l o)) s) q) b)

      leaps : (r1 r2 : Reg) (next : Word)
          → fetch (faces look o.maps Pc) (cell_faces look o.maps) ≡ some (Xjmp r1 r2) next
          → is_plain (reg o.maps.regs r1) ≡ true
          → event_after l (noted l t) inward (flat_view l q) ≡ told_after l (note_by l o Other) q
      leaps r1 r2 next f p =
          let y = xjmp_opens t u r1 r2 next (sym (ap (step_fetched id id t) (got ∙ f)) ∙ e) in
          let seal : opens look o.maps r1 ≡ Some y.0 = sym (opens_same r1 p) ∙ y.1 in
          ap (λ j. event_after l (noted_by l t j) inward (flat_view l q)) (ap jump_in (got ∙ f))
          ∙ ap (λ pc. leapt_by l (trusted_part l pc) (site_word l (CALL_WORDS - 1) pc)
          (option_map (λ (z : Opened). z.seal) (opens id t r1)) (flat_view l q)) (face_same Pc)
          ∙ ap (λ s. leapt_by l (trusted_part l (faces look o.maps Pc))
          s (option_map (λ (z : Opened). z.seal) (opens id t r1)) (flat_view l q))
          (off (CALL_WORDS - 1) (omega arith) (omega arith))
          ∙ ap (λ w. leapt_by l (trusted_part l (faces look o.maps Pc))
          None (option_map (λ (z : Opened). z.seal) w) (flat_view l q)) y.1
          ∙ leap_same l q kq (trusted_part l (faces look o.maps Pc)) (y.0).seal
          ∙ sym (ap (λ s. told_after l (note_jump (option_map (λ p. p.part) (owner_now l o)) s) q)
          (ap (jump_seal o.maps) f ∙ ap (option_map (λ (z : Opened). z.seal)) seal))

module _ (g : Link) (linked : IsLink g) (o : OState) (t : State Word) (m : IsFlat g.layout o t)
    (k : Looks g.layout o) (free : FramesFree o) where
  -- the lines of a step that is a row
  pub other_whole : View g o.frames o.maps Other
      → case_fetched o.maps (fetch (faces look o.maps Pc) (cell_faces look o.maps)) ≡ Other
      → (u : State Word) (q : OState) (n : ℕ) (inward : Bool) → other_step o ≡ goes q
      → run_of id id 1 t ≡ went u
      → IsFlat g.layout q u → Looks g.layout q
      → lines_of g.layout (at_state t n inward) 1 ≡ lines_for g.layout (flat_view g.layout q)
      (told_after g.layout (note_by g.layout o Other) q)
  other_whole v c u q n inward e r mq kq =
      let w = other_went o q e in
      let f = fetched_row look Plain o.maps w.0 w.1 in
      let step : step_of id id t ≡ went u = sym (run_one id id t) ∙ r in
      let off : (off : ℕ) → 0 < off → off < SITE_WORDS → site_word g.layout off (faces look o.maps Pc)
      ≡ None =
      λ off lo hi.
      other_apart g linked o.frames o.maps f.0 f.1 f.2
      (λ is. never_fail f.1 o.maps w.0 (ap (λ i. row look Plain i f.1 o.maps) (sym is) ∙ f.3))
      off lo hi v in
      line_flat g.layout q t u n inward step mq
      ∙ ap (lines_for g.layout (flat_view g.layout q))
      (row_event g.layout o t m k free u q inward c off step kq)
