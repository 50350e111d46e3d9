-- The line of a return that goes.
use Rattle.std.proofs.Common.{◌≡◌, ℕ, suc, ◌+◌, ◌-◌, ◌≤◌, pos, Bool, Option, Some, None, refl, sym, ap, ◌∙◌}
use Rattle.std.proofs.Common.{arith, subst, le-leb, rules}
use Rattle.std.specs.Prelude.{slice_get, is_some, option_map}
use Rattle.std.specs.Option.{option_or}
use Rattle.cap_words.specs.declared.Word.{Word}
use Rattle.cap_words.specs.declared.Word.TheVariants.{Mem, Sealed}
use Rattle.cap_words.specs.declared.Sealable.TheVariants.{Mem as MemIn}
use Rattle.cap_words.specs.declared.Content.TheVariants.{Mem as MemC}
use Rattle.cap_words.specs.declared.Face.{Face}
use Rattle.cap_words.specs.declared.Face.TheVariants.{Memory}
use Rattle.cap_words.specs.Face.{face_of, opened_of}
use Rattle.cap_words.specs.Linear.{zero_word}
use Rattle.lcm_isa.specs.declared.Reg.{Reg}
use Rattle.lcm_isa.specs.declared.Reg.TheVariants.{Pc, Stk, T2}
use Rattle.lcm_isa.specs.declared.Operand.TheVariants.{Imm}
use Rattle.lcm_isa.specs.declared.Instr.TheVariants.{Move}
use Rattle.lcm_isa.specs.Numbers.{number_of}
use Rattle.lcm_machine.specs.Maps.{State}
use Rattle.lcm_machine.specs.Places.{reg}
use Rattle.lcm_machine.specs.Cells.{cell, set_cell}
use Rattle.lcm_machine.specs.Row.{Outcome, faces, step_of, went}
use Rattle.lcm_machine.specs.Runs.{and_then, run_of, code_cap}
use Rattle.lcm_machine.specs.Mapped.{mapped_or}
use Rattle.lcm_machine.proofs.Offers.{run_one}
use Rattle.call_sequence.specs.declared.TheConstants.{CALL_WORDS, RETURN_WORDS, SITE_WORDS}
use Rattle.call_sequence.specs.SequenceRuns.{stack_cap, HasReturn}
use Rattle.call_sequence.proofs.Offers.{clearing_stands, return_nine, return_runs, target_code}
use Rattle.linked_starts.specs.declared.owners.Owner.{Owner}
use Rattle.trusted_border.specs.declared.layout.Layout.{Layout}
use Rattle.trusted_border.specs.declared.events.Event.TheVariants.{Returned as ReturnedEvent}
use Rattle.trusted_border.specs.Layout.{trusted_owner}
use Rattle.overlay_machine.specs.declared.words.OWord.TheVariants.{Plain}
use Rattle.overlay_machine.specs.declared.cases.Case.TheVariants.{Back}
use Rattle.overlay_machine.specs.Words.{look}
use Rattle.overlay_machine.specs.State.{OpenFrame, OState, word_of, framed, frame_of}
use Rattle.overlay_machine.specs.Flat.{flat, beside, IsFlat}
use Rattle.overlay_machine.specs.Agree.{AtReturn, HasSite, FrameSound, Looks}
use Rattle.overlay_machine.specs.Events.{owner_now, note_return, note_by, event_after as told_after}
use Rattle.overlay_machine.specs.Link.{Link}
use Rattle.overlay_machine.specs.Linked.{IsLink}
use Rattle.overlay_machine.proofs.Offers.{word_of-within, frame_of-newest, own_is, s1, jumps, code_is}
use Rattle.overlay_machine.proofs.Offers.{code_some, data_is, stk_kept, View, Returned}
use Rattle.run_lines.specs.declared.note.Note.TheVariants.{Last}
use Rattle.run_lines.specs.Layout.{trusted_part, site_word}
use Rattle.run_lines.specs.Views.{flat_view}
use Rattle.run_lines.specs.Events.{noted, noted_by, note_last, event_after, inward_after}
use Rattle.run_lines.specs.Events.{returned as returned_event}
use Rattle.run_lines.specs.Lines.{lines_for}
use Rattle.run_lines.specs.Runs.{lines_of}
use Rattle.headline.proofs.alike.Calm.{id, Num, at_state, calm_then}
use Rattle.headline.proofs.alike.Mute.{mute_step, line_flat}
use Rattle.headline.proofs.alike.Laying.{NoEnd, jump_is, word_at, shown_at}
use Rattle.headline.proofs.alike.Operands.{last_step}
use Rattle.headline.proofs.alike.Sites.{site_there, trusted_code}
use Rattle.headline.proofs.alike.Others.{face_same}
use Rattle.headline.proofs.alike.Returns.{noted_back, back_line, calm_behind}

after_step : (n : ℕ) (s u : State Word) (r : Outcome Word) → step_of id id s ≡ went u
    → run_of id id (suc n) s ≡ r → run_of id id n u ≡ r
unfolding run_of
after_step n s u r e h = sym (ap (λ y. and_then y (run_of id id n)) e) ∙ h

returned_here : (inward : Bool) (i sb fb fe : ℕ) → sb ≤ fb → fb ≤ fe
    → returned_event inward i (Memory (stack_cap sb fe fb)) ≡ Some (ReturnedEvent inward i fb fe)
returned_here inward i sb fb fe low high = rw (le-leb sb fb low, le-leb fb fe high) refl

part_some : (l : Layout) (f : Face) → is_some (trusted_part l f) ≡ is_some (trusted_owner l f)
part_some l f = by_owner (trusted_owner l f)
  where
    by_owner : (r : Option Owner) → is_some (option_map (λ o. o.part) r) ≡ is_some r
    by_owner None = refl
    by_owner (Some o) = refl

module _ (g : Link) (linked : IsLink g) (r1 r2 : Reg) (o : OState) (t : State Word)
    (rd : AtReturn g.layout r1 r2 o) (m : IsFlat g.layout o t) (k : Looks g.layout o)
    (v : View g o.frames o.maps (Back r1 r2)) (q : OState) (y : Returned g.layout r1 r2 o q)
    (free : NoEnd g.layout (y.site.at + CALL_WORDS) (y.site.at + (SITE_WORDS - 1))) where
  abbrev l : Layout
  l = g.layout

  abbrev F : OpenFrame
  F = y.frame

  sound : FrameSound l o.maps.cells F
  sound = rd.frames F y.older y.frames_are

  eg : frame_of o.frames F.call ≡ Some F
  eg = ap (λ z. frame_of z F.call) y.frames_are ∙ frame_of-newest F y.older

  ex : opened_of (flat l o.frames (reg o.maps.regs r1)) ≡ Some
      (record {
        seal = y.site.seal;
        content = MemC (code_cap y.site.base y.site.end (y.site.at + CALL_WORDS));
      })
  ex = code_some l r1 r2 o t rd m k F.site y.site y.code_is y.site_is

  flat_is : flat l o.frames (reg o.maps.regs r2) ≡ Sealed y.site.seal (MemIn (stack_cap F.base F.end F.base))
  flat_is = data_is l r1 r2 o t rd m k F.call F (Some y.site) y.data_is eg y.site_is

  abbrev u : State Word
  u = s1 l r1 r2 o t rd m k F.site y.code_is y.site y.site_is ex F.call y.data_is F eg y.site_is
      (ap opened_of flat_is) flat_is refl

  jumped : step_of id id t ≡ went u
  jumped = sym (run_one id id t)
      ∙ jumps l r1 r2 o t rd m k F.site y.code_is y.site y.site_is ex F.call y.data_is F eg y.site_is
      (ap opened_of flat_is) flat_is refl

  first_word_is : framed o.frames F.base ≡ Some (Plain sound.first)
  first_word_is =
      let z : F.base - F.base ≡ 0 = omega arith in
      let f : word_of F F.base ≡ Some (Plain sound.first) = word_of-within F F.base (omega arith)
      ∙ ap (slice_get F.words) z ∙ ap (λ ws. slice_get ws 0) sound.words in
      ap (λ z. framed z F.base) y.frames_are ∙ ap (λ z. option_or z (framed y.older F.base)) f

  first_cell : cell t.cells F.base ≡ Some sound.first
  unfolding beside flat
  first_cell =
      m.cells F.base
      ∙ ap (λ z. mapped_or (flat l o.frames) z (beside l o.frames F.base))
      (sound.gone F.base (omega arith) sound.order)
      ∙ ap (λ z. mapped_or (flat l o.frames) z None) first_word_is

  stk_u : u.regs.stk ≡ Mem (record (stack_cap l.stack.base (y.cap).end 0) { addr = (y.cap).addr })
  stk_u = stk_kept l r1 r2 o t rd m k F.site y.code_is y.site y.site_is ex F.call y.data_is F eg y.site_is
      (ap opened_of flat_is) flat_is refl y.cap y.own ∙ ap Mem ((own_is l o.maps y.cap y.own).1)

  code_u : HasReturn id u.cells y.site.base y.site.end (y.site.at + CALL_WORDS) l.stack.base
  code_u = code_is l r1 r2 o t rd m k F.site y.code_is y.site y.site_is ex F.call y.data_is F eg y.site_is
      (ap opened_of flat_is) flat_is refl

  its : HasSite l o.maps.cells y.site
  its = rd.sites F.site y.site y.site_is

  abbrev u9 : State Word
  u9 = record u {
    regs = record u.regs {
      pc = Mem (code_cap y.site.base y.site.end (y.site.at + CALL_WORDS + (RETURN_WORDS - 1)));
      stk = Mem (stack_cap l.stack.base F.end F.base);
      dat = sound.first;
      t1 = zero_word id;
      t2 = Mem (code_cap y.site.base y.site.end (y.site.base + code_u.fail));
    };
    cells = set_cell u.cells F.base (zero_word id);
  }

  nine : run_of id id (RETURN_WORDS - 1) u ≡ went u9
  nine =
      let ab = sound.above in let od = sound.order in let top = sound.in_stack in let sm = rd.small_stack in
      return_nine id id (λ x. refl) u y.site.base y.site.end (y.site.at + CALL_WORDS)
      l.stack.base (y.cap).end F.base F.end (y.cap).addr sound.first code_u
      refl stk_u refl y.joins (omega (arith, ab)) od (omega (arith, top, sm))
      (its.apart F.base (omega (arith, ab)) (omega (arith, od, top))) first_cell sound.normal

  abbrev u10 : State Word
  u10 = record u {
    regs = record u.regs {
      pc = Mem (code_cap y.site.base y.site.end (y.site.at + CALL_WORDS + RETURN_WORDS));
      stk = Mem (stack_cap l.stack.base F.end F.base);
      dat = sound.first;
      t1 = zero_word id;
      t2 = zero_word id;
    };
    cells = set_cell u.cells F.base (zero_word id);
  }

  ten : run_of id id RETURN_WORDS u ≡ went u10
  ten =
      let ab = sound.above in let od = sound.order in let top = sound.in_stack in let sm = rd.small_stack in
      return_runs id id (λ x. refl) u y.site.base y.site.end (y.site.at + CALL_WORDS)
      l.stack.base (y.cap).end F.base F.end (y.cap).addr sound.first code_u
      refl stk_u refl y.joins (omega (arith, ab)) od (omega (arith, top, sm))
      (its.apart F.base (omega (arith, ab)) (omega (arith, od, top))) first_cell sound.normal

  starts : y.site.base ≤ y.site.at + CALL_WORDS + (RETURN_WORDS - 1)
  starts = let a = code_u.at_is in omega (arith, a)

  ends : y.site.at + CALL_WORDS + (RETURN_WORDS - 1) ≤ y.site.end
  ends = let a = code_u.ends in omega (arith, a)

  move_stands : Num u9 (y.site.at + CALL_WORDS + (RETURN_WORDS - 1))
      (pos (number_of (Move T2 (Imm (pos 0)))))
  move_stands =
      let ab = sound.above in let od = sound.order in let top = sound.in_stack in
      clearing_stands id id (λ x. refl) u.cells y.site.base y.site.end (y.site.at + CALL_WORDS) l.stack.base
      F.base (zero_word id) (its.apart F.base (omega (arith, ab)) (omega (arith, od, top))) code_u

  pc9 : u9.regs.pc ≡ Mem (code_cap y.site.base y.site.end (y.site.at + CALL_WORDS + (RETURN_WORDS - 1)))
  pc9 = refl

  noted9 : noted l u9 ≡ Last F.site
  unfolding noted
  noted9 =
      let w : y.site.at + (SITE_WORDS - 1) ≡ y.site.at + CALL_WORDS + (RETURN_WORDS - 1) = omega arith in
      ap (noted_by l u9)
      (jump_is u9 y.site.base y.site.end (y.site.at + CALL_WORDS + (RETURN_WORDS - 1)) (Move T2 (Imm (pos 0)))
      pc9 starts ends move_stands (search rules))
      ∙ ap (λ f. note_last (site_word l (SITE_WORDS - 1) f))
      (shown_at u9 y.site.base y.site.end (y.site.at + CALL_WORDS + (RETURN_WORDS - 1)) pc9)
      ∙ ap note_last
      (word_at l (SITE_WORDS - 1) (y.site.at + CALL_WORDS + (RETURN_WORDS - 1))
      (Memory (code_cap y.site.base y.site.end (y.site.at + CALL_WORDS + (RETURN_WORDS - 1))))
      (Some F.site)
      (target_code y.site.base y.site.end (y.site.at + CALL_WORDS + (RETURN_WORDS - 1)) starts ends)
      (subst (λ a. Rattle.run_lines.specs.Layout.site_before l (SITE_WORDS - 1) a ≡ Some F.site)
      w (site_there g linked F.site (SITE_WORDS - 1) y.site y.site_is))
      (trusted_code g linked F.site y.site y.site_is (y.site.at + CALL_WORDS + (RETURN_WORDS - 1))))

  same_end : (w : State Word) → run_of id id (RETURN_WORDS + 1) t ≡ went w → u10 ≡ w
  same_end w e = let z : went u10 ≡ went w = sym ten ∙ after_step RETURN_WORDS t u (went w) jumped e in cc

  event9 : (w : State Word) (inward : Bool) → run_of id id (RETURN_WORDS + 1) t ≡ went w → IsFlat l q w
      → event_after l (Last F.site) inward (flat_view l q) ≡ Some (ReturnedEvent inward F.site F.base F.end)
  unfolding event_after
  event9 w inward e mq =
      let ab = sound.above in
      ap (λ z. returned_event inward F.site (face_of z))
      (sym (mq.regs Stk) ∙ sym (ap (λ (z : State Word). z.regs.stk) (same_end w e)))
      ∙ returned_here inward F.site l.stack.base F.base F.end (omega (arith, ab)) sound.order

  abbrev now : Bool
  now = is_some (owner_now l o)

  told : Some (ReturnedEvent now F.site F.base F.end) ≡ told_after l (note_by l o (Back r1 r2)) q
  told = sym (ap (λ fs. told_after l (note_return now fs) q) y.frames_are)

  -- its line is the overlay's
  pub return_whole : (w : State Word) (n : ℕ) (inward : Bool) → run_of id id (RETURN_WORDS + 1) t ≡ went w
      → IsFlat l q w
      → lines_of l (at_state t n inward) (RETURN_WORDS + 1) ≡ lines_for l (flat_view l q)
      (told_after l (note_by l o (Back r1 r2)) q)
  return_whole w n inward e mq =
      let step : step_of id id u9
      ≡ went w = last_step (RETURN_WORDS - 1) u u9 w nine (after_step RETURN_WORDS t u (went w) jumped e) in
      let bit : inward_after (noted l t) inward ≡ now =
      ap (λ z. inward_after z inward) (noted_back g linked r1 r2 o t rd m k v F.site y.site y.site_is ex)
      ∙ ap (λ f. is_some (trusted_part l f)) (face_same l o t m k Pc)
      ∙ part_some l (faces look o.maps Pc) in
      mute_step l t u n inward RETURN_WORDS
      (back_line g linked r1 r2 o t rd m k v F.site y.site y.site_is ex u n inward jumped) jumped
      ∙ ap (λ b. lines_of l (at_state u (n + 1) b) RETURN_WORDS) bit
      ∙ calm_then l (RETURN_WORDS - 1) 1 u u9 (n + 1)
      now (calm_behind g linked r1 r2 o t rd m k v F.site y.site y.site_is ex free u jumped) nine
      ∙ line_flat l q u9 w (n + 1 + (RETURN_WORDS - 1)) now step mq
      ∙ ap (λ z. lines_for l (flat_view l q) (event_after l z now (flat_view l q))) noted9
      ∙ ap (lines_for l (flat_view l q)) (event9 w now e mq ∙ told)
