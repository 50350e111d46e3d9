-- The line of a call that goes; and a call of a return word has none.
use Rattle.std.proofs.Common.{◌≡◌, inl, inr, ℕ, ◌+◌, ◌-◌, ◌≤◌, ℤ, pos, negsuc, Bool, true, ◌∷◌, Option, Some}
use Rattle.std.proofs.Common.{None, refl, sym, ap, ◌∙◌, arith, subst}
use Rattle.std.specs.Prelude.{option_map, option_and_then, is_some, nat_le}
use Rattle.std.proofs.lemmas.Bool.{cases_eq, cases_lt, lt-leb, and_left, and_right}
use Rattle.cap_words.specs.declared.Word.{Word}
use Rattle.cap_words.specs.declared.Word.TheVariants.{Mem}
use Rattle.cap_words.specs.declared.Opened.{Opened}
use Rattle.cap_words.specs.declared.Content.TheVariants.{Mem as MemC}
use Rattle.cap_words.specs.declared.Face.TheVariants.{Memory}
use Rattle.cap_words.specs.Face.{opened_of}
use Rattle.cap_words.specs.Faces.{address}
use Rattle.lcm_isa.specs.declared.Reg.TheVariants.{Pc, Stk, Rdata, C1, C2}
use Rattle.lcm_isa.specs.declared.Instr.TheVariants.{Xjmp}
use Rattle.lcm_isa.specs.Numbers.{number_of}
use Rattle.lcm_machine.specs.Maps.{State}
use Rattle.lcm_machine.specs.Cells.{cell}
use Rattle.lcm_machine.specs.Row.{faces, opens, row, step_of, went}
use Rattle.lcm_machine.specs.Runs.{run_of, code_cap}
use Rattle.lcm_machine.specs.Refusals.{HasFailed}
use Rattle.lcm_machine.proofs.Offers.{failed_more, step_row}
use Rattle.call_sequence.specs.declared.TheConstants.{CALL_WORDS}
use Rattle.call_sequence.specs.Sequences.{split_word}
use Rattle.call_sequence.specs.SequenceRuns.{stack_cap, HasCall}
use Rattle.call_sequence.proofs.Offers.{call_runs, xjmp_stands as call_xjmp, target_code}
use Rattle.trusted_border.specs.declared.layout.Layout.{Layout}
use Rattle.trusted_border.specs.declared.layout.SiteCode.{SiteCode}
use Rattle.trusted_border.specs.declared.events.Event.TheVariants.{Called as CalledEvent}
use Rattle.trusted_border.specs.Layout.{site_code, trusted_owner}
use Rattle.trusted_border.specs.Reaches.{site_of_seal}
use Rattle.overlay_machine.specs.declared.words.OWord.{OWord}
use Rattle.overlay_machine.specs.declared.words.OWord.TheVariants.{Plain, RetCode, RetData}
use Rattle.overlay_machine.specs.declared.cases.Case.TheVariants.{Call}
use Rattle.overlay_machine.specs.Words.{look, is_plain}
use Rattle.overlay_machine.specs.State.{OState}
use Rattle.overlay_machine.specs.Step.{goes, call_step, new_frame}
use Rattle.overlay_machine.specs.Flat.{flat, IsFlat}
use Rattle.overlay_machine.specs.Agree.{AtSite, Looks}
use Rattle.overlay_machine.specs.Events.{site_opened, note_call, note_by}
use Rattle.overlay_machine.specs.Events.{event_after as told_after, called_event as called_told}
use Rattle.overlay_machine.specs.Link.{Link}
use Rattle.overlay_machine.specs.Linked.{IsLink}
use Rattle.overlay_machine.proofs.Offers.{flat-mem, cell-flat, HasCall-flat, some_of, opened-code, its_site}
use Rattle.overlay_machine.proofs.Offers.{owns, dat_normal, t15, outside, lowest, Called, called}
use Rattle.run_lines.specs.declared.note.Note.{Note}
use Rattle.run_lines.specs.declared.note.Note.TheVariants.{Leap}
use Rattle.run_lines.specs.Layout.{is_trusted, trusted_part, site_word}
use Rattle.run_lines.specs.Views.{View, view_of, flat_view}
use Rattle.run_lines.specs.Events.{noted, noted_by, reaches_trusted, leapt_by, event_after}
use Rattle.run_lines.specs.Events.{called as called_event}
use Rattle.run_lines.specs.Lines.{lines_for}
use Rattle.run_lines.specs.Runs.{lines_of}
use Rattle.headline.proofs.alike.Calm.{id, Num, at_state, Calm, calm_then}
use Rattle.headline.proofs.alike.Mute.{Mute, calm_mute, mute_more, line_goes, line_flat}
use Rattle.headline.proofs.alike.Laying.{NoEnd, jump_is, word_at, shown_at}
use Rattle.headline.proofs.alike.Operands.{last_step}
use Rattle.headline.proofs.alike.Sites.{site_there, seal_there, trusted_code, foreign_none}
use Rattle.headline.proofs.alike.SequencesCalm.{call_calm}
use Rattle.headline.proofs.alike.Lands.{xjmp_opens, rdata_stays}
use Rattle.headline.proofs.alike.Others.{face_now}

-- ---- the event

call_event : (l : Layout) (from : Option ℕ) (i : ℕ) (seal : Option ℕ) (v : View) (pair : Option Opened)
    → is_some from ≡ true → option_and_then (site_of_seal l) seal ≡ None → opened_of (v.reg Rdata) ≡ pair
    → leapt_by l from (Some i) seal v ≡ called_event (reaches_trusted l v) i pair
call_event l None i seal v pair f s e = cc
call_event l (Some p) i seal v pair f s e = rw (s, e) refl

seal_known : (l : Layout) (from : Option ℕ) (i : ℕ) (seal : Option ℕ) (v : View) → is_some from ≡ true
    → is_some (option_and_then (site_of_seal l) seal) ≡ true → leapt_by l from (Some i) seal v ≡ None
seal_known l None i seal v f e = cc
seal_known l (Some p) i seal v f e = rw e refl

opened_seal : (l : Layout) (y : Option Opened)
    → site_opened l y ≡ option_and_then (site_of_seal l) (option_map (λ (z : Opened). z.seal) y)
opened_seal l None = refl
opened_seal l (Some y) = refl

part_there : (l : Layout) (f : Rattle.cap_words.specs.declared.Face.Face) → is_trusted l f ≡ true
    → is_some (trusted_part l f) ≡ true
part_there l f h = by_owner (trusted_owner l f) h
  where
    by_owner : (r : Option Rattle.linked_starts.specs.declared.owners.Owner.Owner) → is_some r ≡ true
        → is_some (option_map (λ o. o.part) r) ≡ true
    by_owner None e = cc
    by_owner (Some o) e = refl

module _ (g : Link) (linked : IsLink g) (i : ℕ) (o : OState) (t : State Word) (at_site : AtSite g.layout i o)
    (m : IsFlat g.layout o t) (k : Looks g.layout o)
    (free : NoEnd g.layout at_site.site.at (at_site.site.at + (CALL_WORDS - 1))) where
  abbrev l : Layout
  l = g.layout

  abbrev site : SiteCode
  site = at_site.site

  has_call : HasCall id t.cells site.base site.end site.at site.seal
  has_call = HasCall-flat l o t m k site.base site.end site.at site.seal (its_site l i o t at_site m k).call

  pub whole_calm : Calm l (CALL_WORDS - 1) t
  whole_calm =
      let top = at_site.in_stack in
      call_calm l t site.base site.end site.at site.seal
      (record (stack_cap l.stack.base at_site.end 0) { addr = at_site.to }) has_call
      (m.regs Pc ∙ flat-mem l o.frames _ _ at_site.pc) (m.regs Stk ∙ flat-mem l o.frames _ _ at_site.stk)
      (λ q inside. let hi = inside.1 in (its_site l i o t at_site m k).apart q inside.0
      (omega (arith, hi, top)))
      free

  c1_opened : (w : Word) → o.maps.regs.c1 ≡ Plain w → t.regs.c1 ≡ w
  unfolding flat
  c1_opened w e = m.regs C1 ∙ ap (flat l o.frames) e

  -- the word in c1 is under no return seal
  foreign_seal : (c : OWord) → o.maps.regs.c1 ≡ c → is_plain c ≡ true
      → option_and_then (site_of_seal l) (option_map (λ (z : Opened). z.seal) (opened_of t.regs.c1)) ≡ None
  foreign_seal (Plain w) e p =
      ap (λ y. option_and_then (site_of_seal l) (option_map (λ (z : Opened). z.seal) (opened_of y)))
      (c1_opened w e)
      ∙ sym (opened_seal l (opened_of w)) ∙ foreign_none g linked w (at_site.foreign w e) (opened_of w) refl
  foreign_seal (RetCode j) e p = cc
  foreign_seal (RetData j) e p = cc

  told_calls : (c : OWord) → o.maps.regs.c1 ≡ c → is_plain c ≡ true
      → site_opened l (opens look o.maps C1) ≡ None
  unfolding opens
  told_calls (Plain w) e p = ap (λ y. site_opened l (opened_of (look y))) e
      ∙ foreign_none g linked w (at_site.foreign w e) (opened_of w) refl
  told_calls (RetCode j) e p = cc
  told_calls (RetData j) e p = cc

  module _ (b : ℕ) (cursor : at_site.to ≡ pos (b + 1)) (low : l.stack.base ≤ b) (high : b + 1 ≤ at_site.end)
    where
      abbrev pub s15 : State Word
      s15 = t15 l i o t at_site m k b cursor low high

      prepares : run_of id id (CALL_WORDS - 1) t ≡ went s15
      prepares =
          let e = at_site.in_stack in
          let d = at_site.small_stack in
          call_runs id id (λ x. refl) t site.base site.end site.at site.seal l.stack.base at_site.end b _
          has_call
          (m.regs Pc ∙ flat-mem l o.frames _ _ at_site.pc)
          (m.regs Stk
          ∙ flat-mem l o.frames _ _
          (at_site.stk ∙ ap (λ c. Mem (record (stack_cap l.stack.base at_site.end 0) { addr = c })) cursor))
          (dat_normal l i o t at_site m k) low high (omega (arith, e, d))
          ((its_site l i o t at_site m k).apart (b + 1) (omega (arith, low)) (omega (arith, e, high)))
          (cell-flat l o t (b + 1)
          _ m (some_of (cell o.maps.cells (b + 1))
          (Plain (Rattle.cap_words.specs.declared.Word.TheVariants.Int (pos 0)))
          (at_site.owned (b + 1) (omega (arith, low)) high)))

      starts : site.base ≤ site.at + (CALL_WORDS - 1)
      starts = let a = has_call.at_is in omega (arith, a)

      ends : site.at + (CALL_WORDS - 1) ≤ site.end
      ends = let a = has_call.ends in omega (arith, a)

      xjmp_stands : Num s15 (site.at + (CALL_WORDS - 1)) (pos (number_of (Xjmp C1 C2)))
      xjmp_stands =
          let e = at_site.in_stack in
          call_xjmp id id (λ x. refl) t.cells site.base site.end site.at site.seal (b + 1) t.regs.dat has_call
          ((its_site l i o t at_site m k).apart (b + 1) (omega (arith, low)) (omega (arith, e, high)))

      pc15 : s15.regs.pc ≡ Mem (code_cap site.base site.end (site.at + (CALL_WORDS - 1)))
      pc15 = refl

      row15 : (u : State Word) → step_of id id s15 ≡ went u
          → row id id (Xjmp C1 C2) (Mem (code_cap site.base site.end (site.at + (CALL_WORDS - 1) + 1))) s15
          ≡ went u
      row15 u e =
          sym (step_row id id s15 site.base site.end (site.at + (CALL_WORDS - 1)) (Xjmp C1 C2)
          pc15 starts ends xjmp_stands tt) ∙ e

      abbrev Note15 : Note
      Note15 = Leap
          (record {
            from = trusted_part l (Memory (code_cap site.base site.end (site.at + (CALL_WORDS - 1))));
            call =
                Some i;
            seal = option_map (λ (z : Opened). z.seal) (opened_of t.regs.c1);
          })

      noted15 : noted l s15 ≡ Note15
      unfolding noted opens
      noted15 =
          ap (noted_by l s15)
          (jump_is s15 site.base site.end (site.at + (CALL_WORDS - 1)) (Xjmp C1 C2) pc15 starts ends
          xjmp_stands tt)
          ∙ ap (λ f. let n : Note =
          Leap (record {
            from = trusted_part l f;
            call = site_word l (CALL_WORDS - 1) f;
            seal =
                option_map (λ (z : Opened). z.seal) (opened_of t.regs.c1);
          }) in n)
          (shown_at s15 site.base site.end (site.at + (CALL_WORDS - 1)) pc15)
          ∙ ap (λ c. let n : Note =
          Leap (record {
            from = trusted_part l (Memory (code_cap site.base site.end (site.at + (CALL_WORDS - 1))));
            call =
                c;
            seal = option_map (λ (z : Opened). z.seal) (opened_of t.regs.c1);
          }) in n)
          (word_at l (CALL_WORDS - 1) (site.at + (CALL_WORDS - 1))
          (Memory (code_cap site.base site.end (site.at + (CALL_WORDS - 1)))) (Some i)
          (target_code site.base site.end (site.at + (CALL_WORDS - 1)) starts ends)
          (site_there g linked i (CALL_WORDS - 1) site at_site.is_site)
          (trusted_code g linked i site at_site.is_site (site.at + (CALL_WORDS - 1))))

      from15 : is_some (trusted_part l (Memory (code_cap site.base site.end (site.at + (CALL_WORDS - 1)))))
          ≡ true
      from15 = part_there l (Memory (code_cap site.base site.end (site.at + (CALL_WORDS - 1))))
          (trusted_code g linked i site at_site.is_site (site.at + (CALL_WORDS - 1)))

      event15 : (u : State Word) (q : OState) (inward : Bool) → is_plain o.maps.regs.c1 ≡ true
          → step_of id id s15 ≡ went u → IsFlat l q u
          → event_after l Note15 inward (flat_view l q)
          ≡ Some (CalledEvent (reaches_trusted l (flat_view l q)) i (b + 1) at_site.end)
      unfolding event_after
      event15 u q inward p e mq =
          call_event l _ i _ (flat_view l q)
          (Some (record { seal = site.seal; content = MemC (stack_cap (b + 1) at_site.end (b + 1)) }))
          from15 (foreign_seal o.maps.regs.c1 refl p)
          (ap opened_of (sym (mq.regs Rdata)) ∙ ap opened_of (rdata_stays s15 u _ (row15 u e)))

      call_line : (u : State Word) (q : OState) (n : ℕ) (inward : Bool) → is_plain o.maps.regs.c1 ≡ true
          → run_of id id CALL_WORDS t ≡ went u → IsFlat l q u
          → lines_of l (at_state t n inward) CALL_WORDS ≡ lines_for l (flat_view l q)
          (Some (CalledEvent (reaches_trusted l (flat_view l q)) i (b + 1) at_site.end))
      call_line u q n inward p e mq =
          let step : step_of id id s15 ≡ went u = last_step (CALL_WORDS - 1) t s15 u prepares e in
          calm_then l (CALL_WORDS - 1) 1 t s15 n inward whole_calm prepares
          ∙ line_flat l q s15 u (n + (CALL_WORDS - 1)) inward step mq
          ∙ ap (λ y. lines_for l (flat_view l q) (event_after l y inward (flat_view l q))) noted15
          ∙ ap (lines_for l (flat_view l q)) (event15 u q inward p step mq)

  -- the same, from the overlay's step
  by_cursor : (u : State Word) (q : OState) (n : ℕ) (inward : Bool) (c : Called l i o q)
      → run_of id id CALL_WORDS t ≡ went u → IsFlat l q u → Looks l q → (z : ℤ) → at_site.to ≡ z
      → c.cap ≡ record (stack_cap l.stack.base at_site.end 0) { addr = z }
      → lines_of l (at_state t n inward) CALL_WORDS ≡ lines_for l (flat_view l q)
      (told_after l (note_by l o (Call i)) q)
  by_cursor u q n inward c e mq kq (negsuc a) z s = let ab = c.above in let bad : address c.cap.addr ≡ 0 =
      ap (λ y. address y.addr) s in absurd (omega (arith, ab, bad))
  by_cursor u q n inward c e mq kq (pos a) z s =
      let ab = c.above in
      let wi = c.within in
      let ad : address c.cap.addr ≡ a = ap (λ y. address y.addr) s in
      let en : c.cap.end ≡ at_site.end = ap (λ y. y.end) s in
      let one : a ≡ a - 1 + 1 = omega (arith, ab, ad) in
      call_line (a - 1) (z ∙ ap pos one) (omega (arith, ab, ad)) (omega (arith, ad, en, wi, one))
      u q n inward c.plain1 e mq
      ∙ ap (λ y. lines_for l (flat_view l q)
      (Some (CalledEvent (reaches_trusted l (flat_view l q)) i y at_site.end))) (sym one ∙ sym ad)
      ∙ ap (λ y. lines_for l (flat_view l q)
      (Some (CalledEvent (reaches_trusted l (flat_view l q)) i (address c.cap.addr) y))) (sym en)
      ∙ ap (λ f. lines_for l (flat_view l q)
      (called_told (is_some (trusted_owner l f))
      (new_frame i (address c.cap.addr) c.cap.end o ∷ o.frames))) (face_now l q kq)
      ∙ ap (λ fs. lines_for l (flat_view l q)
      (called_told (is_some (trusted_owner l (faces look q.maps Pc))) fs))
      (sym (ap (λ y. y.frames) c.result))
      ∙ ap (λ r. lines_for l (flat_view l q) (told_after l (note_call r) q))
      (sym (told_calls o.maps.regs.c1 refl c.plain1))

  pub call_whole : (u : State Word) (q : OState) (n : ℕ) (inward : Bool) → call_step l i o ≡ goes q
      → run_of id id CALL_WORDS t ≡ went u → IsFlat l q u → Looks l q
      → lines_of l (at_state t n inward) CALL_WORDS ≡ lines_for l (flat_view l q)
      (told_after l (note_by l o (Call i)) q)
  call_whole u q n inward h e mq kq =
      let c = called l i o q h in
      let own : Some c.cap ≡ Some (record (stack_cap l.stack.base at_site.end 0) { addr = at_site.to }) =
      sym c.own ∙ owns l i o t at_site m k at_site.to refl in
      by_cursor u q n inward c e mq kq at_site.to refl cc

  -- ---- a call of a RetCode: its `xjmp` has no line

  module _ (j : ℕ) (e1 : o.maps.regs.c1 ≡ RetCode j) where
    ret_is : t.regs.c1 ≡ flat l o.frames (RetCode j)
    ret_is = m.regs C1 ∙ ap (flat l o.frames) e1

    known_seal : (y : Opened) → opened_of t.regs.c1 ≡ Some y
        → is_some
        (option_and_then (site_of_seal l) (option_map (λ (z : Opened). z.seal) (opened_of t.regs.c1)))
        ≡ true
    known_seal y e =
        elim (opened-code l o.frames j (site_code l j) refl)
        as (λ _. is_some
        (option_and_then (site_of_seal l) (option_map (λ (z : Opened). z.seal) (opened_of t.regs.c1)))
        ≡ true) [
          | inl h ↦ (let bad : None ≡ Some y = sym h ∙ sym (ap opened_of ret_is) ∙ e in cc)
          | inr h ↦
              ap (λ w. is_some (option_and_then (site_of_seal l) (option_map (λ (z : Opened). z.seal) w)))
              (ap opened_of ret_is ∙ h.2) ∙ seal_there g linked j h.0 h.1
        ]

    module _ (b : ℕ) (cursor : at_site.to ≡ pos (b + 1)) (low : l.stack.base ≤ b) (high : b + 1 ≤ at_site.end)
      where
        event_z : (u : State Word) (inward : Bool) → step_of id id (s15 b cursor low high) ≡ went u
            → event_after l (Note15 b cursor low high) inward (view_of u) ≡ None
        unfolding event_after
        event_z u inward e = let y =
            xjmp_opens (s15 b cursor low high) u C1 C2 _ (row15 b cursor low high u e) in
            seal_known l _ i _ (view_of u) (from15 b cursor low high) (known_seal y.0 y.1)

        last_mute : Mute l 1 (s15 b cursor low high)
        last_mute =
            λ u e. (
              λ c inward. line_goes l (s15 b cursor low high) u c inward e
                  ∙ ap (λ n. lines_for l (view_of u) (event_after l n inward (view_of u)))
                  (noted15 b cursor low high)
                  ∙ ap (lines_for l (view_of u)) (event_z u inward e),
              tt,
            )

    not_failed : (n d : ℕ) (u : State Word) → HasFailed (run_of id id n t) → n + d ≡ CALL_WORDS - 1
        → run_of id id (CALL_WORDS - 1) t ≡ went u → ⊥
    not_failed n d u h z e = let f = failed_more id id n d t h in let f2 : HasFailed
        (run_of id id (CALL_WORDS - 1) t) =
        subst (λ y. HasFailed (run_of id id y t)) z f in let f3 : HasFailed (went u) =
        subst (λ r. HasFailed r) e f2 in f3

    at_address : (u : State Word) → run_of id id (CALL_WORDS - 1) t ≡ went u → (a : ℕ) → at_site.to ≡ pos a
        → Mute l 1 u
    at_address u r a e = elim (cases_lt at_site.end a) as (λ _. Mute l 1 u) [
      | inl past ↦
          absurd (not_failed 1 (CALL_WORDS - 2) u
          (outside l i o t at_site m k (pos a)
          e (and_right (nat_le l.stack.base a) (nat_le a at_site.end) (lt-leb a at_site.end past))) refl r)
      | inr le ↦ elim (cases_lt l.stack.base a) as (λ _. Mute l 1 u) [
        | inl lt ↦
            (let one : a ≡ a - 1 + 1 = omega (arith, lt) in let cu =
            e ∙ ap pos one in let lo : l.stack.base ≤ a - 1 =
            omega (arith, lt) in let hi : a - 1 + 1 ≤ at_site.end = omega (arith, one, le) in
            let same : s15 (a - 1) cu lo hi ≡ u =
            (let q : went (s15 (a - 1) cu lo hi) ≡ went u = sym (prepares (a - 1) cu lo hi) ∙ r in cc) in
            subst (λ y. Mute l 1 y) same (last_mute (a - 1) cu lo hi))
        | inr ge ↦ elim (cases_eq a l.stack.base) as (λ _. Mute l 1 u) [
          | inl same ↦
              absurd (not_failed (split_word + 1) (CALL_WORDS - 2 - split_word) u
              (lowest l i o t at_site m k (e ∙ ap pos same) (omega (arith, same, le))) refl r)
          | inr ne ↦
              absurd (not_failed 1 (CALL_WORDS - 2) u
              (outside l i o t at_site m k (pos a)
              e (and_left (nat_le l.stack.base a) (nat_le a at_site.end)
              (lt-leb l.stack.base a (omega (arith, ge, ne))))) refl r)
        ]
      ]
    ]

    by_address : (u : State Word) → run_of id id (CALL_WORDS - 1) t ≡ went u → (z : ℤ) → at_site.to ≡ z
        → Mute l 1 u
    by_address u r (pos a) e = at_address u r a e
    by_address u r (negsuc a) e =
        absurd (not_failed 1 (CALL_WORDS - 2) u (outside l i o t at_site m k (negsuc a) e refl) refl r)

    pub ret_mute : Mute l CALL_WORDS t
    ret_mute = mute_more l (CALL_WORDS - 1) 1 t (calm_mute l (CALL_WORDS - 1) t whole_calm)
        (λ u r. by_address u r at_site.to refl)
