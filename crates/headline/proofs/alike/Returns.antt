-- An `xjmp` of a return word, and the words after it: no line but at the last.
use Rattle.std.proofs.Common.{◌≡◌, ℕ, ◌+◌, ◌-◌, ℤ, Bool, true, [], ◌∷◌, Option, Some, None}
use Rattle.std.proofs.Common.{refl, sym, ap, ◌∙◌, arith}
use Rattle.std.specs.Prelude.{option_map}
use Rattle.call_sequence.specs.declared.TheConstants.{CALL_WORDS, RETURN_WORDS, SITE_WORDS}
use Rattle.call_sequence.proofs.Offers.{stands_kept}
use Rattle.cap_words.specs.declared.Word.{Word}
use Rattle.cap_words.specs.declared.CapFields.{CapFields}
use Rattle.cap_words.specs.declared.Opened.{Opened}
use Rattle.cap_words.specs.declared.Content.TheVariants.{Mem as MemC}
use Rattle.cap_words.specs.Face.{face_of, opened_of}
use Rattle.lcm_isa.specs.declared.Reg.{Reg}
use Rattle.lcm_isa.specs.declared.Reg.TheVariants.{Pc}
use Rattle.lcm_isa.specs.declared.Instr.TheVariants.{Fail, Xjmp}
use Rattle.lcm_machine.specs.Maps.{State}
use Rattle.lcm_machine.specs.Places.{reg}
use Rattle.lcm_machine.specs.Row.{faces, cell_faces, opens, fetch, some, jump_in, jump_at, row, step_fetched}
use Rattle.lcm_machine.specs.Row.{step_of, went}
use Rattle.lcm_machine.specs.Runs.{code_cap}
use Rattle.lcm_machine.proofs.Offers.{fetch_mapped}
use Rattle.call_sequence.specs.Sequences.{return_code}
use Rattle.call_sequence.specs.SequenceRuns.{HasReturn}
use Rattle.trusted_border.specs.declared.layout.Layout.{Layout}
use Rattle.trusted_border.specs.declared.layout.SiteCode.{SiteCode}
use Rattle.trusted_border.specs.Layout.{site_code}
use Rattle.trusted_border.specs.Reaches.{closure_owner}
use Rattle.overlay_machine.specs.declared.cases.Case.TheVariants.{Back}
use Rattle.overlay_machine.specs.Words.{look}
use Rattle.overlay_machine.specs.State.{OState}
use Rattle.overlay_machine.specs.Flat.{flat, beside, IsFlat}
use Rattle.overlay_machine.specs.Agree.{AtReturn, Looks}
use Rattle.overlay_machine.specs.Link.{Link}
use Rattle.overlay_machine.specs.Linked.{IsLink}
use Rattle.overlay_machine.proofs.Offers.{HasReturn-flat, beside-none, View}
use Rattle.run_lines.specs.declared.note.Note.{Note}
use Rattle.run_lines.specs.declared.note.Note.TheVariants.{Leap}
use Rattle.run_lines.specs.Layout.{is_trusted, trusted_part, site_word}
use Rattle.run_lines.specs.Views.{View as Shown, view_of}
use Rattle.run_lines.specs.Events.{noted, noted_by, event_after, reaches_trusted, leapt_by}
use Rattle.run_lines.specs.Lines.{lines_for}
use Rattle.run_lines.specs.Runs.{line_next}
use Rattle.headline.proofs.alike.Calm.{id, Num, at_state, Calm}
use Rattle.headline.proofs.alike.Mute.{Mute, calm_mute, line_goes}
use Rattle.headline.proofs.alike.Laying.{NoEnd}
use Rattle.headline.proofs.alike.SequencesCalm.{return_calm}
use Rattle.headline.proofs.alike.Sites.{trusted_code, no_closure}
use Rattle.headline.proofs.alike.Apart.{back_apart}
use Rattle.headline.proofs.alike.Lands.{Landed, xjmp_lands}
use Rattle.headline.proofs.alike.Others.{face_same}

-- where numbers stay, a return stands as before
pub return_kept : (s u : State Word) (base last at sb : ℕ) → ((q : ℕ) (z : ℤ) → Num s q z → Num u q z)
    → HasReturn id s.cells base last at sb → HasReturn id u.cells base last at sb
return_kept s u base last at sb k h = record {
  offset = h.offset;
  fail = h.fail;
  at_is = h.at_is;
  code = stands_kept id id (λ x. refl) s u at (return_code h.fail h.offset sb) k h.code;
  ends = h.ends;
  small = h.small;
  fails = (stands_kept id id (λ x. refl) s u (base + h.fail) (Fail ∷ []) k h.fails.0, h.fails.1);
}

-- ---- the `xjmp`

no_leap : (l : Layout) (from : Option ℕ) (seal : ℕ) (v : Shown) → closure_owner l seal ≡ None
    → reaches_trusted l v ≡ true → leapt_by l from None (Some seal) v ≡ None
no_leap l None seal v c r = rw c refl
no_leap l (Some p) seal v c r = rw r refl

module _ (g : Link) (linked : IsLink g) (r1 r2 : Reg) (o : OState) (t : State Word)
    (rd : AtReturn g.layout r1 r2 o) (m : IsFlat g.layout o t) (k : Looks g.layout o)
    (v : View g o.frames o.maps (Back r1 r2)) (i : ℕ) (s : SiteCode) (es : site_code g.layout i ≡ Some s)
    (ex : opened_of (flat g.layout o.frames (reg o.maps.regs r1))
    ≡ Some (record { seal = s.seal; content = MemC (code_cap s.base s.end (s.at + CALL_WORDS)) })) where
  abbrev l : Layout
  l = g.layout

  abbrev pub code : CapFields
  code = code_cap s.base s.end (s.at + CALL_WORDS)

  got : fetch (faces id t Pc) (cell_faces id t) ≡ some (Xjmp r1 r2) rd.next
  got = fetch_mapped look id (flat l o.frames) (beside l o.frames)
      o.maps t m k.0 (λ a e. beside-none l o.frames a (rd.free a e)) ∙ rd.fetched

  row_is : (u : State Word) → step_of id id t ≡ went u → row id id (Xjmp r1 r2) rd.next t ≡ went u
  unfolding step_of
  row_is u e = sym (ap (step_fetched id id t) got) ∙ e

  t_opened : opened_of (reg t.regs r1) ≡ Some (record { seal = s.seal; content = MemC code })
  t_opened = ap opened_of (m.regs r1) ∙ ex

  pub lands : (u : State Word) → step_of id id t ≡ went u → Landed code t u
  lands u e = xjmp_lands t u r1 r2 rd.next s.seal code t_opened (row_is u e)

  abbrev pub NoteBack : Note
  NoteBack = Leap (record { from = trusted_part l (faces id t Pc); call = None; seal = Some s.seal })

  pub noted_back : noted l t ≡ NoteBack
  unfolding noted jump_at opens
  noted_back =
      ap (λ f. noted_by l t (jump_in f)) got
      ∙ ap (λ c. let n : Note =
      Leap (record {
        from = trusted_part l (faces id t Pc);
        call = c;
        seal =
            option_map (λ (z : Opened). z.seal) (opened_of (reg t.regs r1));
      }) in n)
      (ap (site_word l (CALL_WORDS - 1)) (face_same l o t m k Pc)
      ∙ back_apart g linked o.frames o.maps (Xjmp r1 r2)
      rd.next rd.fetched (λ q. cc) (CALL_WORDS - 1) (omega arith) (omega arith) r1 r2 v)
      ∙ ap (λ w. let n : Note =
      Leap (record {
        from = trusted_part l (faces id t Pc);
        call = None;
        seal =
            option_map (λ (z : Opened). z.seal) w;
      }) in n) t_opened

  back_event : (u : State Word) (inward : Bool) → step_of id id t ≡ went u
      → event_after l NoteBack inward (view_of u) ≡ None
  unfolding event_after
  back_event u inward e =
      no_leap l _ s.seal (view_of u) (no_closure g linked i s es)
      (ap (λ w. is_trusted l (face_of w)) (lands u e).0 ∙ trusted_code g linked i s es (s.at + CALL_WORDS))

  pub back_line : (u : State Word) (c : ℕ) (inward : Bool) → step_of id id t ≡ went u
      → line_next l (at_state t c inward) ≡ []
  back_line u c inward e =
      line_goes l t u c inward e ∙ ap (λ n. lines_for l (view_of u) (event_after l n inward (view_of u)))
      noted_back ∙ ap (lines_for l (view_of u)) (back_event u inward e)

  pub calm_behind : NoEnd l (s.at + CALL_WORDS) (s.at + (SITE_WORDS - 1)) → (u : State Word) → step_of id id t
      ≡ went u → Calm l (RETURN_WORDS - 1) u
  calm_behind free u e =
      let y = lands u e in
      return_calm l u s.base s.end (s.at + CALL_WORDS)
      l.stack.base
      (return_kept t u s.base s.end (s.at + CALL_WORDS)
      l.stack.base y.1
      (HasReturn-flat l o t m k s.base s.end (s.at + CALL_WORDS) l.stack.base (rd.sites i s es).back))
      y.0 rd.small_base (λ a lo hi. free a lo (omega (arith, hi)))

  pub back_mute : NoEnd l (s.at + CALL_WORDS) (s.at + (SITE_WORDS - 1)) → Mute l RETURN_WORDS t
  back_mute free = λ u e. (
    λ c inward. back_line u c inward e,
    calm_mute l (RETURN_WORDS - 1) u
        (calm_behind free u e),
  )
