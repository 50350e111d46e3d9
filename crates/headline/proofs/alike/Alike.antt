-- From the invariant: what each step writes, and so what a run does.
use Rattle.call_sequence.specs.declared.TheConstants.{CALL_WORDS, RETURN_WORDS, ENTRY_WORDS, SITE_WORDS}
use Rattle.std.proofs.Common.{◌≡◌, ℕ, zero, suc, ◌+◌, ◌-◌, ◌<◌, ◌≤◌, Bool, true, List, [], ◌++◌, Some}
use Rattle.std.proofs.Common.{refl, sym, ap, ◌∙◌, arith, subst}
use Rattle.std.specs.Prelude.{if◌then◌else◌}
use Rattle.std.proofs.lemmas.List.{append-nil}
use Rattle.trusted_border.specs.declared.layout.Layout.{Layout}
use Rattle.trusted_border.specs.declared.layout.SiteCode.{SiteCode}
use Rattle.trusted_border.specs.Layout.{site_code}
use Rattle.overlay_machine.proofs.Offers.{no_ret_code, never_entry, flat-mem, HasEntry-flat, code_some}
use Rattle.overlay_machine.proofs.Offers.{good_at, View, at_entry, in_part, failing, out, view, ready, looks}
use Rattle.overlay_machine.proofs.Offers.{called, returned, kept}
use Rattle.cap_words.specs.declared.Word.{Word}
use Rattle.lcm_isa.specs.declared.Reg.{Reg}
use Rattle.lcm_isa.specs.declared.Reg.TheVariants.{Pc}
use Rattle.lcm_machine.specs.declared.Place.TheVariants.{R}
use Rattle.lcm_machine.specs.Maps.{State}
use Rattle.lcm_machine.specs.Places.{reg}
use Rattle.lcm_machine.specs.Row.{went, faces, cell_faces, fetch}
use Rattle.lcm_machine.specs.Run.{Run, next_state, plain, fresh, EndsAs}
use Rattle.lcm_machine.specs.Runs.{run_of}
use Rattle.lcm_machine.proofs.Offers.{plain_ends}
use Rattle.call_sequence.specs.Places.{begins_entry}
use Rattle.linked_starts.specs.Parts.{PartSeen}
use Rattle.overlay_machine.specs.declared.words.OWord.{OWord}
use Rattle.overlay_machine.specs.declared.words.OWord.TheVariants.{Plain, RetCode, RetData}
use Rattle.overlay_machine.specs.declared.cases.Case.{Case}
use Rattle.overlay_machine.specs.declared.cases.Case.TheVariants.{Call, Entry, Back, Other}
use Rattle.overlay_machine.specs.Words.{look, is_ret_code}
use Rattle.overlay_machine.specs.State.{OState}
use Rattle.overlay_machine.specs.Step.{goes, case_fetched, case_of, step_by, overlay_step, weight_by}
use Rattle.overlay_machine.specs.Step.{weight_of}
use Rattle.overlay_machine.specs.Flat.{IsFlat}
use Rattle.overlay_machine.specs.Agree.{Looks, AtSite, AtEntry, AtReturn, ReadyFor}
use Rattle.overlay_machine.specs.Events.{note_by, event_after as told_after, step_event}
use Rattle.overlay_machine.specs.Runs.{Reached, plain_run}
use Rattle.overlay_machine.specs.Link.{Link, IsTrusted}
use Rattle.overlay_machine.specs.Linked.{IsLink}
use Rattle.overlay_machine.specs.Invariant.{Invariant, KeepsAgreeing}
use Rattle.run_lines.specs.Views.{flat_view}
use Rattle.run_lines.specs.Lines.{Line, lines_for}
use Rattle.run_lines.specs.Runs.{Watched, begun, watched, lines_of}
use Rattle.run_lines.specs.Told.{step_lines, Told, none_yet, and_then, EndsOverlay}
use Rattle.headline.specs.Alike.{LinesAgree}
use Rattle.run_lines.proofs.Offers.{lines_split}
use Rattle.run_lines.proofs.Offers.{reached_by}
use Rattle.headline.proofs.alike.Calm.{id, at_state, IsEnd, Calm}
use Rattle.headline.proofs.alike.Mute.{Mute, calm_mute, mute_lines, mute_ends, alike_goes, alike_ends}
use Rattle.headline.proofs.alike.Laying.{NoEnd}
use Rattle.headline.proofs.alike.Apart.{site_outer, entry_outer, no_end}
use Rattle.headline.proofs.alike.SequencesCalm.{entry_calm}
use Rattle.headline.proofs.alike.Others.{other_whole}
use Rattle.headline.proofs.alike.CallLine.{whole_calm, call_whole, ret_mute}
use Rattle.headline.proofs.alike.Returns.{back_mute}
use Rattle.headline.proofs.alike.ReturnLine.{return_whole}

calm_less : (l : Layout) (n : ℕ) (s : State Word) → Calm l (suc n) s → Calm l n s
calm_less l zero s h = tt
calm_less l (suc n) s h = λ s' e. let q = h s' e in (q.0, calm_less l n s' q.1)

module _ (g : Link) (linked : IsLink g) where
  abbrev l : Layout
  l = g.layout

  -- no site ends inside a site or an entry
  pub site_free : (i : ℕ) (s : SiteCode) → site_code l i ≡ Some s → NoEnd l s.at (s.at + (SITE_WORDS - 1))
  site_free i s es =
      let f = linked.sites i s es in
      let st = f.3 in
      let at = st.at_is in
      let ins = st.inside in
      λ a lo hi. no_end g linked f.0 st.offset (SITE_WORDS - 1) f.2
      (site_outer g linked f.0 st.offset f.2 st.site)
      (omega (arith, ins)) (omega arith) a (omega (arith, at, lo)) (omega (arith, at, hi))

  entry_free : (p : PartSeen) (o a : ℕ) → IsTrusted g p → a ≡ p.component.code_base + o
      → begins_entry p.component o ≡ true → NoEnd l a (a + ENTRY_WORDS)
  entry_free p o a ip ea e =
      let ins = (linked.entries p o ip e).inside in
      λ q lo hi. no_end g linked p o ENTRY_WORDS ip (entry_outer g linked p o ip e) (omega (arith, ins))
      (omega arith)
      q (omega (arith, ea, lo)) (omega (arith, ea, hi))

  module _ (o : OState) (t : State Word) (inv : Invariant g o t) where
    m : IsFlat l o t
    m = inv.flat

    k : Looks l o
    k = looks g linked o t inv

    -- ---- all but the last of a step's instructions write nothing

    abbrev Muted : Case → Type 0
    Muted c = (n : ℕ) × (weight_by o.maps c ≡ suc n) × Mute l n t

    call_muted : (i : ℕ) (a : AtSite l i o) → Muted (Call i)
    call_muted i a = by_word o.maps.regs.c1 refl
      where
        free : NoEnd l a.site.at (a.site.at + (CALL_WORDS - 1))
        free = λ q lo hi. site_free i a.site a.is_site q lo (omega (arith, hi))

        by_word : (w : OWord) → o.maps.regs.c1 ≡ w → Muted (Call i)
        by_word (Plain w) e = (
          (CALL_WORDS - 1),
          ap (λ y. if is_ret_code y then CALL_WORDS + 1 else CALL_WORDS)
              e,
          calm_mute l (CALL_WORDS - 1) t (whole_calm g linked i o t a m k free),
        )
        by_word (RetData n) e = (
          (CALL_WORDS - 1),
          ap (λ y. if is_ret_code y then CALL_WORDS + 1 else CALL_WORDS)
              e,
          calm_mute l (CALL_WORDS - 1) t (whole_calm g linked i o t a m k free),
        )
        by_word (RetCode j) e = (
          CALL_WORDS,
          ap (λ y. if is_ret_code y then CALL_WORDS + 1 else CALL_WORDS) e,
          ret_mute g linked i
              o t a m k free j e,
        )

    entry_muted : (a : ℕ) → View g o.frames o.maps (Entry a) → AtEntry l a o → Calm l ENTRY_WORDS t
    entry_muted a (at_entry p off ip ea e at) r =
        entry_calm l t r.base r.end a l.stack.base
        (HasEntry-flat l o t m k r.base r.end a l.stack.base r.entry)
        (m.regs Pc ∙ flat-mem l o.frames _ _ r.pc) r.small_stack (entry_free p off a ip ea e)
    entry_muted a (in_part p off ip ne ns at c) r = absurd (never_entry o.maps _ a c)
    entry_muted a (out h c) r = absurd (never_entry o.maps _ a c)

    back_muted : (r1 r2 : Reg) → View g o.frames o.maps (Back r1 r2) → AtReturn l r1 r2 o → Muted (Back r1 r2)
    back_muted r1 r2 v rd = by_word (reg o.maps.regs r1) refl
      where
        by_word : (w : OWord) → reg o.maps.regs r1 ≡ w → Muted (Back r1 r2)
        by_word (Plain w) e = (0, ap (λ y. if is_ret_code y then RETURN_WORDS + 1 else 1) e, tt)
        by_word (RetData n) e = (0, ap (λ y. if is_ret_code y then RETURN_WORDS + 1 else 1) e, tt)
        by_word (RetCode j) e = (
            let s = inv.met (R r1) (RetCode j) (ap Some e) in (
              RETURN_WORDS,
              ap (λ y. if is_ret_code y then RETURN_WORDS + 1 else 1)
                  e,
              back_mute g linked r1 r2 o t rd m k v j s.0 s.1 (code_some l r1 r2 o t rd m k j s.0 e s.1)
                  (λ q lo hi. site_free j s.0 s.1 q (omega (arith, lo)) hi),
            ))

    muted : (c : Case) → View g o.frames o.maps c → ReadyFor l o c → Muted c
    muted (Call i) v r = call_muted i r
    muted (Entry a) v r = (
      ENTRY_WORDS - 1,
      refl,
      calm_mute l (ENTRY_WORDS - 1) t (calm_less l (ENTRY_WORDS - 1) t (entry_muted a v r)),
    )
    muted (Back r1 r2) v r = back_muted r1 r2 v r
    muted Other v r = (0, refl, tt)

    -- ---- and those of a step that goes write its lines

    is_other : View g o.frames o.maps Other
        → case_fetched o.maps (fetch (faces look o.maps Pc) (cell_faces look o.maps)) ≡ Other
    is_other (in_part p off ip ne ns at c) = sym c
    is_other (failing next p off ip lt h e) = ap (case_fetched o.maps) e
    is_other (out h c) = sym c

    abbrev Whole : Case → Type 0
    Whole c = (u : State Word) (q : OState) (n : ℕ) (inward : Bool) → step_by l c o ≡ goes q
        → run_of id id (weight_by o.maps c) t ≡ went u → IsFlat l q u → Looks l q
        → lines_of l (at_state t n inward) (weight_by o.maps c) ≡ lines_for l (flat_view l q)
        (told_after l (note_by l o c) q)

    whole_by : (c : Case) → View g o.frames o.maps c → ReadyFor l o c → Whole c
    whole_by (Call i) v r u q n inward e run mq kq =
        let c = called l i o q e in
        let z : weight_by o.maps (Call i) ≡ CALL_WORDS =
        ap (λ b. if b then CALL_WORDS + 1 else CALL_WORDS) (no_ret_code o.maps.regs.c1 c.plain1) in
        let a : AtSite l i o = r in
        ap (lines_of l (at_state t n inward)) z
        ∙ call_whole g linked i o t a m k (λ y lo hi. site_free i a.site a.is_site y lo (omega (arith, hi)))
        u q n inward e (ap (λ w. run_of id id w t) (sym z) ∙ run) mq kq
    whole_by (Entry a) v r u q n inward e run mq kq =
        mute_lines l ENTRY_WORDS ENTRY_WORDS t n inward (calm_mute l ENTRY_WORDS t (entry_muted a v r))
        (omega arith)
    whole_by (Back r1 r2) v r u q n inward e run mq kq =
        let y = returned l r1 r2 o q e in
        let z : weight_by o.maps (Back r1 r2) ≡ RETURN_WORDS + 1 =
        ap (λ w. if is_ret_code w then RETURN_WORDS + 1 else 1) y.code_is in
        ap (lines_of l (at_state t n inward)) z
        ∙ return_whole g linked r1 r2 o t r m k v q y
        (λ b lo hi. site_free (y.frame).site y.site y.site_is b (omega (arith, lo)) hi)
        u n inward (ap (λ w. run_of id id w t) (sym z) ∙ run) mq
    whole_by Other v r u q n inward e run mq kq =
        other_whole g linked o t m k r v (is_other v) u q n inward e run mq kq

    -- ---- of a step

    seen : View g o.frames o.maps (case_of l o.maps)
    seen = view g linked o.frames o.maps inv.code inv.pc

    step_muted : (n : ℕ) × (weight_of l o ≡ suc n) × Mute l n t
    unfolding weight_of
    step_muted = muted (case_of l o.maps) seen (ready g linked o t inv)

    step_whole : (q : OState) (n : ℕ) (inward : Bool) → overlay_step l o ≡ goes q
        → lines_of l (at_state t n inward) (weight_of l o) ≡ step_lines l o q
    unfolding overlay_step weight_of step_event
    step_whole q n inward e =
        let a : KeepsAgreeing g (goes q) (run_of id id (weight_of l o) t) =
        subst (λ y. KeepsAgreeing g y (run_of id id (weight_of l o) t)) e (kept g linked o t inv) in
        let f = alike_goes (Invariant g) q (run_of id id (weight_of l o) t) a in
        whole_by (case_of l o.maps) seen (ready g linked o t inv)
        f.0 q n inward e f.1 (f.2).flat (looks g linked q f.0 f.2)

    step_within : (n j : ℕ) (inward : Bool) → j < weight_of l o → lines_of l (at_state t n inward) j ≡ []
    step_within n j inward lt = let s = step_muted in let z =
        s.1 in mute_lines l s.0 j t n inward s.2 (omega (arith, lt, z))

    step_ended : (n j : ℕ) (inward : Bool) → EndsOverlay l o → lines_of l (at_state t n inward) j ≡ []
    step_ended n j inward h =
        let s = step_muted in
        mute_ends l s.0 t n inward s.2
        (subst (λ w. IsEnd (run_of id id w t))
        s.1 (alike_ends (Invariant g) (overlay_step l o) _ h (kept g linked o t inv))) j

  -- ---- of a run

  ran : (r : Run) (n : ℕ) → (watched l (begun r) n).run ≡ plain n r
  ran r zero = refl
  ran r (suc n) = ap next_state (ran r n)

  module _ (o : OState) (t : State Word) (inv : Invariant g o t) where
    abbrev first : Watched
    first = begun (fresh t)

    stands : (j : ℕ) (u : State Word) → plain_run j t ≡ went u
        → watched l first j ≡ at_state u j (watched l first j).inward
    stands j u e =
        let at : EndsAs j (went u) (plain j (fresh t)) =
        subst (λ r. EndsAs j r (plain j (fresh t))) e (plain_ends j t) in
        ap (λ (r : Run). let w : Watched = record { run = r; inward = (watched l first j).inward } in w)
        (ran (fresh t) j ∙ at)

    -- after a matched point, the lines of so many instructions more
    more : (j k : ℕ) (ls : List Line) (p : OState) → Reached l o j p → lines_of l first j ≡ ls
        → (ms : List Line)
        → ((u : State Word) (inward : Bool) → Invariant g p u → lines_of l (at_state u j inward) k ≡ ms)
        → lines_of l first (j + k) ≡ ls ++ ms
    more j k ls p r es ms law =
        let h = good_at l (Invariant g) (λ q u i. i.flat) (λ q u i. kept g linked q u i) o t inv j p r in
        lines_split l first j k
        ∙ ap (λ y. lines_of l first j ++ y)
        (ap (λ w. lines_of l w k) (stands j h.0 h.1) ∙ law h.0 (watched l first j).inward h.2)
        ∙ ap (λ y. y ++ ms) es

    at_matched : (j : ℕ) (ls : List Line) (p : OState) → Told l o j ls p → lines_of l first j ≡ ls
    at_matched _ _ _ none_yet = refl
    at_matched _ _ q (and_then {j = j} {ls = ls} {p = p} r e) =
        more j (weight_of l p) ls p (reached_by l o j ls p r) (at_matched j ls p r) (step_lines l p q)
        (λ u inward i. step_whole p u i q j inward e)

    quiet : (j n : ℕ) (ls : List Line) (p : OState) → Told l o j ls p → j ≤ n
        → ((u : State Word) (inward : Bool) → Invariant g p u → lines_of l (at_state u j inward) (n - j) ≡ [])
        → lines_of l first n ≡ ls
    quiet j n ls p r le law =
        let e : n ≡ j + (n - j) = omega (arith, le) in
        ap (λ k. lines_of l first k) e
        ∙ more j (n - j) ls p (reached_by l o j ls p r) (at_matched j ls p r) [] law ∙ append-nil ls

    pub lines_agree : LinesAgree l o t
    lines_agree = record {
      matched = at_matched;
      between =
          λ j n ls p r le lt.
          quiet j n ls p r le (λ u inward i. step_within p u i j (n - j) inward (omega (arith, le, lt)));
      ended = λ j n ls p r le h. quiet j n ls p r le (λ u inward i. step_ended p u i j (n - j) inward h);
    }
