-- A call of trusted code, and what it is to be back from it.
use Rattle.call_sequence.specs.declared.TheConstants.{CALL_WORDS, SITE_WORDS}
use Rattle.std.proofs.Common.{◌≡◌, ◌⊎◌, inl, inr, ℕ, zero, suc, ◌+◌, ◌-◌, ◌<◌, ◌≤◌, pos, ◌+ℤ◌, List, [], ◌∷◌}
use Rattle.std.proofs.Common.{length, Some, None, true, false, refl, sym, ap, ◌∙◌, subst, arith, le-leb}
use Rattle.std.proofs.Common.{lt-ltb}
use Rattle.std.proofs.lemmas.Bool.{cases_lt}
use Rattle.std.specs.Prelude.{slice_get, unwrap_or, int_lt, nat_le, ◌&&◌}
use Rattle.std.specs.Option.{option_or}
use Rattle.std.proofs.lemmas.Int.{ints}
use Rattle.cap_words.specs.declared.Word.TheVariants.{Int, Mem, Sealed}
use Rattle.cap_words.specs.declared.Sealable.{Sealable}
use Rattle.cap_words.specs.declared.Sealable.TheVariants.{Mem as MemIn, Seal as SealIn}
use Rattle.cap_words.specs.declared.CapFields.{CapFields}
use Rattle.cap_words.specs.Linear.{is_linear, zero_word, lin_is}
use Rattle.cap_words.specs.Face.{opened_of}
use Rattle.cap_words.specs.Faces.{may_run, covers}
use Rattle.lcm_isa.specs.declared.Reg.{Reg}
use Rattle.lcm_isa.specs.declared.Reg.TheVariants.{Pc, Dat, C1, C2}
use Rattle.lcm_isa.specs.declared.Instr.TheVariants.{Xjmp}
use Rattle.lcm_machine.specs.Table.{runs_in, unsealed}
use Rattle.lcm_machine.specs.declared.Place.TheVariants.{R}
use Rattle.lcm_machine.specs.Cells.{cell, all_there, words_from, put_back}
use Rattle.lcm_machine.specs.Row.{put, row, went, opens}
use Rattle.lcm_machine.specs.Runs.{code_cap}
use Rattle.lcm_machine.proofs.Offers.{stays, xjmp_goes, cell-without_out}
use Rattle.call_sequence.specs.Holds.{part_stack_cap}
use Rattle.linked_starts.specs.Parts.{PartSeen}
use Rattle.trusted_border.specs.declared.layout.SiteCode.{SiteCode}
use Rattle.trusted_border.specs.declared.events.Event.TheVariants.{Called}
use Rattle.trusted_border.specs.Layout.{site_at, site_code}
use Rattle.trusted_border.specs.Reaches.{site_of_seal}
use Rattle.overlay_machine.specs.declared.words.OWord.{OWord}
use Rattle.overlay_machine.specs.declared.words.OWord.TheVariants.{Plain}
use Rattle.overlay_machine.specs.declared.cases.Case.TheVariants.{Call}
use Rattle.overlay_machine.specs.Words.{look, is_plain}
use Rattle.overlay_machine.specs.State.{OpenFrame, OState, Cells, framed, word_of}
use Rattle.overlay_machine.specs.Step.{goes, case_of, step_by, call_step, ask, need, own_stack, new_frame}
use Rattle.overlay_machine.specs.Step.{at_call, with_frames, overlay_step, weight_of, weight_by}
use Rattle.overlay_machine.specs.Step.{state_resumed}
use Rattle.overlay_machine.specs.Events.{step_event, note_by, note_call, site_opened, event_after}
use Rattle.overlay_machine.specs.Link.{Link, IsTrusted, ranges_of}
use Rattle.overlay_machine.specs.Linked.{IsLink, SiteOf}
use Rattle.overlay_machine.proofs.Offers.{words_from-at, all_there-from, put_back-in, put_back-other}
use Rattle.overlay_machine.proofs.Offers.{own_from, own_is, stack_cells, safe_stk, Returned}
use Rattle.overlay_machine.proofs.Offers.{length-words_from}
use Rattle.template_runs.specs.Public.{IsShown}
use Rattle.template_runs.specs.Runs.{is_inside, Makes}
use Rattle.template_runs.proofs.Valid.{Valid, valid_called, mem_public}
use Rattle.template_runs.proofs.Steps.{At, inside_here, trusted_here}
use Rattle.template_runs.proofs.Slots.{holds_get, holds_same}
use Rattle.template_runs.proofs.Rows.{Here, DataIs, data_not_stack, stack_free}
use Rattle.template_runs.specs.Border.{content_of}

opened_sealed : (n : ℕ) (d : Sealable)
    → opened_of (Sealed n d) ≡ Some (record { seal = n; content = content_of d })
opened_sealed n (MemIn c) = refl
opened_sealed n (SealIn s) = refl

int_lt_pos : (a b : ℕ) → a < b → int_lt (pos a) (pos b) ≡ true
int_lt_pos a b h = lt-ltb a b h

module _ (g : Link) (linked : IsLink g) where
  -- a site of a part stands at an offset
  pub record SiteHere (p : PartSeen) (k i : ℕ) (u : SiteCode) : Type 0 where
    pub index : ℕ
    pub site : SiteOf p index u
    pub offset_is : site.offset ≡ k
    pub code_is : site_code g.layout i ≡ Some u
    pub found : site_at g.layout (p.component.code_base + k) ≡ Some i

  -- the pair in c1 and c2: two halves under one seal
  pub record Pair (c : CapFields) (d : Sealable) (seal : ℕ) (o : OState) : Type 0 where
    pub code : o.maps.regs.c1 ≡ Plain (Sealed seal (MemIn c))
    pub half : o.maps.regs.c2 ≡ Plain (Sealed seal d)
    pub normal : lin_is c.lin ≡ false
    pub runs : may_run c.perm ≡ true
    pub half_normal : is_linear (Sealed seal d) ≡ false
    pub half_rests : runs_in (content_of d) ≡ false
    pub foreign : site_of_seal g.layout seal ≡ None

  module _ (p : PartSeen) (w top : ℕ) (words : List OWord) (mem : ℕ → OWord) (fs : List OpenFrame)
      (o : OState) (h : Here g linked p w top words mem fs o)
      (k i : ℕ) (u : SiteCode) (at : At g linked p k o) (s : SiteHere p k i u) where
    within : k < length p.component.code
    within = let a = s.site.inside in let b = s.offset_is in omega (arith, a, b)

    pub case_call : case_of g.layout o.maps ≡ Call i
    unfolding case_of
    case_call = rw (trusted_here g linked p k o at within) (rw s.found refl)

    module _ (room : g.layout.stack.base + w + 2 ≤ top + 1) where
      cur : h.at ≡ pos (top - w)
      cur = let c = h.cursor in omega (arith, ints, c, room)

      pub own : own_stack g.layout o.maps ≡ Some (part_stack_cap (ranges_of p) top (pos (top - w)))
      own = own_from g.layout o.maps _
          (h.stk ∙ ap (λ z. Mem (part_stack_cap (ranges_of p) top z)) cur) refl refl
          (linked.stack_bases p at.trusted)

      pub all : all_there o.maps.cells (top - w) (top + 1 - (top - w)) ≡ true
      all = all_there-from o.maps.cells (top - w) (top + 1 - (top - w))
          (λ q low high. stack_cells g linked o.maps.cells o.frames h.valid.holds.there q (
            (let l : g.layout.stack.base ≤ q = omega (arith, low, room) in l),
            (let e = h.high in let l : q ≤ g.layout.stack.end = omega (arith, high, e) in l),
            ap (λ f. framed f q) h.frames ∙ h.free q (omega (arith, low, room)) (omega (arith, high)),
          ))

      pub above : (int_lt (pos g.layout.stack.base) (pos (top - w)) && covers
          (part_stack_cap (ranges_of p) top (pos (top - w))) (pos (top - w))) ≡ true
      above =
          let sb = linked.stack_bases p at.trusted in
          let a : g.layout.stack.base < top - w = omega (arith, room) in
          let b : (ranges_of p).stack_base ≤ top - w = omega (arith, room, sb) in
          let c : top - w ≤ top = omega arith in
          rw (
            int_lt_pos g.layout.stack.base (top - w) a,
            le-leb (ranges_of p).stack_base (top - w) b,
            le-leb (top - w) top c,
          ) refl

      pub within_stack : nat_le top g.layout.stack.end ≡ true
      within_stack = le-leb top g.layout.stack.end h.high

      module _ (c : CapFields) (d : Sealable) (seal : ℕ) (pair : Pair c d seal o) where
        -- the state after the call
        abbrev pub called_to : OState
        called_to = record {
          maps = put (put (at_call i u (part_stack_cap (ranges_of p) top (pos (top - w))) o) (R Pc)
              (Plain (Mem c))) (R Dat) (Plain (unsealed (content_of d)));
          frames = new_frame i (top - w) top o ∷ o.frames;
          calls = o.calls + 1;
        }

        does : row look Plain (Xjmp C1 C2) (Int (pos 0))
            (at_call i u (part_stack_cap (ranges_of p) top (pos (top - w))) o) ≡ went called_to.maps
        does = xjmp_goes look Plain C1 C2 (Int (pos 0))
            (at_call i u (part_stack_cap (ranges_of p) top (pos (top - w))) o) _ seal c (content_of d)
            (ap (λ x. opened_of (look x)) pair.code)
            (ap (λ x. opened_of (look x)) pair.half ∙ opened_sealed seal d) pair.normal
            pair.runs pair.half_rests
            (stays look Plain _ (R C2) (ap (λ x. is_linear (look x)) pair.half ∙ pair.half_normal))

        pub call_goes : call_step g.layout i o ≡ goes called_to
        unfolding call_step ask need
        call_goes = rw (s.code_is)
            (rw own (rw above (rw (all, within_stack)
            (rw (ap is_plain pair.code, ap is_plain pair.half)
            (ap (with_frames (new_frame i (top - w) top o ∷ o.frames) (o.calls + 1)) does)))))

        event_is : step_event g.layout o called_to ≡ Some
            (Called (is_inside g.layout called_to) i (top - w) top)
        unfolding step_event opens
        event_is = ap (λ x. event_after g.layout (note_by g.layout o x) called_to) case_call
            ∙ ap (λ x. event_after g.layout (note_call (site_opened g.layout (opened_of (look x)))) called_to)
            pair.code
            ∙ ap (λ x. event_after g.layout (note_call x) called_to) pair.foreign

        weight_is : weight_of g.layout o ≡ CALL_WORDS
        unfolding weight_of
        weight_is = ap (weight_by o.maps) case_call ∙ rw pair.code refl

        pub call_makes : Makes g.layout CALL_WORDS
            (Some (Called (is_inside g.layout called_to) i (top - w) top)) o
            called_to
        unfolding overlay_step
        call_makes = record {
          inside = inside_here g linked p k o at;
          goes_on = ap (λ x. step_by g.layout x o) case_call ∙ call_goes;
          weight = weight_is;
          event = event_is;
        }

        -- what holds of that state
        pub called_valid : Valid g linked called_to
        called_valid =
            let hi = h.high in
            valid_called g linked o called_to h.valid call_makes.goes_on (new_frame i (top - w) top o)
            o.maps.regs.dat (top - w) (top - (top - w)) top refl refl refl
            (mem_public g o.maps.regs.dat _ h.dat (λ p k ip e. cc))
            (λ b low high. stack_free g linked b (omega (arith, low, room)) (omega (arith, high, hi)))

        pub called_data : DataIs g linked mem called_to.maps.cells
        called_data x n ix lt = cell-without_out o.maps.cells (top - w) top (x.component.data_base + n) out
            ∙ h.globs x n ix lt
          where
            out : (x.component.data_base + n < top - w) ⊎ (top < x.component.data_base + n)
            out = elim (cases_lt (x.component.data_base + n) (top - w)) as (λ _.
                (x.component.data_base + n < top - w) ⊎ (top < x.component.data_base + n)) [
                  | inl a ↦ inl a
                  | inr b ↦ elim (cases_lt top (x.component.data_base + n)) as (λ _.
                      (x.component.data_base + n < top - w) ⊎ (top < x.component.data_base + n)) [
                        | inl a ↦ inr a
                        | inr a ↦ absurd (let hi = h.high in
                            data_not_stack g linked x n ix lt (omega (arith, b, room)) (omega (arith, a, hi)))
                      ]
                ]

        below_frame : (a : ℕ) → a < top - w → word_of (new_frame i (top - w) top o) a ≡ None
        unfolding word_of
        below_frame a lt = rw (lt-ltb a (top - w) lt) refl

        free_below : (a : ℕ) → g.layout.stack.base ≤ a → a ≤ top - w - 1 → framed called_to.frames a ≡ None
        free_below a lo hi =
            let lt : a < top - w = omega (arith, hi, room) in
            ap (λ x. option_or x (framed o.frames a)) (below_frame a lt) ∙ ap (λ f. framed f a) h.frames
            ∙ h.free a lo (omega (arith, hi))

        -- stk is what lies below the frame
        pub called_stk : IsShown g called_to.frames called_to.maps.regs.stk
        called_stk =
            let sb = linked.stack_bases p at.trusted in
            let high = h.high in (
              safe_stk g linked called_to.frames p at.trusted called_to.maps.regs.stk (top - w - 1)
                  (pos (top - w - 1)) refl (
                    omega (arith, room, sb),
                    λ a lo hi. (
                      omega (arith, lo, sb),
                      omega (arith, hi, high),
                      free_below a (omega (arith, lo, sb)) hi,
                    ),
                  ),
              λ q j iq e. cc,
            )

        pub called_own : own_stack g.layout called_to.maps ≡ Some
            (part_stack_cap (ranges_of p) (top - w - 1) (pos (top - w - 1)))
        called_own =
            own_from g.layout called_to.maps
            (part_stack_cap (ranges_of p) (top - w - 1) (pos (top - w - 1))) refl
            refl refl
            (linked.stack_bases p at.trusted)

    -- ---- back from the call, by whatever `xjmp`

    module _ (mem' : ℕ → OWord) (r1 r2 : Reg) (t q : OState) (room : g.layout.stack.base + w + 2 ≤ top + 1)
        (r : Returned g.layout r1 r2 t q) (is : r.frame ≡ new_frame i (top - w) top o) (older : r.older ≡ fs)
        (globs : DataIs g linked mem' t.maps.cells) (valid : Valid g linked q) where
      abbrev Frame : OpenFrame
      Frame = new_frame i (top - w) top o

      abbrev Put : Cells
      Put = put_back t.maps.cells (top - w)
          (zero_word Plain ∷ words_from Plain o.maps.cells (top - w + 1) (top - (top - w)))

      -- the state after the return
      pub back_is : q ≡ state_resumed r.site r.cap Frame fs (put t.maps (R r2) (zero_word Plain)) t
      back_is = r.result ∙ ap (λ f. state_resumed r.site r.cap f r.older
          (put t.maps (R r2) (zero_word Plain)) t) is
          ∙ ap (λ f. state_resumed r.site r.cap Frame f (put t.maps (R r2) (zero_word Plain)) t) older

      site_same : r.site ≡ u
      site_same = let e : Some r.site ≡ Some u = sym r.site_is ∙ ap (λ f. site_code g.layout f.site) is
          ∙ s.code_is in cc

      slot_back : (j : ℕ) → j < length words → cell Put (top - j) ≡ cell o.maps.cells (top - j)
      slot_back j lt =
          let ft = h.fit in
          let n = w - j - 1 in
          let a : top - w + (w - j) ≡ top - j = omega (arith, lt, ft, room) in
          let len = length-words_from o.maps.cells (top - w + 1) (top - (top - w)) in
          let lt1 : w - j < length
          (zero_word Plain ∷ words_from Plain o.maps.cells (top - w + 1) (top - (top - w))) =
          omega (arith, len, lt, ft, room) in
          let lt2 : w - j - 1 < top - (top - w) = omega (arith, lt, ft, room) in
          let sucs : w - j ≡ suc (w - j - 1) = omega (arith, lt, ft) in
          let b : top - w + 1 + (w - j - 1) ≡ top - j = omega (arith, lt, ft, room) in
          let z : top - (0 + j) ≡ top - j = omega arith in
          let x = there words j lt in
          let got : cell o.maps.cells (top - j) ≡ Some x.0 = ap (cell o.maps.cells) (sym z)
          ∙ holds_get o.maps.cells top 0 words j x.0 x.1 h.slots in
          ap (cell Put) (sym a)
          ∙ put_back-in t.maps.cells (top - w)
          (zero_word Plain ∷ words_from Plain o.maps.cells (top - w + 1) (top - (top - w))) (w - j) lt1
          ∙ ap (slice_get (zero_word Plain ∷ words_from Plain o.maps.cells (top - w + 1) (top - (top - w))))
          sucs
          ∙ words_from-at o.maps.cells (top - w + 1) (top - (top - w)) (w - j - 1) lt2
          ∙ ap (λ y. Some (unwrap_or (cell o.maps.cells y) (zero_word Plain))) b
          ∙ ap (λ y. Some (unwrap_or y (zero_word Plain))) got ∙ sym got
        where
          there : (ws : List OWord) (i : ℕ) → i < length ws → (x : OWord) × (slice_get ws i ≡ Some x)
          there [] i lt = absurd (omega (arith, lt))
          there (x ∷ ws) zero lt = (x, refl)
          there (x ∷ ws) (suc i) lt = there ws i (omega (arith, lt))

      data_back : DataIs g linked mem' Put
      data_back x d ix lt =
          let len = length-words_from o.maps.cells (top - w + 1) (top - (top - w)) in
          let hi = h.high in
          put_back-other t.maps.cells (top - w) _ (x.component.data_base + d) (out x d ix lt)
          ∙ globs x d ix lt
        where
          out : (x : PartSeen) (d : ℕ) → IsTrusted g x → d < length x.component.data_words
              → (x.component.data_base + d < top - w)
              ⊎ (top - w + length (zero_word Plain ∷ words_from Plain o.maps.cells (top - w + 1)
              (top - (top - w))) ≤ x.component.data_base + d)
          out x d ix lt = elim (cases_lt (x.component.data_base + d) (top - w)) as (λ _.
              (x.component.data_base + d < top - w)
              ⊎ (top - w + length (zero_word Plain ∷ words_from Plain o.maps.cells (top - w + 1)
              (top - (top - w))) ≤ x.component.data_base + d)) [
                | inl a ↦ inl a
                | inr b ↦ inr (elim (cases_lt top (x.component.data_base + d)) as (λ _. top - w + length
                    (zero_word Plain ∷ words_from Plain o.maps.cells (top - w + 1) (top - (top - w)))
                    ≤ x.component.data_base + d) [
                      | inl c ↦ (let len = length-words_from o.maps.cells (top - w + 1) (top - (top - w)) in
                          omega (arith, len, c, room))
                      | inr c ↦ absurd (let hi = h.high in
                          data_not_stack g linked x d ix lt (omega (arith, b, room)) (omega (arith, c, hi)))
                    ])
              ]

      abbrev Back : OState
      Back = state_resumed r.site r.cap Frame fs (put t.maps (R r2) (zero_word Plain)) t

      cap_is : r.cap ≡ record (part_stack_cap (ranges_of p) r.cap.end (pos 0)) { addr = r.cap.addr }
      cap_is = (own_is g.layout t.maps r.cap r.own).1
          ∙ ap (λ b. record (part_stack_cap (ranges_of p) r.cap.end (pos 0)) { base = b; addr = r.cap.addr })
          (sym (linked.stack_bases p at.trusted))

      -- inside the procedure again, after the site
      pub here_back : Here g linked p w top words mem' fs q
      here_back = subst (Here g linked p w top words mem' fs) (sym back_is) (record {
        valid = subst (Valid g linked) back_is valid;
        at = pos (top - w);
        stk = ap (λ x. Mem (record x { end = top; addr = pos (top - w) })) cap_is;
        cursor = (let e : pos (top - w) +ℤ pos w ≡ pos top = omega (arith, ints, room) in e);
        dat = h.dat;
        slots = holds_same o.maps.cells Put top 0 words
            (λ j lt. let z : top - (0 + j) ≡ top - j = omega arith in ap (cell Put) z ∙ slot_back j lt
            ∙ ap (cell o.maps.cells) (sym z)) h.slots;
        fit = h.fit;
        globs = data_back;
        frames = refl;
        low = h.low;
        high = h.high;
        free = h.free;
      })

      pub at_back : At g linked p (k + SITE_WORDS) q
      at_back = subst (At g linked p (k + SITE_WORDS)) (sym back_is) (record {
        trusted = at.trusted;
        pc =
            let a = s.site.at_is in
            let b = s.offset_is in
            let e : u.at + SITE_WORDS ≡ p.component.code_base + (k + SITE_WORDS) = omega (arith, a, b) in
            ap (λ x. Mem (code_cap x.base x.end (x.at + SITE_WORDS))) site_same
            ∙ ap (λ y. Mem (code_cap y u.end (u.at + SITE_WORDS))) s.site.base_is
            ∙ ap (λ y. Mem (code_cap (ranges_of p).code_base y (u.at + SITE_WORDS))) s.site.end_is
            ∙ ap (λ y. Mem (code_cap (ranges_of p).code_base (ranges_of p).code_last y)) e;
      })
