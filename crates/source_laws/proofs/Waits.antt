-- The rule of a step of untrusted code, for a meaning that takes the next item of the feed.
use Rattle.std.proofs.Common.{◌≡◌, ◌≢◌, ◌-◌, ℕ, zero, suc, ◌+◌, ◌≤◌, pos, Option, Some, None, true, refl, sym}
use Rattle.std.proofs.Common.{ap, ◌∙◌, subst, arith, ◌⊎◌, ◌<◌, ◌++◌, List, [], ◌∷◌, length, inl, inr, false}
use Rattle.std.specs.Prelude.{option_map, option_and_then}
use Rattle.cap_words.specs.declared.Word.TheVariants.{Mem}
use Rattle.lcm_isa.specs.declared.Reg.{Reg}
use Rattle.lcm_isa.specs.declared.Reg.TheVariants.{Pc, Dat, Stk, Rcode, Rdata, A0}
use Rattle.lcm_machine.specs.Places.{reg}
use Rattle.lcm_machine.specs.Row.{faces}
use Rattle.call_sequence.specs.Holds.{data_cap, PcAt}
use Rattle.call_sequence.specs.Places.{begins_entry}
use Rattle.linked_starts.specs.Parts.{PartSeen}
use Rattle.linked_starts.specs.declared.owners.Owner.{Owner}
use Rattle.trusted_border.specs.declared.events.Event.{Event}
use Rattle.trusted_border.specs.declared.events.Event.TheVariants.{Entered}
use Rattle.trusted_border.specs.Reaches.{closure_owner, entry_number, back_of}
use Rattle.overlay_machine.specs.Words.{look}
use Rattle.overlay_machine.specs.State.{OState}
use Rattle.overlay_machine.specs.declared.words.OWord.{OWord}
use Rattle.overlay_machine.specs.Step.{Ending, goes, halts, fails, overlay_step, weight_of, rest_words}
use Rattle.overlay_machine.specs.Invariant.{FramesLie, FrameLies}
use Rattle.overlay_machine.specs.Events.{step_event, entered_event, shown_word}
use Rattle.overlay_machine.specs.Link.{Link, IsTrusted, ranges_of}
use Rattle.overlay_machine.specs.Linked.{IsLink}
use Rattle.overlay_machine.proofs.Offers.{Returned, put_back-other}
use Rattle.run_lines.specs.Layout.{part_name, entry_name, site_of}
use Rattle.run_lines.specs.Views.{flat_view}
use Rattle.source_events.specs.declared.Item.{Item}
use Rattle.source_events.specs.declared.Item.TheVariants.{Enter, Ret}
use Rattle.source_laws.proofs.Refined.{Comp, Thing, take_item}
use Rattle.source_laws.specs.Seen.{thing_of, rests, shown, event_outs, event_items, standing, ended, show}
use Rattle.source_laws.specs.Seen.{trace}
use Rattle.source_laws.specs.Trace.{Outside, HaltedWith, Failed, weighed}
use Rattle.source_laws.proofs.Follows.{Agrees}
use Rattle.source_laws.proofs.Agreeing.{taken, unseen, waits, weaker}
use Rattle.template_runs.specs.Border.{Shows, GivesBack, zero as no_word}
use Rattle.template_runs.proofs.Offers.{Live, none, untold, Clean, clean_first, clean_pending, Quiet, Stays}
use Rattle.template_runs.proofs.Offers.{quiet_outside, quiet_ended, halts_not, fails_not, Valid, Out}
use Rattle.template_runs.proofs.Offers.{SameData, Leaves, stays, enters, returns, outside_here, leaves, Named}
use Rattle.lcm_machine.specs.Cells.{cell, put_back}
use Rattle.std.proofs.lemmas.Bool.{cases_lt}
use Rattle.template_runs.specs.Runs.{is_inside}
use Rattle.source_laws.specs.Wiped.{last_outside}
use Rattle.source_laws.proofs.Wipes.{Wipes, crossed, crossings, cross_more, wipes_taken}
use Rattle.source_laws.proofs.Upto.{UpTo, Since, in_frame, stack_top, nothing_yet, nothing_more}
use Rattle.source_events.specs.Left.{left_in}
use Rattle.run_lines.specs.Feed.{integer_in, integers_in, feed_pairs}
use Rattle.run_lines.specs.Lines.{args_of, feed_back}
use Rattle.run_lines.specs.Pairs.{pairs_of}
use Rattle.template_runs.specs.Public.{IsShown, IsSharedAt}
use Rattle.cap_words.specs.Face.{face_of}

pub rest_length : (ws : List OWord) (j : ℕ) → length ws ≡ j + 1 → length (rest_words ws) ≡ j
rest_length [] j e = absurd (omega (arith, e))
rest_length (w ∷ ws) j e = omega (arith, e)

module _ (g : Link) (linked : IsLink g) where
  -- the items of an entry and of a return, as the state after them shows them
  abbrev thing : OState → Item → Thing
  thing q i = thing_of g.layout q i

  abbrev pub enter_item : OState → Owner → ℕ → Thing
  enter_item q w j =
      let v = flat_view g.layout q in
      thing q (Enter (part_name g.layout w.part) (entry_name g.layout w.part j)
      (left_in g.layout.stack.base (v.reg Stk)) (integers_in (args_of v))
      (feed_pairs g.layout (pairs_of g.layout v))
      (feed_back g.layout (back_of g.layout (v.reg Rcode) (v.reg Rdata))))

  abbrev pub ret_item : OState → ℕ → ℕ → Thing
  ret_item q i base = thing q (Ret (part_name g.layout (site_of g.layout i).part)
      (site_of g.layout i).index base
      (integer_in ((flat_view g.layout q).reg A0)))

  module _ (named : Named g) (ws : List OState) (o : OState) (h : Out g linked o) (n c : ℕ) (m : Comp)
      (next : Thing → Comp)
      (takes : m ≡ take_item next) where
    outside_none : trace g.layout zero o ≡ rests 0 Outside
    unfolding trace
    outside_none = ap (standing g.layout) (outside_here g linked o h)

    outside_more : (k : ℕ) (e : Ending) → overlay_step g.layout o ≡ e
        → trace g.layout (suc k) o ≡ show g.layout o e (trace g.layout k)
    unfolding trace
    outside_more k e i = ap (λ x. show g.layout o x (trace g.layout k)) i

    ends_out : Agrees c (rests 0 Outside) m
    ends_out = waits c m next takes

    -- whatever it does, if each way to go on agrees
    pub outside_law : ((q : OState) → Out g linked q → q.frames ≡ o.frames
        → SameData g linked o.maps.cells q.maps.cells → UpTo g ws none n c q m)
        → ((p : PartSeen) (k : ℕ) (ip : IsTrusted g p) (b : begins_entry p.component k ≡ true) (q : OState)
        → Valid g linked q → PcAt look (ranges_of p) k q.maps.regs
        → look q.maps.regs.dat ≡ Mem (data_cap (ranges_of p) (pos p.component.data_base))
        → ((d : Reg) → d ≢ Pc → d ≢ Dat → IsShown g q.frames (reg q.maps.regs d)) → IsSharedAt p.component k
        → q.frames ≡ o.frames → q.maps.cells ≡ o.maps.cells
        → UpTo g (q ∷ ws) (untold 0 (stack_top g q)) n c q
        (next (enter_item q (named.owner p ip) (named.entry p ip k b))))
        → ((r1 r2 : Reg) (q : OState) → Valid g linked q → (r : Returned g.layout r1 r2 o q)
        → UpTo g ws (in_frame r.frame) n c q (next (ret_item q r.frame.site r.frame.base)))
        → UpTo g ws none (suc n) c o m
    unfolding faces
    outside_law on_stay on_enter on_return = record {
      by = by;
      quiet = quiet_by (overlay_step g.layout o) refl;
      wiped = λ b low s k le. subst (λ x. Wipes g (crossings g.layout k b o) (trace g.layout k o).items (m x))
          (sym (s.outside (outside_here g linked o h))) (wiped b k le);
    }
      where
        silent : (k : ℕ) (q : OState) (e : Option Event) → overlay_step g.layout o ≡ goes q
            → step_event g.layout o q ≡ e
            → trace g.layout (suc k) o ≡ shown (event_outs g.layout q e)
            (event_items g.layout q e) 0 (trace g.layout k q)
        silent k q e i ev =
            outside_more k (goes q) i
            ∙ ap (λ b. shown (event_outs g.layout q (step_event g.layout o q))
            (event_items g.layout q (step_event g.layout o q))
            (weighed b (weight_of g.layout o)) (trace g.layout k q)) (outside_here g linked o h)
            ∙ ap (λ x. shown (event_outs g.layout q x)
            (event_items g.layout q x) 0 (trace g.layout k q)) ev

        -- a step that shows nothing, with the items that come in by it
        goes_by : (b : OState) (k : ℕ) (q : OState) (e : Option Event) (is : List Thing)
            → overlay_step g.layout o ≡ goes q → step_event g.layout o q ≡ e → event_outs g.layout q e ≡ []
            → event_items g.layout q e ≡ is
            → Wipes g (crossings g.layout k o q) (is ++ (trace g.layout k q).items) (m None)
            → Wipes g (crossings g.layout (suc k) b o) (trace g.layout (suc k) o).items (m None)
        goes_by b k q e is i ev eo ei w =
            let cs : crossings g.layout (suc k) b o ≡ crossings g.layout k o q =
            cross_more g.layout k b o (goes q) i
            ∙ ap (λ x. crossed b q x ++ crossings g.layout k (last_outside (is_inside g.layout o) b o) q)
            (ap (event_outs g.layout q) ev ∙ eo)
            ∙ ap (λ x. crossings g.layout k (last_outside x b o) q) (outside_here g linked o h) in
            let its : (trace g.layout (suc k) o).items ≡ is ++ (trace g.layout k q).items =
            ap (λ t. t.items) (silent k q e i ev) ∙ ap (λ x. x ++ (trace g.layout k q).items) ei in
            subst (λ x. Wipes g x (trace g.layout (suc k) o).items (m None)) (sym cs)
            (subst (λ x. Wipes g (crossings g.layout k o q) x (m None)) (sym its) w)

        entered_is : (p : PartSeen) (x : ℕ) (ip : IsTrusted g p) (b : begins_entry p.component x ≡ true)
            (q : OState) → PcAt look (ranges_of p) x q.maps.regs
            → step_event g.layout o q ≡ option_and_then (entered_event g.layout q)
            (closure_owner g.layout p.component.closure)
            → step_event g.layout o q ≡ Some (Entered (named.owner p ip).part (named.entry p ip x b)
            (back_of g.layout (shown_word g.layout q Rcode) (shown_word g.layout q Rdata)))
        entered_is p x ip b q pc ev =
            ev ∙ ap (option_and_then (entered_event g.layout q)) (named.owner_is p ip)
            ∙ ap (option_map (λ j. Entered (named.owner p ip).part j
            (back_of g.layout (shown_word g.layout q Rcode) (shown_word g.layout q Rdata))))
            (ap (entry_number (named.owner p ip)) (ap face_of pc) ∙ named.entry_is p ip x b)

        by_leaves : (k : ℕ) (q : OState) → k ≤ n → overlay_step g.layout o ≡ goes q → Leaves g linked o q
            → Agrees c (trace g.layout (suc k) o) m
        by_leaves k q le i (stays out fs same ev) =
            subst (λ t. Agrees c t m) (sym (silent k q None i ev))
            (weaker (0 + c) c _ m (omega arith)
            (unseen 0 c (trace g.layout k q) m ((on_stay q out fs same).by k le)))
        by_leaves k q le i (enters p x v ip b pc dat safe share fs cells ev) =
            let e = entered_is p x ip b q pc ev in
            subst (λ t. Agrees c t m) (sym (silent k q _ i e))
            (taken c (enter_item q (named.owner p ip) (named.entry p ip x b)) (trace g.layout k q) m next
            takes ((on_enter p x ip b q v pc dat safe share fs cells).by k le))
        by_leaves k q le i (returns r1 r2 v r ev) =
            subst (λ t. Agrees c t m) (sym (silent k q _ i ev))
            (taken c (ret_item q r.frame.site r.frame.base) (trace g.layout k q) m next takes
            ((on_return r1 r2 q v r).by k le))

        fewer_open : (r1 r2 : Reg) (q : OState) (r : Returned g.layout r1 r2 o q) → q.frames ≡ o.frames → ⊥
        fewer_open r1 r2 q r e =
            let a = ap length r.frames_are in
            let b = ap (λ x. length x.frames) r.result in
            let c = ap length e in
            omega (arith, a, b, c)

        -- the cells of the frame come back, and the others stay
        lies : (r1 r2 : Reg) (q : OState) (r : Returned g.layout r1 r2 o q)
            → FrameLies g.layout o.maps.cells r.frame
        lies r1 r2 q r = (subst (FramesLie g.layout o.maps.cells o.calls) r.frames_are h.valid.holds.frames).0

        came_back : (r1 r2 : Reg) (q : OState) (r : Returned g.layout r1 r2 o q)
            → Clean g o None (in_frame r.frame) q
        came_back r1 r2 q r =
            let it = lies r1 r2 q r in
            let ord = it.order in
            let len = it.words in
            let ab = it.above in
            let at : r.frame.end - (r.frame.end - r.frame.base) ≡ r.frame.base = omega (arith, ord) in
            let below : r.frame.base - 1 + 1 ≡ r.frame.end - (r.frame.end - r.frame.base) =
            omega (arith, ord, ab) in
            let there : q.maps.cells ≡ put_back o.maps.cells (r.frame.end - (r.frame.end - r.frame.base))
            (no_word ∷ rest_words r.frame.words) =
            ap (λ x. x.maps.cells) r.result
            ∙ ap (λ x. put_back o.maps.cells x (no_word ∷ rest_words r.frame.words)) (sym at) in
            clean_pending g o o q (r.frame.end - r.frame.base) r.frame.end (rest_words r.frame.words)
            (omega arith) there
            (rest_length r.frame.words (r.frame.end - r.frame.base) (omega (arith, len, ord))) None
            (r.frame.base - 1) 0 below (clean_first g o o (r.frame.base - 1) refl)

        stayed : (r1 r2 : Reg) (q : OState) (r : Returned g.layout r1 r2 o q) → Stays o q
        stayed r1 r2 q r a w there =
            ap (λ x. cell x.maps.cells a) r.result
            ∙ put_back-other o.maps.cells r.frame.base (no_word ∷ rest_words r.frame.words) a apart ∙ there
          where
            it : FrameLies g.layout o.maps.cells r.frame
            it = lies r1 r2 q r

            apart : (a < r.frame.base) ⊎ (r.frame.base + length (no_word ∷ rest_words r.frame.words) ≤ a)
            apart = elim (cases_lt a r.frame.base) as
                (λ _. (a < r.frame.base) ⊎ (r.frame.base + length (no_word ∷ rest_words r.frame.words) ≤ a)) [
                  | inl lt ↦ inl lt
                  | inr ge ↦ elim (cases_lt r.frame.end a) as
                      (λ _. (a < r.frame.base) ⊎ (r.frame.base + length
                      (no_word ∷ rest_words r.frame.words) ≤ a)) [
                        | inl gt ↦ (let ord = it.order in
                            let len = it.words in
                            let rl = rest_length r.frame.words (r.frame.end - r.frame.base)
                            (omega (arith, len, ord)) in
                            inr (omega (arith, gt, rl, ord)))
                        | inr le ↦ absurd (let n : None ≡ Some w = sym (it.gone a ge le) ∙ there in cc)
                      ]
                ]

        -- nothing was wiped where it comes in
        since_in : (lv : Live) (q : OState) → Clean g o None lv q → Since g o None lv q
        since_in lv q k = record { inside = λ i. k; outside = λ i. refl }

        wiped_leaves : (b : OState) (k : ℕ) (q : OState) → k ≤ n → overlay_step g.layout o ≡ goes q
            → Leaves g linked o q
            → Wipes g (crossings g.layout (suc k) b o) (trace g.layout (suc k) o).items (m None)
        wiped_leaves b k q le i (stays out fs same ev) =
            goes_by b k q None [] i ev refl refl ((on_stay q out fs same).wiped o None (record {
              inside = λ iq. absurd (let bad : true ≡ false = sym iq ∙ outside_here g linked q out in cc);
              outside = λ j. refl;
            }) k le)
        wiped_leaves b k q le i (enters p x v ip e pc dat safe share fs cells ev) =
            goes_by b k q _ (enter_item q (named.owner p ip) (named.entry p ip x e) ∷ []) i
            (entered_is p x ip e q pc ev) refl refl
            (wipes_taken g (crossings g.layout k o q) (trace g.layout k q).items None
            (enter_item q (named.owner p ip) (named.entry p ip x e)) m next takes
            ((on_enter p x ip e q v pc dat safe share fs cells).wiped o None
            (since_in (untold 0 (stack_top g q)) q (clean_first g o q (stack_top g q) cells)) k le))
        wiped_leaves b k q le i (returns r1 r2 v r ev) =
            goes_by b k q _ (ret_item q r.frame.site r.frame.base ∷ []) i ev refl refl
            (wipes_taken g (crossings g.layout k o q) (trace g.layout k q).items None
            (ret_item q r.frame.site r.frame.base) m next takes
            ((on_return r1 r2 q v r).wiped o None (since_in (in_frame r.frame) q (came_back r1 r2 q r)) k le))

        wiped_by : (b : OState) (k : ℕ) → k ≤ n → (e : Ending) → overlay_step g.layout o ≡ e
            → Wipes g (crossings g.layout (suc k) b o) (trace g.layout (suc k) o).items (m None)
        wiped_by b k le (goes q) i = wiped_leaves b k q le i (leaves g linked o h q i)
        wiped_by b k le halts i = nothing_more g k b o halts i refl (m None)
        wiped_by b k le fails i = nothing_more g k b o fails i refl (m None)

        wiped : (b : OState) (k : ℕ) → k ≤ suc n
            → Wipes g (crossings g.layout k b o) (trace g.layout k o).items (m None)
        wiped b zero le = nothing_yet g b o (m None)
        wiped b (suc k) le = wiped_by b k (omega (arith, le)) (overlay_step g.layout o) refl

        -- what it shows of trusted code is shown after the step
        quiet_leaves : (q : OState) → overlay_step g.layout o ≡ goes q → Leaves g linked o q
            → Quiet g (Shows g.layout) (GivesBack g.layout) ws (suc n) o
        quiet_leaves q i (stays out fs same ev) =
            quiet_outside g (Shows g.layout) (GivesBack g.layout) n ws ws o q i
            (outside_here g linked o h) (λ a m. m)
            (λ iq e. absurd (let bad : true ≡ false = sym iq ∙ outside_here g linked q out in cc))
            (λ iq. absurd (let bad : true ≡ false = sym iq ∙ outside_here g linked q out in cc))
            (on_stay q out fs same).quiet
        quiet_leaves q i (enters p x v ip b pc dat safe share fs cells ev) =
            quiet_outside g (Shows g.layout) (GivesBack g.layout) n ws (q ∷ ws) o q i
            (outside_here g linked o h) (λ a m. inr m) (λ iq e. inl refl)
            (λ iq a w there. ap (λ x. cell x a) cells ∙ there)
            (on_enter p x ip b q v pc dat safe share fs cells).quiet
        quiet_leaves q i (returns r1 r2 v r ev) =
            quiet_outside g (Shows g.layout) (GivesBack g.layout) n ws ws o q i
            (outside_here g linked o h) (λ a m. m) (λ iq e. absurd (fewer_open r1 r2 q r e))
            (λ iq. stayed r1 r2 q r)
            (on_return r1 r2 q v r).quiet

        quiet_by : (e : Ending) → overlay_step g.layout o ≡ e
            → Quiet g (Shows g.layout) (GivesBack g.layout) ws (suc n) o
        quiet_by (goes q) i = quiet_leaves q i (leaves g linked o h q i)
        quiet_by halts i =
            quiet_ended g (Shows g.layout) (GivesBack g.layout) o ws (suc n) (λ q s. halts_not q (sym i ∙ s))
        quiet_by fails i =
            quiet_ended g (Shows g.layout) (GivesBack g.layout) o ws (suc n) (λ q s. fails_not q (sym i ∙ s))

        by_ending : (k : ℕ) (e : Ending) → overlay_step g.layout o ≡ e → k ≤ n
            → Agrees c (trace g.layout (suc k) o) m
        by_ending k (goes q) i le = by_leaves k q le i (leaves g linked o h q i)
        by_ending k halts i le =
            subst (λ t. Agrees c t m)
            (sym (outside_more k halts i
            ∙ ap (λ b. ended g.layout b (weight_of g.layout o) (HaltedWith ((flat_view g.layout o).reg A0)))
            (outside_here g linked o h))) ends_out
        by_ending k fails i le =
            subst (λ t. Agrees c t m)
            (sym (outside_more k fails i
            ∙ ap (λ b. ended g.layout b (weight_of g.layout o) Failed) (outside_here g linked o h))) ends_out

        by : (k : ℕ) → k ≤ suc n → Agrees c (trace g.layout k o) m
        by zero le = subst (λ t. Agrees c t m) (sym outside_none) ends_out
        by (suc k) le = by_ending k (overlay_step g.layout o) refl (omega (arith, le))
