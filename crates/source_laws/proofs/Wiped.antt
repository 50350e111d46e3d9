-- From what runs of every number of steps wipe to the cells at each point at which trusted code lets go.
use Rattle.std.proofs.Common.{◌≡◌, ◌⊎◌, inl, inr, ℕ, ◌+◌, ◌≤◌, true, false, Bool, List, [], ◌∷◌, ◌++◌, length}
use Rattle.std.proofs.Common.{map, Option, Some, None, refl, sym, ap, ◌∙◌, subst, arith, append-nil}
use Rattle.std.specs.Prelude.{slice_get}
use Rattle.std.proofs.lemmas.Bool.{cases_lt}
use Rattle.linked_starts.specs.Started.{StartSeen}
use Rattle.lcm_machine.specs.Cells.{cell}
use Rattle.trusted_border.specs.declared.layout.Layout.{Layout}
use Rattle.trusted_border.specs.declared.events.Event.{Event as Crossed}
use Rattle.overlay_machine.specs.declared.words.OWord.{OWord}
use Rattle.overlay_machine.specs.State.{OState}
use Rattle.overlay_machine.specs.Step.{goes, overlay_step, weight_of}
use Rattle.overlay_machine.specs.Events.{step_event}
use Rattle.overlay_machine.specs.Runs.{Reached}
use Rattle.overlay_machine.specs.Starting.{overlay_at}
use Rattle.overlay_machine.specs.Link.{Link}
use Rattle.overlay_machine.proofs.Offers.{map_get}
use Rattle.run_lines.specs.Layout.{layout}
use Rattle.template_runs.specs.Runs.{is_inside}
use Rattle.template_runs.specs.Border.{Shows, ShowsBy, by_call, by_leave, GivesBack, IsTidied, Wiped, zero}
use Rattle.template_runs.specs.Border.{low_at}
use Rattle.template_runs.proofs.Offers.{Quiet}
use Rattle.proc_semantics.specs.Marked as marked
use Rattle.proc_semantics.specs.Marked.{Whence, Calls, Leaves, refined, event_to}
use Rattle.source_laws.specs.Secrets.{HasCome, begins, comes, Until, still_there, one_more, LetsGo}
use Rattle.source_laws.specs.Secrets.{LeavesNothing, ComesFrom, RanLast, at_start, outside}
use Rattle.source_laws.specs.Seen.{Back, Shown, event_outs, event_items, trace, standing}
use Rattle.source_laws.specs.Words.{RunTells, word_from, back_at}
use Rattle.source_laws.specs.Words as words
use Rattle.source_laws.specs.Wiped.{low_of, last_outside, TellsSince, none_yet, and_then, WipedAlways}
use Rattle.source_laws.proofs.Refined.{World, Thing, Event, meaning}
use Rattle.source_laws.proofs.Forgets.{trace_step, trace_rests, whence_same}
use Rattle.source_laws.proofs.Wipes.{Crossing, crossed, crossings, cross_none, cross_more, AreWiped, Tell}
use Rattle.source_laws.proofs.Wipes.{Wipes, After, after, wiped_last, told_at}
use Rattle.source_laws.proofs.Secrets.{shows, stays, gives_back, each_lets_go}

pub low_same : (w : Whence → OWord) (k : ℕ → Back) (e : marked.Event Whence ℕ) → low_of e
    ≡ low_of (event_to w k e)
low_same w k (Calls part site base low x y xs) = refl
low_same w k (Leaves part v low e) = refl

standing_items : (l : Layout) (b : Bool) → (standing l b).items ≡ []
standing_items l true = refl
standing_items l false = refl

no_items : (l : Layout) (q : OState) → (trace l 0 q).items ≡ []
no_items l q = ap (λ t. t.items) (trace_rests l q) ∙ standing_items l (is_inside l q)

module _ (l : Layout) where
  pub tells_of : (o : OState) (es : List Shown) (is : List Thing) (b p : OState) → TellsSince l o es is b p
      → RunTells l o es is p
  tells_of o _ _ _ _ none_yet = words.none_yet
  tells_of o _ _ _ q (and_then {es = es} {is = is} {b = b} {p = p} t e) =
      words.and_then (tells_of o es is b p t) e

  reached_of : (o : OState) (es : List Shown) (is : List Thing) (b p : OState) → TellsSince l o es is b p
      → (j : ℕ) × Reached l o j p
  reached_of o _ _ _ _ none_yet = (0, Reached.begins)
  reached_of o _ _ _ q (and_then {es = es} {is = is} {b = b} {p = p} t e) =
      let r = reached_of o es is b p t in (r.0 + weight_of l p, Reached.goes_on r.1 e)

  -- what is shown by a step at which trusted code lets go, and that nothing comes in by it
  record OneShown (p q : OState) : Type 0 where
    pub line : Shown
    pub outs : event_outs l q (step_event l p q) ≡ line ∷ []
    pub items : event_items l q (step_event l p q) ≡ []

  one_shown : (p q : OState) → Shows l p q → OneShown p q
  one_shown p q h = by h.0 h.1 h.2
    where
      by : (e : Crossed) → step_event l p q ≡ Some e → ShowsBy l q e → OneShown p q
      by _ ev (by_call d f s) =
          record { line = _; outs = ap (event_outs l q) ev; items = ap (event_items l q) ev }
      by _ ev (by_leave part d top s) =
          record { line = _; outs = ap (event_outs l q) ev; items = ap (event_items l q) ev }

  -- ---- each stretch of trusted code is told

  record Told (o b p : OState) : Type 0 where
    pub out : List Shown
    pub items : List Thing
    pub told : TellsSince l o out items b p

  told_until : (z b o p : OState) → Told z b o → Until l o p → Told z b p
  told_until z b o _ t (still_there i) = t
  told_until z b o q t (one_more {p} u e i) =
      let r = told_until z b o p t u in
      record {
        out = r.out ++ event_outs l q (step_event l p q);
        items = r.items ++ event_items l q (step_event l p q);
        told = subst (λ x. TellsSince l z (r.out ++ event_outs l q (step_event l p q))
            (r.items ++ event_items l q (step_event l p q)) (last_outside x b p) q) (within o p u)
            (and_then r.told e);
      }
    where
      within : (o p : OState) → Until l o p → is_inside l p ≡ true
      within o _ (still_there i) = i
      within o _ (one_more u s i) = i

  told_reached : (z : OState) (j : ℕ) (p : OState) → Reached l z j p → (b : OState) × Told z b p
  told_reached z _ _ Reached.begins = (z, record { out = []; items = []; told = none_yet })
  told_reached z _ q (Reached.goes_on {j = j} {p = p} r e) =
      let t = told_reached z j p r in (
        last_outside (is_inside l p) t.0 p,
        record {
          out = t.1.out ++ event_outs l q (step_event l p q);
          items = t.1.items ++ event_items l q (step_event l p q);
          told = and_then t.1.told e;
        },
      )

-- ---- from a start

module _ (g : Link) (s : StartSeen) (same : g.layout ≡ layout s)
    (quiet : (n : ℕ) → Quiet g (Shows g.layout) (GivesBack g.layout) [] n (overlay_at s).state)
    (world : World) (stack : ℕ)
    (wipes : (k : ℕ) → Wipes g (crossings g.layout k (overlay_at s).state (overlay_at s).state)
    (trace g.layout k (overlay_at s).state).items (λ f feed. meaning world stack feed f)) where
  abbrev Z : OState
  Z = (overlay_at s).state

  abbrev L : Layout
  L = layout s

  -- of each point at which it lets go, with the words as marks
  record Last (is : List Thing) (n : ℕ) (b q : OState) : Type 0 where
    pub low : Option ℕ
    pub enough : ℕ
    pub told : (f : ℕ) → enough ≤ f → (e : Event) × (slice_get (meaning world stack is f).events n ≡ Some e)
        × (low_of e ≡ low)
    pub wiped : Wiped g low b q

  last_shown : (es : List Shown) (is : List Thing) (b p q : OState) → TellsSince L Z es is b p
      → overlay_step L p ≡ goes q → Shows g.layout p q → Last is (length es) b q
  last_shown es is b p q t e sh =
      let w = subst (λ l. Wipes g (crossings l (a.steps + 1) Z Z) (trace l (a.steps + 1) Z).items
      (λ f feed. meaning world stack feed f)) same (wipes (a.steps + 1)) in
      let x = wiped_last g a.passed c w.lows (subst (λ z. AreWiped g z w.lows) crossings_are w.wiped) in
      record {
        low = x.0;
        enough = w.enough;
        told = λ f le. told_at w.lows (meaning world stack is f).events (length es) x.0
            (ap (slice_get w.lows) (sym a.as_many) ∙ x.1)
            (subst (λ z. Tell w.lows (meaning world stack z f).events) items_are (w.told f le));
        wiped = x.2;
      }
    where
      a : After L Z es is b p
      a = after L Z es is b p t

      one : OneShown L p q
      one = one_shown L p q (subst (λ l. Shows l p q) same sh)

      c : Crossing
      c = record { before = b; behind = q }

      crossings_are : crossings L (a.steps + 1) Z Z ≡ a.passed ++ c ∷ []
      crossings_are =
          a.crossings_are 1
          ∙ ap (λ y. a.passed ++ y) (cross_more L 0 b p (goes q) e
          ∙ ap (λ y. crossed b q y ++ crossings L 0 (last_outside (is_inside L p) b p) q) one.outs
          ∙ ap (λ y. c ∷ y) (cross_none L (last_outside (is_inside L p) b p) q))

      items_are : (trace L (a.steps + 1) Z).items ≡ is
      items_are =
          a.items_are 1 ∙ ap (λ t. is ++ t.items) (trace_step L 0 p q e)
          ∙ ap (λ z. is ++ (z ++ (trace L 0 q).items)) one.items
          ∙ ap (λ z. is ++ z) (no_items L q) ∙ append-nil is

  -- ---- what code outside learns

  tidied_from : (low : Option ℕ) (b q : OState) → Wiped g low b q → IsTidied g b q
  tidied_from low b q w a x free there =
      elim (cases_lt a (low_at g.layout.stack.base w.end low)) as (λ _. (cell b.maps.cells a ≡ Some x)
      ⊎ ((x ≡ zero) × (g.layout.stack.base ≤ a) × (a ≤ g.layout.stack.end))) [
        | inl lt ↦ inl (w.cells.kept a x free (inl lt) there)
        | inr ge ↦ elim (cases_lt w.end a) as (λ _. (cell b.maps.cells a ≡ Some x)
            ⊎ ((x ≡ zero) × (g.layout.stack.base ≤ a) × (a ≤ g.layout.stack.end))) [
              | inl gt ↦ inl (w.cells.kept a x free (inr gt) there)
              | inr le ↦ (let in_stack = w.within in
                  inr (w.cells.wiped a x ge le there, above low w.end ge le, omega (arith, le, in_stack)))
            ]
      ]
    where
      above : (low : Option ℕ) (end : ℕ) → low_at g.layout.stack.base end low ≤ a → a ≤ end
          → g.layout.stack.base ≤ a
      above None end lo hi = absurd (omega (arith, lo, hi))
      above (Some n) end lo hi = omega (arith, lo)

  told_first : (o : OState) → o ≡ Z → Told L Z o o
  told_first o e = subst (λ x. Told L Z x x) (sym e) (record { out = []; items = []; told = none_yet })

  told_in : (b o : OState) → ComesFrom s b o → Told L Z b o
  told_in b o r =
      let t = told_reached L Z r.at b r.matched in
      record {
        out = t.1.out ++ event_outs L o (step_event L b o);
        items = t.1.items ++ event_items L o (step_event L b o);
        told = subst (λ x. TellsSince L Z (t.1.out ++ event_outs L o (step_event L b o))
            (t.1.items ++ event_items L o (step_event L b o)) (last_outside x t.0 b) o) r.outside
            (and_then t.1.told r.steps);
      }

  wiped : (b o p q : OState) → RanLast s o b → LetsGo s o p q → (low : Option ℕ) × Wiped g low b q
  wiped b o p q ran h = by b ran
    where
      since : (b : OState) → Told L Z b o → (low : Option ℕ) × Wiped g low b q
      since b t =
          let r = told_until L Z b o p t h.until in
          let x = last_shown r.out r.items b p q r.told h.steps (shows g s same quiet o p q h) in
          (x.low, x.wiped)

      by : (b : OState) → RanLast s o b → (low : Option ℕ) × Wiped g low b q
      by _ (at_start e) = since o (told_first o e)
      by b (outside r) = since b (told_in b o r)

  tidied : (b o p q : OState) → RanLast s o b → LetsGo s o p q → IsTidied g b q
  tidied b o p q ran h = let w = wiped b o p q ran h in tidied_from w.0 b q w.1

  cells : (o p q : OState) → LetsGo s o p q → HasCome s o → IsTidied g o q
  cells o p q h (begins e) a w free there = tidied o o p q (at_start e) h a w free there
  cells o p q h (comes at b r i st) a w free there =
      let c : ComesFrom s b o = record { at = at; matched = r; outside = i; steps = st } in
      elim (tidied b o p q (outside c) h a w free there) as (λ _. (cell o.maps.cells a ≡ Some w)
      ⊎ ((w ≡ zero) × (g.layout.stack.base ≤ a) × (a ≤ g.layout.stack.end))) [
        | inl e ↦ inl (stays g s same quiet o p q h b c a w e)
        | inr z ↦ inr z
      ]

  pub leaves_nothing : LeavesNothing g s
  leaves_nothing = record {
    shows = λ o p q h.
        record { registers = shows g s same quiet o p q h; cells = cells o p q h h.came };
    tidied = λ b o p q r h. tidied b o p q (outside r) h;
    wiped = wiped;
    gives_back = gives_back g s same quiet;
  }

  -- ---- what the refined meaning tells

  pub wiped_always : WipedAlways g world.parts stack s
  wiped_always es is b p q t i e gone =
      let r = reached_of L Z es is b p t in
      let o = each_lets_go s r.0 p q r.1 i e gone in
      let x = last_shown es is b p q t e (shows g s same quiet o.0 p q o.1) in
      record {
        low = x.low;
        enough = x.enough;
        told = λ f le. whence f x.low (x.told f le);
        wiped = x.wiped;
      }
    where
      whence : (f : ℕ) (low : Option ℕ)
          → (e : Event) × (slice_get (meaning world stack is f).events (length es) ≡ Some e)
          × (low_of e ≡ low)
          → (e : marked.Event Whence ℕ)
          × (slice_get (refined world.parts stack (map (λ x. x.item) is) f).events (length es) ≡ Some e)
          × (low_of e ≡ low)
      whence f low x =
          let w = word_from world.marks is in
          let k = back_at is in
          let es' = (refined world.parts stack (map (λ (x : Thing). x.item) is) f).events in
          let at : slice_get (map (event_to w k) es') (length es) ≡ Some x.0 =
          ap (λ r. slice_get r.events (length es))
          (whence_same world.marks world.parts stack L Z es is p (tells_of L Z es is b p t) f) ∙ x.1 in
          let m = map_get (event_to w k) es' (length es) x.0 at in
          (m.0, m.1, low_same w k m.0 ∙ ap low_of m.2 ∙ x.2)
