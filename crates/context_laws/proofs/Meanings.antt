-- Where code outside has all alike at two points of two runs, so it has at those to which it comes from
-- there, by steps of its own and by rounds, if the second sources tell as much as the first.
use Rattle.std.proofs.Common.{◌≡◌, inl, inr, ℕ, suc, List, [], ◌∷◌, ◌++◌, length, Option, None, true}
use Rattle.std.proofs.Common.{false, refl, sym, ap, ◌∙◌, subst, arith}
use Rattle.std.specs.Prelude.{if◌then◌else◌}
use Rattle.std.proofs.lemmas.List.{append-nil, length-append, map-append}
use Rattle.overlay_machine.specs.declared.words.OWord.{OWord}
use Rattle.overlay_machine.specs.State.{OState}
use Rattle.overlay_machine.specs.Step.{Ending, goes, overlay_step}
use Rattle.overlay_machine.specs.Events.{step_event}
use Rattle.overlay_machine.specs.Runs.{Reached, goes_on}
use Rattle.run_lines.specs.Views.{flat_view}
use Rattle.template_runs.specs.Runs.{is_inside}
use Rattle.template_runs.specs.Border.{Shows}
use Rattle.template_runs.proofs.Offers.{goes_same, halts_not, fails_not}
use Rattle.source_events.specs.declared.Item.{Item}
use Rattle.proc_semantics.specs.Marked.{Thing}
use Rattle.same_meanings.specs.Observed.{Naming, CallNames, FeedFits, SameFeed, item_named, feed_named}
use Rattle.source_laws.specs.Seen.{Shown, Back}
use Rattle.source_laws.specs.Seen as seen
use Rattle.source_laws.specs.Trace.{event_items}
use Rattle.source_laws.specs.Wiped as since_start
use Rattle.source_laws.specs.Wiped.{TellsSince, and_then, last_outside}
use Rattle.source_laws.proofs.Offers.{things_item}
use Rattle.lockstep.specs.Related.{SameNames, Calls, Alike, ComesAlike, StepsAlike, both_halt, both_fail}
use Rattle.lockstep.specs.Related.{both_stay, both_come}
use Rattle.lockstep.specs.Lockstep.{Round, IsRound, Path, SameCrossing, SameWiped, InStep, at_end, round}
use Rattle.lockstep.specs.Lockstep.{AreBelow}
use Rattle.lockstep.specs.Lockstep as spec
use Rattle.context_laws.specs.Meanings.{GoByNames, item_by, items_in}
use Rattle.lockstep.proofs.Offers.{step_rises, arrive_alike, alike_step, runs_outside, below_later}
use Rattle.lockstep.proofs.Offers.{below_after, after_a, after_b, first_inside}
use Rattle.context_laws.proofs.Open.{CallsAlike, has_sites, met, step_kept, calls_kept}
use Rattle.context_laws.proofs.Told.{items_same}
use Rattle.context_laws.proofs.Feeds.{feed_fits}
use Rattle.context_laws.proofs.History.{AllAlike, all_both, things_alike}
use Rattle.context_laws.proofs.Progress.{IsCalm, calm_since, tells_of, goes_out}
use Rattle.context_laws.proofs.Behind.{all_behind, calls_behind, open_since, round_shows}
use Rattle.context_laws.proofs.Rounds.{RoundTold, round_told, entry_silent}
use Rattle.context_laws.proofs.Both.{TwoLinks, Things, feed, Tells, G, H, L, L', O, O', W', lg, lh, hg, hh}
use Rattle.context_laws.proofs.Both.{tg, th, ng, nh}
use Rattle.context_laws.proofs.ShownAlike.{tells_more, shown_alike}

-- a feed and what comes in after it, with calls by their names
fed_onto : (name : Naming) (xs ys : Things)
    → feed_named name (feed (xs ++ ys)) ≡ feed_named name (feed xs) ++ feed_named name (feed ys)
fed_onto name xs ys =
    ap (feed_named name) (map-append (λ (x : Thing OWord Back). x.item) xs ys)
    ∙ map-append (item_named name) (feed xs) (feed ys)

module _ (it : TwoLinks) (names : SameNames (G it) (H it)) {calls : CallNames}
    (by_names : GoByNames calls names) (same : Tells it calls) where
  -- ---- two points of the runs

  pub record Point (cs : Calls) (p p' : OState) : Type 0 where
    pub es : List Shown
    pub es' : List Shown
    pub xs : Things
    pub xs' : Things
    pub b : OState
    pub b' : OState
    pub since : TellsSince (L it) (O it) es xs b p
    pub since' : TellsSince (L' it) (O' it) es' xs' b' p'
    pub count : length es ≡ length es'
    pub fed : SameFeed calls (feed xs) (feed xs')
    pub all : AllAlike (G it) (H it) names cs xs xs'
    pub open_calls : CallsAlike (G it) (H it) names cs p.frames p'.frames
    pub i : ℕ
    pub j : ℕ
    pub reached : Reached (L it) (O it) i p
    pub reached' : Reached (L' it) (O' it) j p'
    pub outside : is_inside (L it) p ≡ false
    pub outside' : is_inside (L' it) p' ≡ false
    pub alike : Alike (G it) (H it) names cs p p'
    pub below : AreBelow cs p p'

  abbrev Result : ℕ → Calls → List Round → OState → OState → Type 0
  Result n cs as_ q p' =
      (q' : OState) × (bs : List Round) × Path (L' it) n p' bs q' × InStep (G it) (H it) names cs as_ bs q q'
      × SameFeed calls (items_in (L it) as_ q) (items_in (L' it) bs q')

  pub steps_alike : (cs : Calls) (p p' : OState) → Point cs p p' → StepsAlike (G it) (H it) names cs p p'
  steps_alike cs p p' k =
      alike_step (G it) (H it) names (lg it) (lh it) (O it) (O' it) (hg it) (hh it) (tg it) (th it) cs k.i k.j
      p
      p' k.reached k.reached' k.outside k.outside' k.alike k.below

  -- ---- a step outside

  stays_too : (cs : Calls) (p p' q : OState) → StepsAlike (G it) (H it) names cs p p'
      → overlay_step (L it) p ≡ goes q
      → is_inside (L it) q ≡ false → (q' : OState) × (overlay_step (L' it) p' ≡ goes q')
      × (is_inside (L' it) q' ≡ false) × Alike (G it) (H it) names cs q q'
      × (step_event (L it) p q ≡ None) × (step_event (L' it) p' q' ≡ None)
  stays_too cs p p' q (both_halt x y) e i = absurd (halts_not q (sym x ∙ e))
  stays_too cs p p' q (both_fail x y) e i = absurd (fails_not q (sym x ∙ e))
  stays_too cs p p' q (both_stay m m' x y im jm ev ew al) e i =
      let k = goes_same m q (sym x ∙ e) in (
        m',
        y,
        jm,
        subst (λ z. Alike (G it) (H it) names cs z m') k al,
        subst (λ z. step_event (L it) p z ≡ None) k ev,
        ew,
      )
  stays_too cs p p' q (both_come m m' x y im jm c) e i =
      absurd (let bad : true ≡ false = sym im ∙ ap (is_inside (L it)) (goes_same m q (sym x ∙ e)) ∙ i in cc)

  pub stays : (cs : Calls) (p p' q : OState) (k : Point cs p p') → overlay_step (L it) p ≡ goes q
      → is_inside (L it) q ≡ false
      → (q' : OState) × (overlay_step (L' it) p' ≡ goes q') × (is_inside (L' it) q' ≡ false)
      × Point cs q q'
  stays cs p p' q k e i =
      let z = stays_too cs p p' q (steps_alike cs p p' k) e i in (
        z.0,
        z.1,
        z.2,
        record {
          es = k.es;
          es' = k.es';
          xs = k.xs;
          xs' = k.xs';
          b = _;
          b' = _;
          since = calm_since (L it) (O it) k.es k.xs k.b p q k.since e (calm z.4);
          since' = calm_since (L' it) (O' it) k.es' k.xs' k.b' p' z.0 k.since' z.1 (calm z.5);
          count = k.count;
          fed = k.fed;
          all = k.all;
          open_calls = calls_kept (G it) (H it) names cs p.frames p'.frames q.frames z.0.frames k.open_calls
              (λ n m c f. step_kept (G it) (lg it) (O it) (hg it) k.i p q k.reached e n f
              (k.below.first n m c))
              (λ n m c f. step_kept (H it) (lh it) (O' it) (hh it) k.j p' z.0 k.reached' z.1 m f
              (k.below.second n m c));
          i = _;
          j = _;
          reached = goes_on k.reached e;
          reached' = goes_on k.reached' z.1;
          outside = i;
          outside' = z.2;
          alike = z.3;
          below =
              below_later cs p p' q z.0 (step_rises (G it) (lg it) (O it) (hg it) k.i p q k.reached e)
              (step_rises (H it) (lh it) (O' it) (hh it) k.j p' z.0 k.reached' z.1) k.below;
        },
      )
    where
      calm : {x : Option _} → x ≡ None → IsCalm x
      calm e = subst IsCalm (sym e) tt

  -- ---- a round

  pub comes_too : (cs : Calls) (p p' q : OState) → StepsAlike (G it) (H it) names cs p p'
      → overlay_step (L it) p ≡ goes q
      → is_inside (L it) q ≡ true → (q' : OState) × (overlay_step (L' it) p' ≡ goes q')
      × (is_inside (L' it) q' ≡ true) × ComesAlike (G it) (H it) names cs p q p' q'
  comes_too cs p p' q (both_halt x y) e i = absurd (halts_not q (sym x ∙ e))
  comes_too cs p p' q (both_fail x y) e i = absurd (fails_not q (sym x ∙ e))
  comes_too cs p p' q (both_stay m m' x y im jm ev ew al) e i =
      absurd (let bad : false ≡ true = sym im ∙ ap (is_inside (L it)) (goes_same m q (sym x ∙ e)) ∙ i in cc)
  comes_too cs p p' q (both_come m m' x y im jm c) e i =
      (m', y, jm, subst (λ z. ComesAlike (G it) (H it) names cs p z p' m') (goes_same m q (sym x ∙ e)) c)

  -- the items are the same
  come_items : (cs : Calls) (p p' : OState) (k : Point cs p p') (q q' : OState)
      → overlay_step (L it) p ≡ goes q
      → overlay_step (L' it) p' ≡ goes q' → ComesAlike (G it) (H it) names cs p q p' q'
      → SameFeed calls (event_items (L it) (flat_view (L it) q) (step_event (L it) p q))
      (event_items (L' it) (flat_view (L' it) q') (step_event (L' it) p' q'))
  come_items cs p p' k q q' e e' c =
      items_same (G it) (H it) names by_names (lg it) (lh it) (ng it) (nh it) cs p q p' q'
      (calls_kept (G it) (H it) names cs p.frames p'.frames q.frames q'.frames k.open_calls
      (λ n m c f. step_kept (G it) (lg it) (O it) (hg it) k.i p q k.reached e n f (k.below.first n m c))
      (λ n m c f. step_kept (H it) (lh it) (O' it) (hh it) k.j p' q' k.reached' e' m f
      (k.below.second n m c)))
      (has_sites (G it) (lg it) (O it) (hg it) _ q (goes_on k.reached e))
      (has_sites (H it) (lh it) (O' it) (hh it) _ q' (goes_on k.reached' e'))
      (met (G it) (lg it) (O it) (hg it) _ q (goes_on k.reached e))
      (met (H it) (lh it) (O' it) (hh it) _ q' (goes_on k.reached' e')) c

  abbrev Last : OState → Ending → List Item
  Last p e = feed_named calls.one (item_by (L it) p e)

  abbrev Last' : OState → Ending → List Item
  Last' p e = feed_named calls.other (item_by (L' it) p e)

  last_item : (cs : Calls) (p p' : OState) → Point cs p p'
      → Last p (overlay_step (L it) p) ≡ Last' p' (overlay_step (L' it) p')
  last_item cs p p' k = by (steps_alike cs p p' k)
    where
      by : StepsAlike (G it) (H it) names cs p p'
          → Last p (overlay_step (L it) p) ≡ Last' p' (overlay_step (L' it) p')
      by (both_halt x y) = ap (Last p) x ∙ sym (ap (Last' p') y)
      by (both_fail x y) = ap (Last p) x ∙ sym (ap (Last' p') y)
      by (both_stay m m' x y i j ev ew al) =
          ap (Last p) x
          ∙ ap (λ b. feed_named calls.one (if b then event_items (L it) (flat_view (L it) m)
          (step_event (L it) p m) else [])) i
          ∙ sym (ap (Last' p') y
          ∙ ap (λ b. feed_named calls.other (if b then event_items (L' it) (flat_view (L' it) m')
          (step_event (L' it) p' m') else [])) j)
      by (both_come m m' x y i j c) =
          ap (Last p) x
          ∙ ap (λ b. feed_named calls.one (if b then event_items (L it) (flat_view (L it) m)
          (step_event (L it) p m) else [])) i
          ∙ come_items cs p p' k m m' x y c
          ∙ sym (ap (Last' p') y
          ∙ ap (λ b. feed_named calls.other (if b then event_items (L' it) (flat_view (L' it) m')
          (step_event (L' it) p' m') else [])) j)

  -- where code outside comes in nothing is shown
  silent : (cs : Calls) (p q p' q' : OState) → ComesAlike (G it) (H it) names cs p q p' q'
      → (seen.event_outs (L it) q (step_event (L it) p q) ≡ [])
      × (seen.event_outs (L' it) q' (step_event (L' it) p' q') ≡ [])
  silent cs p q p' q' (inl e) = (
    ap (seen.event_outs (L it) q) e.event ∙ entry_silent (L it) e.one q,
    ap (seen.event_outs (L' it) q') e.event_other ∙ entry_silent (L' it) e.other q',
  )
  silent cs p q p' q' (inr e) =
      (ap (seen.event_outs (L it) q) e.event, ap (seen.event_outs (L' it) q') e.event_other)

  -- code outside comes in, in both
  module _ (cs : Calls) (p p' q : OState) (k : Point cs p p') (e : overlay_step (L it) p ≡ goes q)
      (q' : OState) (e' : overlay_step (L' it) p' ≡ goes q') (c : ComesAlike (G it) (H it) names cs p q p' q')
    where
      abbrev pub Fed : Things
      Fed = k.xs ++ seen.event_items (L it) q (step_event (L it) p q)

      abbrev pub FedToo : Things
      FedToo = k.xs' ++ seen.event_items (L' it) q' (step_event (L' it) p' q')

      all_came : AllAlike (G it) (H it) names cs Fed FedToo
      all_came = all_both (G it) (H it) names cs k.xs k.xs' _ _ k.all
          (things_alike (G it) (H it) names (lg it) (lh it) (ng it) (nh it) cs p q p' q' k.alike.newest c)

      pub one_feed : SameFeed calls (feed Fed) (feed FedToo)
      one_feed =
          fed_onto calls.one k.xs (seen.event_items (L it) q (step_event (L it) p q))
          ∙ ap (λ z. z ++ feed_named calls.one (feed (seen.event_items (L it) q (step_event (L it) p q))))
          k.fed
          ∙ ap (λ z. feed_named calls.other (feed k.xs') ++ z)
          (ap (feed_named calls.one) (things_item (L it) q _) ∙ come_items cs p p' k q q' e e' c
          ∙ sym (ap (feed_named calls.other) (things_item (L' it) q' _)))
          ∙ sym (fed_onto calls.other k.xs' (seen.event_items (L' it) q' (step_event (L' it) p' q')))

      pub came : TellsSince (L it) (O it) k.es Fed p q
      came =
          subst (λ z. TellsSince (L it) (O it) k.es Fed (last_outside z k.b p) q) k.outside
          (subst (λ z. TellsSince (L it) (O it) z Fed (last_outside (is_inside (L it) p) k.b p) q)
          (ap (λ z. k.es ++ z) (silent cs p q p' q' c).0 ∙ append-nil k.es) (and_then k.since e))

      pub came_too : TellsSince (L' it) (O' it) k.es' FedToo p' q'
      came_too =
          subst (λ z. TellsSince (L' it) (O' it) k.es' FedToo (last_outside z k.b' p') q') k.outside'
          (subst
          (λ z. TellsSince (L' it) (O' it) z FedToo (last_outside (is_inside (L' it) p') k.b' p') q')
          (ap (λ z. k.es' ++ z) (silent cs p q p' q' c).1 ∙ append-nil k.es') (and_then k.since' e'))

  module _ (cs : Calls) (a : Round) (p' : OState) (k : Point cs a.before p') (ia : IsRound (L it) a)
      (q' : OState) (e' : overlay_step (L' it) p' ≡ goes q') (i' : is_inside (L' it) q' ≡ true)
      (c : ComesAlike (G it) (H it) names cs a.before a.entered p' q') where
    abbrev xs : Things
    xs = Fed cs a.before p' a.entered k ia.comes q' e' c

    abbrev ys : Things
    ys = FedToo cs a.before p' a.entered k ia.comes q' e' c

    all_in : AllAlike (G it) (H it) names cs xs ys
    all_in = all_came cs a.before p' a.entered k ia.comes q' e' c

    same_feed : SameFeed calls (feed xs) (feed ys)
    same_feed = one_feed cs a.before p' a.entered k ia.comes q' e' c

    came_in : TellsSince (L it) (O it) k.es xs a.before a.entered
    came_in = came cs a.before p' a.entered k ia.comes q' e' c

    came_in' : TellsSince (L' it) (O' it) k.es' ys p' q'
    came_in' = came_too cs a.before p' a.entered k ia.comes q' e' c

    fits : FeedFits (feed xs)
    fits = feed_fits (L it) (O it) k.es xs a.before a.entered came_in

    told : RoundTold it.words it.wipes it.one k.es xs a.before a.last a.after
    told = round_told it.words it.wipes it.one k.es xs a.before a.entered a.last a.after came_in ia.until
        ia.lets ia.gone (round_shows it.leaves it.one k.i a k.reached ia)

    -- the other lets go too
    pub other : (b : Round) × IsRound (L' it) b × (b.before ≡ p') × (b.entered ≡ q')
    other =
        let g = goes_out (W' it) it.other.size it.other.start (it.means it.other) k.es' ys q'
        (tells_of (L' it) (O' it) k.es' ys p' q' came_in') i'
        (tells_more it names by_names same k.es k.es' xs ys k.count same_feed fits a.before a.last a.after
        told) in (
          record { before = p'; entered = q'; last = g.0; after = g.1 },
          record { outside = k.outside'; comes = e'; until = g.2; lets = g.3; gone = g.4 },
          refl,
          refl,
        )

    -- after both rounds
    module _ (b : Round) (ib : IsRound (L' it) b) (eb : b.before ≡ p') (ee : b.entered ≡ q') where
      kb : Point cs a.before b.before
      kb = subst (Point cs a.before) (sym eb) k

      cb : ComesAlike (G it) (H it) names cs a.before a.entered b.before b.entered
      cb = subst (λ z. ComesAlike (G it) (H it) names cs a.before a.entered z b.entered) (sym eb)
          (subst (λ z. ComesAlike (G it) (H it) names cs a.before a.entered p' z) (sym ee) c)

      came_b : TellsSince (L' it) (O' it) k.es' ys b.before b.entered
      came_b = subst (λ z. TellsSince (L' it) (O' it) k.es' ys z b.entered) (sym eb)
          (subst (TellsSince (L' it) (O' it) k.es' ys p') (sym ee) came_in')

      reached_b : Reached (L' it) (O' it) k.j b.before
      reached_b = subst (Reached (L' it) (O' it) k.j) (sym eb) k.reached'

      shows_b : Shows (L' it) b.last b.after
      shows_b = round_shows it.leaves it.other k.j b reached_b ib

      told_b : RoundTold it.words it.wipes it.other k.es' ys b.before b.last b.after
      told_b = round_told it.words it.wipes it.other k.es' ys b.before b.entered b.last b.after came_b
          ib.until ib.lets ib.gone shows_b

      ga : (i : ℕ) × Reached (L it) (O it) i a.after
      ga = after_a (G it) (H it) names (lg it) (lh it) (O it) (O' it) (hg it) (hh it) (tg it) (th it) cs a b
          k.i k.j k.reached reached_b ia ib kb.below

      gb : (j : ℕ) × Reached (L' it) (O' it) j b.after
      gb = after_b (G it) (H it) names (lg it) (lh it) (O it) (O' it) (hg it) (hh it) (tg it) (th it) cs a b
          k.i k.j k.reached reached_b ia ib kb.below

      cross : (ds : Calls) × SameCrossing (G it) (H it) names cs a b ds × SameWiped (G it) a b
      cross =
          shown_alike it names by_names same k.es k.es' xs ys k.count same_feed fits cs all_in a b
          kb.alike.seen.1 told told_b (round_shows it.leaves it.one k.i a k.reached ia) shows_b ga gb ia.gone
          ib.gone

      behind : Point cross.0 a.after b.after
      behind = record {
        es = k.es ++ told.shown ∷ [];
        es' = k.es' ++ told_b.shown ∷ [];
        xs = xs;
        xs' = ys;
        fed = same_feed;
        b = told.since.0;
        b' = told_b.since.0;
        since = told.since.1;
        since' = told_b.since.1;
        count = (let x = length-append k.es (told.shown ∷ []) in
            let y = length-append k.es' (told_b.shown ∷ []) in
            let z = k.count in omega (arith, x, y, z));
        all = all_behind (G it) (H it) names cs cross.0 a b cross.1 xs ys all_in;
        open_calls = calls_behind (G it) (H it) names cs cross.0 a b cross.1
            (calls_kept (G it) (H it) names cs a.before.frames b.before.frames a.after.frames b.after.frames
            kb.open_calls
            (λ n m c f. open_since (G it) (lg it) (O it) (hg it) k.i n f a k.reached ia
            (kb.below.first n m c))
            (λ n m c f. open_since (H it) (lh it) (O' it) (hh it) k.j m f b reached_b ib
            (kb.below.second n m c)));
        i = ga.0;
        j = gb.0;
        reached = ga.1;
        reached' = gb.1;
        outside = ia.gone;
        outside' = ib.gone;
        alike = arrive_alike (G it) (H it) names (lg it) (lh it) cs a b
            (runs_outside (G it) (O it) (hg it) ga.0 a.after ga.1 ia.gone)
            (runs_outside (H it) (O' it) (hh it) gb.0 b.after gb.1 ib.gone) kb.alike.seen.1
            (tg it k.i a k.reached ia) (th it k.j b reached_b ib) cross.2 cross.0 cross.1;
        below = below_after (G it) (H it) names (lg it) (lh it) (O it) (O' it) (hg it) (hh it) (tg it) (th it)
            cs a b k.i k.j k.reached reached_b ia ib kb.below cross.0 cross.1;
      }

      pub met_again : (ds : Calls) × Point ds a.after b.after
      met_again = (cross.0, behind)

      items_b : SameFeed calls (event_items (L it) (flat_view (L it) a.entered)
          (step_event (L it) a.before a.entered))
          (event_items (L' it) (flat_view (L' it) b.entered) (step_event (L' it) b.before b.entered))
      items_b = come_items cs a.before p' k a.entered q' ia.comes e' c
          ∙ sym (ap (λ z. feed_named calls.other (event_items (L' it) (flat_view (L' it) z)
          (step_event (L' it) p' z))) ee)
          ∙ sym
          (ap (λ z. feed_named calls.other (event_items (L' it) (flat_view (L' it) b.entered)
          (step_event (L' it) z b.entered))) eb)

      joined : (n : ℕ) (as_ : List Round) (q : OState) → Result n cross.0 as_ q b.after
          → Result (suc n) cs (a ∷ as_) q p'
      joined n as_ q r =
          subst (λ z. Result (suc n) cs (a ∷ as_) q z) eb (
            r.0,
            b ∷ r.1,
            spec.inside b ib r.2,
            round a b cb cross.1 r.3,
            map-append (item_named calls.one) _ (items_in (L it) as_ q)
                ∙ ap (λ z. z ++ feed_named calls.one (items_in (L it) as_ q)) items_b
                ∙ ap (λ z. feed_named calls.other (event_items (L' it) (flat_view (L' it) b.entered)
                (step_event (L' it) b.before b.entered)) ++ z) r.4
                ∙ sym (map-append (item_named calls.other) _ (items_in (L' it) r.1 r.0)),
          )

  -- ---- runs

  pub go_in_step : (n : ℕ) (cs : Calls) (p p' q : OState) (as_ : List Round) → Point cs p p'
      → Path (L it) n p as_ q → Result n cs as_ q p'
  go_in_step _ cs p p' _ _ k spec.ends =
      (p', [], spec.ends, at_end k.alike (steps_alike cs p p' k), last_item cs p p' k)
  go_in_step _ cs p p' q as_ k (spec.outside {n = n} {q = m} x e w r) =
      let z = stays cs p p' m k e w in
      let t = go_in_step n cs m z.0 q as_ z.3 r in
      (t.0, t.1, spec.outside k.outside' z.1 z.2 t.2, t.3, t.4)
  go_in_step _ cs _ p' q _ k (spec.inside {n = n} {rs = as_} a ia r) =
      let c = comes_too cs a.before p' a.entered (steps_alike cs a.before p' k) ia.comes
      (first_inside (L it) a.entered a.last ia.until) in
      let o = other cs a p' k ia c.0 c.1 c.2 c.3 in
      joined cs a p' k ia c.0 c.1 c.2 c.3 o.0 o.1 o.2 o.3 n as_ q
      (go_in_step n _ a.after o.0.after q as_ (behind cs a p' k ia c.0 c.1 c.2 c.3 o.0 o.1 o.2 o.3) r)

  -- where no code has run
  pub first_point : Alike (G it) (H it) names [] (O it) (O' it) → AreBelow [] (O it) (O' it)
      → is_inside (L it) (O it) ≡ false
      → is_inside (L' it) (O' it) ≡ false → Point [] (O it) (O' it)
  first_point al below io io' = record {
    es = [];
    es' = [];
    xs = [];
    xs' = [];
    b = O it;
    b' = O' it;
    since = since_start.none_yet;
    since' = since_start.none_yet;
    count = refl;
    fed = refl;
    all = tt;
    open_calls = λ n m c. absurd c;
    i = 0;
    j = 0;
    reached = Reached.begins;
    reached' = Reached.begins;
    outside = io;
    outside' = io';
    alike = al;
    below = below;
  }
