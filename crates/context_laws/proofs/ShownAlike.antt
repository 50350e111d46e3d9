-- Where trusted code lets go in both runs, since the same items came in: if the second sources tell as much
-- as the first, both show the same and wipe the same cells.
use Rattle.std.proofs.Common.{◌≡◌, ℕ, ◌+◌, ◌-◌, ◌≤◌, List, ◌∷◌, [], length, Some, false, sym, ap, ◌∙◌}
use Rattle.std.proofs.Common.{subst, arith}
use Rattle.std.specs.Prelude.{slice_get, option_map}
use Rattle.std.proofs.lemmas.Option.{slice_get-map, slice_get_within}
use Rattle.std.proofs.lemmas.List.{length-map}
use Rattle.lcm_machine.specs.Cells.{cell}
use Rattle.overlay_machine.specs.State.{OState}
use Rattle.overlay_machine.specs.Events.{step_event}
use Rattle.overlay_machine.specs.Runs.{Reached}
use Rattle.overlay_machine.proofs.Offers.{map_get}
use Rattle.template_runs.specs.Runs.{is_inside}
use Rattle.template_runs.specs.Public.{IsFreeAt}
use Rattle.template_runs.specs.Border.{Shows}
use Rattle.source_events.specs.declared.Item.{Item}
use Rattle.proc_semantics.specs.Meaning.{meaning}
use Rattle.proc_semantics.specs.Marked.{Event, Whence, refined, event_to, plain_event}
use Rattle.proc_semantics.proofs.Offers.{mark_laws}
use Rattle.same_meanings.specs.Observed.{CallNames, name_of, observed, SameFeed, FeedFits, event_named}
use Rattle.same_meanings.specs.Observed.{events_named}
use Rattle.same_meanings.proofs.Offers.{event_later, in_front}
use Rattle.source_laws.specs.Seen.{Shown, shown_of, event_outs}
use Rattle.source_laws.specs.Words.{word_from, back_at}
use Rattle.source_laws.specs.Wiped.{low_of}
use Rattle.source_starts.specs.Sources.{LinkedSources}
use Rattle.source_starts.specs.Words.{slots_of}
use Rattle.lockstep.specs.Related.{SameNames, Calls, SameWord, CellPair}
use Rattle.lockstep.specs.Lockstep.{Round, SameCrossing, SameWiped}
use Rattle.context_laws.specs.Meanings.{GoByNames}
use Rattle.lockstep.proofs.Offers.{runs_outside}
use Rattle.context_laws.proofs.Open.{has_sites, met}
use Rattle.context_laws.proofs.History.{AllAlike, back_alike}
use Rattle.context_laws.proofs.Naming.{IsNamed, is_named, named_same}
use Rattle.context_laws.proofs.Progress.{TellsMore}
use Rattle.context_laws.proofs.Crossing.{crossed}
use Rattle.context_laws.proofs.Rounds.{RoundTold}
use Rattle.context_laws.proofs.Behind.{wiped_same, same_ends}
use Rattle.context_laws.proofs.Both.{TwoLinks, Things, feed, Tells, G, H, L, L', O, O', W, W', lg, lh, hg, hh}

module _ (it : TwoLinks) (names : SameNames (G it) (H it)) {calls : CallNames}
    (by_names : GoByNames calls names) (same : Tells it calls) where
  -- an event of the one is one of the other by the same name
  observed_at : (xs ys : List Item) (fed : SameFeed calls xs ys) (fits : FeedFits xs) (f n : ℕ)
      (x : Event Whence ℕ) → slice_get (refined (W it) it.one.size xs f).events n ≡ Some x
      → (y : Event Whence ℕ)
      × (slice_get (refined (W' it) it.other.size ys (same xs ys fed fits f).0).events n ≡ Some y)
      × (event_named calls.one (event_to (name_of (W it)) (λ (k : ℕ). k) x)
      ≡ event_named calls.other (event_to (name_of (W' it)) (λ (k : ℕ). k) y))
  observed_at xs ys fed fits f n x e =
      let k = same xs ys fed fits f in
      let at : slice_get (events_named calls.other (observed (W' it) it.other.size ys k.0)) n
      ≡ Some (event_named calls.one (event_to (name_of (W it)) (λ (k : ℕ). k) x)) =
      ap (λ z. slice_get z n) k.2
      ∙ in_front (events_named calls.one (observed (W it) it.one.size xs f)) k.1 n _
      (slice_get-map (event_named calls.one) (observed (W it) it.one.size xs f) n
      ∙ ap (option_map (event_named calls.one))
      (slice_get-map (event_to (name_of (W it)) (λ (k : ℕ). k)) (refined (W it) it.one.size xs f).events n
      ∙ ap (option_map (event_to (name_of (W it)) (λ (k : ℕ). k))) e)) in
      let m = map_get (event_named calls.other) (observed (W' it) it.other.size ys k.0) n _ at in
      let y = map_get (event_to (name_of (W' it)) (λ (k : ℕ). k))
      (refined (W' it) it.other.size ys k.0).events n m.0 m.1 in
      (y.0, y.1, sym m.2 ∙ ap (event_named calls.other) (sym y.2))

  -- so the meaning of the other tells it
  told_now : (xs : List Item) (f n : ℕ) (y : Event Whence ℕ)
      → slice_get (refined (W' it) it.other.size xs f).events n ≡ Some y
      → n + 1 ≤ length (meaning (W' it) it.other.size xs f).events
  told_now xs f n y e =
      let lt = slice_get_within (refined (W' it) it.other.size xs f).events n y e in
      let len = length-map (refined (W' it) it.other.size xs f).events plain_event in
      let k = ap (λ t. length t.events) (mark_laws.forgets (W' it) it.other.size xs f) in
      omega (arith, lt, len, k)

  -- under more fuel too
  told_too : (xs : List Item) (f n : ℕ) (y : Event Whence ℕ)
      → slice_get (refined (W' it) it.other.size xs f).events n ≡ Some y → (m : ℕ) → f ≤ m
      → n + 1 ≤ length (meaning (W' it) it.other.size xs m).events
  told_too xs f n y e m le =
      let all : f + (m - f) ≡ m = omega (arith, le) in
      told_now xs m n y (subst (λ g. slice_get (refined (W' it) it.other.size xs g).events n ≡ Some y) all
      (event_later (W' it) it.other.size xs f (m - f) n y e))

  abbrev pub ToldOf : LinkedSources → List Shown → Things → OState → OState → OState → Type 0
  ToldOf a es xs b p q = RoundTold it.words it.wipes a es xs b p q

  -- so much has been shown, as many things of the other, since the same items came in
  module _ (es es' : List Shown) (xs ys : Things) (count : length es ≡ length es')
      (fed : SameFeed calls (feed xs) (feed ys)) (fits : FeedFits (feed xs)) where
    -- what the one shows next, the meaning of the other tells
    pub tells_more : (b p q : OState) → ToldOf it.one es xs b p q
        → TellsMore (W' it) it.other.size it.other.start (it.means it.other) es' ys
    tells_more b p q told = (
      (same (feed xs) (feed ys) fed fits told.enough).0,
      λ f le. (
          let x = told.event told.enough (omega arith) in
          let y = observed_at (feed xs) (feed ys) fed fits told.enough (length es) x.0 x.1 in
          let len = told_too (feed ys) _ (length es) y.0 y.1 f le in
          let n = count in
          omega (arith, len, n)),
    )

    module _ (cs : Calls) (all : AllAlike (G it) (H it) names cs xs ys) (a b : Round)
        (cells : (x : ℕ) → IsFreeAt (G it) x
        → CellPair (SameWord (G it) (H it) names cs) (IsFreeAt (G it)) (cell a.before.maps.cells x)
        (cell b.before.maps.cells x)) (told : ToldOf it.one es xs a.before a.last a.after)
        (told_b : ToldOf it.other es' ys b.before b.last b.after) (shows : Shows (L it) a.last a.after)
        (shows_b : Shows (L' it) b.last b.after) (ga : (i : ℕ) × Reached (L it) (O it) i a.after)
        (gb : (j : ℕ) × Reached (L' it) (O' it) j b.after) (gone : is_inside (L it) a.after ≡ false)
        (gone_b : is_inside (L' it) b.after ≡ false) where
      abbrev F : ℕ
      F = told.enough + told.wiped.enough

      -- and a fuel under which the other tells what the one tells under that
      abbrev F' : ℕ
      F' = (same (feed xs) (feed ys) fed fits F).0 + (told_b.enough + told_b.wiped.enough)

      -- the event of both
      record Both : Type 0 where
        pub one : Event Whence ℕ
        pub two : Event Whence ℕ
        pub one_is : slice_get (refined (W it) it.one.size (feed xs) F).events (length es) ≡ Some one
        pub two_is : slice_get (refined (W' it) it.other.size (feed ys) F').events (length es') ≡ Some two
        pub one_shown : event_outs (L it) a.after (step_event (L it) a.last a.after)
            ≡ shown_of (event_to (word_from (slots_of it.one.modules it.one.link) xs) (back_at xs) one) ∷ []
        pub two_shown : event_outs (L' it) b.after (step_event (L' it) b.last b.after)
            ≡ shown_of (event_to (word_from (slots_of it.other.modules it.other.link) ys) (back_at ys) two)
            ∷ []
        pub names_same : event_named calls.one (event_to (name_of (W it)) (λ (k : ℕ). k) one)
            ≡ event_named calls.other (event_to (name_of (W' it)) (λ (k : ℕ). k) two)

      both : Both
      both =
          let x = told.event F (omega arith) in
          let y = told_b.event F' (omega arith) in
          let z = observed_at (feed xs) (feed ys) fed fits F (length es) x.0 x.1 in
          let at : Some z.0 ≡ Some y.0 =
          sym (event_later (W' it) it.other.size (feed ys) (same (feed xs) (feed ys) fed fits F).0 _
          (length es) z.0 z.1)
          ∙ ap (slice_get (refined (W' it) it.other.size (feed ys) F').events) count ∙ y.1 in
          let one : z.0 ≡ y.0 = cc in
          record {
            one = x.0;
            two = y.0;
            one_is = x.1;
            two_is = y.1;
            one_shown = x.2;
            two_shown = y.2;
            names_same = z.2
                ∙ ap (λ v. event_named calls.other (event_to (name_of (W' it)) (λ (k : ℕ). k) v)) one;
          }

      cross : (ds : Calls) × SameCrossing (G it) (H it) names cs a b ds × (low_of both.one ≡ low_of both.two)
      cross =
          crossed (G it) (H it) names by_names (lg it) (lh it) cs (name_of (W it)) (name_of (W' it))
          (word_from (slots_of it.one.modules it.one.link) xs)
          (word_from (slots_of it.other.modules it.other.link) ys) (back_at xs) (back_at ys)
          (λ w v e. named_same (G it) (H it) names by_names cs xs ys all (name_of (W' it) v) _ _
          (subst
          (λ n. IsNamed (G it).parts xs n (word_from (slots_of it.one.modules it.one.link) xs w)) e
          (is_named it.begin it.one xs w))
          (is_named it.begin it.other ys v))
          (λ n. back_alike (G it) (H it) names cs xs ys n all) a b
          (runs_outside (G it) (O it) (hg it) ga.0 a.after ga.1 gone)
          (runs_outside (H it) (O' it) (hh it) gb.0 b.after gb.1 gone_b)
          (has_sites (G it) (lg it) (O it) (hg it) ga.0 a.after ga.1)
          (has_sites (H it) (lh it) (O' it) (hh it) gb.0 b.after gb.1)
          (met (G it) (lg it) (O it) (hg it) ga.0 a.after ga.1)
          (met (H it) (lh it) (O' it) (hh it) gb.0 b.after gb.1) shows shows_b both.one both.two
          both.one_shown both.two_shown both.names_same

      lows : told.wiped.low ≡ told_b.wiped.low
      lows =
          let u = told.wiped.told F (omega arith) in
          let v = told_b.wiped.told F' (omega arith) in
          let x : Some u.0 ≡ Some both.one = sym u.1 ∙ both.one_is in
          let y : Some v.0 ≡ Some both.two = sym v.1 ∙ both.two_is in
          let i : u.0 ≡ both.one = cc in
          let j : v.0 ≡ both.two = cc in
          sym u.2 ∙ ap low_of i ∙ cross.2 ∙ sym (ap low_of j) ∙ v.2

      wiped : SameWiped (G it) a b
      wiped =
          wiped_same (G it) (H it) names (O it) (O' it) (hg it) (hh it) cs a b cells ga gb told.wiped.low
          told_b.wiped.low told.wiped.wiped told_b.wiped.wiped lows
          (same_ends (G it) (H it) names cs cross.0 a b cross.1 told.wiped.wiped.end told_b.wiped.wiped.end
          told.wiped.wiped.stk told_b.wiped.wiped.stk)

      pub shown_alike : (ds : Calls) × SameCrossing (G it) (H it) names cs a b ds × SameWiped (G it) a b
      shown_alike = (cross.0, cross.1, wiped)
