-- Where trusted code has control in both links since the same items came in, and ends in the one, it ends in
-- the other; and where every part is trusted, that is always so.
use Rattle.std.proofs.Common.{◌≡◌, inl, ℕ, ◌+◌, ◌-◌, ℤ, List, [], map, Bool, true, false, refl, sym, ap, ◌∙◌}
use Rattle.std.proofs.Common.{arith}
use Rattle.cap_words.specs.declared.Word.TheVariants.{Int}
use Rattle.lcm_isa.specs.declared.Reg.TheVariants.{A0, C1, Rcode}
use Rattle.linked_starts.specs.Parts.{PartSeen}
use Rattle.linked_starts.specs.Started.{StartSeen}
use Rattle.trusted_border.specs.declared.events.Event.{Event}
use Rattle.overlay_machine.specs.State.{OState}
use Rattle.overlay_machine.specs.Step.{goes, overlay_step}
use Rattle.overlay_machine.specs.Link.{Link, IsUntrusted}
use Rattle.overlay_machine.specs.Linked.{IsLink}
use Rattle.overlay_machine.specs.Runs.{Reached, goes_on}
use Rattle.overlay_machine.specs.Starting.{StartsBegin}
use Rattle.run_lines.specs.Layout.{layout}
use Rattle.run_lines.specs.Views.{flat_view}
use Rattle.run_lines.specs.Cuts.{Matched}
use Rattle.headline.specs.Headline.{OverlayHalts, OverlayFails}
use Rattle.template_runs.specs.Runs.{is_inside}
use Rattle.template_runs.specs.Border.{Shows, ShowsBy, by_call, by_leave}
use Rattle.source_events.specs.declared.Item.{Item}
use Rattle.source_events.specs.declared.End.{End}
use Rattle.source_events.specs.declared.End.TheVariants.{Halt as Halted, Fail, Waiting, OutOfFuel}
use Rattle.proc_semantics.specs.Values.{World}
use Rattle.proc_semantics.specs.Meaning.{meaning}
use Rattle.proc_semantics.specs.Marked.{refined}
use Rattle.proc_semantics.proofs.Offers.{mark_laws}
use Rattle.same_meanings.specs.Observed.{CallNames, FeedFits, SameFeed}
use Rattle.same_meanings.proofs.Offers.{end_later}
use Rattle.source_laws.specs.Seen.{Shown}
use Rattle.source_laws.specs.Sources.{MeansAlways, MeansAt, MeaningEnds}
use Rattle.source_laws.specs.Wiped.{TellsSince, none_yet}
use Rattle.source_laws.specs.Secrets.{Until}
use Rattle.source_laws.specs.Secrets as secrets
use Rattle.source_starts.specs.Links.{overlay_link, first_state}
use Rattle.source_starts.specs.Sources.{LinkedSources, SourcesLeaveNothing}
use Rattle.lockstep.specs.Related.{StandsOutside}
use Rattle.lockstep.specs.Lockstep.{HoldsAlong}
use Rattle.context_laws.specs.Ends.{SameResult}
use Rattle.lockstep.proofs.Offers.{until_reached, runs_outside, opened_open}
use Rattle.context_laws.proofs.Sources.{StartsAgree, linked_is, holds_is}
use Rattle.context_laws.proofs.Feeds.{feed_fits}
use Rattle.context_laws.proofs.Progress.{tells_of, until_since, until_inside, shows_of, EndsSo, ComesTo}
use Rattle.context_laws.proofs.Progress.{to_halt, to_fail, comes_to}
use Rattle.context_laws.proofs.Rounds.{round_told}
use Rattle.context_laws.proofs.Behind.{first_shows}
use Rattle.context_laws.proofs.Both.{TwoLinks, Things, feed, EndsLike, G, H, L, L', O, O', W, W', lh, hh}

end_is : (world : World) (size : ℕ) (feed : List Item) (f : ℕ)
    → (refined world size feed f).end ≡ (meaning world size feed f).end
end_is world size feed f = ap (λ t. t.end) (mark_laws.forgets world size feed f)

-- the other run halts too, with the same result; or fails too
abbrev pub HaltsToo : StartSeen → StartSeen → OState → Type 0
HaltsToo s s' p = (j : ℕ) × (q : OState) × Matched s' j q × OverlayHalts s' q
    × SameResult ((flat_view (layout s) p).reg A0) ((flat_view (layout s') q).reg A0)

abbrev pub FailsToo : StartSeen → Type 0
FailsToo s' = (j : ℕ) × (q : OState) × Matched s' j q × OverlayFails s' q

-- where trusted code that ran first lets go, it goes by a pair of an untrusted part
let_out : StartsBegin → StartsAgree → SourcesLeaveNothing → (a : LinkedSources) (q m : OState)
    → Until (layout a.start) (first_state a.link) q → overlay_step (layout a.start) q ≡ goes m
    → is_inside (layout a.start) m ≡ false
    → (p : PartSeen) × IsUntrusted (overlay_link a.link) p
let_out begin agree leaves a q m u e out = by shown.2
  where
    K : Link
    K = overlay_link a.link

    linked : IsLink K
    linked = linked_is begin a.linked

    holds : HoldsAlong K (first_state a.link)
    holds = holds_is agree a.linked

    shown : Shows K.layout q m
    shown = first_shows leaves a q m u e out

    runs : StandsOutside K m
    runs =
        let o = first_state a.link in
        let r = until_reached K linked o holds o q 0 Reached.begins u in
        runs_outside K o holds _ m (goes_on r.1 e) out

    by : {v : Event} → ShowsBy K.layout m v → (p : PartSeen) × IsUntrusted K p
    by (by_call d f x) = (let k = opened_open K linked m runs d x.pc C1 x.c1 in (k.0, k.1))
    by (by_leave n d top x) = (let k = opened_open K linked m runs d x.pc Rcode x.rcode in (k.0, k.1))

module _ (it : TwoLinks) (calls : CallNames) (ends : EndsLike it calls) where
  abbrev Means' : MeansAlways (W' it) it.other.size it.other.start
  Means' = it.means it.other

  -- ---- where trusted code ends

  -- it has control in both since the same items came in
  module _ (es es' : List Shown) (xs xs' : Things) (b b' e e' p : OState)
      (t : TellsSince (L it) (O it) es xs b e) (t' : TellsSince (L' it) (O' it) es' xs' b' e')
      (one : SameFeed calls (feed xs) (feed xs')) (j : ℕ) (r : Reached (L' it) (O' it) j e')
      (i' : is_inside (L' it) e' ≡ true) (u : Until (L it) e p)
      (shows : (q m : OState) → Until (L' it) e' q → overlay_step (L' it) q ≡ goes m
      → is_inside (L' it) m ≡ false → Shows (L' it) q m) where
    said : (n : ℕ) × MeansAt (W it) it.one.size (L it) n (map (λ (x : Shown). x.event) es) (feed xs) p
    said =
        let k = shows_of (L it) (O it) es xs p
        (tells_of (L it) (O it) es xs b p (until_since (L it) (O it) es xs b e p u t)) in
        (k.1, it.means it.one k.0 k.1 _ (feed xs) p k.2)

    fits : FeedFits (feed xs)
    fits = feed_fits (L it) (O it) es xs b e t

    abbrev Ends : End → Type 0
    Ends x = MeaningEnds (W it) it.one.size (feed xs) (map (λ (x : Shown). x.event) es) x

    so : (x : End) → Ends x → (x ≡ OutOfFuel → ⊥) → EndsSo (W' it) it.other.size it.other.start Means' xs' x
    so x m some =
        let e : (refined (W it) it.one.size (feed xs) m.enough).end ≡ x =
        end_is (W it) it.one.size (feed xs) m.enough ∙ m.ends m.enough (omega arith) in
        let k = ends (feed xs) (feed xs') one fits m.enough (λ o. some (sym e ∙ o)) in (
          k.0,
          λ f le. (
              let all : k.0 + (f - k.0) ≡ f = omega (arith, le) in
              sym (end_is (W' it) it.other.size (feed xs') f)
              ∙ ap (λ g. (refined (W' it) it.other.size (feed xs') g).end) (sym all)
              ∙ end_later (W' it) it.other.size (feed xs') k.0 (f - k.0) x (k.1 ∙ e) some
              ),
        )

    -- where it let go, the meaning would wait
    never : (x : End) → Ends x → (x ≡ Waiting → ⊥) → (x ≡ OutOfFuel → ⊥) → (q m : OState)
        → Until (L' it) e' q → overlay_step (L' it) q ≡ goes m → is_inside (L' it) m ≡ false → ⊥
    never x ends_x not some q m v g out =
        let told = round_told it.words it.wipes it.other es' xs' b' e' q m t' v g out (shows q m v g out) in
        let k = shows_of (L' it) (O' it) _ xs' m (tells_of (L' it) (O' it) _ xs' _ m told.since.1) in
        let w = (Means' k.0 k.1 _ (feed xs') m k.2).waits out in
        let y = so x ends_x some in
        not (sym (y.1 (y.0 + w.enough) (omega arith)) ∙ w.ends (y.0 + w.enough) (omega arith))

    comes : (x : End) → Ends x → (x ≡ Waiting → ⊥) → (x ≡ OutOfFuel → ⊥)
        → ComesTo (W' it) it.other.size it.other.start Means' e' x
    comes x m not some =
        comes_to (W' it) it.other.size it.other.start Means' es' xs' e'
        (tells_of (L' it) (O' it) es' xs' b' e' t') i' x (so x m some) some (never x m not some)

    pub halts_inside : OverlayHalts it.one.start p → HaltsToo it.one.start it.other.start p
    halts_inside h =
        let k = said.1.halts (until_inside (L it) e p u) h in
        by k.0 k.1 (comes (Halted k.0) k.2 (λ x. cc) (λ x. cc))
      where
        by : (v : ℤ) → (flat_view (L it) p).reg A0 ≡ Int v
            → ComesTo (W' it) it.other.size it.other.start Means' e' (Halted v)
            → HaltsToo it.one.start it.other.start p
        by v a (to_halt q w y g c x) =
            let k = until_reached (H it) (lh it) (O' it) (hh it) e' q j r y in
            let z : v ≡ w = cc in
            (k.0, q, k.1, g, inl (a ∙ ap Int z ∙ sym c))
        by v a (to_fail q y g x) = absurd cc

    pub fails_inside : OverlayFails it.one.start p → FailsToo it.other.start
    fails_inside h =
        let k = said.1.fails (until_inside (L it) e p u) h in
        by (comes Fail k.0 (λ x. cc) (λ x. cc))
      where
        by : ComesTo (W' it) it.other.size it.other.start Means' e' Fail → FailsToo it.other.start
        by (to_halt q w y g c x) = absurd cc
        by (to_fail q y g x) =
            (let k = until_reached (H it) (lh it) (O' it) (hh it) e' q j r y in (k.0, q, k.1, g))

  -- ---- where every part is trusted

  module _ (alone : (p : PartSeen) → IsUntrusted (G it) p → ⊥) (i : is_inside (L it) (O it) ≡ true)
      (i' : is_inside (L' it) (O' it) ≡ true) where
    stays_in : (j : ℕ) (p : OState) → Reached (L it) (O it) j p → Until (L it) (O it) p
    stays_in _ _ Reached.begins = secrets.still_there i
    stays_in _ q (goes_on {j = j} {p = p} r e) = by (is_inside (L it) q) refl (stays_in j p r)
      where
        by : (b : Bool) → is_inside (L it) q ≡ b → Until (L it) (O it) p → Until (L it) (O it) q
        by true k u = secrets.one_more u e k
        by false k u =
            let x = let_out it.begin it.agree it.leaves it.one p q u e k in
            absurd (alone x.0 x.1)

    pub alone_halts : (j : ℕ) (p : OState) → Matched it.one.start j p → OverlayHalts it.one.start p
        → HaltsToo it.one.start it.other.start p
    alone_halts j p r h =
        halts_inside [] [] [] [] (O it) (O' it) (O it) (O' it) p none_yet none_yet refl 0 Reached.begins i'
        (stays_in j p r) (first_shows it.leaves it.other) h

    pub alone_fails : (j : ℕ) (p : OState) → Matched it.one.start j p → OverlayFails it.one.start p
        → FailsToo it.other.start
    alone_fails j p r h =
        fails_inside [] [] [] [] (O it) (O' it) (O it) (O' it) p none_yet none_yet refl 0 Reached.begins i'
        (stays_in j p r) (first_shows it.leaves it.other) h
