-- Sources that mean the same and end the same way: the plain runs of their links end alike.
use Rattle.std.proofs.Common.{◌≡◌, inl, inr, ℕ, ◌+◌, ℤ, Bool, true, false, Option, Some, None, refl, sym}
use Rattle.std.proofs.Common.{ap, ◌∙◌, subst, arith}
use Rattle.cap_words.specs.declared.Word.{Word}
use Rattle.cap_words.specs.declared.Word.TheVariants.{Int}
use Rattle.lcm_isa.specs.declared.Reg.TheVariants.{A0}
use Rattle.lcm_machine.specs.declared.End.{End}
use Rattle.lcm_machine.specs.declared.End.TheVariants.{Halted, Failed}
use Rattle.lcm_machine.specs.Run.{plain, answer_by}
use Rattle.linked_starts.specs.Parts.{PartSeen}
use Rattle.linked_starts.specs.Started.{StartSeen}
use Rattle.overlay_machine.specs.State.{OState}
use Rattle.overlay_machine.specs.Link.{IsUntrusted}
use Rattle.overlay_machine.proofs.Offers.{any_is, any_of}
use Rattle.template_runs.specs.Runs.{is_inside}
use Rattle.std.specs.Prelude.{not}
use Rattle.std.specs.List.{list_any}
use Rattle.overlay_machine.specs.Starting.{overlay_at, StartsBegin}
use Rattle.run_lines.specs.Layout.{layout}
use Rattle.run_lines.specs.Views.{flat_view}
use Rattle.run_lines.specs.Cuts.{Matched, cut, cut_overlay, StopsAreCuts}
use Rattle.run_lines.specs.Runs.{written}
use Rattle.headline.specs.Headline.{OverlayHalts, OverlayFails, Headline, HeadlineHolds}
use Rattle.run_lines.proofs.Offers.{reached_by}
use Rattle.proc_semantics.specs.Values.{World}
use Rattle.same_meanings.specs.Observed.{CallNames, AreOneToOne, swapped, MeanTheSame, EndTheSame}
use Rattle.source_starts.specs.Sources.{SourcesLeaveNothing, SourcesDoWhatTheyMean}
use Rattle.source_starts.specs.Words.{SourcesTellWords}
use Rattle.source_starts.specs.Wiped.{WipedCellsAreTold}
use Rattle.source_starts.proofs.Offers.{halts_there, fails_there}
use Rattle.lockstep.specs.Related.{SameNames}
use Rattle.context_laws.specs.Sources.{Beside, ImportTheSame}
use Rattle.context_laws.specs.Meanings.{GoByNames}
use Rattle.context_laws.specs.Ends.{PlainHalts, PlainFails, RunsForever, SameResult, EndsToo, RunsEndAlike}
use Rattle.context_laws.specs.Ends.{SameMeaningsEndAlike}
use Rattle.context_laws.proofs.Sources.{StartsAgree}
use Rattle.context_laws.proofs.Starts.{placed_alike}
use Rattle.context_laws.proofs.Around.{one_stack}
use Rattle.context_laws.proofs.Beside.{beside_by_names, import_by_names}
use Rattle.context_laws.proofs.Apart.{mean_back}
use Rattle.context_laws.proofs.Meanings.{first_point}
use Rattle.context_laws.proofs.Mains.{beside_back, main_part, outside_main, same_first}
use Rattle.context_laws.proofs.Inside.{HaltsToo, FailsToo, alone_halts, alone_fails}
use Rattle.context_laws.proofs.Stands.{Begin, both_outside, both_inside, halts_too, fails_too}
use Rattle.context_laws.proofs.Both.{TwoLinks, turned, two_links, Tells, tells_so, EndsLike, ends_so, G, H}
use Rattle.context_laws.proofs.Both.{L, L', O, O', W, W'}

-- ---- a plain run, by the overlay's

module _ (stops : StopsAreCuts) (s : StartSeen) (head : Headline s) where
  halts_from : (w : Word) → PlainHalts s w
      → (j : ℕ) × (p : OState) × Matched s j p × OverlayHalts s p × (w ≡ (flat_view (layout s) p).reg A0)
  halts_from w h =
      let n = h.after in
      let x = head.lines n in
      let p = cut_overlay s n in
      let at = reached_by (layout s) (overlay_at s).state (cut s n).at (written s n) p x.0 in
      let k = halts_there stops s head.agrees n (cut s n).at p at x.1 (ap answer_by h.halted) in
      ((cut s n).at, p, at, k.0, sym h.value ∙ k.1)

  halts_to : (j : ℕ) (p : OState) → Matched s j p → OverlayHalts s p
      → PlainHalts s ((flat_view (layout s) p).reg A0)
  halts_to j p at e =
      let cut_is = sym (stops s j j p at (omega arith, inr (inl e))).1 in
      let there = subst (λ q. Matched s j q × OverlayHalts s q) cut_is (at, e) in
      record {
        after = j + 1;
        halted = ((head.agrees.halts j).1 there).ends;
        value = (head.agrees.alike j p at e).1;
      }

  fails_from : PlainFails s → (j : ℕ) × (p : OState) × Matched s j p × OverlayFails s p
  fails_from h =
      let n = h.after in
      let x = head.lines n in
      let p = cut_overlay s n in
      let at = reached_by (layout s) (overlay_at s).state (cut s n).at (written s n) p x.0 in (
        (cut s n).at,
        p,
        at,
        fails_there stops s head.agrees n (cut s n).at p at x.1 h.cause h.at (ap answer_by h.failed),
      )

  fails_to : (j : ℕ) (p : OState) → Matched s j p → OverlayFails s p → PlainFails s
  fails_to j p at e =
      let f = head.agrees.overlay_fails j p at e in
      record { after = f.0 + 1; cause = f.1; at = f.2; failed = f.4.ends }

-- ---- of two runs

forever_too : (s s' : StartSeen) → EndsToo s' s → RunsForever s → RunsForever s'
forever_too s s' back on n = by (plain n s'.state).end refl
  where
    ends : (m : ℕ) (e : End) → (plain m s.state).end ≡ Some e → ⊥
    ends m e h = let z : None ≡ Some e = sym (on m) ∙ h in cc

    by : (o : Option End) → (plain n s'.state).end ≡ o → o ≡ None
    by None e = refl
    by (Some Halted) e =
        let k = back.halts _ (record { after = n; halted = e; value = refl }) in
        absurd (ends k.1.after Halted k.1.halted)
    by (Some (Failed cause at)) e =
        let k = back.fails (record { after = n; cause = cause; at = at; failed = e }) in
        absurd (ends k.after (Failed k.cause k.at) k.failed)

integer_too : (s s' : StartSeen) → EndsToo s s' → (z : ℤ) → PlainHalts s (Int z) → PlainHalts s' (Int z)
integer_too s s' there z h = by (there.halts (Int z) h)
  where
    by : (v : Word) × PlainHalts s' v × SameResult (Int z) v → PlainHalts s' (Int z)
    by (v, k, inl e) = subst (PlainHalts s') (sym e) k
    by (v, k, inr e) = absurd e.0

pub both_ways : (s s' : StartSeen) → EndsToo s s' → EndsToo s' s → RunsEndAlike s s'
both_ways s s' there back = record {
  there = there;
  back = back;
  integers = λ z. (integer_too s s' there z, integer_too s' s back z);
  forever = (forever_too s s' back, forever_too s' s there);
}

not_true : (b : Bool) → not b ≡ true → b ≡ false
not_true true e = absurd cc
not_true false e = refl

ends_back : (calls : CallNames) (w v : World) (n m : ℕ) → n ≡ m → EndTheSame calls w v n
    → EndTheSame (swapped calls) v w m
ends_back calls w v n m e ends = subst (EndTheSame (swapped calls) v w) e (ends.1, ends.0)

module _ (headline : HeadlineHolds) (stops : StopsAreCuts) (it : TwoLinks)
    (beside : Beside it.one.link it.other.link) (calls : CallNames) (apart : AreOneToOne calls)
    (same : MeanTheSame calls (W it) (W' it) it.one.size)
    (ends : EndTheSame calls (W it) (W' it) it.one.size) where
  open it.one.linked.link use {start as s}
  open it.other.linked.link use {start as s'}

  told : Tells it calls
  told = tells_so it calls same.0

  ended : EndsLike it calls
  ended = ends_so it calls ends.0

  first : is_inside (L it) (O it) ≡ is_inside (L' it) (O' it)
  first = same_first it.begin it.one.linked it.other.linked beside

  -- what the overlays do the plain runs do
  ends_from : ((j : ℕ) (p : OState) → Matched s j p → OverlayHalts s p → HaltsToo s s' p)
      → ((j : ℕ) (p : OState) → Matched s j p → OverlayFails s p → FailsToo s') → EndsToo s s'
  ends_from halts fails =
      let head = headline (G it).parts it.one.size s it.one.is_start in
      let head' = headline (H it).parts it.other.size s' it.other.is_start in
      record {
        halts = λ w h. (
            let a = halts_from stops s head w h in
            let b = halts a.0 a.1 a.2 a.3 in
            let v = (flat_view (L' it) b.1).reg A0 in
            (v, halts_to stops s' head' b.0 b.1 b.2 b.3, subst (λ z. SameResult z v) (sym a.4) b.4)
            );
        fails = λ h. (
            let a = fails_from stops s head h in
            let b = fails a.0 a.1 a.2 a.3 in
            fails_to stops s' head' b.0 b.1 b.2 b.3
            );
      }

  -- where a part is untrusted
  beside_code : (p : PartSeen) → IsUntrusted (G it) p → EndsToo s s'
  beside_code p u =
      ends_from (halts_too it b.0 b.1 beside.same_parts imports told ended both_begin)
      (fails_too it b.0 b.1 beside.same_parts imports told ended both_begin)
    where
      b : (names : SameNames (G it) (H it)) × GoByNames calls names
      b = beside_by_names calls apart it.begin it.one it.other beside
          (one_stack it.one.linked it.other.linked beside p u)

      imports : ImportTheSame b.0
      imports = import_by_names it.begin it.one it.other beside b.0 b.1

      Begins : Type 0
      Begins = Begin it b.0 b.1 beside.same_parts imports told ended

      both_begin : Begins
      both_begin = by (is_inside (L it) (O it)) refl
        where
          by : (x : Bool) → is_inside (L it) (O it) ≡ x → Begins
          by true i = both_inside i (sym first ∙ i)
          by false i =
              let a = placed_alike it.begin it.one.linked it.other.linked beside b.0 imports
              (outside_main it.begin it.one.linked it.other.linked beside i) in
              both_outside (first_point it b.0 b.1 told a.0 a.1 i (sym first ∙ i))

  -- where none is
  beside_none : ((p : PartSeen) → IsUntrusted (G it) p → ⊥) → EndsToo s s'
  beside_none alone =
      ends_from (alone_halts it calls ended alone i i') (alone_fails it calls ended alone i i')
    where
      i : is_inside (L it) (O it) ≡ true
      i = by (is_inside (L it) (O it)) refl
        where
          by : (x : Bool) → is_inside (L it) (O it) ≡ x → is_inside (L it) (O it) ≡ true
          by true e = e
          by false e =
              absurd (alone it.one.is_start.starts.state.main.part (main_part it.begin it.one.linked e))

      i' : is_inside (L' it) (O' it) ≡ true
      i' = sym first ∙ i

  ends_too : EndsToo s s'
  ends_too = by (list_any (λ (p : PartSeen). not p.trusted) (G it).parts) refl
    where
      none : (p : PartSeen) → IsUntrusted (G it) p
          → list_any (λ (p : PartSeen). not p.trusted) (G it).parts ≡ true
      none p u = any_is (λ (p : PartSeen). not p.trusted) (G it).parts p u.0 (ap not u.1)

      by : (b : Bool) → list_any (λ (p : PartSeen). not p.trusted) (G it).parts ≡ b → EndsToo s s'
      by true e =
          let x = any_of (λ (p : PartSeen). not p.trusted) (G it).parts e in
          beside_code x.0 (x.1, not_true x.0.trusted x.2)
      by false e = beside_none (λ p u. (let bad : false ≡ true = sym e ∙ none p u in cc))

pub end_alike : StartsBegin → StartsAgree → SourcesLeaveNothing → SourcesTellWords → WipedCellsAreTold
    → SourcesDoWhatTheyMean → HeadlineHolds → StopsAreCuts → SameMeaningsEndAlike
end_alike begin agree leaves words wipes means headline stops calls apart a b beside same ends =
    let it = two_links begin agree leaves words wipes means a b beside.one_size in
    both_ways a.start b.start (ends_too headline stops it beside calls apart same ends)
    (ends_too headline stops (turned it) (beside_back a.link b.link beside) (swapped calls)
    (apart.1, apart.0) (mean_back calls (W it) (W' it) a.size b.size beside.one_size same)
    (ends_back calls (W it) (W' it) a.size b.size beside.one_size ends))
