-- Sources that mean the same can't be told apart, where main is theirs.
use Rattle.std.proofs.Common.{◌≡◌, ℕ, [], ◌∷◌, true, refl, subst}
use Rattle.overlay_machine.specs.State.{OState}
use Rattle.overlay_machine.specs.Runs.{Reached, goes_on}
use Rattle.template_runs.specs.Runs.{is_inside}
use Rattle.template_runs.specs.Border.{Shows}
use Rattle.same_meanings.specs.Observed.{CallNames}
use Rattle.source_laws.specs.Wiped.{none_yet}
use Rattle.source_laws.specs.Secrets.{Until}
use Rattle.lockstep.specs.Related.{SameNames, Calls}
use Rattle.lockstep.specs.Lockstep.{Round, SameCrossing, by_call, by_leave, SameWiped}
use Rattle.context_laws.specs.Sources.{AreBeside, ImportTheSame, IsFirstRound}
use Rattle.context_laws.specs.Meanings.{GoByNames, GoesInStep}
use Rattle.lockstep.proofs.Offers.{until_reached}
use Rattle.context_laws.proofs.Starts.{start_cells_alike}
use Rattle.context_laws.proofs.First.{first_alike}
use Rattle.context_laws.proofs.Progress.{tells_of, goes_out}
use Rattle.context_laws.proofs.Rounds.{RoundTold, round_told}
use Rattle.context_laws.proofs.Behind.{all_behind, calls_behind, first_shows}
use Rattle.context_laws.proofs.Both.{TwoLinks, Tells, G, H, L, L', O, O', W', lg, lh, hg, hh}
use Rattle.context_laws.proofs.ShownAlike.{tells_more, shown_alike}
use Rattle.context_laws.proofs.Meanings.{Point, go_in_step}

module _ (it : TwoLinks) (names : SameNames (G it) (H it)) {calls : CallNames}
    (by_names : GoByNames calls names) (beside : AreBeside (G it) (H it)) (imports : ImportTheSame names)
    (same : Tells it calls) (inside' : is_inside (L' it) (O' it) ≡ true) where
  abbrev Behind : Round → Type 0
  Behind a = (b : Round) × IsFirstRound it.other.start b × (cs : Calls)
      × SameCrossing (G it) (H it) names [] a b cs × GoesInStep calls names cs a.after b.after

  -- a round from the start on
  module _ (last after : OState)
      (fa : IsFirstRound it.one.start (record { before = O it; entered = O it; last = last; after = after }))
    where
      abbrev A : Round
      A = record { before = O it; entered = O it; last = last; after = after }

      shows : Shows (L it) last after
      shows = first_shows it.leaves it.one last after fa.until fa.lets fa.gone

      told : RoundTold it.words it.wipes it.one [] [] (O it) last after
      told = round_told it.words it.wipes it.one [] [] (O it) (O it) last after none_yet fa.until fa.lets
          fa.gone shows

      other : (q m : OState)
          × IsFirstRound it.other.start (record { before = O' it; entered = O' it; last = q; after = m })
      other =
          let g = goes_out (W' it) it.other.size it.other.start (it.means it.other) [] [] (O' it)
          (tells_of (L' it) (O' it) [] [] (O' it) (O' it) none_yet) inside'
          (tells_more it names by_names same [] [] [] [] refl refl tt (O it) last after told) in
          (g.0, g.1, record { begins = refl; until = g.2; lets = g.3; gone = g.4 })

      abbrev Q : OState
      Q = other.0

      abbrev B : Round
      B = record { before = O' it; entered = O' it; last = Q; after = other.1 }

      fb : IsFirstRound it.other.start B
      fb = other.2

      shows_b : Shows (L' it) Q B.after
      shows_b = first_shows it.leaves it.other Q B.after fb.until fb.lets fb.gone

      told_b : RoundTold it.words it.wipes it.other [] [] (O' it) Q B.after
      told_b = round_told it.words it.wipes it.other [] [] (O' it) (O' it) Q B.after none_yet fb.until fb.lets
          fb.gone shows_b

      ga : (i : ℕ) × Reached (L it) (O it) i after
      ga = let u = until_reached (G it) (lg it) (O it) (hg it) (O it) last 0 Reached.begins fa.until in
          (_, goes_on u.1 fa.lets)

      gb : (j : ℕ) × Reached (L' it) (O' it) j B.after
      gb = let u = until_reached (H it) (lh it) (O' it) (hh it) (O' it) Q 0 Reached.begins fb.until in
          (_, goes_on u.1 fb.lets)

      cross : (ds : Calls) × SameCrossing (G it) (H it) names [] A B ds × SameWiped (G it) A B
      cross =
          shown_alike it names by_names same [] [] [] [] refl refl tt [] tt A B
          (start_cells_alike it.begin it.one.linked it.other.linked names beside imports) told told_b shows
          shows_b ga gb fa.gone fb.gone

      point : Point it names by_names same cross.0 after B.after
      point =
          let al = first_alike it.begin it.agree it.leaves it.one it.other names beside imports A B fa fb
          cross.0 cross.1 cross.2 in
          record {
            es = told.shown ∷ [];
            es' = told_b.shown ∷ [];
            xs = [];
            xs' = [];
            b = told.since.0;
            b' = told_b.since.0;
            since = told.since.1;
            since' = told_b.since.1;
            count = refl;
            fed = refl;
            all = all_behind (G it) (H it) names [] cross.0 A B cross.1 [] [] tt;
            open_calls = calls_behind (G it) (H it) names [] cross.0 A B cross.1 (λ n m c. absurd c);
            i = ga.0;
            j = gb.0;
            reached = ga.1;
            reached' = gb.1;
            outside = fa.gone;
            outside' = fb.gone;
            alike = al.0;
            below = al.1;
          }

      pub first_met : (ds : Calls) × (p' : OState) × Point it names by_names same ds after p'
      first_met = (cross.0, B.after, point)

      behind : Behind A
      behind = (
        B,
        fb,
        cross.0,
        cross.1,
        λ n q as_ k. go_in_step it names by_names same n cross.0 after B.after q as_ point k,
      )

  -- of any round from there
  crossing_of : (a : Round) (z e : OState) (b : Round) (cs : Calls)
      → SameCrossing (G it) (H it) names []
      (record { before = z; entered = e; last = a.last; after = a.after }) b cs
      → SameCrossing (G it) (H it) names [] a b cs
  crossing_of a z e b _ (by_call d f k sc tc ev ew base sites a0 a1 a2 a3) =
      by_call d f k sc tc ev ew base sites a0 a1 a2 a3
  crossing_of a z e b _ (by_leave d top sl tl a0 newest) = by_leave d top sl tl a0 newest

  pub lets_go_too : (a : Round) → IsFirstRound it.one.start a → Behind a
  lets_go_too a fa =
      let x = behind a.last a.after (record {
        begins = refl;
        until = subst (λ z. Until (L it) z a.last) fa.begins fa.until;
        lets = fa.lets;
        gone = fa.gone;
      }) in
      (x.0, x.1, x.2, crossing_of a (O it) (O it) x.0 x.2 x.3, x.4)
