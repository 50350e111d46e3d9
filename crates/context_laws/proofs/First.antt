-- Where sources let go for the first time.
use Rattle.std.proofs.Common.{◌≤◌, ℕ, [], sym, ◌∙◌, subst, arith}
use Rattle.lcm_machine.specs.Cells.{cell}
use Rattle.overlay_machine.specs.Link.{Link}
use Rattle.overlay_machine.specs.Linked.{IsLink}
use Rattle.overlay_machine.specs.Runs.{Reached, goes_on}
use Rattle.overlay_machine.specs.Starting.{StartsBegin}
use Rattle.run_lines.specs.Cuts.{Matched}
use Rattle.template_runs.specs.Public.{IsFreeAt}
use Rattle.template_runs.specs.Border.{IsTidied}
use Rattle.source_laws.specs.Secrets as secrets
use Rattle.source_starts.specs.Links.{overlay_link, first_state}
use Rattle.source_starts.specs.Sources.{LinkedStart, LinkedSources, SourcesLeaveNothing}
use Rattle.lockstep.specs.Related.{StandsOutside, Calls, SameWord, CellPair}
use Rattle.lockstep.specs.Lockstep.{Round, SameCrossing, by_call, by_leave, AreBelow}
use Rattle.context_laws.specs.Sources.{IsFirstRound, FirstArrivalsAlike, WholeRunsInStep}
use Rattle.lockstep.proofs.Offers.{call_new, until_reached, arrive_alike, runs_outside, below_new}
use Rattle.lockstep.proofs.Offers.{newest_below}
use Rattle.context_laws.proofs.Sources.{StartsAgree, sources_in_step, linked_is, holds_is}
use Rattle.context_laws.proofs.Starts.{start_cells_alike, placed_alike}
use Rattle.context_laws.proofs.Mains.{outside_main, same_first}

-- sources tidy where they let go for the first time
tidied_first : SourcesLeaveNothing → (a : LinkedSources) (r : Round) → IsFirstRound a.start r
    → IsTidied (overlay_link a.link) r.before r.after
tidied_first leaves a r f =
    ((leaves a).shows r.before r.last r.after
    (record { came = secrets.begins f.begins; until = f.until; steps = f.lets; gone = f.gone })).cells

-- so many instructions lead to where they do, and no number of a call was taken back since
arrives : StartsBegin → StartsAgree → (a : LinkedStart) (r : Round) → IsFirstRound a.start r
    → (n : ℕ) × Matched a.start n r.last × (r.before.calls ≤ r.last.calls)
arrives begin agree a r f =
    until_reached (overlay_link a.link) (linked_is begin a) (first_state a.link) (holds_is agree a) r.before
    r.last 0 (subst (Matched a.start 0) (sym f.begins) Reached.begins) f.until

module _ (begin : StartsBegin) (agree : StartsAgree) (leaves : SourcesLeaveNothing) where
  pub first_alike : FirstArrivalsAlike
  first_alike a b names beside imports r t fr ft cs same wiped = (
    arrive_alike g h names lg lh [] r t outside_r outside_t cells (tidied_first leaves a r fr)
        (tidied_first leaves b t ft) wiped cs same,
    below cs same,
    after_r,
    after_t,
  )
    where
      g : Link
      g = overlay_link a.link

      h : Link
      h = overlay_link b.link

      lg : IsLink g
      lg = linked_is begin a.linked

      lh : IsLink h
      lh = linked_is begin b.linked

      last_r : (n : ℕ) × Matched a.start n r.last × (r.before.calls ≤ r.last.calls)
      last_r = arrives begin agree a.linked r fr

      last_t : (n : ℕ) × Matched b.start n t.last × (t.before.calls ≤ t.last.calls)
      last_t = arrives begin agree b.linked t ft

      after_r : (n : ℕ) × Matched a.start n r.after
      after_r = (_, goes_on last_r.1 fr.lets)

      after_t : (n : ℕ) × Matched b.start n t.after
      after_t = (_, goes_on last_t.1 ft.lets)

      outside_r : StandsOutside g r.after
      outside_r =
          runs_outside g (first_state a.link) (holds_is agree a.linked) after_r.0 r.after after_r.1 fr.gone

      outside_t : StandsOutside h t.after
      outside_t =
          runs_outside h (first_state b.link) (holds_is agree b.linked) after_t.0 t.after after_t.1 ft.gone

      cells : (c : ℕ) → IsFreeAt g c → CellPair (SameWord g h names []) (IsFreeAt g)
          (cell r.before.maps.cells c) (cell t.before.maps.cells c)
      cells c free = rw (fr.begins, ft.begins)
          (start_cells_alike begin a.linked b.linked names beside imports c free)

      none_below : AreBelow [] r.before t.before
      none_below = record {
        first = λ k j c. absurd c;
        second = λ k j c. absurd c;
        one = λ k j i m c. absurd c;
      }

      below : (ds : Calls) → SameCrossing g h names [] r t ds → AreBelow ds r.after t.after
      below _ (by_call d f e u v ev ew base sites a0 a1 a2 a3) =
          let nr = call_new g.layout r.last r.after fr.lets _ _ _ _ ev f u.older u.newest in
          let nt = call_new h.layout t.last t.after ft.lets _ _ _ _ ew e v.older v.newest in
          let x = last_r.2 in
          let y = last_t.2 in
          below_new [] f.call e.call r.before t.before r.after t.after (omega (arith, nr, x))
          (omega (arith, nt, y))
          (newest_below g lg (first_state a.link) (holds_is agree a.linked) after_r.0 r.after f u.older
          after_r.1 u.newest)
          (newest_below h lh (first_state b.link) (holds_is agree b.linked) after_t.0 t.after e v.older
          after_t.1 v.newest) none_below
      below _ (by_leave d top u v a0 newest) =
          record { first = λ k j c. absurd c; second = λ k j c. absurd c; one = λ k j i m c. absurd c }

  pub whole_runs : WholeRunsInStep
  whole_runs a b beside names imports out n q q' as_ bs k k' obs =
      let x = placed_alike begin a.linked b.linked beside names imports
      (outside_main begin a.linked b.linked beside out) in
      sources_in_step begin agree leaves a b names n 0 0 [] (first_state a.link) q (first_state b.link) q'
      as_ bs Reached.begins Reached.begins out
      (sym (same_first begin a.linked b.linked beside) ∙ out) x.0 x.1 k k' obs
