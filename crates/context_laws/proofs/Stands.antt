-- As the run of the one link stands, so does that of the other; and where the one ends, so does the other.
use Rattle.std.proofs.Common.{◌≡◌, inl, inr, ℕ, [], Bool, true, false, refl, sym, ◌∙◌}
use Rattle.cap_words.specs.declared.Word.{Word}
use Rattle.lcm_isa.specs.declared.Reg.TheVariants.{A0}
use Rattle.overlay_machine.specs.State.{OState}
use Rattle.overlay_machine.specs.Step.{goes, halts, fails, overlay_step}
use Rattle.overlay_machine.specs.Link.{Link}
use Rattle.overlay_machine.specs.Runs.{Reached, goes_on}
use Rattle.run_lines.specs.Cuts.{Matched}
use Rattle.headline.specs.Headline.{OverlayHalts, OverlayFails}
use Rattle.template_runs.specs.Runs.{is_inside}
use Rattle.template_runs.specs.Border.{Shows}
use Rattle.same_meanings.specs.Observed.{CallNames}
use Rattle.source_laws.specs.Wiped.{none_yet}
use Rattle.source_laws.specs.Secrets.{Until}
use Rattle.source_laws.specs.Secrets as secrets
use Rattle.lockstep.specs.Related.{SameNames, Calls, ComesAlike, StepsAlike, both_halt, both_fail}
use Rattle.lockstep.specs.Related.{both_stay, both_come}
use Rattle.lockstep.specs.Lockstep.{Round, IsRound}
use Rattle.context_laws.specs.Sources.{AreBeside, ImportTheSame}
use Rattle.context_laws.specs.Meanings.{GoByNames}
use Rattle.context_laws.specs.Ends.{SameResult}
use Rattle.context_laws.proofs.Open.{has_sites, met, flat_same}
use Rattle.context_laws.proofs.Jumps.{Flat, f_ours, f_code, f_data, f_ret, f_frame}
use Rattle.context_laws.proofs.Meanings.{Point, steps_alike, stays, comes_too, one_feed, came, came_too}
use Rattle.context_laws.proofs.Meanings.{other, met_again}
use Rattle.context_laws.proofs.Behind.{round_shows, first_shows}
use Rattle.context_laws.proofs.Arrivals.{first_met}
use Rattle.context_laws.proofs.Inside.{HaltsToo, FailsToo, halts_inside, fails_inside}
use Rattle.template_runs.proofs.Offers.{halts_not, fails_not}
use Rattle.context_laws.proofs.Both.{TwoLinks, Tells, EndsLike, G, H, L, L', O, O', lg, lh, hg, hh}

same_result : (g h : Link) (names : SameNames g h) (w v : Word) → Flat g h names w v → SameResult w v
same_result g h names _ _ (f_ours w o) = inl refl
same_result g h names _ _ (f_code x y t) = inr (tt, tt)
same_result g h names _ _ (f_data x y t) = inr (tt, tt)
same_result g h names _ _ (f_ret i j s u t e d) = inr (tt, tt)
same_result g h names _ _ (f_frame f e s u t b d c) = inr (tt, tt)

module _ (it : TwoLinks) (names : SameNames (G it) (H it)) {calls : CallNames}
    (by_names : GoByNames calls names) (beside : AreBeside (G it) (H it)) (imports : ImportTheSame names)
    (same : Tells it calls) (ends : EndsLike it calls) where
  -- ---- how they stand

  abbrev pub At : Calls → OState → OState → Type 0
  At cs p p' = Point it names by_names same cs p p'

  -- both begin outside, or both in trusted code
  pub data Begin : Type 0 where
    both_outside : At [] (O it) (O' it) → Begin
    both_inside : is_inside (L it) (O it) ≡ true → is_inside (L' it) (O' it) ≡ true → Begin

  -- Trusted code that ran first still runs; or code outside runs, in the other too; or it has come in, in the
  -- other too, and trusted code has control since.
  data Stands (p : OState) : Type 0 where
    not_yet : is_inside (L' it) (O' it) ≡ true → Until (L it) (O it) p → Stands p
    beyond : (cs : Calls) (p' : OState) → At cs p p' → Stands p
    within : (cs : Calls) (b b' e e' : OState) → At cs b b' → overlay_step (L it) b ≡ goes e
        → overlay_step (L' it) b' ≡ goes e' → is_inside (L' it) e' ≡ true
        → ComesAlike (G it) (H it) names cs b e b' e' → Until (L it) e p → Stands p

  next : (p q : OState) → Stands p → overlay_step (L it) p ≡ goes q → Stands q
  next p q st e = by st (is_inside (L it) q) refl
    where
      by : Stands p → (b : Bool) → is_inside (L it) q ≡ b → Stands q
      by (not_yet i' u) true i = not_yet i' (secrets.one_more u e i)
      by (not_yet i' u) false i =
          let k = first_met it names by_names beside imports same i' p q
          (record { begins = refl; until = u; lets = e; gone = i }) in
          beyond k.0 k.1 k.2
      by (beyond cs p' k) true i =
          let c = comes_too it names by_names same cs p p' q
          (steps_alike it names by_names same cs p p' k) e i in
          within cs p p' q c.0 k e c.1 c.2 c.3 (secrets.still_there i)
      by (beyond cs p' k) false i =
          let z = stays it names by_names same cs p p' q k e i in
          beyond cs z.0 z.3
      by (within cs b b' d d' k x x' i' c u) true i =
          within cs b b' d d' k x x' i' c (secrets.one_more u e i)
      by (within cs b b' d d' k x x' i' c u) false i =
          let a : Round = record { before = b; entered = d; last = p; after = q } in
          let ia : IsRound (L it) a =
          record { outside = k.outside; comes = x; until = u; lets = e; gone = i } in
          let o = other it names by_names same cs a b' k ia d' x' i' c in
          let m = met_again it names by_names same cs a b' k ia d' x' i' c o.0 o.1 o.2 o.3 in
          beyond m.0 o.0.after m.1

  stands : Begin → (j : ℕ) (p : OState) → Reached (L it) (O it) j p → Stands p
  stands (both_outside k) _ _ Reached.begins = beyond [] (O' it) k
  stands (both_inside i i') _ _ Reached.begins = not_yet i' (secrets.still_there i)
  stands st _ q (goes_on {j = j} {p = p} r e) = next p q (stands st j p r) e

  module _ (cs : Calls) (b b' e' : OState) (k : At cs b b') (x' : overlay_step (L' it) b' ≡ goes e')
    where
      later_shows : (q m : OState) → Until (L' it) e' q → overlay_step (L' it) q ≡ goes m
          → is_inside (L' it) m ≡ false → Shows (L' it) q m
      later_shows q m v g out =
          round_shows it.leaves it.other k.j
          (record { before = b'; entered = e'; last = q; after = m }) k.reached'
          (record { outside = k.outside'; comes = x'; until = v; lets = g; gone = out })

  -- ---- where the one ends

  pub halts_too : Begin → (j : ℕ) (p : OState) → Matched it.one.start j p → OverlayHalts it.one.start p
      → HaltsToo it.one.start it.other.start p
  halts_too st j p r h = by (stands st j p r)
    where
      outside : (cs : Calls) (p' : OState) (k : At cs p p') → StepsAlike (G it) (H it) names cs p p'
          → HaltsToo it.one.start it.other.start p
      outside cs p' k (both_halt x y) = (
        k.j,
        p',
        k.reached',
        y,
        same_result (G it) (H it) names _ _
            (flat_same (G it) (H it) names cs p.frames p'.frames k.open_calls
            (has_sites (G it) (lg it) (O it) (hg it) k.i p k.reached)
            (has_sites (H it) (lh it) (O' it) (hh it) k.j p' k.reached') _ _ (k.alike.seen.0 A0)
            (met (G it) (lg it) (O it) (hg it) k.i p k.reached A0)
            (met (H it) (lh it) (O' it) (hh it) k.j p' k.reached' A0)),
      )
      outside cs p' k (both_fail x y) = absurd (let z : halts ≡ fails = sym h ∙ x in cc)
      outside cs p' k (both_stay m m' x y i j v w al) = absurd (halts_not m (sym h ∙ x))
      outside cs p' k (both_come m m' x y i j c) = absurd (halts_not m (sym h ∙ x))

      by : Stands p → HaltsToo it.one.start it.other.start p
      by (not_yet i' u) =
          halts_inside it calls ends [] [] [] []
          (O it) (O' it) (O it) (O' it) p none_yet none_yet refl 0 Reached.begins i' u
          (first_shows it.leaves it.other) h
      by (beyond cs p' k) = outside cs p' k
          (steps_alike it names by_names same cs p p' k)
      by (within cs b b' d d' k x x' i' c u) =
          halts_inside it calls ends k.es
          k.es' _ _ b b' d d' p
          (came it names by_names same cs b b' d k x d' x' c)
          (came_too it names by_names same cs b b' d k x d' x' c)
          (one_feed it names by_names same cs b b' d k x d' x' c) _ (goes_on k.reached' x') i' u
          (later_shows cs b b' d' k x') h

  pub fails_too : Begin → (j : ℕ) (p : OState) → Matched it.one.start j p → OverlayFails it.one.start p
      → FailsToo it.other.start
  fails_too st j p r h = by (stands st j p r)
    where
      outside : (cs : Calls) (p' : OState) (k : At cs p p') → StepsAlike (G it) (H it) names cs p p'
          → FailsToo it.other.start
      outside cs p' k (both_halt x y) = absurd (let z : fails ≡ halts = sym h ∙ x in cc)
      outside cs p' k (both_fail x y) = (k.j, p', k.reached', y)
      outside cs p' k (both_stay m m' x y i j v w al) = absurd (fails_not m (sym h ∙ x))
      outside cs p' k (both_come m m' x y i j c) = absurd (fails_not m (sym h ∙ x))

      by : Stands p → FailsToo it.other.start
      by (not_yet i' u) =
          fails_inside it calls ends [] [] [] []
          (O it) (O' it) (O it) (O' it) p none_yet none_yet refl 0 Reached.begins i' u
          (first_shows it.leaves it.other) h
      by (beyond cs p' k) = outside cs p' k
          (steps_alike it names by_names same cs p p' k)
      by (within cs b b' d d' k x x' i' c u) =
          fails_inside it calls ends k.es
          k.es' _ _ b b' d d' p
          (came it names by_names same cs b b' d k x d' x' c)
          (came_too it names by_names same cs b b' d k x d' x' c)
          (one_feed it names by_names same cs b b' d k x d' x' c) _ (goes_on k.reached' x') i' u
          (later_shows cs b b' d' k x') h
