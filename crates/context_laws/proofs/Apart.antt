-- Sources that mean the same can't be told apart.
use Rattle.std.proofs.Common.{◌≡◌, ℕ, [], true, sym, ap, ◌∙◌, subst}
use Rattle.linked_starts.specs.Parts.{PartSeen}
use Rattle.overlay_machine.specs.Link.{IsUntrusted}
use Rattle.overlay_machine.specs.Starting.{StartsBegin}
use Rattle.run_lines.specs.Layout.{layout}
use Rattle.template_runs.specs.Runs.{is_inside}
use Rattle.proc_semantics.specs.Values.{World}
use Rattle.same_meanings.specs.Observed.{CallNames, AreOneToOne, swapped, TellsAsMuch, MeanTheSame}
use Rattle.source_starts.specs.Links.{first_state}
use Rattle.source_starts.specs.Sources.{LinkedStart, SourcesLeaveNothing, SourcesDoWhatTheyMean}
use Rattle.source_starts.specs.Words.{SourcesTellWords}
use Rattle.source_starts.specs.Wiped.{WipedCellsAreTold}
use Rattle.lockstep.specs.Related.{SameNames}
use Rattle.lockstep.specs.Lockstep.{Round}
use Rattle.context_laws.specs.Sources.{Beside, IsFirstRound}
use Rattle.context_laws.specs.Meanings.{GoByNames, DoesTheSameBy, DoesTheSame, SameMeaningsGoInStep}
use Rattle.context_laws.specs.Meanings.{SameMeaningsAreNotToldApart}
use Rattle.context_laws.proofs.Sources.{StartsAgree}
use Rattle.context_laws.proofs.Starts.{placed_alike}
use Rattle.context_laws.proofs.Mains.{beside_back, outside_main, same_first}
use Rattle.context_laws.proofs.Around.{one_stack}
use Rattle.context_laws.proofs.Beside.{beside_by_names, import_by_names}
use Rattle.lockstep.proofs.Offers.{first_inside}
use Rattle.context_laws.proofs.Both.{TwoLinks, turned, two_links, tells_so, G, H, O, O', W, W'}
use Rattle.context_laws.proofs.Meanings.{first_point, go_in_step}
use Rattle.context_laws.proofs.Arrivals.{lets_go_too}

pub mean_back : (calls : CallNames) (w v : World) (n m : ℕ) → n ≡ m → MeanTheSame calls w v n
    → MeanTheSame (swapped calls) v w m
mean_back calls w v n m e same = subst (MeanTheSame (swapped calls) v w) e (same.1, same.0)

-- trusted code runs first where it lets go for the first time
inside_first : (a : LinkedStart) (r : Round) → IsFirstRound a.start r
    → is_inside (layout a.start) (first_state a.link) ≡ true
inside_first a r first =
    sym (ap (is_inside (layout a.start)) first.begins)
    ∙ first_inside (layout a.start) r.before r.last first.until

module _ (it : TwoLinks) (beside : Beside it.one.link it.other.link) where
  by_names_too : {calls : CallNames} (names : SameNames (G it) (H it)) → GoByNames calls names
      → TellsAsMuch calls (W it) (W' it) it.one.size
      → DoesTheSameBy calls it.one.link it.other.link names
  by_names_too {calls} names by_names same =
      let imports = import_by_names it.begin it.one it.other beside names by_names in
      let both = same_first it.begin it.one.linked it.other.linked beside in
      let tells = tells_so it calls same in
      record {
        first = both;
        begins = λ io n q as_ k. (
            let a = placed_alike it.begin it.one.linked it.other.linked beside names imports
            (outside_main it.begin it.one.linked it.other.linked beside io) in
            go_in_step it names by_names tells n [] (O it) (O' it) q as_
            (first_point it names by_names tells a.0 a.1 io (sym both ∙ io)) k);
        lets_go = λ r first.
            lets_go_too it names by_names beside.same_parts imports tells
            (sym both ∙ inside_first it.one.linked r first) r first;
      }

  does_too : (calls : CallNames) → AreOneToOne calls → (p : PartSeen) → IsUntrusted (G it) p
      → TellsAsMuch calls (W it) (W' it) it.one.size → DoesTheSame calls it.one.link it.other.link
  does_too calls apart p u same =
      let b = beside_by_names calls apart it.begin it.one it.other beside
      (one_stack it.one.linked it.other.linked beside p u) in
      (b.0, b.1, by_names_too b.0 b.1 same)

module _ (begin : StartsBegin) (agree : StartsAgree) (leaves : SourcesLeaveNothing) (words : SourcesTellWords)
    (wipes : WipedCellsAreTold) (means : SourcesDoWhatTheyMean) where
  pub goes_in_step : SameMeaningsGoInStep
  goes_in_step calls a b beside names by_names same =
      by_names_too (two_links begin agree leaves words wipes means a b beside.one_size) beside names by_names
      same

  pub not_told_apart : SameMeaningsAreNotToldApart
  not_told_apart calls apart a b beside p u same =
      let it = two_links begin agree leaves words wipes means a b beside.one_size in
      let back = mean_back calls (W it) (W' it) a.size b.size beside.one_size same in (
        does_too it beside calls apart p u same.0,
        does_too (turned it) (beside_back a.link b.link beside) (swapped calls) (apart.1, apart.0) p
            ((beside.same_parts p).0 u) back.0,
      )
