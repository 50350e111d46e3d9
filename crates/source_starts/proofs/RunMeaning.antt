-- The plain run of linked sources means what the sources mean.
use Rattle.std.proofs.Common.{◌≡◌, Bool, true, false, ◌∷◌, Some, refl, sym, ap, ◌∙◌, subst}
use Rattle.linked_starts.specs.Standing.{placed}
use Rattle.overlay_machine.specs.Starting.{StartsBegin}
use Rattle.overlay_machine.proofs.Offers.{listed_at}
use Rattle.run_lines.specs.Layout.{layout}
use Rattle.run_lines.specs.StepLines.{StepsTellSo}
use Rattle.run_lines.specs.Feed.{outs_of, items_of, OutsJoin, ItemsJoin, EntriesAreItems}
use Rattle.run_lines.specs.Runs.{written}
use Rattle.run_lines.specs.Cuts.{cut, cut_overlay, trusted_weight, CutsAreGreatest, StopsAreCuts}
use Rattle.headline.specs.Headline.{HeadlineHolds}
use Rattle.run_lines.proofs.Offers.{reached_by}
use Rattle.proc_language.specs.declared.module.ModuleFields.{ModuleFields}
use Rattle.proc_program.specs.Lower.{part_of}
use Rattle.source_laws.specs.Sources.{RunShows}
use Rattle.source_starts.specs.Links.{first_state}
use Rattle.source_starts.specs.Sources.{SourcesDoWhatTheyMean, AreSources}
use Rattle.source_starts.specs.RunMeans.{RunsMean, StacksBegin, CutsShow, runs_trusted}
use Rattle.source_starts.proofs.Worlds.{aligned, part_of_home}
use Rattle.source_starts.proofs.StartWords.{held_at}
use Rattle.source_starts.proofs.LinesShow.{lines_show, shows_lead}
use Rattle.source_starts.proofs.RunEnds.{runs_inside, halts_there, fails_there}

-- what a run shows up to its cut point
module _ (headline : HeadlineHolds) (outs : OutsJoin) (joined : ItemsJoin) (entries : EntriesAreItems)
    (tell : StepsTellSo) (greatest : CutsAreGreatest) where
  pub cuts_show : CutsShow
  cuts_show a steps =
      let s = a.start in
      let l = layout s in
      let o = first_state a.link in
      let j = (cut s steps).at in
      let p = cut_overlay s steps in
      let es = outs_of (written s steps) in
      let items = items_of l.stack.base (written s steps) in
      let x = (headline (placed a.parts a.size) a.size s a.is_start).lines steps in
      let k = lines_show l o outs joined entries tell j (written s steps) p x.0 in
      let e = greatest s steps j k.0 p (shows_lead l o j k.0 es items p k.1) x.1 in
      subst (λ n. RunShows l o j n es items p) (sym e.2) k.1

module _ (headline : HeadlineHolds) (stops : StopsAreCuts) (show : CutsShow)
    (mean : SourcesDoWhatTheyMean) where
  pub run_means : RunsMean
  run_means a steps =
      let s = a.start in
      let head = headline (placed a.parts a.size) a.size s a.is_start in
      let agree = head.agrees in
      let x = head.lines steps in
      let j = (cut s steps).at in
      let n = trusted_weight s steps in
      let p = cut_overlay s steps in
      let at = reached_by (layout s) (first_state a.link) j (written s steps) p x.0 in
      let es = outs_of (written s steps) in
      let items = items_of (layout s).stack.base (written s steps) in
      let means = mean a j n es items p (show a.linked steps) in
      let inside = λ (b : Bool) (e : runs_trusted s j ≡ b). runs_inside stops s agree steps j p at x.1 b e in
      record {
        integers = means.integers;
        waits = λ e. means.waits (inside false e);
        goes_on = λ e. means.goes_on (inside true e);
        halts = λ e a. (
            let h = halts_there stops s agree steps j p at x.1 a in
            let m = means.halts (inside true e) h.0 in
            (m.0, h.1 ∙ m.1, m.2, m.3)
            );
        fails = λ e cause pc a.
            means.fails (inside true e) (fails_there stops s agree steps j p at x.1 cause pc a);
        slow = means.slow;
      }

pub stacks_begin : StartsBegin → StacksBegin
stacks_begin begin a m ms first =
    let parts = placed a.parts a.size in
    let sources : AreSources (m ∷ ms) a.parts = subst (λ xs. AreSources xs a.parts) first a.are_sources in
    let h = part_of_home (m ∷ ms) parts (aligned a.parts a.size (m ∷ ms) sources.compiled) 0 m refl in
    let source : Some h.1.source ≡ Some m = sym h.1.source_is in
    let same : h.1.source ≡ m = cc in
    ap (λ (u : ModuleFields). (part_of u).stack) (sym same) ∙ sym h.1.placed.stack
    ∙ (held_at begin a.linked).linked.stack_bases h.0
    (listed_at parts h.1.number h.0 h.1.number_is, h.1.trusted)
