-- From what is observed of each run to contextual equivalence.
use Rattle.std.proofs.Common.{List}
use Rattle.std.specs.Prelude.{◌↔◌}
use Rattle.linked_starts.specs.Parts.{PartSeen}
use Rattle.linked_starts.specs.Started.{StartSeen}
use Rattle.linked_starts.specs.Standing.{placed}
use Rattle.run_lines.specs.Cuts.{StopsAreCuts}
use Rattle.headline.specs.Headline.{HeadlineHolds}
use Rattle.full_abstraction.specs.Contexts.{Context, plugged, PlugsTo, Observation, OnPlain, OnOverlay}
use Rattle.full_abstraction.specs.Abstraction.{CanShow, RunsShowTheSame, IsFullyAbstractForAny}
use Rattle.full_abstraction.specs.Abstraction.{IsFullyAbstractInAll}
use Rattle.full_abstraction.proofs.Observed.{on_overlay, on_plain}

pub show_the_same : HeadlineHolds → StopsAreCuts → RunsShowTheSame
show_the_same head stops parts size s is seen =
    let agree = (head (placed parts size) size s is).agrees in
    (on_overlay stops s agree seen, on_plain stops s agree seen)

module _ (same : RunsShowTheSame) where
  in_context : (c : Context) (parts : List PartSeen) (s : StartSeen) (seen : Observation)
      → PlugsTo c parts s → OnPlain s seen ↔ OnOverlay s seen
  in_context c parts s seen is = same (plugged c parts) c.size s is seen

  pub for_any : IsFullyAbstractForAny
  for_any kind seen ts us = (
    λ e c k s t is it. (
        let a = in_context c ts s seen is in
        let b = in_context c us t seen it in
        let h = e c k s t is it in
        (λ x. b.0 (h.0 (a.1 x)), λ y. a.0 (h.1 (b.1 y)))),
    λ e c k s t is it. (
        let a = in_context c ts s seen is in
        let b = in_context c us t seen it in
        let h = e c k s t is it in
        (λ x. b.1 (h.0 (a.0 x)), λ y. a.1 (h.1 (b.0 y)))),
  )

  -- with parts in it a context shows the same on both machines
  there : (c : Context) (seen : Observation) (parts : List PartSeen)
      → CanShow OnPlain c seen parts ↔ CanShow OnOverlay c seen parts
  there c seen parts = (
    λ x. (x.0, x.1, (in_context c parts x.0 seen x.1).0 x.2),
    λ x. (x.0, x.1, (in_context c parts x.0 seen x.1).1 x.2),
  )

  pub in_all : IsFullyAbstractInAll
  in_all kind seen ts us = (
    λ e c k. (
        let a = there c seen ts in
        let b = there c seen us in
        let h = e c k in
        (λ x. b.0 (h.0 (a.1 x)), λ y. a.0 (h.1 (b.1 y)))),
    λ e c k. (
        let a = there c seen ts in
        let b = there c seen us in
        let h = e c k in
        (λ x. b.1 (h.0 (a.0 x)), λ y. a.1 (h.1 (b.0 y)))),
  )
