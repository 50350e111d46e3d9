-- One run after another: the site is in this run, or none of the run has the seal.
use Rattle.std.proofs.Common.{sym, arith}
use Rattle.linked_starts.proofs.SiteSearch.{no_site, in_run, past_run, nowhere}
use Rattle.linked_starts.proofs.site_list.place_sealed.Goals.{
  else-first-seal-via-then-first-seal+else-seal-first,
}
use Rattle.linked_starts.proofs.site_list.place_sealed.Goals.{else-first-seal-via-else-first-seal}
use Rattle.linked_starts.proofs.site_list.place_sealed.Goals as goal

pub loop-place-init : goal.loop-place-init
loop-place-init c = λ k d lt same. omega (arith, lt)

pub returns-then-seal-first : goal.returns-then-seal-first
returns-then-seal-first c =
    sym (in_run c.args.sites.now c.requires c.args.seal c.loop-place.place c.run_end-end.result no_site
    c.loop-place.invariant c.run_end-end.ensures c.if-first-seal.true c.if-seal-first.true)

pub loop-place-preserved : goal.loop-place-preserved
loop-place-preserved c =
    past_run c.args.sites.now c.requires c.args.seal c.loop-place.place c.run_end-end.result no_site
    c.loop-place.invariant c.run_end-end.ensures
    (elim c.else-first-seal.branch [
      | else-first-seal-via-then-first-seal+else-seal-first w ↦
          (let far = w.if-seal-first.false in λ k low high same. omega (arith, far, low, high, same))
      | else-first-seal-via-else-first-seal w ↦
          (let below = w.if-first-seal.false in λ k low high same. omega (arith, below, same))
    ])

pub returns : goal.returns
returns c =
    sym (nowhere c.args.sites.now c.args.seal c.loop-place.place c.loop-place.invariant
    c.loop-place-test.false)
