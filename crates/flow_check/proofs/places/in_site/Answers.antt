use Rattle.std.proofs.Common.{◌≡◌, ◌∙◌, ◌-◌, sym, subst, suc, arith}
use Rattle.call_sequence.specs.declared.TheConstants.{SITE_WORDS}
use Rattle.call_sequence.specs.Ascending.{IsSplitAt}
use Rattle.call_sequence.specs.Places.{in_site}
use Rattle.call_sequence.proofs.Offers.{before_sites, sites_up, within_last}
use Rattle.flow_check.proofs.places.in_site.Goals as goal

pub returns-then-before-eq0 : goal.returns-then-before-eq0
unfolding in_site
returns-then-before-eq0 c =
    sym (before_sites c.args.c.now.sites SITE_WORDS c.args.at
    (subst (IsSplitAt (λ s. s) c.args.at c.args.c.now.sites)
    c.if-before-eq0.true c.sites_before-before.ensures))

pub returns : goal.returns
unfolding in_site
returns c =
    let i = c.sites_before-before.result - 1 in
    let last : c.sites_before-before.result ≡ suc i = omega (arith, c.if-before-eq0.false) in
    c.is_behind.ensures
    ∙ rw c.as_slice.ensures
    (within_last c.args.c.now.sites SITE_WORDS c.args.at i (sites_up c.args.c.now c.requires)
    (subst (IsSplitAt (λ s. s) c.args.at c.args.c.now.sites) last c.sites_before-before.ensures))
