use Rattle.std.proofs.Common.{sym, rules, arith, length, ◌<◌, ◌≤◌}
use Rattle.call_sequence.specs.Places.{begins_site}
use Rattle.call_sequence.proofs.Offers.{no_site, site_begins, sites_up}
use Rattle.flow_check.proofs.places.begins_site.Goals as goal

pub returns-then-sites-before : goal.returns-then-sites-before
unfolding begins_site
returns-then-sites-before c =
    let sites = c.args.c.now.sites in
    let le : length sites ≤ c.sites_before-before.result = search (rules, c.if-sites-before.true) in
    sym (no_site sites c.args.at c.sites_before-before.result (sites_up c.args.c.now c.requires)
    c.sites_before-before.ensures (λ lt e. omega arith))

pub returns : goal.returns
unfolding begins_site
returns c =
    let sites = c.args.c.now.sites in
    let lt : c.sites_before-before.result < length sites = search (rules, c.if-sites-before.false) in
    rw c.as_slice-sites.ensures
    (site_begins sites c.args.at c.sites_before-before.result (sites_up c.args.c.now c.requires)
    c.sites_before-before.ensures lt)
