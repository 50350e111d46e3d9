use Rattle.std.proofs.Common.{◌∙◌}
use Rattle.linked_starts.proofs.Offers.{apart_all, code_stands, first_kept, others_kept, sites_apart}
use Rattle.linked_starts.proofs.Offers.{stack_bases, stack_begins, started_once}
use Rattle.linked_starts.specs.Links.{l10, rules_l}
use Rattle.linked_starts.specs.Regions.{regions_of}
use Rattle.component_linker.proofs.linking.link_placed.Goals as goal

pub returns : goal.returns
returns c =
    let s = c.in_ok-start_of.field-0 in
    let parts = c.args.parts.now in
    let kept = c.in_ok-check_links.ensures.kept in
    let linked = c.in_ok-check_links.ensures.linked in
    let starts = c.in_ok-start_of.ensures in
    let rules = others_kept (l10 parts) (rules_l parts c.args.stack) c.in_ok-check_links.ensures.first in
    record {
      accepted = kept;
      room = first_kept (l10 parts) (rules_l parts c.args.stack) c.in_ok-check_links.ensures.first;
      rules = rules;
      starts = starts;
      parts_apart = c.in_ok-check_links.ensures.apart;
      sites_apart = sites_apart _ s.sites kept c.in_ok-check_links.ensures.apart starts.sites;
      regions = apart_all (regions_of parts c.args.stack) linked.apart;
      held_once = started_once parts c.args.stack s.state linked starts.state;
      stack_base =
          λ k p at. stack_bases parts c.args.stack rules k p at
          ∙ stack_begins parts c.args.stack s.stack starts.stack;
      code = code_stands parts c.args.stack s.state linked starts.state;
      trusted = c.trusted_code_stands.ensures parts c.args.stack s.state kept linked starts.state;
    }
