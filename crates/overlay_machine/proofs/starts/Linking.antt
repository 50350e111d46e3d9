-- A start of accepted parts that keep the rules L is as `link` leaves it.
use Rattle.std.proofs.Common.{ℕ, List, ◌∙◌}
use Rattle.linked_starts.specs.Parts.{PartSeen}
use Rattle.linked_starts.specs.Regions.{regions_of}
use Rattle.linked_starts.specs.Started.{StartSeen}
use Rattle.linked_starts.specs.Answer.{LinksTo}
use Rattle.linked_starts.specs.Linked.{Linked}
use Rattle.linked_starts.proofs.Offers.{are_linked, stack_bases, stack_begins, apart_all, parts_apart}
use Rattle.linked_starts.proofs.Offers.{sites_apart, started_once, SitesStand, EntriesStand, code_stands}
use Rattle.linked_starts.proofs.Offers.{trusted_stand}
use Rattle.linked_starts.specs.LinkedStarts.{IsLinkedStart}

pub links_of : SitesStand → EntriesStand → (parts : List PartSeen) (size : ℕ) (s : StartSeen)
    → IsLinkedStart parts size s → LinksTo parts size s
links_of sites entries parts size s is =
    let made : Linked parts size = are_linked parts size is.accepted is.rules in
    let apart = parts_apart parts size is.accepted is.rules in
    record {
      accepted = is.accepted;
      room = is.room;
      rules = is.rules;
      starts = is.starts;
      parts_apart = apart;
      sites_apart = sites_apart parts s.sites is.accepted apart is.starts.sites;
      regions = apart_all (regions_of parts size) made.apart;
      held_once = started_once parts size s.state made is.starts.state;
      stack_base =
          λ k p at. stack_bases parts size is.rules k p at ∙ stack_begins parts size s.stack is.starts.stack;
      code = code_stands parts size s.state made is.starts.state;
      trusted = trusted_stand sites entries parts size s.state is.accepted made is.starts.state;
    }
