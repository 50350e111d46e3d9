-- The sites of the part stand in front.
use Rattle.std.proofs.Common.{refl, rules, ◌≡◌, ◌==◌, ◌-◌, arith, get_or, length, length-drop, take, drop}
use Rattle.std.proofs.lemmas.List.{take_all}
use Rattle.std.proofs.lemmas.List.Sorted.{IsPartitionPoint-from_clause}
use Rattle.linked_starts.specs.declared.owners.Site.{Site}
use Rattle.linked_starts.proofs.SiteSearch.{no_site, run_in_front, run_is}
use Rattle.linked_starts.proofs.site_list.run_end.Goals as goal

pub returns : goal.returns
returns c =
    let sites = c.args.sites.now in
    let place = c.args.place in
    let part = (get_or sites place no_site).part in
    let rest = take (length sites - place) (drop place sites) in
    let n = length-drop place sites in
    let from : rest ≡ drop place sites =
    take_all (length sites - place) (drop place sites) (omega (arith, n)) in
    run_is sites place part rest no_site from refl c.requires.within c.partition_point.result
    c.partition_point.ensures.bound
    (IsPartitionPoint-from_clause (λ (s : Site). s.part == part)
    rest c.partition_point.result c.partition_point.ensures.partitioned
    (run_in_front sites place part rest no_site from refl c.requires.within c.requires.runs)
    (λ a r f called. search rules))
