use Rattle.std.proofs.Common.{◌≡◌, rules, ltb, sym, subst}
use Rattle.std.proofs.lemmas.List.Sorted.{IsPartitionPoint-from_clause}
use Rattle.call_sequence.specs.Ascending.{IsSplitAt}
use Rattle.call_sequence.proofs.Offers.{Ascends, parted, sites_up, split_is}
use Rattle.flow_check.proofs.places.sites_before.Goals as goal

pub returns : goal.returns
returns c =
    let xs = c.as_slice.result.now in
    let same : xs ≡ c.args.c.now.sites = search rules in
    let up = subst (Ascends (λ s. s)) (sym same) (sites_up c.args.c.now c.requires) in
    subst (λ ys. IsSplitAt (λ s. s) c.args.at ys c.partition_point.result) same (
    split_is (λ s. s) xs c.args.at c.partition_point.result c.partition_point.ensures.bound
    (IsPartitionPoint-from_clause (λ s. ltb s c.args.at)
    xs c.partition_point.result c.partition_point.ensures.partitioned (parted (λ s. s) xs c.args.at up)
    (λ a r q k. search rules)))
