use Rattle.std.proofs.Common.{◌≡◌, rules, ltb, sym, subst}
use Rattle.std.proofs.lemmas.List.Sorted.{IsPartitionPoint-from_clause}
use Rattle.component_file.specs.declared.component.KindRow.{KindRow}
use Rattle.call_sequence.specs.Ascending.{IsSplitAt}
use Rattle.call_sequence.proofs.Offers.{Ascends, parted, rows_up, split_is}
use Rattle.flow_check.proofs.places.rows_before.Goals as goal

pub returns : goal.returns
returns c =
    let xs = c.as_slice.result.now in
    let same : xs ≡ c.args.c.now.rows = search rules in
    let up = subst (Ascends (λ (r : KindRow). r.offset)) (sym same) (rows_up c.args.c.now c.requires) in
    subst (λ ys. IsSplitAt (λ (r : KindRow). r.offset) c.args.at ys c.partition_point.result) same (
    split_is (λ (r : KindRow). r.offset) xs c.args.at c.partition_point.result c.partition_point.ensures.bound
    (IsPartitionPoint-from_clause (λ (r : KindRow). ltb r.offset c.args.at)
    xs c.partition_point.result c.partition_point.ensures.partitioned
    (parted (λ (r : KindRow). r.offset) xs c.args.at up) (λ a r q k. search rules)))
