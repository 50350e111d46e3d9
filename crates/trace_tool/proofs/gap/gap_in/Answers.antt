use Rattle.std.proofs.Common.{rules, leb}
use Rattle.std.proofs.lemmas.List.Sorted.{IsPartitionPoint-from_clause}
use Rattle.linked_starts.specs.declared.owners.Site.{Site}
use Rattle.trace_tool.specs.Gaps.{last_word}
use Rattle.trace_tool.proofs.Between.{gap_between, ends_parted, around_at}
use Rattle.trace_tool.proofs.gap.gap_in.Goals as goal

pub returns-clause-free : goal.returns-clause-free
returns-clause-free c =
    gap_between c.args.sites.now c.partition_point-place.result _ c.requires.ascend
    c.partition_point-place.ensures.bound c.behind.ensures c.ahead.ensures

pub returns-clause-around : goal.returns-clause-around
returns-clause-around c =
    let point =
    IsPartitionPoint-from_clause (λ (s : Site). leb (last_word s) c.args.at)
    c.args.sites.now c.partition_point-place.result c.partition_point-place.ensures.partitioned
    (ends_parted c.args.sites.now c.args.at c.requires.ascend) (λ a r q k. search rules) in
    around_at c.args.sites.now c.args.at c.partition_point-place.result _ point c.requires.small
    c.behind.ensures c.ahead.ensures
