use Rattle.std.proofs.Common.{◌≤◌, ◌<◌, ◌+◌, ◌-◌, leb, rules, refl, length, arith, get_or}
use Rattle.std.proofs.lemmas.List.Sorted.{IsPartitionPoint-from_clause}
use Rattle.lcm_machine.specs.declared.cells.Span.{Span}
use Rattle.lcm_machine.specs.declared.cells.Near.{Near}
use Rattle.lcm_machine.proofs.SpanLemmas.{bases_parted, bases_from, end_below, get_some, none_first}
use Rattle.lcm_machine.proofs.SpanLemmas.{none_between, found_near, any_default}
use Rattle.lcm_machine.proofs.cells.search.Goals as goal

pub returns-then-after-eq0-clause-none : goal.returns-then-after-eq0-clause-none
returns-then-after-eq0-clause-none c =
    let point =
    IsPartitionPoint-from_clause (λ (s : Span). leb s.base c.args.at)
    c.args.spans.now c.partition_point-after.result c.partition_point-after.ensures.partitioned
    (bases_parted c.args.spans.now c.args.at c.requires) (λ a r q k. search rules) in
    none_first c.args.spans.now c.args.at c.partition_point-after.result point c.if-after-eq0.true

pub returns-then-at-span-clause-none : goal.returns-then-at-span-clause-none
returns-then-at-span-clause-none c =
    let point =
    IsPartitionPoint-from_clause (λ (s : Span). leb s.base c.args.at)
    c.args.spans.now c.partition_point-after.result c.partition_point-after.ensures.partitioned
    (bases_parted c.args.spans.now c.args.at c.requires) (λ a r q k. search rules) in
    let zero : Span = record { base = 0; end = 0 } in
    let bound : c.partition_point-after.result ≤ length c.args.spans.now =
    c.partition_point-after.ensures.bound in
    let some = c.if-after-eq0.false in
    let over : (get_or c.args.spans.now (c.partition_point-after.result - 1) zero).end < c.args.at =
    c.if-at-span.true in
    none_between c.args.spans.now c.args.at c.partition_point-after.result c.requires point some bound
    (λ d. rw (any_default c.args.spans.now (c.partition_point-after.result - 1) d zero (omega arith)) over)

pub overflow_sub-result : goal.overflow_sub-result
overflow_sub-result c =
    let bound : c.partition_point-after.result ≤ length c.args.spans.now =
    c.partition_point-after.ensures.bound in
    let some = c.if-after-eq0.false in
    (bases_from 0 c.args.spans.now (c.partition_point-after.result - 1) _ c.requires (omega arith)).1

pub overflow_add-result : goal.overflow_add-result
overflow_add-result c =
    let zero : Span = record { base = 0; end = 0 } in
    let bound : c.partition_point-after.result ≤ length c.args.spans.now =
    c.partition_point-after.ensures.bound in
    let some = c.if-after-eq0.false in
    let k = end_below 0 c.args.spans.now (c.partition_point-after.result - 1)
    (get_or c.args.spans.now (c.partition_point-after.result - 1) zero)
    c.requires (get_some c.args.spans.now (c.partition_point-after.result - 1) zero (omega arith)) in
    omega arith

pub returns-clause-near : goal.returns-clause-near
returns-clause-near c =
    let point =
    IsPartitionPoint-from_clause (λ (s : Span). leb s.base c.args.at)
    c.args.spans.now c.partition_point-after.result c.partition_point-after.ensures.partitioned
    (bases_parted c.args.spans.now c.args.at c.requires) (λ a r q k. search rules) in
    let zero : Span = record { base = 0; end = 0 } in
    (found_near c.args.spans.now c.args.at c.partition_point-after.result zero _ c.requires point
    c.if-after-eq0.false c.partition_point-after.ensures.bound c.if-at-span.false refl refl refl).0

pub returns-clause-here : goal.returns-clause-here
returns-clause-here c =
    let point =
    IsPartitionPoint-from_clause (λ (s : Span). leb s.base c.args.at)
    c.args.spans.now c.partition_point-after.result c.partition_point-after.ensures.partitioned
    (bases_parted c.args.spans.now c.args.at c.requires) (λ a r q k. search rules) in
    let zero : Span = record { base = 0; end = 0 } in
    let s : Span = get_or c.args.spans.now (c.partition_point-after.result - 1) zero in
    let near : Near =
    record { base = s.base; count = s.end - s.base + 1; part = c.partition_point-after.result - 1 } in
    let k = found_near c.args.spans.now c.args.at c.partition_point-after.result zero near c.requires point
    c.if-after-eq0.false c.partition_point-after.ensures.bound c.if-at-span.false refl refl refl in
    (k.1, k.2)
