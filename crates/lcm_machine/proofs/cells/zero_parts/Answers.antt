use Rattle.std.proofs.Common.{◌≡◌, ◌+◌, ◌-◌, rules, refl, get_or, replicate, Some}
use Rattle.cap_words.specs.Linear.{zero_word}
use Rattle.lcm_machine.specs.declared.cells.Span.{Span}
use Rattle.lcm_machine.proofs.SpanLemmas.{bases_from, parts_more}
use Rattle.lcm_machine.proofs.cells.zero_parts.Goals as goal

pub overflow_sub-span : goal.overflow_sub-span
overflow_sub-span g c =
    (bases_from 0 c.args.spans.now c.loop-span.span-index _ c.requires c.loop-span-test.true).1

pub loop-span-preserved : goal.loop-span-preserved
loop-span-preserved g c =
    let s : Span = get_or c.args.spans.now c.loop-span.span-index (record { base = 0; end = 0 }) in
    let part : c.in_ok-zeros.field-0 ≡ replicate (s.end - s.base + 1)
    (Some (zero_word g.W.MachineWord.plain)) = search rules in
    parts_more g.W.MachineWord.plain c.args.spans.now c.loop-span.span-index (s.end - s.base + 1)
    (record { base = 0; end = 0 }) c.loop-span.parts.items _ c.in_ok-zeros.field-0
    c.requires c.loop-span-test.true c.loop-span.invariant part refl (search rules)
