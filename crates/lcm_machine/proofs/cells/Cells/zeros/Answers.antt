use Rattle.std.proofs.Common.{◌≡◌, rules, map, inl, refl}
use Rattle.lcm_machine.specs.Spans.{zero_part}
use Rattle.lcm_machine.proofs.SpanLemmas.{zeros_are_parts, zero_cells}
use Rattle.lcm_machine.proofs.cells.Cells.zeros.Goals as goal

pub invariant_of-result : goal.invariant_of-result
invariant_of-result g c =
    let spans : c.in_ok-to_vec.field-0.items ≡ c.args.spans.now = search rules in
    let parts : c.in_ok-parts.parts.items ≡ map (zero_part g.W.MachineWord.plain) c.args.spans.now =
    search rules in
    let fit = zeros_are_parts g.W.MachineWord.plain _ c.args.spans.now _ c.requires spans parts in
    (fit.0, fit.1, inl (refl, refl), inl (refl, refl))

pub returns-clause-cells : goal.returns-clause-cells
returns-clause-cells g c =
    let spans : c.in_ok-to_vec.field-0.items ≡ c.args.spans.now = search rules in
    let parts : c.in_ok-parts.parts.items ≡ map (zero_part g.W.MachineWord.plain) c.args.spans.now =
    search rules in
    rw spans (zero_cells g.W.MachineWord.plain c.args.spans.now c.in_ok-parts.parts.items c.requires parts)
