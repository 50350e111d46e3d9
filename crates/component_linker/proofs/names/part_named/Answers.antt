-- A part is asked for its name.
use Rattle.std.proofs.Common.{sym, ap, ◌∙◌}
use Rattle.linked_starts.specs.Start.{same_name}
use Rattle.linked_starts.proofs.Offers.{found_here, not_here}
use Rattle.component_linker.proofs.names.part_named.Goals as goal

pub returns-then-eq : goal.returns-then-eq
returns-then-eq c =
    found_here (λ p. same_name p.component.name c.args.name.now)
    c.args.parts.now c.loop-index.index c.part-part.result c.part-part.ensures c.loop-index.invariant
    (ap (λ n. same_name n c.args.name.now) (sym c.name.ensures) ∙ sym c.eq.ensures ∙ c.if-eq.true)

pub loop-index-preserved : goal.loop-index-preserved
loop-index-preserved c =
    not_here (λ p. same_name p.component.name c.args.name.now)
    c.args.parts.now c.loop-index.index c.part-part.result c.part-part.ensures c.loop-index.invariant
    (ap (λ n. same_name n c.args.name.now) (sym c.name.ensures) ∙ sym c.eq.ensures ∙ c.if-eq.false)
