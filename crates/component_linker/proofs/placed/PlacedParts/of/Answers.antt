use Rattle.std.proofs.Common.{ap, ◌∙◌}
use Rattle.std.specs.Prelude.{slice_get}
use Rattle.linked_starts.specs.Standing.{placed_from}
use Rattle.component_linker.proofs.placed.PlacedParts.of.Goals as goal

pub invariant_of-result : goal.invariant_of-result
invariant_of-result c = (
  c.requires,
  c.free_of-free.ensures.is,
  c.free_of-free.ensures.small,
  λ k q e.
      c.l10.ensures.kept c.in-None.is k q (ap
      (λ f. slice_get (placed_from f c.args.parts.now) k) c.free_of-free.ensures.is ∙ e),
)
