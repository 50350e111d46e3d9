use Rattle.std.proofs.Common.{refl, sym, ap, ◌∙◌}
use Rattle.std.specs.List.{list_all}
use Rattle.linked_starts.specs.Placing.{moved_word, points_in_range}
use Rattle.linked_starts.proofs.Offers.{points_of}
use Rattle.component_linker.proofs.placed.points_too_far.Goals as goal

pub returns-then-not-points_in_range : goal.returns-then-not-points_in_range
returns-then-not-points_in_range c =
    let each = list_all (λ w. points_in_range (moved_word c.args.m w)) in
    sym (points_of c.args.m c.args.c.now c.points_in_range.result (each c.args.c.now.data_words)
    (c.points_in_range.ensures ∙ ap each c.as_slice.ensures) refl ∙ rw c.if-not-points_in_range.true refl)

pub returns : goal.returns
returns c =
    let each = list_all (λ w. points_in_range (moved_word c.args.m w)) in
    sym (points_of c.args.m c.args.c.now c.points_in_range.result c.points_in_range-2.result
    (c.points_in_range.ensures ∙ ap each c.as_slice.ensures)
    (c.points_in_range-2.ensures ∙ ap each c.as_slice-2.ensures) ∙ rw c.if-not-points_in_range.false refl)
