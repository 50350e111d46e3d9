use Rattle.std.proofs.Common.{sym, ◌∙◌, refl}
use Rattle.linked_starts.proofs.Offers.{room_told, told_part}
use Rattle.component_linker.proofs.placed.lacks_room.Goals as goal

pub returns-clause-is : goal.returns-clause-is
returns-clause-is c =
    sym (room_told c.args.free c.args.part.now c.in-Some.m c.fields-fields.result.now
    c.areas_end_late.result c.seals_end_late.result c.points_too_far.result
    (c.fields-fields.ensures.same ∙ c.component.ensures.same) (sym c.move_of.ensures ∙ c.in-Some.is)
    c.areas_end_late.ensures c.seals_end_late.ensures c.points_too_far.ensures
    ∙ rw (c.if-areas_end_late.false, c.if-seals_end_late.false, c.if-points_too_far.false) refl)

pub returns-clause-kept : goal.returns-clause-kept
returns-clause-kept c =
    λ e. told_part c.args.free c.args.part.now c.component.ensures.kept (sym (returns-clause-is c))
