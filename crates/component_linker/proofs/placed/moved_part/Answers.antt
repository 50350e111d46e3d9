-- Each field is the component's, moved.
use Rattle.std.proofs.Common.{refl}
use Rattle.component_linker.proofs.placed.moved_part.Goals as goal

pub returns-in-None : goal.returns-in-None
returns-in-None c =
    rw (
      c.in-None.is,
      c.new.ensures,
      c.base.ensures.same,
      c.count.ensures.same,
      c.fields-fields.ensures.same,
    ) refl

pub returns-in-Some : goal.returns-in-Some
returns-in-Some c =
    rw (
      c.in-Some.is,
      c.number.ensures,
      c.new-in-Some.ensures,
      c.base-in-Some-2.ensures,
      c.base-in-Some.ensures.same,
      c.count-in-Some.ensures.same,
      c.count-in-Some-2.ensures.same,
      c.base-in-Some-3.ensures,
      c.number-in-Some.ensures,
      c.number-in-Some-2.ensures,
      c.fields-fields.ensures.same,
    ) refl
