use Rattle.std.proofs.Common.{sym, ◌∙◌, subst}
use Rattle.cap_words.specs.Face.{SomeCapInOrder}
use Rattle.component_check.proofs.Meeting.{none_here, none_meets, marked_meets, unmarked_apart, taken_more}
use Rattle.component_check.proofs.linear.take.Goals as goal

pub returns-in_default-clause-is : goal.returns-in_default-clause-is
returns-in_default-clause-is c =
    sym (none_meets c.args.c.now c.args.j (sym c.own_linear_at.ensures.is ∙ c.in_default.is))

pub returns-in_default-clause-more : goal.returns-in_default-clause-more
returns-in_default-clause-more c =
    λ free. none_here c.args.c.now c.args.taken.now.bits c.args.j c.requires.before
    (sym c.own_linear_at.ensures.is ∙ c.in_default.is)

pub returns-then-has_any-clause-is : goal.returns-then-has_any-clause-is
returns-then-has_any-clause-is c =
    sym (marked_meets c.args.c.now c.args.taken.now.bits c.args.j c.in-Some.m c.requires.before
    (sym c.own_linear_at.ensures.is ∙ c.in-Some.is) c.in-Some.ensures.in_area
    (sym c.has_any.ensures ∙ c.if-has_any.true))

pub returns-clause-is : goal.returns-clause-is
returns-clause-is c =
    sym (unmarked_apart c.args.c.now c.args.taken.now.bits c.args.j c.in-Some.m c.requires.before
    (sym c.own_linear_at.ensures.is ∙ c.in-Some.is) c.in-Some.ensures.in_area
    (sym c.has_any.ensures ∙ c.if-has_any.false))

pub returns-clause-more : goal.returns-clause-more
returns-clause-more c =
    λ free. taken_more c.args.c.now c.args.taken.now.bits c.mark_all.new.self.bits c.args.j c.in-Some.m
    c.requires.before (sym c.own_linear_at.ensures.is ∙ c.in-Some.is) c.in-Some.ensures.in_area
    (subst SomeCapInOrder c.own_linear_at.ensures.is c.own_linear_at.ensures.in_order) c.mark_all.ensures
