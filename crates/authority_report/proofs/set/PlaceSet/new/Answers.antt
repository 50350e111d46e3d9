use Rattle.std.proofs.Common.{◌+◌, subst, sym, arith}
use Rattle.authority_report.proofs.NoPlaces.{LeadNowhere, one_place_more, none_has, no_places}
use Rattle.authority_report.proofs.set.PlaceSet.new.Goals as goal

pub loop-at-preserved : goal.loop-at-preserved
loop-at-preserved c =
    subst (λ next. LeadNowhere next (c.loop-at.at + 1)) (sym c.in_ok-push.ensures.items)
    (one_place_more c.loop-at.next.items c.loop-at.at c.loop-at.invariant)

pub invariant_of-result : goal.invariant_of-result
invariant_of-result c = no_places c.loop-at.next.items c.loop-at.at c.loop-at.invariant
    (let after = c.loop-at-test.false in let end = c.loop-at.auto.at-end in omega (arith, after, end))

pub returns : goal.returns
returns c = none_has c.loop-at.next.items c.loop-at.at c.loop-at.invariant
