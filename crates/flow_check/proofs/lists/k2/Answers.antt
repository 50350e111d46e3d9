use Rattle.std.proofs.Common.{Some, None, length, sym, ap, ◌∙◌, arith}
use Rattle.std.specs.Prelude.{is_some, unwrap_or}
use Rattle.call_sequence.specs.Standing.{site_difference}
use Rattle.call_sequence.specs.Lists.{k2}
use Rattle.call_sequence.proofs.Offers.{difference_first, has_room}
use Rattle.flow_check.proofs.Found.{found, found_at}
use Rattle.flow_check.proofs.lists.k2.Goals as goal

pub site_difference-difference-requires-clause-room : goal.site_difference-difference-requires-clause-room
site_difference-difference-requires-clause-room c =
    let e = ap length (c.as_slice-i-end.ensures ∙ ap (λ x. x.sites) c.fields.ensures.same) in
    has_room c.args.c.now c.loop-i.i c.requires.placed (omega (arith, c.loop-i-test.true, e))

pub returns-then-is_some : goal.returns-then-is_some
unfolding k2
returns-then-is_some c =
    let C = c.args.c.now in
    let e = ap length (c.as_slice-i-end.ensures ∙ ap (λ x. x.sites) c.fields.ensures.same) in
    c.site_difference-difference.ensures
    ∙ difference_first C c.loop-i.i
    (found_at (record {
      count = length C.sites;
      broken = λ i. is_some (site_difference C i);
      place = λ i. unwrap_or (site_difference C i) 0;
    }) (Some c.loop-i.i) (
      omega (arith, c.loop-i-test.true, e),
      sym (c.is_some.ensures ∙ ap is_some c.site_difference-difference.ensures) ∙ c.if-is_some.true,
      c.loop-i.invariant,
    ))

pub returns : goal.returns
unfolding k2
returns c =
    let C = c.args.c.now in
    let e = ap length (c.as_slice-i-end.ensures ∙ ap (λ x. x.sites) c.fields.ensures.same) in
    found (record {
      count = length C.sites;
      broken = λ i. is_some (site_difference C i);
      place = λ i. unwrap_or (site_difference C i) 0;
    }) None (λ j lt. c.loop-i.invariant j (omega (arith, c.loop-i-test.false, e)))
