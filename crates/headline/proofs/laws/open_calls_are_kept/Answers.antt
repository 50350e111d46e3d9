use Rattle.std.proofs.Common.{refl}
use Rattle.linked_starts.proofs.Offers.{pair, start}
use Rattle.overlay_machine.specs.Keeping.{link_of}
use Rattle.overlay_machine.specs.Starting.{overlay_at}
use Rattle.overlay_machine.proofs.Offers.{is_linked}
use Rattle.headline.proofs.Agreeing.{start_fresh}
use Rattle.headline.proofs.privacy.OpenCalls.{calls_kept}
use Rattle.headline.proofs.privacy.UseInstance.{use_there}
use Rattle.headline.proofs.laws.open_calls_are_kept.Goals as goal

pub returns-clause-kept : goal.returns-clause-kept
returns-clause-kept c = λ parts size s is.
    (let o = overlay_at s in
    let g = link_of parts size o in
    let h = c.starts_begin.ensures s o ((c.a_start_has_one_overlay.ensures parts size s is o).1 refl)
    parts size is in
    let is_fresh = start_fresh s is.starts.state.count is.starts.state.end in
    let runs = (c.linked_starts_agree.ensures parts size s is).runs in
    let agree = c.start_lines_agree.ensures.agree parts size s is in
    let brackets = c.lines_are_bracketed.ensures.steps g o.state s.state.maps h.linked h.holds in
    calls_kept parts size s h is_fresh c.a_halt_weighs_one.ensures runs agree brackets
    (c.the_headline.ensures.holds parts size s is).bracketed)

pub returns-clause-of_a_return : goal.returns-clause-of_a_return
returns-clause-of_a_return c =
    let made = c.the_headline.ensures.of_some.0 in
    (made, returns-clause-kept c made.there.parts made.there.size made.there.start made.there.linked)

pub returns-clause-of_a_use : goal.returns-clause-of_a_use
returns-clause-of_a_use c =
    let o = overlay_at start in
    let h = c.starts_begin.ensures start o
    ((c.a_start_has_one_overlay.ensures pair 4 start is_linked o).1 refl) pair 4 is_linked in
    use_there h c.a_halt_weighs_one.ensures (c.linked_starts_agree.ensures pair 4 start is_linked).runs
    (c.start_lines_agree.ensures.agree pair 4 start is_linked)
