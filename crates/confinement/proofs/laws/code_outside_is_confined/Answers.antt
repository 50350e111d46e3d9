use Rattle.std.proofs.Common.{refl}
use Rattle.overlay_machine.specs.Keeping.{link_of}
use Rattle.overlay_machine.specs.Starting.{overlay_at}
use Rattle.confinement.proofs.Confining.{confined}
use Rattle.confinement.proofs.Here.{start_fresh}
use Rattle.confinement.proofs.Stays.{all_but_code, start_bounded}
use Rattle.confinement.proofs.laws.code_outside_is_confined.Goals as goal

pub returns : goal.returns
returns c = λ parts size s is.
    (let o = overlay_at s in
    let g = link_of parts size o in
    let h = c.starts_begin.ensures s o ((c.a_start_has_one_overlay.ensures parts size s is o).1 refl)
    parts size is in
    confined parts size s h (start_fresh s is.starts.state.count is.starts.state.end)
    (c.linked_starts_agree.ensures parts size s is) (c.the_headline.ensures.holds parts size s is)
    (c.lines_are_bracketed.ensures.steps g o.state s.state.maps h.linked h.holds) is.starts.sites
    (c.words_bound_runs.ensures (all_but_code parts) s.state.maps (start_bounded g h.linked s is)))
