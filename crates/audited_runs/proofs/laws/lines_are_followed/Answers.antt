use Rattle.std.proofs.Common.{refl}
use Rattle.overlay_machine.specs.Starting.{overlay_at}
use Rattle.overlay_machine.specs.Keeping.{link_of}
use Rattle.run_lines.specs.Layout.{layout}
use Rattle.run_lines.specs.Cuts.{cut, cut_overlay}
use Rattle.audited_runs.proofs.Followed.{frames_lie, follows}
use Rattle.audited_runs.proofs.laws.lines_are_followed.Goals as goal

pub returns : goal.returns
returns c = λ parts size s is n.
    (let o = overlay_at s in
    let g = link_of parts size o in
    let h = c.starts_begin.ensures s o ((c.a_start_has_one_overlay.ensures parts size s is o).1 refl)
    parts size is in
    let matched = (c.linked_starts_agree.ensures parts size s is).matched in
    let told = (c.the_headline.ensures.holds parts size s is).lines n in
    let k = follows (layout s) o.state
    (λ j p r. frames_lie (layout s) p.maps.cells p.calls p.frames (matched j p r).2.frames)
    (λ j p r. c.lines_are_bracketed.ensures.steps g p (matched j p r).0 h.linked (matched j p r).2)
    (cut s n).at _ (cut_overlay s n) told.0 in
    (_, k.1))
