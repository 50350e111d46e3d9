use Rattle.std.proofs.Common.{refl}
use Rattle.overlay_machine.specs.Starting.{overlay_at}
use Rattle.overlay_machine.specs.Keeping.{link_of}
use Rattle.overlay_machine.proofs.laws.linked_starts_agree.Goals as goal

pub returns : goal.returns
returns c = λ parts size s is.
    (let o = overlay_at s in
    let g = link_of parts size o in
    let h = c.starts_begin.ensures s o ((c.a_start_has_one_overlay.ensures parts size s is o).1 refl)
    parts size is in
    record {
      runs = c.linked_runs_agree.ensures.runs g o.state s.state.maps h.linked h.holds;
      matched =
          λ j p r. (let k = c.linked_runs_agree.ensures.kept g o.state p s.state.maps j h.linked h.holds r in
          (k.0, k.1, k.2, c.frames_are_private.ensures g p k.0 h.linked k.2));
    })
