use Rattle.std.proofs.Common.{ap, ◌∙◌, sym, refl}
use Rattle.overlay_machine.specs.Starting.{overlay_at}
use Rattle.overlay_machine.specs.Keeping.{link_of}
use Rattle.run_lines.specs.Layout.{layout}
use Rattle.run_lines.specs.Runs.{begun, lines_of}
use Rattle.headline.proofs.Agreeing.{start_fresh}
use Rattle.headline.proofs.TracesAlike.{traces_alike}
use Rattle.headline.proofs.laws.start_lines_agree.Goals as goal

pub returns-clause-agree : goal.returns-clause-agree
returns-clause-agree c = λ parts size s is.
    (let o = overlay_at s in
    let h = c.starts_begin.ensures s o ((c.a_start_has_one_overlay.ensures parts size s is o).1 refl)
    parts size is in
    c.linked_lines_agree.ensures (link_of parts size o) o.state s.state.maps h.linked h.holds)

pub returns-clause-traces : goal.returns-clause-traces
returns-clause-traces c = λ parts size s is limit.
    (let o = overlay_at s in
    let h = c.starts_begin.ensures s o ((c.a_start_has_one_overlay.ensures parts size s is o).1 refl)
    parts size is in
    let agree = c.linked_lines_agree.ensures (link_of parts size o) o.state s.state.maps h.linked h.holds in
    traces_alike o s.state.maps agree refl refl limit
    ∙ ap (λ r. lines_of (layout s) (begun r) limit)
    (sym (start_fresh s is.starts.state.count is.starts.state.end)))
