use Rattle.std.proofs.Common.{[], refl}
use Rattle.overlay_machine.specs.Starting.{overlay_at}
use Rattle.overlay_machine.specs.Keeping.{link_of}
use Rattle.run_lines.specs.Layout.{layout}
use Rattle.run_lines.specs.Runs.{written}
use Rattle.run_lines.specs.Cuts.{cut, cut_overlay}
use Rattle.headline.proofs.Offers.{open_is}
use Rattle.run_lines.proofs.Offers.{reached_by}
use Rattle.drawn_runs.specs.Drawn.{text_of}
use Rattle.drawn_runs.proofs.Lines.{begins}
use Rattle.drawn_runs.proofs.Dark.{dark_there, open_dark}
use Rattle.drawn_runs.proofs.Boxes.{boxes_over}
use Rattle.drawn_runs.proofs.Ranges.{frames_have_ranges}
use Rattle.drawn_runs.proofs.laws.boxes_are_open_calls.Goals as goal

pub returns-clause-boxes : goal.returns-clause-boxes
returns-clause-boxes c = λ parts size s is steps n le.
    (let fits = c.lines_fit.ensures.lines parts size s is in
    let b = begins c.lines_are_read.ensures.exact c.lines_are_read.ensures.fitting (layout s) s.state
    steps n le (fits steps) (fits n) in
    let o = overlay_at s in
    let g = link_of parts size o in
    let h = c.starts_begin.ensures s o ((c.a_start_has_one_overlay.ensures parts size s is o).1 refl)
    parts size is in
    let at = (cut s n).at in
    let p = cut_overlay s n in
    let told = ((c.the_headline.ensures.holds parts size s is).lines n).0 in
    let open_now = open_is [] _ (written s n)
    (c.lines_are_bracketed.ensures.steps g o.state s.state.maps h.linked h.holds at (written s n) p told) in
    let frames = ((c.linked_starts_agree.ensures parts size s is).matched at p
    (reached_by (layout s) o.state at (written s n) p told)).2.frames in
    boxes_over c.lines_and_addresses_are_seen.ensures.columns c.open_calls_are_seen.ensures.follow
    c.one_box_each.ensures (text_of s steps) (written s n) b
    (frames_have_ranges (layout s) p.maps.cells p.calls p.frames frames) open_now)

pub returns-clause-dark : goal.returns-clause-dark
returns-clause-dark c = λ parts size s is steps n a le.
    (let fits = c.lines_fit.ensures.lines parts size s is in
    let b = begins c.lines_are_read.ensures.exact c.lines_are_read.ensures.fitting (layout s) s.state
    steps n le (fits steps) (fits n) in
    let over = returns-clause-boxes c parts size s is steps n le in
    let seen = c.lines_and_addresses_are_seen.ensures in (
      λ d. (let k = dark_there seen.cuts seen.heights seen.frames (text_of s steps) (written s n) b over a
          d in
          (k.told, k.is_open, k.low, k.high)),
      λ k. open_dark seen.cuts seen.heights seen.frames (text_of s steps) (written s n) b over a k.0 k.1 k.2
          k.3,
    ))
