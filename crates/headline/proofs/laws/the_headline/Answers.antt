use Rattle.std.proofs.Common.{ℕ, List, [], refl, subst}
use Rattle.overlay_machine.specs.Brackets.{Brackets}
use Rattle.overlay_machine.specs.Starting.{overlay_at}
use Rattle.overlay_machine.specs.Keeping.{link_of}
use Rattle.run_lines.specs.Layout.{layout}
use Rattle.run_lines.specs.Lines.{Line}
use Rattle.run_lines.specs.Runs.{written}
use Rattle.run_lines.specs.Told.{Told, StopsAt}
use Rattle.run_lines.specs.Traces.{trace_of}
use Rattle.headline.specs.OpenCalls.{LineTold}
use Rattle.headline.specs.Brackets.{marks_in, lines_told}
use Rattle.headline.specs.Headline.{LinesOfSteps}
use Rattle.headline.proofs.Agreeing.{agrees, start_fresh}
use Rattle.run_lines.proofs.Offers.{of_cut}
use Rattle.run_lines.proofs.Offers.{reached_by}
use Rattle.headline.proofs.InstanceRun.{call_there}
use Rattle.headline.proofs.LeftAlone.{left_alone, each_call}
use Rattle.headline.proofs.laws.the_headline.Goals as goal

pub returns-clause-holds : goal.returns-clause-holds
returns-clause-holds c = λ parts size s is.
    (let o = overlay_at s in
    let g = link_of parts size o in
    let h = c.starts_begin.ensures s o ((c.a_start_has_one_overlay.ensures parts size s is o).1 refl)
    parts size is in
    let is_fresh = start_fresh s is.starts.state.count is.starts.state.end in
    let same = c.start_lines_agree.ensures.traces parts size s is in
    let runs = (c.linked_starts_agree.ensures parts size s is).runs in
    let agree = c.start_lines_agree.ensures.agree parts size s is in
    let private_lines = c.call_lines_are_private.ensures g o.state s.state.maps h.linked h.holds in
    let lines : (n : ℕ) → LinesOfSteps s n = λ n. (let k = c.traces_tell_steps.ensures o refl refl n in
    let p = (trace_of n o).overlay.state in
    let told : Told (layout s) o.state k.0 (written s n) p =
    subst (λ (ls : List Line). Told (layout s) o.state k.0 ls p) (same n) k.1 in
    of_cut s n k.0 p (reached_by (layout s) o.state k.0 (written s n) p told) k.2
    (λ j q. Told (layout s) o.state j (written s n) q × StopsAt (layout s) n j q) (told, k.2))
    in
    record {
      agrees = agrees s is_fresh c.a_halt_weighs_one.ensures runs;
      lines = lines;
      traced = same;
      bracketed = λ n. (let now = lines_told (layout s) (trace_of n o).overlay.state.frames in (
        now,
        subst (λ (ls : List Line). Brackets LineTold [] (marks_in ls) now) (same n)
            (c.lines_are_bracketed.ensures.traces parts size o s.state.maps h n),
      ));
      private = left_alone s is_fresh c.a_halt_weighs_one.ensures runs agree private_lines;
      each_call = each_call s is_fresh c.a_halt_weighs_one.ensures runs agree private_lines lines;
    })

pub returns-clause-of_some : goal.returns-clause-of_some
returns-clause-of_some c =
    let made = call_there c.start_lines_agree.ensures.agree in
    (made, returns-clause-holds c made.there.parts made.there.size made.there.start made.there.linked)
