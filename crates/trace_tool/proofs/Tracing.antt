-- An overlay's run of some steps, with the lines that it wrote so far.
use Rattle.std.proofs.Common.{◌≡◌, inl, inr, ℕ, zero, suc, ◌+◌, ◌<◌, ◌≤◌, List, [], ◌∷◌}
use Rattle.std.proofs.Common.{◌++◌, Option, Some, None, refl, sym, ap, ◌∙◌, arith, subst, lt-ltb, le-ltb}
use Rattle.std.specs.List.{concat}
use Rattle.std.proofs.lemmas.List.{append_assoc, append-nil}
use Rattle.trusted_border.specs.declared.layout.Layout.{Layout}
use Rattle.trusted_border.specs.declared.events.Event.{Event}
use Rattle.overlay_machine.proofs.Offers.{weight_some}
use Rattle.outside_io.specs.SinkSeen.{SinkSeen, Adds, FailsToWrite}
use Rattle.outside_io.specs.Writes.{AddsPieces, FailsAtPiece}
use Rattle.outside_io.proofs.Offers.{pieces_none, pieces_then, pieces_fail, fail_more, text_failed}
use Rattle.linked_starts.specs.Started.{StartSeen}
use Rattle.overlay_machine.specs.declared.overlay.OEnd.{OEnd}
use Rattle.overlay_machine.specs.declared.overlay.OStep.TheVariants.{Went, Halted, Failed}
use Rattle.overlay_machine.specs.Step.{Ending, goes, halts, fails, overlay_step, weight_of}
use Rattle.overlay_machine.specs.Seen.{OverlaySeen, moved, next_by, next_overlay, ending_answer, end_answer}
use Rattle.overlay_machine.specs.Seen.{answer_by, answer_of, IsOverlayOf}
use Rattle.run_lines.specs.declared.run.RunEnd.{RunEnd}
use Rattle.run_lines.specs.declared.run.RunEnd.TheVariants.{Halted as RunHalted, Failed as RunFailed}
use Rattle.run_lines.specs.declared.run.RunEnd.TheVariants.{Running}
use Rattle.run_lines.specs.Layout.{layout}
use Rattle.run_lines.specs.Views.{overlay_view}
use Rattle.run_lines.specs.Lines.{Line}
use Rattle.run_lines.specs.Texts.{lines_pieces}
use Rattle.run_lines.specs.EndLines.{halted_text, failed_text, running_text}
use Rattle.run_lines.specs.Runs.{EndsBy}
use Rattle.run_lines.specs.Traces.{weight_with, lines_after, Traced, ended, behind, stopped, traced_by}
use Rattle.run_lines.specs.Traces.{traced, trace_of, trace_text, pieces_of, trace_pieces, event_in}
use Rattle.run_lines.specs.Traces.{next_lines, steps_lines, steps_on, TracesTo, TraceFaults, Traces}
use Rattle.run_lines.proofs.Offers.{lines_pieces-append, joined_with}

-- ---- a step

-- a step that went adds its weight, and the layout stays
weight_by_ending : (o : OverlaySeen) (e : Ending) (event : Option Event) → ending_answer o e ≡ Went event
    → (moved e o).weight ≡ weight_with o
weight_by_ending o (goes q) event a = refl
weight_by_ending o halts event a = absurd cc
weight_by_ending o fails event a = absurd cc

end_no_event : (e : OEnd) (event : Option Event) → end_answer e ≡ Went event → ⊥
end_no_event Rattle.overlay_machine.specs.declared.overlay.OEnd.TheVariants.Halted event a = cc
end_no_event Rattle.overlay_machine.specs.declared.overlay.OEnd.TheVariants.Failed event a = cc

weight_by_end : (o : OverlaySeen) (e : Option OEnd) (event : Option Event) → answer_by e o ≡ Went event
    → (next_by e o).weight ≡ weight_with o
weight_by_end o None event a = weight_by_ending o (overlay_step o.layout o.state) event a
weight_by_end o (Some e) event a = absurd (end_no_event e event a)

pub went_weight : (o : OverlaySeen) (event : Option Event) → answer_of o ≡ Went event
    → (next_overlay o).weight ≡ weight_with o
unfolding next_overlay answer_of
went_weight o event a = weight_by_end o o.end event a

-- the two weights, as the run has them, are within its limit
pub fits_with : (limit : ℕ) (o : OverlaySeen) {sum next weight : ℕ} → sum ≡ o.weight
    → next ≡ weight_of o.layout o.state → weight ≡ next → sum + weight ≤ limit → weight_with o ≤ limit
fits_with limit o s n w le = omega (arith, s, n, w, le)

-- no step adds more than its weight
most_by_ending : (o : OverlaySeen) (e : Ending) → (moved e o).weight ≤ weight_with o
most_by_ending o (goes q) = omega arith
most_by_ending o halts = omega arith
most_by_ending o fails = omega arith

most_by_end : (o : OverlaySeen) (e : Option OEnd) → (next_by e o).weight ≤ weight_with o
most_by_end o None = most_by_ending o (overlay_step o.layout o.state)
most_by_end o (Some e) = omega arith

next_weight_most : (o : OverlaySeen) → (next_overlay o).weight ≤ weight_with o
unfolding next_overlay
next_weight_most o = most_by_end o o.end

layout_by_ending : (o : OverlaySeen) (e : Ending) → (moved e o).layout ≡ o.layout
layout_by_ending o (goes q) = refl
layout_by_ending o halts = refl
layout_by_ending o fails = refl

layout_by_end : (o : OverlaySeen) (e : Option OEnd) → (next_by e o).layout ≡ o.layout
layout_by_end o None = layout_by_ending o (overlay_step o.layout o.state)
layout_by_end o (Some e) = refl

pub layout_stays : (o : OverlaySeen) → (next_overlay o).layout ≡ o.layout
unfolding next_overlay
layout_stays o = layout_by_end o o.end

-- an overlay of a start has the start's layout
pub layout_of_start : (s : StartSeen) (o : OverlaySeen) → IsOverlayOf s o → layout s ≡ o.layout
layout_of_start s o is =
    ap (λ x. let l : Layout = record { sites = x; owners = s.owners; stack = s.stack } in l) (sym is.sites)
    ∙ ap (λ x. let l : Layout = record { sites = o.layout.sites; owners = x; stack = s.stack } in l)
    (sym is.owners)
    ∙ ap (λ x. let l : Layout = record { sites = o.layout.sites; owners = o.layout.owners; stack = x } in l)
    (sym is.stack)

-- ---- a run

stops_at : (limit left : ℕ) (o : OverlaySeen) → limit < weight_with o → traced limit left o ≡ stopped o
stops_at limit zero o over = refl
stops_at limit (suc n) o over = rw (lt-ltb limit (weight_with o) over) refl

goes_on : (limit n : ℕ) (o : OverlaySeen) → weight_with o ≤ limit
    → traced limit (suc n) o ≡ traced_by (answer_of o) o (traced limit n)
goes_on limit n o fits = rw (le-ltb limit (weight_with o) fits) refl

pieces_behind : (lines : List Line) (t : Traced)
    → pieces_of (behind lines t) ≡ lines_pieces lines ++ pieces_of t
pieces_behind lines t = ap (λ x. x ++ t.last ∷ []) (lines_pieces-append lines t.lines)
    ∙ append_assoc (lines_pieces lines) (lines_pieces t.lines) (t.last ∷ [])

module _ (limit : ℕ) (o : OverlaySeen) (sink : SinkSeen) where
  -- the pieces of a trace are its text
  trace_joined : concat (trace_pieces limit o) ≡ trace_text limit o
  trace_joined = joined_with (trace_of limit o).lines (trace_of limit o).last

  -- one of them failed to be written, and so did the text
  text_fails : (new : SinkSeen) → FailsAtPiece sink (trace_pieces limit o) new
      → FailsToWrite sink (trace_text limit o) new
  text_fails new f =
      subst (λ t. FailsToWrite sink t new) trace_joined (text_failed sink new (trace_pieces limit o) f)

  -- some steps went, and what they wrote stands in front of what is still to be written
  pub record Going (now : OverlaySeen) (seen : SinkSeen) : Type 0 where
    pub steps : ℕ
    pub left : ℕ
    pub same : now ≡ steps_on steps o
    pub layout : now.layout ≡ o.layout
    pub few : steps ≤ now.weight
    pub within : now.weight ≤ limit
    pub enough : limit < left + now.weight
    pub told : List (List ℕ)
    pub lines : told ≡ lines_pieces (steps_lines steps o)
    pub whole : (trace_of limit o).lines ≡ steps_lines steps o ++ (traced limit left now).lines
    pub pieces : trace_pieces limit o ≡ told ++ pieces_of (traced limit left now)
    pub end : (trace_of limit o).end ≡ (traced limit left now).end
    pub overlay : (trace_of limit o).overlay ≡ (traced limit left now).overlay
    pub last : (trace_of limit o).last ≡ (traced limit left now).last
    pub written : AddsPieces sink told seen

  pub going_none : o.weight ≡ 0 → Going o sink
  going_none fresh = record {
    steps = 0;
    left = limit + 1;
    same = refl;
    layout = refl;
    few = omega arith;
    within = omega (arith, fresh);
    enough = omega (arith, fresh);
    told = [];
    lines = refl;
    whole = refl;
    pieces = refl;
    end = refl;
    overlay = refl;
    last = refl;
    written = pieces_none sink;
  }

  -- the names that lines have are those of the start
  pub start_layout : (s : StartSeen) (now : OverlaySeen) (seen : SinkSeen) (next : OverlaySeen)
      → IsOverlayOf s o → Going now seen → next ≡ next_overlay now
      → Rattle.run_lines.specs.Layout.layout s ≡ next.layout
  start_layout s now seen next is g e =
      layout_of_start s o is ∙ sym g.layout ∙ sym (layout_stays now)
      ∙ sym (ap (λ (x : OverlaySeen). x.layout) e)

  -- what a run comes to from a step on that is within the limit
  on_step : (now : OverlaySeen) (left : ℕ) → limit < left + now.weight → weight_with now ≤ limit
      → (n : ℕ) × (left ≡ suc n) × (traced limit left now ≡ traced_by (answer_of now) now (traced limit n))
  on_step now zero enough fits = absurd (omega (arith, enough, fits))
  on_step now (suc n) enough fits = (n, refl, goes_on limit n now fits)

  -- the lines of the next step, of which it is known what it answers
  own_lines : (now : OverlaySeen) (seen : SinkSeen) (event : Option Event) (next : OverlaySeen)
      → (g : Going now seen) → answer_of now ≡ Went event → next ≡ next_overlay now
      → lines_after next event ≡ next_lines (steps_on g.steps o)
  own_lines now seen event next g a e =
      ap (λ (x : OverlaySeen). lines_after x event) e
      ∙ ap (λ x. lines_after (next_overlay now) (event_in x)) (sym a) ∙ ap next_lines g.same

  pub going_more : (now : OverlaySeen) (seen : SinkSeen) (event : Option Event) (next : OverlaySeen)
      (seen2 : SinkSeen)
      → Going now seen → weight_with now ≤ limit → answer_of now ≡ Went event
      → next ≡ next_overlay now → AddsPieces seen (lines_pieces (lines_after next event)) seen2
      → Going next seen2
  going_more now seen event next seen2 g fits a e w =
      let s = on_step now g.left g.enough fits in
      let weight : next.weight ≡ weight_with now =
      ap (λ (x : OverlaySeen). x.weight) e ∙ went_weight now event a in
      let some = weight_some now.layout now.state in
      let is : traced limit g.left now ≡ behind (lines_after next event) (traced limit s.0 next) =
      s.2 ∙ ap (λ x. traced_by x now (traced limit s.0)) a
      ∙ ap (λ x. behind (lines_after x event) (traced limit s.0 x)) (sym e) in
      let mine : lines_after next event ≡ next_lines (steps_on g.steps o) =
      own_lines now seen event next g a e in
      record {
        steps = suc g.steps;
        left = s.0;
        same = e ∙ ap next_overlay g.same;
        layout = ap (λ (x : OverlaySeen). x.layout) e ∙ layout_stays now ∙ g.layout;
        few = (let f = g.few in omega (arith, f, weight, some));
        within = omega (arith, weight, fits);
        enough = (let f = g.enough in let l = s.1 in omega (arith, f, l, weight, some));
        told = g.told ++ lines_pieces (lines_after next event);
        lines = ap (λ x. x ++ lines_pieces (lines_after next event)) g.lines
            ∙ sym (lines_pieces-append (steps_lines g.steps o) (lines_after next event))
            ∙ ap (λ ls. lines_pieces (steps_lines g.steps o ++ ls)) mine;
        whole = g.whole ∙ ap (λ (t : Traced). steps_lines g.steps o ++ t.lines) is
            ∙ sym (append_assoc (steps_lines g.steps o) (lines_after next event)
            (traced limit s.0 next).lines)
            ∙ ap (λ ls. (steps_lines g.steps o ++ ls) ++ (traced limit s.0 next).lines) mine;
        pieces = g.pieces ∙ ap (λ (t : Traced). g.told ++ pieces_of t) is
            ∙ ap (λ x. g.told ++ x) (pieces_behind (lines_after next event) (traced limit s.0 next))
            ∙ sym (append_assoc g.told (lines_pieces (lines_after next event))
            (pieces_of (traced limit s.0 next)));
        end = g.end ∙ ap (λ (t : Traced). t.end) is;
        overlay = g.overlay ∙ ap (λ (t : Traced). t.overlay) is;
        last = g.last ∙ ap (λ (t : Traced). t.last) is;
        written = pieces_then sink seen seen2 _ _ g.written w;
      }

  -- the lines of a step that went failed to be written
  pub going_fails : (now : OverlaySeen) (seen : SinkSeen) (event : Option Event) (next : OverlaySeen)
      (seen2 : SinkSeen)
      → Going now seen → weight_with now ≤ limit → answer_of now ≡ Went event
      → next ≡ next_overlay now → FailsAtPiece seen (lines_pieces (lines_after next event)) seen2
      → TraceFaults limit o sink next seen2
  going_fails now seen event next seen2 g fits a e f =
      let s = on_step now g.left g.enough fits in
      let some = weight_some now.layout now.state in
      let is : traced limit g.left now ≡ behind (lines_after next event) (traced limit s.0 next) =
      s.2 ∙ ap (λ x. traced_by x now (traced limit s.0)) a
      ∙ ap (λ x. behind (lines_after x event) (traced limit s.0 x)) (sym e) in
      let pieces : trace_pieces limit o ≡ g.told
      ++ (lines_pieces (lines_after next event) ++ pieces_of (traced limit s.0 next)) =
      g.pieces ∙ ap (λ (t : Traced). g.told ++ pieces_of t) is
      ∙ ap (λ x. g.told ++ x) (pieces_behind (lines_after next event) (traced limit s.0 next)) in
      record {
        made = (suc g.steps, (let w = g.few in omega (arith, w, some, fits)), e ∙ ap next_overlay g.same);
        within = (let w : next.weight ≡ weight_with now =
            ap (λ (x : OverlaySeen). x.weight) e ∙ went_weight now event a in omega (arith, w, fits));
        at = inl (
          g.steps,
          refl,
          (
            seen,
            subst (λ x. AddsPieces sink x seen)
                g.lines g.written,
            subst (λ ls. FailsAtPiece seen (lines_pieces ls) seen2)
                (own_lines now seen event next g a e) f,
          ),
        );
        text = text_fails seen2
            (subst (λ x. FailsAtPiece sink x seen2) (sym pieces)
            (pieces_fail sink seen seen2 _ _ g.written
            (fail_more seen seen2 _ (pieces_of (traced limit s.0 next)) f)));
      }

  -- a last line was written after the others, or not
  ends : (now : OverlaySeen) (seen : SinkSeen) (new : OverlaySeen) (seen2 : SinkSeen) (line : List ℕ)
      (end result : RunEnd)
      → (g : Going now seen)
      → (TracesTo limit o sink new seen2 end → Traces limit o sink new seen2 end)
      → ((n : ℕ) × (n ≤ limit) × (new ≡ steps_on n o)) → new.weight ≤ limit
      → traced limit g.left now ≡ ended end now.weight new line
      → EndsBy seen line end seen2 result → Traces limit o sink new seen2 result
  ends now seen new seen2 line end result g lift made within is w =
      elim w as (λ _. Traces limit o sink new seen2 result) [
        | inl h ↦ subst (λ r. Traces limit o sink new seen2 r) (sym h.0) (lift (whole h.1))
        | inr h ↦ subst (λ r. Traces limit o sink new seen2 r) (sym h.0) (faults h.1)
      ]
    where
      pieces : trace_pieces limit o ≡ g.told ++ line ∷ []
      pieces = g.pieces ∙ ap (λ (t : Traced). g.told ++ pieces_of t) is

      all_pieces : AddsPieces seen (line ∷ []) seen2 → AddsPieces sink (trace_pieces limit o) seen2
      all_pieces a =
          subst (λ x. AddsPieces sink x seen2) (sym pieces) (pieces_then sink seen seen2 _ _ g.written a)

      whole : AddsPieces seen (line ∷ []) seen2 → TracesTo limit o sink new seen2 end
      whole a = record {
        is = sym (g.end ∙ ap (λ (t : Traced). t.end) is);
        overlay = sym (g.overlay ∙ ap (λ (t : Traced). t.overlay) is);
        text = subst (λ x. Adds sink x seen2) trace_joined (all_pieces a).text;
        pieces = all_pieces a;
      }

      all_lines : g.told ≡ lines_pieces (trace_of limit o).lines
      all_lines =
          g.lines ∙ ap lines_pieces
          (sym (g.whole ∙ ap (λ (t : Traced). steps_lines g.steps o ++ t.lines) is
          ∙ append-nil (steps_lines g.steps o)))

      last_is : line ≡ (trace_of limit o).last
      last_is = sym (g.last ∙ ap (λ (t : Traced). t.last) is)

      faults : FailsAtPiece seen (line ∷ []) seen2 → TraceFaults limit o sink new seen2
      faults f = record {
        made = made;
        within = within;
        at = inr (
          sym made.2
              ∙ sym (g.overlay ∙ ap (λ (t : Traced). t.overlay) is),
          (
            seen,
            subst (λ x. AddsPieces sink x seen)
                all_lines g.written,
            subst (λ x. FailsAtPiece seen (x ∷ []) seen2) last_is f,
          ),
        );
        text = text_fails seen2
            (subst (λ x. FailsAtPiece sink x seen2) (sym pieces)
            (pieces_fail sink seen seen2 _ _ g.written f));
      }

  pub ends_running : (now : OverlaySeen) (seen seen2 : SinkSeen) (line : List ℕ) (result : RunEnd)
      → Going now seen → limit < weight_with now
      → line ≡ running_text (overlay_view now) now.weight → EndsBy seen line Running seen2 result
      → Traces limit o sink now seen2 result
  ends_running now seen seen2 line result g over e w =
      ends now seen now seen2 line Running result g (λ t. t)
      (g.steps, (let f = g.few in let l = g.within in omega (arith, f, l)), g.same) g.within
      (stops_at limit g.left now over ∙ ap (ended Running now.weight now) (sym e)) w

  -- the end of the machine
  at_end : (now : OverlaySeen) (seen : SinkSeen) (new : OverlaySeen) (g : Going now seen)
      → weight_with now ≤ limit → new ≡ next_overlay now → (n : ℕ) × (n ≤ limit) × (new ≡ steps_on n o)
  at_end now seen new g fits e =
      let some = weight_some now.layout now.state in
      (suc g.steps, (let f = g.few in omega (arith, f, some, fits)), e ∙ ap next_overlay g.same)

  end_weight : (now new : OverlaySeen) → weight_with now ≤ limit → new ≡ next_overlay now → new.weight ≤ limit
  end_weight now new fits e =
      let w : new.weight ≡ (next_overlay now).weight = ap (λ (x : OverlaySeen). x.weight) e in
      let m = next_weight_most now in
      omega (arith, m, w, fits)

  pub ends_halted : (now : OverlaySeen) (seen : SinkSeen) (new : OverlaySeen) (seen2 : SinkSeen)
      (line : List ℕ) (result : RunEnd)
      → Going now seen → weight_with now ≤ limit → answer_of now ≡ Halted
      → new ≡ next_overlay now → line ≡ halted_text (overlay_view new) (weight_with now)
      → EndsBy seen line RunHalted seen2 result → Traces limit o sink new seen2 result
  ends_halted now seen new seen2 line result g fits a e k w =
      let s = on_step now g.left g.enough fits in
      ends now seen new seen2 line RunHalted result g (λ t. t) (at_end now seen new g fits e)
      (end_weight now new fits e)
      (s.2 ∙ ap (λ x. traced_by x now (traced limit s.0)) a
      ∙ ap (λ x. ended RunHalted now.weight x (halted_text (overlay_view x) (weight_with now))) (sym e)
      ∙ ap (ended RunHalted now.weight new) (sym k)) w

  pub ends_failed : (now : OverlaySeen) (seen : SinkSeen) (new : OverlaySeen) (seen2 : SinkSeen)
      (line : List ℕ) (result : RunEnd)
      → Going now seen → weight_with now ≤ limit → answer_of now ≡ Failed
      → new ≡ next_overlay now → line ≡ failed_text (overlay_view new) now.weight
      → EndsBy seen line RunFailed seen2 result → Traces limit o sink new seen2 result
  ends_failed now seen new seen2 line result g fits a e k w =
      let s = on_step now g.left g.enough fits in
      ends now seen new seen2 line RunFailed result g (λ t. t) (at_end now seen new g fits e)
      (end_weight now new fits e)
      (s.2 ∙ ap (λ x. traced_by x now (traced limit s.0)) a
      ∙ ap (λ x. ended RunFailed now.weight x (failed_text (overlay_view x) now.weight)) (sym e)
      ∙ ap (ended RunFailed now.weight new) (sym k)) w
