-- Call and ret lines are bracketed as the overlay's events are, and what they tell of is as private.
use Rattle.std.proofs.Common.{◌≡◌, ℕ, zero, suc, ◌+◌, ◌-◌, Bool, true, false, if◌then◌else◌, List, [], ◌∷◌}
use Rattle.std.proofs.Common.{refl}
use Rattle.std.proofs.Common.{◌++◌, Option, Some, None, refl, sym, ap, ◌∙◌, subst, arith}
use Rattle.std.specs.Prelude.{map}
use Rattle.std.proofs.lemmas.List.{append_assoc, map-append}
use Rattle.cap_words.specs.declared.Word.{Word}
use Rattle.lcm_isa.specs.declared.Reg.TheVariants.{Dat}
use Rattle.lcm_machine.specs.Maps.{State}
use Rattle.lcm_machine.specs.Row.{went}
use Rattle.lcm_machine.proofs.Offers.{run_then}
use Rattle.trusted_border.specs.declared.layout.Layout.{Layout}
use Rattle.trusted_border.specs.declared.events.Event.{Event}
use Rattle.trusted_border.specs.declared.events.Event.TheVariants.{Called, Returned, Entered, Left}
use Rattle.overlay_machine.specs.State.{OState}
use Rattle.overlay_machine.specs.Events.{step_event}
use Rattle.overlay_machine.specs.Step.{goes, overlay_step, weight_of}
use Rattle.overlay_machine.specs.Runs.{plain_run}
use Rattle.overlay_machine.specs.Brackets.{FrameTold, Mark, opens, closes, Brackets, Depth}
use Rattle.overlay_machine.proofs.Offers.{mark_map, mapped, depth_unmapped, flat_cell, if_there, words_at}
use Rattle.overlay_machine.proofs.Offers.{marks_by, marks_of, Marked, none_yet, and_then, AreBracketed}
use Rattle.overlay_machine.proofs.Offers.{StaysPrivate, OpenedArePrivate}
use Rattle.headline.proofs.ReturnLines.{ret_returns}
use Rattle.run_lines.specs.Layout.{part_name, site_of}
use Rattle.run_lines.specs.Views.{View, flat_view}
use Rattle.run_lines.specs.declared.pairs.Pairs.{Pairs}
use Rattle.run_lines.specs.Pairs.{none_paired, pairs_of}
use Rattle.source_events.specs.declared.FeedPair.{FeedPair}
use Rattle.run_lines.specs.Lines.{Args, Line, call, pass, list_of, words_seen, feed_pair, pass_lines}
use Rattle.run_lines.specs.Lines.{line_of, lines_for}
use Rattle.run_lines.specs.Told.{step_lines, Told, none_yet as nothing_yet, and_then as tells}
use Rattle.headline.specs.OpenCalls.{LineTold}
use Rattle.headline.specs.Brackets.{mark_of, marks_in, line_told, lines_told, LinesAreBracketed}
use Rattle.headline.specs.Brackets.{TraceIsBracketed}
use Rattle.headline.specs.Brackets.{RangeIsPrivate, CallsArePrivate}
use Rattle.overlay_machine.specs.Seen.{OverlaySeen}
use Rattle.run_lines.specs.Traces.{trace_of}
use Rattle.run_lines.proofs.Offers.{traced_told}

-- the words of lines are those of marks
listed : {A : Type 0} (o : Option A) → list_of o ≡ if_there o
listed None = refl
listed (Some x) = refl

same_words : (v : View) (a n : ℕ) → words_seen v a n ≡ words_at v.cell a n
same_words v a zero = refl
same_words v a (suc n) = ap (λ ws. ws ++ list_of (v.cell (a + n))) (same_words v a n)
    ∙ ap (λ ws. words_at v.cell a n ++ ws) (listed (v.cell (a + n)))

-- and so are the lines of an event
abbrev of_marks : Layout → List (Mark FrameTold) → List (Mark LineTold)
of_marks l ms = map (mark_map (line_told l)) ms

-- a pass line is no mark
pass_mute : (l : Layout) (p : Pairs) → marks_in (pass_lines l p) ≡ []
pass_mute l p = by (none_paired p) (feed_pair l p.p0) (feed_pair l p.p1) (feed_pair l p.p2)
  where
    by : (b : Bool) (x y z : FeedPair) → marks_in (if b then [] else pass x y z ∷ []) ≡ []
    by true x y z = refl
    by false x y z = refl

event_marks : (l : Layout) (q : OState) (e : Option Event)
    → marks_in (lines_for l (flat_view l q) e) ≡ of_marks l (marks_by l q e)
event_marks l q None = refl
event_marks l q (Some (Called inward i b e)) =
    ap (λ ws.
    opens (record {
      part = part_name l (site_of l i).part;
      site = (site_of l i).index;
      base = b;
      last =
          e;
      words = ws;
    }) ∷ []) (same_words (flat_view l q) b (e + 1 - b))
event_marks l q (Some (Returned inward i b e)) =
    ap (λ ws.
    closes (record {
      part = part_name l (site_of l i).part;
      site = (site_of l i).index;
      base = b;
      last =
          e;
      words = (flat_view l q).reg Dat ∷ ws;
    }) ∷ []) (same_words (flat_view l q) (b + 1) (e - b))
event_marks l q (Some (Entered part k back)) = pass_mute l (pairs_of l (flat_view l q))
event_marks l q (Some (Left part)) = refl

marks-append : (xs ys : List Line) → marks_in (xs ++ ys) ≡ marks_in xs ++ marks_in ys
marks-append [] ys = refl
marks-append (x ∷ xs) ys = ap (λ ms. mark_of x ++ ms) (marks-append xs ys)
    ∙ sym (append_assoc (mark_of x) (marks_in xs) (marks_in ys))

-- a run that is told by lines is one that is told by marks
pub as_marked : (l : Layout) (o : OState) (j : ℕ) (ls : List Line) (p : OState) → Told l o j ls p
    → (ms : List (Mark FrameTold)) × Marked l o j ms p × (marks_in ls ≡ of_marks l ms)
as_marked l o _ _ _ nothing_yet = ([], none_yet, refl)
as_marked l o _ _ q (tells {j = j} {ls = ls} {p = p} r e) =
    let k = as_marked l o j ls p r in (
      k.0 ++ marks_of l p q,
      and_then k.1 e,
      marks-append ls (step_lines l p q) ∙ ap (λ ms. ms ++ marks_in (step_lines l p q)) k.2
          ∙ ap (λ ms. of_marks l k.0 ++ ms) (event_marks l q (step_event l p q))
          ∙ sym (map-append (mark_map (line_told l)) k.0 (marks_of l p q)),
    )

pub lines_bracketed : (l : Layout) (o : OState) → AreBracketed l o → LinesAreBracketed l o
lines_bracketed l o h j ls p r =
    let k = as_marked l o j ls p r in
    subst (λ ms. Brackets LineTold (lines_told l o.frames) ms (lines_told l p.frames)) (sym k.2)
    (mapped (line_told l) (h j k.0 p k.1))

-- ---- privacy

opened_by : (l : Layout) (q : OState) (e : Option Event) (inward : Bool) (part : List ℕ) (site base last : ℕ)
    (args : Args) (words : List Word)
    → lines_for l (flat_view l q) e ≡ call inward part site base last args words ∷ []
    → (x : FrameTold) × (marks_by l q e ≡ opens x ∷ []) × (x.base ≡ base) × (x.end ≡ last)
opened_by l q None inward part site base last args words h = cc
opened_by l q (Some (Called i s b e)) inward part site base last args words h =
    let k : line_of l (flat_view l q) (Called i s b e) ≡ call inward part site base last args words = cc in (
      record { site = s; base = b; end = e; words = words_at (flat_cell l q) b (e + 1 - b) },
      refl,
      ap base_of
          k,
      ap last_of k,
    )
  where
    base_of : Line → ℕ
    base_of (call inward part site base last args words) = base
    base_of _ = 0

    last_of : Line → ℕ
    last_of (call inward part site base last args words) = last
    last_of _ = 0
opened_by l q (Some (Returned i s b e)) inward part site base last args words h = cc
opened_by l q (Some (Entered p k back)) inward part site base last args words h = cc
opened_by l q (Some (Left p)) inward part site base last args words h = cc

module _ (l : Layout) (o : OState) (t : State Word) (h : OpenedArePrivate l o t) where
  call_private : (q : OState) (u : State Word) (inward : Bool) (part : List ℕ) (site base last : ℕ)
      (args : Args) (words : List Word)
      → overlay_step l o ≡ goes q → plain_run (weight_of l o) t ≡ went u
      → step_lines l o q ≡ call inward part site base last args words ∷ [] → RangeIsPrivate l q u base last
  call_private q u inward part site base last args words step ran line =
      let x = opened_by l q (step_event l o q) inward part site base last args words line in
      let p : StaysPrivate l q u x.0 = h q u x.0 step ran x.1 in
      record {
        while_open = λ j e a ls r w d low high. (let k = as_marked l q j ls r w in
            p.while_open j e a k.0 r k.1
            (depth_unmapped (line_told l) k.0 0 e (subst (λ ms. Depth ms 0 e) k.2 d))
            (let b = x.2 in omega (arith, b, low)) (let b = x.3 in omega (arith, b, high)));
        up_to_ret = λ j e a ls r next w d line low high. (let k = as_marked l q j ls r w in
            let back = ret_returns l r next line in
            p.up_to_return j e a k.0 r back.0 back.1 k.1
            (depth_unmapped (line_told l) k.0 0 e (subst (λ ms. Depth ms 0 e) k.2 d))
            back.2 (let b = x.2 in omega (arith, b, low)) (let b = x.3 in omega (arith, b, high)));
      }

-- what opens is private at each state that a run comes to
abbrev pub OpensPrivately : Layout → OState → State Word → Type 0
OpensPrivately l o t = (j : ℕ) (ms : List (Mark FrameTold)) (p : OState) → Marked l o j ms p
    → (v : State Word) × (plain_run j t ≡ went v) × OpenedArePrivate l p v

pub calls_private : (l : Layout) (o : OState) (t : State Word) → OpensPrivately l o t → CallsArePrivate l o t
calls_private l o t h j ls p q u inward part site base last args words told step ran line =
    let k = as_marked l o j ls p told in
    let at = h j k.0 p k.1 in
    let on : plain_run (weight_of l p) at.0 ≡ went u =
    sym (run_then (λ w. w) (λ w. w) j (weight_of l p) t at.0 (plain_run (weight_of l p) at.0) at.1 refl)
    ∙ ran in
    call_private l p at.0 at.2 q u inward part site base last args words step on line

-- so are the lines that a trace writes
pub trace_bracketed : (o : OverlaySeen) → LinesAreBracketed o.layout o.state → TraceIsBracketed o
trace_bracketed o h limit =
    let t = traced_told o.layout limit (limit + 1) o refl in
    h t.0 (trace_of limit o).lines (trace_of limit o).overlay.state t.1
