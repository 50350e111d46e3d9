-- A run of some instructions, with the calls that were counted so far.
use Rattle.std.proofs.Common.{◌≡◌, ℕ, suc, ◌+◌, ◌<◌, ◌≤◌, Bool, true, false, List, [], ◌∷◌, ◌++◌, Option}
use Rattle.std.proofs.Common.{Some, None, refl, sym, ap, ◌∙◌, arith, add-one}
use Rattle.lcm_machine.specs.declared.Step.TheVariants.{Went}
use Rattle.lcm_machine.specs.Run.{Run, next_state, plain, answer}
use Rattle.linked_starts.specs.Started.{StartSeen}
use Rattle.trusted_border.specs.declared.layout.Layout.{Layout}
use Rattle.trusted_border.specs.declared.events.Event.{Event}
use Rattle.trusted_border.specs.declared.events.Event.TheVariants.{Called, Returned, Entered, Left}
use Rattle.trace_tool.specs.declared.count.Counted.{Counted}
use Rattle.run_lines.specs.Layout.{layout}
use Rattle.run_lines.specs.Views.{View, view_of}
use Rattle.run_lines.specs.Events.{noted, event_after}
use Rattle.run_lines.specs.Lines.{Line, call, ret, enter, pass, leave, pass_lines, lines_for}
use Rattle.run_lines.specs.declared.pairs.Pairs.{Pairs}
use Rattle.run_lines.specs.Pairs.{pairs_of, none_paired}
use Rattle.run_lines.specs.Runs.{begun, watching, watched, watched_next, line_next, lines_of}
use Rattle.trace_tool.specs.Counts.{calls_in, calls_of_run, calls_of, Counts}
use Rattle.run_lines.proofs.Offers.{HasEnded, no_line, no_more_lines, stays_ended, event_lines}
use Rattle.run_lines.proofs.Offers.{Gone, gone_line, gone_same, gone_more, next_same}

-- ---- lines

calls_join : (xs ys : List Line) → calls_in (xs ++ ys) ≡ calls_in xs + calls_in ys
calls_join [] ys = omega arith
calls_join (call i p s b e a w ∷ xs) ys = let e = calls_join xs ys in omega (arith, e)
calls_join (ret i p s b e a w ∷ xs) ys = calls_join xs ys
calls_join (enter p x s a b ∷ xs) ys = calls_join xs ys
calls_join (pass p q r ∷ xs) ys = calls_join xs ys
calls_join (leave p a ∷ xs) ys = calls_join xs ys

passes_none : (l : Layout) (p : Pairs) (none : Bool) → none_paired p ≡ none → calls_in (pass_lines l p) ≡ 0
passes_none l p true e = rw e refl
passes_none l p false e = rw e refl

-- those of an event
event_calls : (l : Layout) (v : View) (event : Option Event) → calls_in (lines_for l v event) ≡ calls_of event
event_calls l v None = refl
event_calls l v (Some (Called inward i base last)) = refl
event_calls l v (Some (Returned inward i base last)) = refl
event_calls l v (Some (Entered part k back)) = passes_none l (pairs_of l v) (none_paired (pairs_of l v)) refl
event_calls l v (Some (Left part)) = refl

-- ---- one instruction

pub calls_none : (start : StartSeen) (inward : Bool) → HasEnded (next_state start.state)
    → 0 ≡ calls_in (line_next (layout start) (watching start inward))
calls_none start inward ended = ap calls_in (sym (no_line (layout start) (watching start inward) ended))

pub calls_told : (start : StartSeen) (inward : Bool) (s : Run) (event : Option Event)
    → s ≡ next_state start.state → answer s ≡ Went
    → event ≡ event_after (layout start) (noted (layout start) start.state.maps) inward (view_of s.maps)
    → calls_of event ≡ calls_in (line_next (layout start) (watching start inward))
calls_told start inward s event same went e =
    sym (event_calls (layout start) (view_of s.maps) event)
    ∙ ap calls_in (event_lines (layout start) (watching start inward) s event same went e)

-- ---- a run

-- n instructions went, and their calls were counted
pub record Counting (init : StartSeen) (n : ℕ) (start : StartSeen) (inward : Bool) (calls : ℕ) : Type 0 where
  pub gone : Gone init n start inward
  pub counted : calls ≡ calls_of_run init n
  pub few : calls ≤ n

more_calls : (init : StartSeen) (n : ℕ) (start : StartSeen) (inward : Bool) (calls more : ℕ)
    → Counting init n start inward calls
    → more ≡ calls_in (line_next (layout start) (watching start inward))
    → calls + more ≡ calls_of_run init (suc n)
more_calls init n start inward calls more k e =
    let l = layout init in
    let line : more ≡ calls_in (line_next l (watched l (begun init.state) n)) =
    e ∙ ap calls_in (gone_line init n start inward k.gone) in
    ap (λ c. c + more) k.counted ∙ ap (λ c. calls_of_run init n + c) line
    ∙ sym (calls_join (lines_of l (begun init.state) n) (line_next l (watched l (begun init.state) n)))

pub counting_more : (init : StartSeen) (n : ℕ) (start : StartSeen) (inward : Bool) (calls : ℕ)
    (next : StartSeen) (inward2 : Bool) (more : ℕ) → Counting init n start inward calls
    → next ≡ record start { state = next_state start.state }
    → inward2 ≡ (watched_next (layout start) (watching start inward)).inward
    → answer (next_state start.state) ≡ Went
    → more ≡ calls_in (line_next (layout start) (watching start inward)) → more ≤ 1
    → Counting init (n + 1) next inward2 (calls + more)
counting_more init n start inward calls next inward2 more k e i went c few = record {
  gone = gone_more init n start inward next inward2 k.gone e i went;
  counted = rw add-one (more_calls init n start inward calls more k c);
  few = let f = k.few in omega (arith, f, few);
}

-- all instructions went
pub counted_running : (init : StartSeen) (n : ℕ) (start : StartSeen) (inward : Bool) (result : Counted)
    → Counting init n start inward result.calls → result.last ≡ Went → Counts init n start result
counted_running init n start inward result k e = record {
  state = gone_same init n start inward k.gone;
  last = e ∙ sym k.gone.went
      ∙ ap (λ (s : StartSeen). answer s.state) (gone_same init n start inward k.gone);
  calls = k.counted;
}

-- the machine ended
pub counted_early : (init : StartSeen) (n steps : ℕ) (start : StartSeen) (inward : Bool) (calls : ℕ)
    (next : StartSeen) (more : ℕ) (result : Counted) → Counting init n start inward calls → n < steps
    → next ≡ record start { state = next_state start.state }
    → result.last ≡ answer (next_state start.state) → (result.last ≡ Went → ⊥)
    → more ≡ calls_in (line_next (layout start) (watching start inward))
    → result.calls ≡ calls + more → Counts init steps next result
counted_early init n steps start inward calls next more result k lt e is ended c r =
    let same = next_same init n start inward next k.gone e in
    let state : next.state ≡ plain (suc n) init.state = ap (λ (s : StartSeen). s.state) same in
    let last : result.last ≡ answer (plain (suc n) init.state) =
    is ∙ ap answer (sym (ap (λ (s : StartSeen). s.state) e) ∙ state) in
    let over : HasEnded (plain (suc n) init.state) = λ went. ended (last ∙ went) in
    let stays = stays_ended (suc n) steps init.state (omega (arith, lt)) over in
    record {
      state = same ∙ ap (λ (x : Run). let t : StartSeen = record init { state = x } in t) (sym stays);
      last = last ∙ ap answer (sym stays);
      calls = r ∙ more_calls init n start inward calls more k c
          ∙ ap calls_in (sym (no_more_lines (layout init) init.state (suc n) steps (omega (arith, lt)) over));
    }
