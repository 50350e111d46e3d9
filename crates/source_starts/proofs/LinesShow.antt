-- The lines of a run's steps show what goes out and what comes in.
use Rattle.std.proofs.Common.{◌≡◌, ℕ, ◌+◌, Bool, true, false, List, [], ◌∷◌, ◌++◌, Option, Some, None}
use Rattle.std.proofs.Common.{refl, sym, ap, ◌∙◌, subst}
use Rattle.std.specs.Prelude.{if◌then◌else◌}
use Rattle.trusted_border.specs.declared.layout.Layout.{Layout}
use Rattle.trusted_border.specs.declared.events.Event.{Event}
use Rattle.trusted_border.specs.declared.events.Event.TheVariants.{Called, Returned, Entered, Left}
use Rattle.overlay_machine.specs.State.{OState}
use Rattle.overlay_machine.specs.Step.{weight_of}
use Rattle.overlay_machine.specs.Events.{step_event}
use Rattle.run_lines.specs.declared.pairs.Pairs.{Pairs}
use Rattle.run_lines.specs.Pairs.{pairs_of, none_paired}
use Rattle.run_lines.specs.Views.{View, flat_view}
use Rattle.run_lines.specs.Lines.{Line, pass_line, lines_for}
use Rattle.run_lines.specs.StepLines.{no_step, and_step, StepsTellSo}
use Rattle.run_lines.specs.Told.{Told, none_yet, and_then, step_lines}
use Rattle.run_lines.specs.Cuts.{Leads}
use Rattle.run_lines.specs.Cuts as cuts
use Rattle.run_lines.specs.Feed as line
use Rattle.run_lines.specs.Feed.{OutsJoin, ItemsJoin, EntriesAreItems}
use Rattle.source_events.specs.declared.Item.{Item}
use Rattle.source_events.specs.Outs.{OutLine}
use Rattle.template_runs.specs.Runs.{is_inside}
use Rattle.source_laws.specs.Trace.{event_outs, event_items, weighed}
use Rattle.source_laws.specs.Sources as runs
use Rattle.source_laws.specs.Sources.{RunShows}

module _ (l : Layout) (v : View) where
  -- a pass line sends nothing out
  pass_silent : (b : Bool) (p : Pairs) → line.outs_of (if b then [] else pass_line l p ∷ []) ≡ []
  pass_silent true p = refl
  pass_silent false p = refl

  pub outs_same : (e : Option Event) → line.outs_of (lines_for l v e) ≡ event_outs l v e
  outs_same None = refl
  outs_same (Some (Called true i base last)) = refl
  outs_same (Some (Called false i base last)) = refl
  outs_same (Some (Returned inward i base last)) = refl
  outs_same (Some (Entered part k back)) = pass_silent (none_paired (pairs_of l v)) (pairs_of l v)
  outs_same (Some (Left part)) = refl

  module _ (entries : EntriesAreItems) where
    pub items_same : (e : Option Event) → line.items_of l.stack.base (lines_for l v e) ≡ event_items l v e
    items_same None = refl
    items_same (Some (Called inward i base last)) = refl
    items_same (Some (Returned true i base last)) = refl
    items_same (Some (Returned false i base last)) = refl
    items_same (Some (Entered part k back)) = entries l.stack.base l v part k back
    items_same (Some (Left part)) = refl

-- ---- of all steps

module _ (l : Layout) (o : OState) (join : OutsJoin) (items_join : ItemsJoin) (entries : EntriesAreItems)
    (tell : StepsTellSo) where
  pub lines_show : (j : ℕ) (ls : List Line) (p : OState) → Told l o j ls p
      → (n : ℕ) × RunShows l o j n (line.outs_of ls) (line.items_of l.stack.base ls) p
  lines_show _ _ _ none_yet = (0, runs.none_yet)
  lines_show _ _ q (and_then {j = j} {ls = ls} {p = p} t e) =
      let h = lines_show j ls p t in
      let outs : line.outs_of (ls ++ step_lines l p q)
      ≡ line.outs_of ls ++ event_outs l (flat_view l q) (step_event l p q) =
      join ls (step_lines l p q)
      ∙ ap (λ xs. line.outs_of ls ++ xs) (outs_same l (flat_view l q) (step_event l p q)) in
      let items : line.items_of l.stack.base (ls ++ step_lines l p q)
      ≡ line.items_of l.stack.base ls ++ event_items l (flat_view l q) (step_event l p q) =
      items_join l.stack.base ls (step_lines l p q)
      (and_step no_step (tell l (flat_view l q) (step_event l p q)))
      ∙ ap (λ xs. line.items_of l.stack.base ls ++ xs)
      (items_same l (flat_view l q) entries (step_event l p q)) in (
        h.0 + weighed (is_inside l p) (weight_of l p),
        subst (λ xs. RunShows l o (j + weight_of l p) (h.0 + weighed (is_inside l p) (weight_of l p)) xs
            (line.items_of l.stack.base (ls ++ step_lines l p q)) q) (sym outs)
            (subst (λ ys. RunShows l o (j + weight_of l p) (h.0 + weighed (is_inside l p) (weight_of l p))
            (line.outs_of ls ++ event_outs l (flat_view l q) (step_event l p q)) ys q) (sym items)
            (runs.and_then h.1 e)),
      )

-- steps that show something lead to where they come to
pub shows_lead : (l : Layout) (o : OState) (j n : ℕ) (es : List OutLine) (is : List Item) (p : OState)
    → RunShows l o j n es is p → Leads l o j n p
shows_lead l o _ _ _ _ _ runs.none_yet = cuts.no_step
shows_lead l o _ _ _ _ q (runs.and_then {j = j} {n = n} {es = es} {is = is} {p = p} h e) =
    cuts.and_step (shows_lead l o j n es is p h) e
