-- What a run of the overlay shows to a source: what leaves, what comes in, the weight of its trusted steps,
-- and where it stands.
use Rattle.std.specs.Prelude.{ℕ, zero, suc, ◌+◌, Bool, true, false, List, [], ◌∷◌, ◌++◌, Option, Some, None}
use Rattle.cap_words.specs.declared.Word.{Word}
use Rattle.lcm_isa.specs.declared.Reg.TheVariants.{Stk, A0}
use Rattle.trusted_border.specs.declared.layout.Layout.{Layout}
use Rattle.trusted_border.specs.declared.events.Event.{Event}
use Rattle.trusted_border.specs.declared.events.Event.TheVariants.{Called, Returned, Entered, Left}
use Rattle.overlay_machine.specs.State.{OState}
use Rattle.overlay_machine.specs.Step.{Ending, goes, halts, fails, overlay_step, weight_of}
use Rattle.overlay_machine.specs.Events.{step_event}
use Rattle.run_lines.specs.Layout.{part_name, entry_name, site_of}
use Rattle.run_lines.specs.Views.{View, flat_view}
use Rattle.run_lines.specs.Pairs.{pairs_of}
use Rattle.run_lines.specs.Lines.{args_of, feed_back}
use Rattle.run_lines.specs.Feed.{integer_in, integers_in, out_args, feed_pairs}
use Rattle.source_events.specs.declared.Item.{Item}
use Rattle.source_events.specs.declared.Item.TheVariants.{Enter, Ret}
use Rattle.source_events.specs.Left.{left_in}
use Rattle.source_events.specs.Outs.{OutLine, call_out, leave_out, out_arg}
use Rattle.template_runs.specs.Runs.{is_inside}
pub use Rattle.run_lines.specs.Cuts.{weighed}

module _ (l : Layout) where
  -- ---- of an event, whose state after it shows these words

  abbrev pub event_outs : View → Option Event → List OutLine
  event_outs v None = []
  event_outs v (Some (Called true i base last)) = []
  event_outs v (Some (Called false i base last)) =
      call_out (part_name l (site_of l i).part) (site_of l i).index (out_args (args_of v)) ∷ []
  event_outs v (Some (Returned inward i base last)) = []
  event_outs v (Some (Entered part k back)) = []
  event_outs v (Some (Left part)) = leave_out (part_name l part) (out_arg (integer_in (v.reg A0))) ∷ []

  abbrev pub event_items : View → Option Event → List Item
  event_items v None = []
  event_items v (Some (Called inward i base last)) = []
  event_items v (Some (Returned true i base last)) = []
  event_items v (Some (Returned false i base last)) =
      Ret (part_name l (site_of l i).part) (site_of l i).index base (integer_in (v.reg A0)) ∷ []
  event_items v (Some (Entered part k back)) =
      Enter (part_name l part) (entry_name l part k) (left_in l.stack.base (v.reg Stk))
      (integers_in (args_of v))
      (feed_pairs l (pairs_of l v)) (feed_back l back) ∷ []
  event_items v (Some (Left part)) = []

-- ---- runs

pub data Final : Type 0 where
  Running : Final
  Outside : Final
  HaltedWith : Word → Final
  Failed : Final

pub record Trace : Type 0 where
  pub out : List OutLine
  pub items : List Item
  pub weight : ℕ
  pub final : Final

abbrev pub shown : List OutLine → List Item → ℕ → Trace → Trace
shown es is n t =
    record { out = es ++ t.out; items = is ++ t.items; weight = n + t.weight; final = t.final }

abbrev pub rests : ℕ → Final → Trace
rests n f = record { out = []; items = []; weight = n; final = f }

module _ (l : Layout) where
  abbrev pub standing : Bool → Trace
  standing true = rests 0 Running
  standing false = rests 0 Outside

  -- an end by trusted code, and one by untrusted code
  abbrev pub ended : Bool → ℕ → Final → Trace
  ended true n f = rests n f
  ended false n f = rests 0 Outside

  abbrev pub show : OState → Ending → (OState → Trace) → Trace
  show o (goes q) rest =
      shown (event_outs l (flat_view l q) (step_event l o q))
      (event_items l (flat_view l q) (step_event l o q))
      (weighed (is_inside l o) (weight_of l o)) (rest q)
  show o halts rest = ended (is_inside l o) (weight_of l o) (HaltedWith ((flat_view l o).reg A0))
  show o fails rest = ended (is_inside l o) (weight_of l o) Failed

  -- of so many steps
  unfoldable pub trace : ℕ → OState → Trace
  trace zero o = standing (is_inside l o)
  trace (suc n) o = show o (overlay_step l o) (trace n)
