-- What a run of the overlay shows to the refined meaning: what leaves, and of a call the words by which it
-- goes; and the items that come in, with the words in the argument registers.
use Rattle.std.specs.Prelude.{option_map, ℕ, zero, suc, ◌+◌, ℤ, pos, Bool, true, false, List, [], ◌∷◌, ◌++◌}
use Rattle.std.specs.Prelude.{Option, Some, map, None}
use Rattle.cap_words.specs.declared.CapFields.{CapFields}
use Rattle.cap_words.specs.declared.Word.TheVariants.{Int, Mem, Seal, Sealed}
use Rattle.cap_words.specs.declared.Sealable.TheVariants.{Mem as MemIn, Seal as SealIn}
use Rattle.cap_words.specs.Linear.{left_of}
use Rattle.call_sequence.specs.SequenceRuns.{stack_cap}
use Rattle.overlay_machine.specs.declared.words.OWord.TheVariants.{Plain}
use Rattle.overlay_machine.specs.Words.{look}
use Rattle.overlay_machine.specs.Step.{own_stack, Ending, goes, halts, fails, overlay_step, weight_of}
use Rattle.lcm_isa.specs.declared.Reg.TheVariants.{A0}
use Rattle.trusted_border.specs.declared.layout.Layout.{Layout}
use Rattle.trusted_border.specs.declared.events.Event.{Event}
use Rattle.trusted_border.specs.declared.events.Event.TheVariants.{Called, Returned, Entered, Left}
use Rattle.overlay_machine.specs.declared.words.OWord.{OWord}
use Rattle.overlay_machine.specs.State.{OpenFrame, OState}
use Rattle.overlay_machine.specs.Events.{step_event}
use Rattle.run_lines.specs.Layout.{part_name, site_of}
use Rattle.run_lines.specs.Views.{flat_view}
use Rattle.run_lines.specs.Lines.{args_of}
use Rattle.run_lines.specs.Feed.{integer_in}
use Rattle.source_events.specs.declared.Item.{Item}
use Rattle.source_events.specs.declared.Item.TheVariants.{Enter, Ret}
use Rattle.source_events.specs.declared.OutArg.TheVariants as arg
use Rattle.source_events.specs.Outs.{OutLine, call_out, leave_out, out_arg}
use Rattle.template_runs.specs.Runs.{is_inside}
use Rattle.proc_semantics.specs.Marked as marked
use Rattle.proc_semantics.specs.Marked.{Thing, Arg, Number, OfPair, Report, plain_arg}
use Rattle.source_laws.specs.Trace as lines
use Rattle.source_laws.specs.Trace.{Final, Running, Outside, HaltedWith, Failed, weighed}

-- of a call that leaves: where its frame begins, the pair by which it goes, and the argument registers
pub record Went : Type 0 where
  pub base : ℕ
  pub first : Option OWord
  pub second : Option OWord
  pub args : List (Arg OWord)

-- of a procedure that leaves: the pair by which it goes, the data half as it was handed over and as it is
-- given back, the stack that it gives back, and the calls that are open
pub record Back : Type 0 where
  pub code : OWord
  pub whole : OWord
  pub half : OWord
  pub stk : Option OWord
  pub open_calls : List OpenFrame

abbrev pub nothing_back : Back
nothing_back = record {
  code = Plain (Int (pos 0));
  whole = Plain (Int (pos 0));
  half = Plain (Int (pos 0));
  stk = None;
  open_calls = [];
}

pub record Shown : Type 0 where
  pub event : OutLine
  pub went : Option Went
  pub back : Option Back

abbrev pub left_shown : OutLine → Back → List Shown
left_shown e b = record { event = e; went = None; back = Some b } ∷ []

-- what the meaning says of it, whatever was wiped
abbrev pub shown_of : marked.Event OWord Back → Shown
shown_of (marked.Calls part site base low x y xs) = record {
  event = call_out part site (map plain_arg xs);
  went = Some (record { base = base; first = x; second = y; args = xs });
  back = None;
}
shown_of (marked.Leaves part v low e) =
    record { event = leave_out part (arg.Int v); went = None; back = Some e }

abbrev pub events_of : Report OWord Back → List Shown
events_of t = map shown_of t.events

-- ---- of states

abbrev pub arg_shown : Option ℤ → OWord → Arg OWord
arg_shown (Some z) w = Number z
arg_shown None w = OfPair (Some w)

abbrev pub words_of : OState → List OWord
words_of q = q.maps.regs.a0 ∷ q.maps.regs.a1 ∷ q.maps.regs.a2 ∷ q.maps.regs.a3 ∷ []

abbrev pub no_words : List OWord
no_words = Plain (Int (pos 0)) ∷ Plain (Int (pos 0)) ∷ Plain (Int (pos 0)) ∷ Plain (Int (pos 0)) ∷ []

-- the half of a pair that was opened, by its other half and by its content
abbrev pub handed : OWord → OWord → OWord
handed (Plain (Sealed n x)) (Plain (Mem c)) = Plain (Sealed n (MemIn c))
handed (Plain (Sealed n x)) (Plain (Seal c)) = Plain (Sealed n (SealIn c))
handed w v = Plain (Int (pos 0))

-- by which pair, and with which stack and which calls open, it has left
abbrev pub left_with : OState → Back
left_with q = record {
  code = q.maps.regs.rcode;
  whole = handed q.maps.regs.rcode q.maps.regs.dat;
  half = q.maps.regs.rdata;
  stk = Some q.maps.regs.stk;
  open_calls = q.frames;
}

module _ (l : Layout) where
  -- what is given back by a procedure that is entered here: the pair, of which a linear half is spent, and
  -- the whole stack, if one is handed over; and the calls that are open then are those that are open now
  abbrev pub back_here : OState → Back
  back_here q = record {
    code = q.maps.regs.rcode;
    whole = q.maps.regs.rdata;
    half = left_of look Plain q.maps.regs.rdata;
    stk = option_map (λ (c : CapFields). Plain (Mem (stack_cap l.stack.base c.end c.end)))
        (own_stack l q.maps);
    open_calls = q.frames;
  }

  abbrev pub args_shown : OState → List (Arg OWord)
  args_shown q =
      arg_shown (integer_in (args_of (flat_view l q)).a0) q.maps.regs.a0
      ∷ arg_shown (integer_in (args_of (flat_view l q)).a1) q.maps.regs.a1
      ∷ arg_shown (integer_in (args_of (flat_view l q)).a2) q.maps.regs.a2
      ∷ arg_shown (integer_in (args_of (flat_view l q)).a3) q.maps.regs.a3 ∷ []

  abbrev pub call_shown : OState → ℕ → ℕ → Shown
  call_shown q i base = record {
    event = call_out (part_name l (site_of l i).part) (site_of l i).index (map plain_arg (args_shown q));
    went = Some (record {
      base = base;
      first = Some q.maps.regs.c1;
      second = Some q.maps.regs.c2;
      args = args_shown q;
    });
    back = None;
  }

  abbrev pub event_outs : OState → Option Event → List Shown
  event_outs q None = []
  event_outs q (Some (Called true i base last)) = []
  event_outs q (Some (Called false i base last)) = call_shown q i base ∷ []
  event_outs q (Some (Returned inward i base last)) = []
  event_outs q (Some (Entered part k back)) = []
  event_outs q (Some (Left part)) =
      left_shown (leave_out (part_name l part) (out_arg (integer_in ((flat_view l q).reg A0))))
      (left_with q)

  -- an item, with the words where it is an entry
  abbrev pub thing_of : OState → Item → Thing OWord Back
  thing_of q (Enter part name left ints pairs back) =
      record { item = Enter part name left ints pairs back; words = words_of q; entry = back_here q }
  thing_of q (Ret part site base v) =
      record { item = Ret part site base v; words = no_words; entry = nothing_back }

  abbrev pub event_items : OState → Option Event → List (Thing OWord Back)
  event_items q e = map (thing_of q) (lines.event_items l (flat_view l q) e)

-- ---- runs

pub record Trace : Type 0 where
  pub out : List Shown
  pub items : List (Thing OWord Back)
  pub weight : ℕ
  pub final : Final

abbrev pub shown : List Shown → List (Thing OWord Back) → ℕ → Trace → Trace
shown es is n t =
    record { out = es ++ t.out; items = is ++ t.items; weight = n + t.weight; final = t.final }

abbrev pub rests : ℕ → Final → Trace
rests n f = record { out = []; items = []; weight = n; final = f }

module _ (l : Layout) where
  abbrev pub standing : Bool → Trace
  standing true = rests 0 Running
  standing false = rests 0 Outside

  abbrev pub ended : Bool → ℕ → Final → Trace
  ended true n f = rests n f
  ended false n f = rests 0 Outside

  abbrev pub show : OState → Ending → (OState → Trace) → Trace
  show o (goes q) rest =
      shown (event_outs l q (step_event l o q)) (event_items l q (step_event l o q))
      (weighed (is_inside l o) (weight_of l o)) (rest q)
  show o halts rest = ended (is_inside l o) (weight_of l o) (HaltedWith ((flat_view l o).reg A0))
  show o fails rest = ended (is_inside l o) (weight_of l o) Failed

  -- of so many steps
  unfoldable pub trace : ℕ → OState → Trace
  trace zero o = standing (is_inside l o)
  trace (suc n) o = show o (overlay_step l o) (trace n)
