-- That the theorem of sources speaks of something: a linked start of a module, beside a part that isn't
-- trusted, whose run enters a procedure of the module, which calls out, is answered, and leaves.
use Rattle.std.specs.Prelude.{◌≡◌, ℕ, ◌+◌, ℤ, false, List, [], ◌∷◌, Some}
use Rattle.std.specs.List.{Contains}
use Rattle.cap_words.specs.declared.Word.{Word}
use Rattle.cap_words.specs.declared.Word.TheVariants.{Int}
use Rattle.call_sequence.specs.declared.TheConstants.{SITE_WORDS}
use Rattle.linked_starts.specs.Parts.{PartSeen}
use Rattle.overlay_machine.specs.State.{OState}
use Rattle.run_lines.specs.Layout.{layout}
use Rattle.run_lines.specs.Lines.{Args, call, ret, enter, leave}
use Rattle.run_lines.specs.Feed.{integers_in, outs_of, items_of}
use Rattle.run_lines.specs.Runs.{written}
use Rattle.run_lines.specs.Cuts.{Matched}
use Rattle.source_events.specs.declared.FeedBack.TheVariants as back
use Rattle.source_events.specs.declared.FeedPair.TheVariants.{Nothing}
use Rattle.source_events.specs.declared.Item.TheVariants.{Enter, Ret}
use Rattle.source_events.specs.declared.OutArg.{OutArg}
use Rattle.source_events.specs.declared.OutArg.TheVariants as arg
use Rattle.source_events.specs.declared.End.TheVariants.{Waiting}
use Rattle.source_events.specs.Outs.{OutLine, call_out, leave_out}
use Rattle.source_laws.specs.Sources.{MeaningEnds}
use Rattle.source_starts.specs.Sources.{LinkedSources, world_of}
use Rattle.source_starts.specs.RunMeans.{runs_trusted}

pub record SourceThere : Type 0 where
  pub sources : LinkedSources
  pub other : PartSeen
  pub other_in : Contains sources.parts other
  pub untrusted : other.trusted ≡ false
  -- after so many instructions the plain run stands at a matched point, in code that isn't trusted
  pub steps : ℕ
  pub steps_are : steps ≡ SITE_WORDS + 67
  pub overlay : OState
  pub matched : Matched sources.start steps overlay
  pub outside : runs_trusted sources.start steps ≡ false
  -- it has written that a procedure is entered from outside, that it calls out and is answered there, and
  -- that it leaves
  pub part : List ℕ
  pub name : List ℕ
  pub stk : Word
  pub args : Args
  pub site : ℕ
  pub base : ℕ
  pub last : ℕ
  pub given : Args
  pub words : List Word
  pub answer : ℤ
  pub result : ℤ
  pub lines : written sources.start steps
      ≡ enter part name stk args back.Out ∷ call false part site base last given words
      ∷ ret false part site base last (Int answer) words ∷ leave part (Int result) ∷ []
  -- by these lines this came in: the entry, with so many words of stack and no pairs, and the answer
  pub left : ℕ
  pub came : items_of (layout sources.start).stack.base (written sources.start steps)
      ≡ Enter part name (Some left) (integers_in args) (Nothing ∷ Nothing ∷ Nothing ∷ []) back.Out
      ∷ Ret part site base (Some answer) ∷ []
  -- and this went out: the call, with these arguments, and the leaving
  pub outs : List OutArg
  pub events : List OutLine
  pub events_are : events ≡ call_out part site outs ∷ leave_out part (arg.Int result) ∷ []
  pub went : outs_of (written sources.start steps) ≡ events
  -- what the modules mean by what came in is that so much goes out, and that they wait for more
  pub means : MeaningEnds (world_of sources) sources.size
      (items_of (layout sources.start).stack.base (written sources.start steps)) events Waiting
