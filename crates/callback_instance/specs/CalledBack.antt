-- That a run is there in which the callback is called.
use Rattle.std.specs.Prelude.{◌≡◌, ℕ, ℤ, pos, List, [], ◌∷◌}
use Rattle.cap_words.specs.declared.Word.TheVariants.{Int}
use Rattle.linked_starts.specs.Started.{StartSeen}
use Rattle.trusted_border.specs.declared.layout.Layout.{Layout}
use Rattle.overlay_machine.specs.declared.words.OWord.TheVariants.{Plain}
use Rattle.overlay_machine.specs.State.{OpenFrame, OState}
use Rattle.overlay_machine.specs.Step.{halts, overlay_step}
use Rattle.overlay_machine.specs.Starting.{overlay_at}
use Rattle.run_lines.specs.Layout.{layout}
use Rattle.template_runs.specs.Border.{Opened, code_word, half_word, ShowsCall, ShowsLeave}
use Rattle.same_meanings.specs.Observed.{by_number}
use Rattle.source_starts.specs.Links.{overlay_link, first_state}
use Rattle.lockstep.specs.Lockstep.{Round, Path, InStep}
use Rattle.context_laws.specs.Sources.{NamesOf}
use Rattle.context_laws.specs.Meanings.{GoByNames, items_in}
use Rattle.context_instance.specs.Doubles.{LinksBeside, MainIsUntrusted}
use Rattle.callback_instance.specs.Passes.{asked, passes, stores}

-- by a round trusted code calls out by a pair, with a number
pub record CallsWith (l : Layout) (d : Opened) (z : ℤ) (r : Round) : Type 0 where
  pub frame : OpenFrame
  pub shown : ShowsCall l d frame r.after
  pub number : r.after.maps.regs.a0 ≡ Plain (Int z)

-- or it leaves to a pair, with a number
pub record LeavesWith (l : Layout) (d : Opened) (z : ℤ) (r : Round) : Type 0 where
  pub top : ℕ
  pub shown : ShowsLeave l d top r.after
  pub number : r.after.maps.regs.a0 ≡ Plain (Int z)

-- A run from a start, in which code outside comes in twice, by the items that were asked of: it enters f, and
-- the pair that it hands on in a1 and a2 is called with 6; it answers, and by the pair that it entered with
-- it is left to with 9; and then it halts.
pub record RunCallsBack (s : StartSeen) : Type 0 where
  pub steps : ℕ
  pub first : Round
  pub second : Round
  pub last : OState
  pub path : Path (layout s) steps (overlay_at s).state (first ∷ second ∷ []) last
  pub came : items_in (layout s) (first ∷ second ∷ []) last ≡ asked
  pub callback : Opened
  pub code : first.entered.maps.regs.a1 ≡ code_word callback
  pub half : first.entered.maps.regs.a2 ≡ half_word callback
  pub calls : CallsWith (layout s) callback (pos 6) first
  pub back : Opened
  pub back_code : first.entered.maps.regs.rcode ≡ code_word back
  pub back_half : first.entered.maps.regs.rdata ≡ half_word back
  pub leaves : LeavesWith (layout s) back (pos 9) second
  pub halted : overlay_step (layout s) last ≡ halts

-- In the link of the one module there is such a run, and in the link of the other one beside it a run in step
-- with it, in which the same items come in, and which halts too.
pub record PassersCallBack : Type 0 where
  pub there : LinksBeside passes stores
  pub main : MainIsUntrusted there
  pub one : RunCallsBack there.sources.start
  pub names : NamesOf there.sources.link there.sources_too.link
  pub by_names : GoByNames by_number names
  pub rounds : List Round
  pub last : OState
  pub path :
      Path (layout there.sources_too.start) one.steps (first_state there.sources_too.link) rounds last
  pub in_step : InStep (overlay_link there.sources.link) (overlay_link there.sources_too.link) names []
      (one.first ∷ one.second ∷ []) rounds one.last last
  pub came : items_in (layout there.sources_too.start) rounds last ≡ asked
  pub halted : overlay_step (layout there.sources_too.start) last ≡ halts
