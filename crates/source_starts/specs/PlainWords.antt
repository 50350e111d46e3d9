-- The same of the plain machine: which words its registers hold after a call out.
use Rattle.std.specs.Prelude.{◌≡◌, ℕ, ◌≤◌, false, List, length, map, slice_get, Option, Some, None}
use Rattle.lcm_isa.specs.declared.Reg.{Reg}
use Rattle.lcm_machine.specs.Places.{reg}
use Rattle.lcm_machine.specs.Run.{plain}
use Rattle.linked_starts.specs.Started.{StartSeen}
use Rattle.trusted_border.specs.declared.layout.Layout.{Layout}
use Rattle.trusted_border.specs.declared.events.Event.TheVariants.{Called}
use Rattle.overlay_machine.specs.declared.words.OWord.{OWord}
use Rattle.overlay_machine.specs.State.{OState}
use Rattle.overlay_machine.specs.Step.{goes, overlay_step}
use Rattle.overlay_machine.specs.Events.{step_event}
use Rattle.overlay_machine.specs.Flat.{flat}
use Rattle.run_lines.specs.Layout.{layout}
use Rattle.run_lines.specs.Cuts.{Matched}
use Rattle.proc_language.specs.declared.module.ModuleFields.{ModuleFields}
use Rattle.proc_program.specs.Lower.{part_of}
use Rattle.proc_semantics.specs.Values.{World}
use Rattle.proc_semantics.specs.Marked.{Marks, Thing, Event, Calls, Arg, Whence, refined, arg_to}
use Rattle.source_laws.specs.Seen.{Back, Shown, args_shown}
use Rattle.source_laws.specs.Words.{RunTells, word_from, back_at}
use Rattle.source_starts.specs.Links.{Linking, first_state}
use Rattle.source_starts.specs.Sources.{LinkedSources}
use Rattle.source_starts.specs.Words.{slots_of}

-- An event of the refined meaning is this call: it tells its base, and whence the pair is and what the
-- arguments are; read as words, that is what the registers hold.
pub record CallTold (l : Layout) (q : OState) (base : ℕ) (word : Whence → OWord) (back : ℕ → Back)
    (e : Event Whence ℕ) : Type 0 where
  pub part : List ℕ
  pub site : ℕ
  pub low : Option ℕ
  pub first : Whence
  pub second : Whence
  pub args : List (Arg Whence)
  pub is : e ≡ Calls part site base low (Some first) (Some second) args
  pub first_is : word first ≡ q.maps.regs.c1
  pub second_is : word second ≡ q.maps.regs.c2
  pub args_are : map (arg_to word back) args ≡ args_shown l q

-- After a call out, before which so much had left and come: after so many instructions the plain machine's
-- registers are those words, flattened, and the event of that number is this call.
pub record PlainCallTold (marks : Marks OWord) (world : World) (stack : ℕ) (s : StartSeen) (es : List Shown)
    (is : List (Thing OWord Back)) (q : OState) (base : ℕ) : Type 0 where
  pub to : ℕ
  pub there : Matched s to q
  pub went : (plain to s.state).end ≡ None
  pub registers : (d : Reg)
      → reg (plain to s.state).maps.regs d ≡ flat (layout s) q.frames (reg q.maps.regs d)
  pub enough : ℕ
  pub told : (f : ℕ) → enough ≤ f → (e : Event Whence ℕ)
      × (slice_get (refined world stack (map (λ x. x.item) is) f).events (length es) ≡ Some e)
      × CallTold (layout s) q base (word_from marks is) (back_at is) e

-- of each call out of the sources of a start
abbrev pub PlainWordsTold : List ModuleFields → Linking → Type 0
PlainWordsTold modules a =
    (es : List Shown) (is : List (Thing OWord Back)) (p q : OState)
    → RunTells (layout a.start) (first_state a) es is p → overlay_step (layout a.start) p ≡ goes q
    → (i base last : ℕ) → step_event (layout a.start) p q ≡ Some (Called false i base last)
    → PlainCallTold (slots_of modules a) (map part_of modules) a.size a.start es is q base

abbrev pub PlainRunsTellWords : Type 0
PlainRunsTellWords = (a : LinkedSources) → PlainWordsTold a.modules a.link
