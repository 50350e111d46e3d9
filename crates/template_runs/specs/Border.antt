-- What code outside can see at the point where trusted code lets go of control: all registers, and the cells
-- that are neither code nor data of a trusted part.
use Rattle.std.specs.Prelude.{◌≡◌, ◌⊎◌, ℕ, ◌+◌, ◌-◌, ◌≤◌, pos, false, List, ◌∷◌, Option, Some, None, IsSome}
use Rattle.cap_words.specs.declared.Word.TheVariants.{Int, Mem, Sealed}
use Rattle.cap_words.specs.declared.CapFields.{CapFields}
use Rattle.cap_words.specs.declared.Content.{Content}
use Rattle.cap_words.specs.declared.Content.TheVariants.{Mem as MemC, Seal as SealC}
use Rattle.cap_words.specs.declared.Sealable.{Sealable}
use Rattle.cap_words.specs.declared.Sealable.TheVariants.{Mem as MemIn, Seal as SealIn}
use Rattle.cap_words.specs.Linear.{left_of}
use Rattle.lcm_machine.specs.Cells.{cell}
use Rattle.lcm_machine.specs.Table.{unsealed}
use Rattle.call_sequence.specs.SequenceRuns.{IsOutsideRange, stack_cap}
use Rattle.trusted_border.specs.declared.layout.Layout.{Layout}
use Rattle.trusted_border.specs.declared.events.Event.{Event}
use Rattle.trusted_border.specs.declared.events.Event.TheVariants.{Called, Left}
use Rattle.overlay_machine.specs.declared.words.OWord.{OWord}
use Rattle.overlay_machine.specs.declared.words.OWord.TheVariants.{Plain, RetCode, RetData}
use Rattle.overlay_machine.specs.Words.{look}
use Rattle.overlay_machine.specs.State.{OpenFrame, OState}
use Rattle.overlay_machine.specs.Step.{own_stack}
use Rattle.overlay_machine.specs.Events.{step_event}
use Rattle.overlay_machine.specs.Link.{Link}
use Rattle.template_runs.specs.Public.{IsFreeAt}

abbrev pub zero : OWord
zero = Plain (Int (pos 0))

abbrev pub content_of : Sealable → Content
content_of (MemIn c) = MemC c
content_of (SealIn s) = SealC s

-- ---- registers

-- the pair that was opened: the seal of both halves, the code and the data
pub record Opened : Type 0 where
  pub seal : ℕ
  pub code : CapFields
  pub half : Sealable

abbrev pub code_word : Opened → OWord
code_word d = Plain (Sealed d.seal (MemIn d.code))

abbrev pub half_word : Opened → OWord
half_word d = Plain (Sealed d.seal d.half)

-- After a call: the callee's pair in c1 and c2, and opened in pc and data; the pair of the call in rcode and
-- rdata; the stack below the frame in stk; integer 0 in t1, t2, g0, g1 and g2. The others, a0 to a3, are what
-- the call line tells.
pub record ShowsCall (l : Layout) (d : Opened) (f : OpenFrame) (q : OState) : Type 0 where
  pub older : List OpenFrame
  pub newest : q.frames ≡ f ∷ older
  pub pc : q.maps.regs.pc ≡ Plain (Mem d.code)
  pub dat : q.maps.regs.dat ≡ Plain (unsealed (content_of d.half))
  pub c1 : q.maps.regs.c1 ≡ code_word d
  pub c2 : q.maps.regs.c2 ≡ half_word d
  pub rcode : q.maps.regs.rcode ≡ RetCode f.site
  pub rdata : q.maps.regs.rdata ≡ RetData f.call
  pub stk : q.maps.regs.stk ≡ Plain (Mem (stack_cap l.stack.base (f.base - 1) (f.base - 1)))
  pub t1 : q.maps.regs.t1 ≡ zero
  pub t2 : q.maps.regs.t2 ≡ zero
  pub g0 : q.maps.regs.g0 ≡ zero
  pub g1 : q.maps.regs.g1 ≡ zero
  pub g2 : q.maps.regs.g2 ≡ zero

-- After a procedure's end: the pair of the return in rcode and rdata, where a linear half is spent, and
-- opened in pc and data; the whole stack that it was lent in stk; integer 0 in all others but a0, which the
-- leave line tells.
pub record ShowsLeave (l : Layout) (d : Opened) (top : ℕ) (q : OState) : Type 0 where
  pub pc : q.maps.regs.pc ≡ Plain (Mem d.code)
  pub dat : q.maps.regs.dat ≡ Plain (unsealed (content_of d.half))
  pub rcode : q.maps.regs.rcode ≡ code_word d
  pub rdata : q.maps.regs.rdata ≡ left_of look Plain (half_word d)
  pub stk : q.maps.regs.stk ≡ Plain (Mem (stack_cap l.stack.base top top))
  pub t1 : q.maps.regs.t1 ≡ zero
  pub t2 : q.maps.regs.t2 ≡ zero
  pub c1 : q.maps.regs.c1 ≡ zero
  pub c2 : q.maps.regs.c2 ≡ zero
  pub a1 : q.maps.regs.a1 ≡ zero
  pub a2 : q.maps.regs.a2 ≡ zero
  pub a3 : q.maps.regs.a3 ≡ zero
  pub g0 : q.maps.regs.g0 ≡ zero
  pub g1 : q.maps.regs.g1 ≡ zero
  pub g2 : q.maps.regs.g2 ≡ zero

-- what is shown, by the event of the step
pub data ShowsBy (l : Layout) (q : OState) : Event → Type 0 where
  by_call : (d : Opened) (f : OpenFrame) → ShowsCall l d f q → ShowsBy l q (Called false f.site f.base f.end)
  by_leave : (part : ℕ) (d : Opened) (top : ℕ) → ShowsLeave l d top q → ShowsBy l q (Left part)

-- ---- cells

-- Of two states: each cell that is there in the second, but those of trusted parts, is as in the first, or it
-- is a stack cell that holds 0. So it is of those that were in the frame of a call that is closed since.
abbrev pub IsTidied : Link → OState → OState → Type 0
IsTidied g o q =
    (a : ℕ) (w : OWord) → IsFreeAt g a → cell q.maps.cells a ≡ Some w
    → (cell o.maps.cells a ≡ Some w)
    ⊎ ((w ≡ zero) × (g.layout.stack.base ≤ a) × (a ≤ g.layout.stack.end))

-- And sharper: those from one on up to the end of the stack that is given away hold 0, and all others are as
-- they were.
pub record IsWipedFrom (g : Link) (low end : ℕ) (o q : OState) : Type 0 where
  pub wiped : (a : ℕ) (w : OWord) → low ≤ a → a ≤ end → cell q.maps.cells a ≡ Some w → w ≡ zero
  pub kept : (a : ℕ) (w : OWord) → IsFreeAt g a → IsOutsideRange a low end → cell q.maps.cells a ≡ Some w
      → cell o.maps.cells a ≡ Some w

-- where the wiped cells begin, up to an end: so many words above the stack's first one, or after the end
-- where none was wiped
abbrev pub low_at : ℕ → ℕ → Option ℕ → ℕ
low_at base end None = end + 1
low_at base end (Some n) = base + n

-- Of the state in which code outside ran last, and of one at which trusted code has let go: stk is the stack
-- up to an end, whose cells are all there. From the one on that is told of they hold 0, and all others are as
-- they were.
pub record Wiped (g : Link) (low : Option ℕ) (o q : OState) : Type 0 where
  pub end : ℕ
  pub stk : q.maps.regs.stk ≡ Plain (Mem (stack_cap g.layout.stack.base end end))
  pub within : end ≤ g.layout.stack.end
  pub there : (a : ℕ) → g.layout.stack.base ≤ a → a ≤ end → IsSome (cell q.maps.cells a)
  pub cells : IsWipedFrom g (low_at g.layout.stack.base end low) end o q

-- what is wanted of a step by which trusted code lets go of control: it is an event, and by that the
-- registers are told
abbrev pub Shows : Layout → OState → OState → Type 0
Shows l p q = (e : Event) × (step_event l p q ≡ Some e) × ShowsBy l q e

-- What a procedure that was entered in one state gives back where it leaves to another: the pair that came in
-- rcode and rdata, of which a linear half is spent, and the whole stack that came in stk.
pub record GivesBack (l : Layout) (o q : OState) : Type 0 where
  pub rcode : q.maps.regs.rcode ≡ o.maps.regs.rcode
  pub rdata : q.maps.regs.rdata ≡ left_of look Plain o.maps.regs.rdata
  pub stk : (c : CapFields) → own_stack l o.maps ≡ Some c
      → q.maps.regs.stk ≡ Plain (Mem (stack_cap l.stack.base c.end c.end))
