-- The machine's parts as an overlay, what the machine does to them, and what holds of them.
use Rattle.std.specs.Prelude.{◌≡◌, ◌≤◌, ◌<◌, ◌⊎◌, ℕ, zero, suc, ◌+◌, ◌-◌, List, [], ◌∷◌, length}
use Rattle.std.specs.Prelude.{if◌then◌else◌, Bool, is_some, IsTrue, pos, Option, Some, None}
use Rattle.cap_words.specs.declared.TheConstants.{LAST_PLACE}
use Rattle.cap_words.specs.declared.CapFields.{CapFields}
use Rattle.cap_words.specs.declared.Word.TheVariants.{Mem}
use Rattle.cap_words.specs.Linear.{zero_word}
use Rattle.lcm_isa.specs.declared.Reg.{Reg}
use Rattle.lcm_machine.specs.declared.cells.Span.{Span}
use Rattle.lcm_machine.specs.declared.Place.TheVariants.{R}
use Rattle.lcm_machine.specs.declared.plan.Effect.{Effect}
use Rattle.lcm_machine.specs.Maps.{State, Regs}
use Rattle.lcm_machine.specs.Cells.{cell, without}
use Rattle.lcm_machine.specs.Spans.{in_spans}
use Rattle.lcm_machine.specs.Runs.{code_cap}
use Rattle.lcm_machine.specs.Row.{perform, put}
use Rattle.trusted_border.specs.declared.layout.Layout.{Layout}
use Rattle.trusted_border.specs.declared.layout.SiteCode.{SiteCode}
use Rattle.frame_region.specs.Frames.{FrameSeen, sizes, older}
use Rattle.call_sequence.specs.declared.TheConstants.{CALL_WORDS, RETURN_WORDS, ENTRY_WORDS}
use Rattle.overlay_machine.specs.declared.words.OWord.{OWord}
use Rattle.overlay_machine.specs.declared.words.OWord.TheVariants.{Plain, RetCode, RetData}
use Rattle.overlay_machine.specs.declared.frames.Frame.{Frame}
use Rattle.overlay_machine.specs.declared.machine.Machine.{Machine}
use Rattle.overlay_machine.specs.declared.machine.Outcome.{Outcome}
use Rattle.overlay_machine.specs.declared.machine.Outcome.TheVariants.{Went, Halted, Failed}
use Rattle.overlay_machine.specs.Words.{look}
use Rattle.overlay_machine.specs.State.{OpenFrame, OState, Cells}
use Rattle.overlay_machine.specs.Step.{Ending, goes, halts, fails}
use Rattle.overlay_machine.specs.Moves.{opened, given, newest_items}

-- ---- as an overlay

-- a frame of the region is one of the overlay, its items the words from its base on
abbrev pub frame_seen : FrameSeen Frame OWord → OpenFrame
frame_seen f =
    record { call = f.head.call; site = f.head.site; base = f.head.base; end = f.head.end; words = f.items }

abbrev pub frames_of : List (FrameSeen Frame OWord) → List OpenFrame
frames_of [] = []
frames_of (f ∷ fs) = frame_seen f ∷ frames_of fs

abbrev pub overlay_of : Machine → OState
overlay_of m = record { maps = m.maps; frames = frames_of m.frames.frames; calls = m.calls }

-- ---- what holds of the parts

-- how many of n addresses from one on have cells
unfoldable pub here : Cells → ℕ → ℕ → ℕ
here m a zero = 0
here m a (suc n) = (if is_some (cell m a) then 1 else 0) + here m (a + 1) n

-- a frame has all its words, at least one, and lies in the stack above its lowest address, and in spans of
-- memory
pub record IsWhole (l : Layout) (spans : List Span) (f : FrameSeen Frame OWord) : Type 0 where
  pub words : length f.items ≡ f.size
  pub size : f.head.base + f.size ≡ f.head.end + 1
  pub some : 1 ≤ f.size
  pub below : f.head.end ≤ l.stack.end
  pub above : l.stack.base < f.head.base
  pub last : f.head.end ≤ LAST_PLACE
  pub spanned : (q : ℕ) → f.head.base ≤ q → q ≤ f.head.end → IsTrue (in_spans q spans)

abbrev pub AreWhole : Layout → List Span → List (FrameSeen Frame OWord) → Type 0
AreWhole l spans [] = Unit {0}
AreWhole l spans (f ∷ fs) = IsWhole l spans f × AreWhole l spans fs

-- each frame has a word for each of its addresses
abbrev pub AreFull : List (FrameSeen Frame OWord) → Type 0
AreFull [] = Unit {0}
AreFull (f ∷ fs) = (f.head.base + length f.items ≡ f.head.end + 1) × AreFull fs

-- an address that no frame has
abbrev pub IsUnframed : List (FrameSeen Frame OWord) → ℕ → Type 0
IsUnframed [] q = Unit {0}
IsUnframed (f ∷ fs) q = ((q < f.head.base) ⊎ (f.head.end < q)) × IsUnframed fs q

-- the cells of frames are not in memory, and no two frames have one address
abbrev pub AreOut : Cells → List (FrameSeen Frame OWord) → Type 0
AreOut m [] = Unit {0}
AreOut m (f ∷ fs) =
    ((q : ℕ) → f.head.base ≤ q → q ≤ f.head.end → (cell m q ≡ None) × IsUnframed fs q) × AreOut m fs

-- the numbers of calls fall from the newest frame on, and are below a count
abbrev pub Fall : ℕ → List (FrameSeen Frame OWord) → Type 0
Fall n [] = Unit {0}
Fall n (f ∷ fs) = (f.head.call < n) × Fall f.head.call fs

-- The room: the addresses of the stack above its lowest one that are in memory or in frames are no more than
-- those addresses, and so no more than the region has cells.
pub record FitsRegion (l : Layout) (m : Machine) : Type 0 where
  pub cells : l.stack.end - l.stack.base ≤ m.frames.cells
  pub kept : here m.maps.cells (l.stack.base + 1) (l.stack.end - l.stack.base) + sizes m.frames.frames
      ≤ l.stack.end - l.stack.base
  pub whole : AreWhole l m.maps.spans m.frames.frames
  pub out : AreOut m.maps.cells m.frames.frames
  pub calls : Fall m.calls m.frames.frames

-- ---- a call

-- the registers before the call's `xjmp`
abbrev pub at_jump : Regs OWord → ℕ → ℕ → SiteCode → CapFields → ℕ → Regs OWord
at_jump rs i k s c at = record rs {
  pc = Plain (Mem (code_cap s.base s.end (s.at + (CALL_WORDS - 1))));
  rcode = RetCode i;
  rdata = RetData k;
  stk = Plain (Mem (record c { end = at - 1; addr = pos (at - 1) }));
  t1 = zero_word Plain;
  t2 = zero_word Plain;
}

-- the machine after a call
abbrev pub jumping : Machine → ℕ → SiteCode → CapFields → ℕ → State OWord
jumping m i s c at =
    record m.maps { regs = at_jump m.maps.regs i m.calls s c at; cells = without m.maps.cells at c.end }

abbrev pub called : Machine → ℕ → SiteCode → CapFields → ℕ → Effect → Machine
called m i s c at e = record {
  maps = perform look Plain (jumping m i s c at) e;
  frames = record m.frames {
    frames = opened m.maps (record { call = m.calls; site = i; base = at; end = c.end }) ∷ m.frames.frames;
  };
  calls = m.calls + 1;
}

-- ---- an entry and a return

-- the registers after an entry
abbrev pub at_entry : Regs OWord → ℕ → CapFields → CapFields → Regs OWord
at_entry rs a p c = record rs {
  pc = Plain (Mem (record p { addr = pos (a + ENTRY_WORDS) }));
  stk = Plain (Mem (record c { addr = pos c.end }));
  t1 = zero_word Plain;
  t2 = zero_word Plain;
}

-- the registers after a return
abbrev pub at_return : Regs OWord → SiteCode → CapFields → Frame → Regs OWord
at_return rs s c f = record rs {
  pc = Plain (Mem (code_cap s.base s.end (s.at + (CALL_WORDS + RETURN_WORDS))));
  stk = Plain (Mem (record c { end = f.end; addr = pos f.base }));
  t1 = zero_word Plain;
  t2 = zero_word Plain;
}

-- the machine after a return
abbrev pub resuming : State OWord → SiteCode → CapFields → Frame → State OWord
resuming s code c f = record s { regs = at_return s.regs code c f }

abbrev pub returned : Machine → Reg → SiteCode → CapFields → Frame → Machine
returned m r2 s c f = record m {
  maps = resuming (given (put m.maps (R r2) (zero_word Plain)) f (newest_items m.frames.frames)) s c f;
  frames = record m.frames { frames = older m.frames.frames };
}

-- ---- what a step answers

-- the answer and the new machine are those of the ending; where it halts or fails the machine stays
abbrev pub Ends : Ending → Outcome → Machine → Machine → Type 0
Ends (goes o) r old new = (r ≡ Went) × (overlay_of new ≡ o)
Ends halts r old new = (r ≡ Halted) × (new ≡ old)
Ends fails r old new = (r ≡ Failed) × (new ≡ old)

-- ---- a look-up

-- the first head that passes a test
abbrev pub head_with : (Frame → Bool) → List (FrameSeen Frame OWord) → Option Frame
head_with p [] = None
head_with p (f ∷ fs) = if p f.head then Some f.head else head_with p fs
