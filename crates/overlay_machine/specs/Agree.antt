-- One overlay step against the plain instructions that it stands for, and what each kind of step needs.
use Rattle.std.specs.Prelude.{◌≡◌, ◌≢◌, ◌⊎◌, ℕ, ◌+◌, ◌<◌, ◌≤◌, ℤ, pos, List, ◌∷◌, length, Some, None, false}
use Rattle.std.specs.Prelude.{IsSome}
use Rattle.cap_words.specs.declared.TheConstants.{LAST_PLACE}
use Rattle.cap_words.specs.declared.CapFields.{CapFields}
use Rattle.cap_words.specs.declared.Opened.{Opened}
use Rattle.cap_words.specs.declared.Word.{Word}
use Rattle.cap_words.specs.declared.Word.TheVariants.{Mem}
use Rattle.cap_words.specs.Face.{face_of, opened_of, FaceInOrder}
use Rattle.cap_words.specs.Faces.{target_of}
use Rattle.cap_words.specs.Linear.{is_linear}
use Rattle.lcm_isa.specs.declared.Reg.{Reg}
use Rattle.lcm_isa.specs.declared.Reg.TheVariants.{Pc}
use Rattle.lcm_isa.specs.declared.Instr.{Instr}
use Rattle.lcm_isa.specs.declared.Instr.TheVariants.{Xjmp}
use Rattle.lcm_machine.specs.declared.Place.{Place}
use Rattle.lcm_machine.specs.declared.Place.TheVariants.{R}
use Rattle.lcm_machine.specs.Maps.{State}
use Rattle.lcm_machine.specs.Cells.{cell}
use Rattle.lcm_machine.specs.Places.{reg}
use Rattle.lcm_machine.specs.Mapped.{SameFaces}
use Rattle.lcm_machine.specs.Regions.{memory_of}
use Rattle.lcm_machine.specs.Row.{Outcome, went, halted, failed, faces, cell_faces, fetch, some, word_at}
use Rattle.lcm_machine.specs.Runs.{code_cap}
use Rattle.lcm_machine.specs.Table.{target}
use Rattle.call_sequence.specs.SequenceRuns.{stack_cap, IsOutsideRange, HasCall, HasReturn, HasEntry}
use Rattle.call_sequence.specs.declared.TheConstants.{CALL_WORDS}
use Rattle.trusted_border.specs.declared.layout.Layout.{Layout}
use Rattle.trusted_border.specs.declared.layout.SiteCode.{SiteCode}
use Rattle.trusted_border.specs.Layout.{site_code}
use Rattle.overlay_machine.specs.declared.words.OWord.{OWord}
use Rattle.overlay_machine.specs.declared.words.OWord.TheVariants.{Plain, RetCode, RetData}
use Rattle.overlay_machine.specs.declared.cases.Case.{Case}
use Rattle.overlay_machine.specs.declared.cases.Case.TheVariants.{Call, Entry, Back, Other}
use Rattle.overlay_machine.specs.Words.{look}
use Rattle.overlay_machine.specs.State.{OpenFrame, OState, Cells, word_of, framed, frame_of}
use Rattle.overlay_machine.specs.Step.{Ending, goes, halts, fails}
use Rattle.overlay_machine.specs.Flat.{flat, IsFlat}

-- ---- that they agree

-- each RetCode is of a site and each RetData of an open call: what they stand for looks to the table as they
-- do, also in frames
abbrev pub FramesLook : Layout → List OpenFrame → Type 0
FramesLook l fs = (a : ℕ) (w : OWord) → framed fs a ≡ Some w → face_of (flat l fs w) ≡ face_of (look w)

abbrev pub Looks : Layout → OState → Type 0
Looks l o = SameFaces look (λ w. w) (flat l o.frames) o.maps × FramesLook l o.frames

-- both go on, to an overlay and a plain state that have a property together, both halt, or both fail
abbrev pub EndAlike : (OState → State Word → Type 0) → Ending → Outcome Word → Type 0
EndAlike Good (goes o) (went t) = Good o t
EndAlike Good halts halted = Unit {0}
EndAlike Good fails (failed cause at) = Unit {0}
EndAlike Good _ _ = ⊥

-- the same, where the plain state is the overlay flattened, and each pair is met
abbrev pub EndsAgree : Layout → Ending → Outcome Word → Type 0
EndsAgree l e r = EndAlike (λ o t. IsFlat l o t × Looks l o) e r

-- ---- code that stands

-- a site's call and return stand in memory, in code that lies apart from the stack
pub record HasSite (l : Layout) (m : Cells) (s : SiteCode) : Type 0 where
  pub call : HasCall look m s.base s.end s.at s.seal
  pub back : HasReturn look m s.base s.end (s.at + CALL_WORDS) l.stack.base
  pub apart : (a : ℕ) → l.stack.base ≤ a → a ≤ l.stack.end → IsOutsideRange a s.base s.end

abbrev pub SitesStand : Layout → Cells → Type 0
SitesStand l m = (i : ℕ) (s : SiteCode) → site_code l i ≡ Some s → HasSite l m s

-- a word that is sealed under the seal of no site
abbrev pub IsForeign : Layout → Word → Type 0
IsForeign l w =
    (x : Opened) (i : ℕ) (s : SiteCode) → opened_of w ≡ Some x → site_code l i ≡ Some s → x.seal ≢ s.seal

-- ---- a call

-- a word that was there before call n: a RetData of it is of an earlier call
abbrev pub IsKnown : ℕ → OWord → Type 0
IsKnown n (Plain w) = Unit {0}
IsKnown n (RetCode i) = Unit {0}
IsKnown n (RetData k) = k < n

-- so are all words of an overlay
pub record AllKnown (o : OState) : Type 0 where
  pub places : (p : Place) (w : OWord) → word_at o.maps p ≡ Some w → IsKnown o.calls w
  pub frames : (a : ℕ) (w : OWord) → framed o.frames a ≡ Some w → IsKnown o.calls w

-- pc is at the first word of a site
pub record AtSite (l : Layout) (i : ℕ) (o : OState) : Type 0 where
  pub site : SiteCode
  pub is_site : site_code l i ≡ Some site
  pub sites : SitesStand l o.maps.cells
  pub pc : look o.maps.regs.pc ≡ Mem (code_cap site.base site.end site.at)
  -- stk is a linear rw capability from the stack's base on, over cells that are in memory, at any address
  pub end : ℕ
  pub to : ℤ
  pub stk : look o.maps.regs.stk ≡ Mem (record (stack_cap l.stack.base end 0) { addr = to })
  pub owned : (q : ℕ) → l.stack.base ≤ q → q ≤ end → IsSome (cell o.maps.cells q)
  pub in_stack : end ≤ l.stack.end
  pub small_stack : l.stack.end ≤ LAST_PLACE
  -- data isn't linear, and what c1 holds is foreign, unless it is a RetCode or RetData
  pub dat : is_linear (look o.maps.regs.dat) ≡ false
  pub foreign : (w : Word) → o.maps.regs.c1 ≡ Plain w → IsForeign l w
  -- what c2 holds doesn't begin where stk stands: no address is held twice
  pub apart : (d : CapFields) → memory_of (flat l o.frames o.maps.regs.c2) ≡ Some d
      → to ≡ pos d.base → l.stack.base ≤ d.base → d.base ≤ end → ⊥
  pub known : AllKnown o

-- ---- an entry

-- pc is at the first word of an entry
pub record AtEntry (l : Layout) (a : ℕ) (o : OState) : Type 0 where
  pub base : ℕ
  pub end : ℕ
  pub pc : look o.maps.regs.pc ≡ Mem (code_cap base end a)
  pub entry : HasEntry look o.maps.cells base end a l.stack.base
  pub small_stack : l.stack.base ≤ LAST_PLACE
  pub in_order : FaceInOrder (face_of (look o.maps.regs.stk))

-- ---- a return

-- a word that isn't the RetData of a call
abbrev pub IsOther : ℕ → OWord → Type 0
IsOther n (Plain w) = Unit {0}
IsOther n (RetCode i) = Unit {0}
IsOther n (RetData k) = k ≢ n

-- a frame lies in the stack above its base, its cells aren't in memory, and its first word is normal
pub record FrameSound (l : Layout) (m : Cells) (f : OpenFrame) : Type 0 where
  pub above : l.stack.base < f.base
  pub order : f.base ≤ f.end
  pub in_stack : f.end ≤ l.stack.end
  pub gone : (q : ℕ) → f.base ≤ q → q ≤ f.end → cell m q ≡ None
  pub first : Word
  pub rest : List OWord
  pub words : f.words ≡ Plain first ∷ rest
  pub normal : is_linear first ≡ false
  pub as_long : length rest + f.base ≡ f.end

-- an `xjmp` of two registers is fetched
pub record AtReturn (l : Layout) (r1 r2 : Reg) (o : OState) : Type 0 where
  pub next : Word
  pub fetched : fetch (faces look o.maps Pc) (cell_faces look o.maps) ≡ some (Xjmp r1 r2) next
  pub free : (a : ℕ) → target_of (faces look o.maps Pc) ≡ Some a → framed o.frames a ≡ None
  pub sites : SitesStand l o.maps.cells
  pub small_stack : l.stack.end ≤ LAST_PLACE
  pub small_base : l.stack.base ≤ LAST_PLACE
  pub in_order : FaceInOrder (face_of (look o.maps.regs.stk))
  -- its plain words are foreign, and two sites of one seal are one
  pub foreign : (r : Reg) (w : Word) → (r ≡ r1) ⊎ (r ≡ r2) → reg o.maps.regs r ≡ Plain w → IsForeign l w
  pub one_seal : (i j : ℕ) (s u : SiteCode) → site_code l i ≡ Some s → site_code l j ≡ Some u
      → s.seal ≡ u.seal → i ≡ j
  -- the newest frame is sound and apart from the others; a stk that reaches from the stack's base to a frame
  -- reaches to the newest
  pub frames : (f : OpenFrame) (fs : List OpenFrame) → o.frames ≡ f ∷ fs → FrameSound l o.maps.cells f
  pub apart : (f : OpenFrame) (fs : List OpenFrame) (a : ℕ) (w : OWord) → o.frames ≡ f ∷ fs
      → framed fs a ≡ Some w → word_of f a ≡ None
  pub newest : (k : ℕ) (f : OpenFrame) (c : CapFields) → frame_of o.frames k ≡ Some f
      → look o.maps.regs.stk ≡ Mem c → c.base ≡ l.stack.base → c.end + 1 ≡ f.base
      → (fs : List OpenFrame) × (o.frames ≡ f ∷ fs) × (k ≡ f.call)
  -- the RetData of r2 is nowhere else
  pub one_place : (k : ℕ) (p : Place) (w : OWord) → reg o.maps.regs r2 ≡ RetData k
      → word_at o.maps p ≡ Some w → p ≢ R r2 → IsOther k w
  pub in_frames : (k : ℕ) (a : ℕ) (w : OWord) → reg o.maps.regs r2 ≡ RetData k → framed o.frames a ≡ Some w
      → IsOther k w

-- ---- every other step

-- pc, and the load or store that it names, point into no frame
pub record FramesFree (o : OState) : Type 0 where
  pub at_pc : (a : ℕ) → target_of (faces look o.maps Pc) ≡ Some a → framed o.frames a ≡ None
  pub at_target : (i : Instr) (next : Word) (a : ℕ)
      → fetch (faces look o.maps Pc) (cell_faces look o.maps) ≡ some i next
      → target i (faces look o.maps) ≡ Some a → framed o.frames a ≡ None

-- what a step of each kind needs
abbrev pub ReadyFor : Layout → OState → Case → Type 0
ReadyFor l o (Call i) = AtSite l i o
ReadyFor l o (Entry a) = AtEntry l a o
ReadyFor l o (Back r1 r2) = AtReturn l r1 r2 o
ReadyFor l o Other = FramesFree o
