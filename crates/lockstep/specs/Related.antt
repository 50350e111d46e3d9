-- What code outside of two runs has alike: words up to the names that it can't look into.
use Rattle.std.specs.Prelude.{◌≡◌, ◌≢◌, ◌⊎◌, ℕ, ◌↔◌, true, false, List, [], ◌∷◌, Option, Some, None}
use Rattle.std.specs.Prelude.{option_and_then}
use Rattle.std.specs.List.{Contains}
use Rattle.cap_words.specs.declared.Word.{Word}
use Rattle.cap_words.specs.declared.Word.TheVariants.{Sealed}
use Rattle.lcm_isa.specs.declared.Reg.{Reg}
use Rattle.lcm_isa.specs.declared.Reg.TheVariants.{Pc, Dat, A0}
use Rattle.lcm_machine.specs.Maps.{State}
use Rattle.lcm_machine.specs.Places.{reg}
use Rattle.lcm_machine.specs.Cells.{cell}
use Rattle.call_sequence.specs.Holds.{PcAt}
use Rattle.linked_starts.specs.Start.{Exported, code_half, data_half}
use Rattle.trusted_border.specs.declared.layout.Layout.{Layout}
use Rattle.trusted_border.specs.declared.events.Event.{Event}
use Rattle.trusted_border.specs.declared.events.Event.TheVariants.{Returned}
use Rattle.trusted_border.specs.Reaches.{closure_owner}
use Rattle.overlay_machine.specs.Events.{step_event, entered_event}
use Rattle.overlay_machine.specs.declared.words.OWord.{OWord}
use Rattle.overlay_machine.specs.declared.words.OWord.TheVariants.{Plain, RetCode, RetData}
use Rattle.overlay_machine.specs.Words.{look}
use Rattle.overlay_machine.specs.State.{OpenFrame, OState}
use Rattle.overlay_machine.specs.Step.{goes, halts, fails, overlay_step}
use Rattle.linked_starts.specs.Regions.{in_regions}
use Rattle.overlay_machine.specs.Link.{Link, IsTrusted, ranges_of, regions}
use Rattle.overlay_machine.specs.Linked.{IsLink}
use Rattle.overlay_machine.specs.Safe.{IsOpenSeal}
use Rattle.template_runs.specs.Runs.{is_inside}
use Rattle.template_runs.specs.Public.{IsFreeAt}
use Rattle.overlay_machine.specs.Invariant.{Invariant}

-- code outside runs
pub record StandsOutside (g : Link) (o : OState) : Type 0 where
  pub plain : State Word
  pub holds : Invariant g o plain
  pub outside : is_inside g.layout o ≡ false

-- an export of a trusted part
abbrev pub IsExport : Link → Exported → Type 0
IsExport g x = IsTrusted g x.part × Contains x.part.component.exports x.export

-- Two links with the same stack and the same seals of untrusted parts, in which no address of a trusted
-- part's own in the second is another's in the first. The exports and the sites of trusted parts go by names:
-- which of the one stands for which of the other.
pub record SameNames (g h : Link) : Type 0 where
  pub twins : List (Exported × Exported)
  pub sites : List (ℕ × ℕ)
  pub exports : (x y : Exported) → Contains twins (x, y) → IsExport g x × IsExport h y
  pub one_part : (x y u v : Exported) → Contains twins (x, y) → Contains twins (u, v)
      → (x.part ≡ u.part) ↔ (y.part ≡ v.part)
  pub one_site : (i j k m : ℕ) → Contains sites (i, j) → Contains sites (k, m) → (i ≡ k) ↔ (j ≡ m)
  pub free : (a : ℕ) → in_regions a (regions g) ≡ true → in_regions a (regions h) ≡ true → IsFreeAt g a
      → IsFreeAt h a
  pub seals : (n : ℕ) → IsOpenSeal g n ↔ IsOpenSeal h n
  pub stack : g.layout.stack.base ≡ h.layout.stack.base

-- the event of an entry, under the closure seal of an export's part
abbrev pub entered_at : Layout → Exported → OState → Option Event
entered_at l x q = option_and_then (entered_event l q) (closure_owner l x.part.component.closure)

-- calls of the one and of the other run that stand for each other: the first that went out, the second, ..
abbrev pub Calls : Type 0
Calls = List (ℕ × ℕ)

abbrev pub AreCalls : Calls → ℕ → ℕ → Type 0
AreCalls [] k m = ⊥
AreCalls (c ∷ cs) k m = ((k ≡ c.0) × (m ≡ c.1)) ⊎ AreCalls cs k m

abbrev pub OneToOne : Calls → Type 0
OneToOne cs = (k m i j : ℕ) → AreCalls cs k m → AreCalls cs i j → (k ≡ i) ↔ (m ≡ j)

-- a word that isn't sealed, or under a seal of untrusted code
abbrev pub IsOurs : Link → Word → Type 0
IsOurs g (Sealed n x) = IsOpenSeal g n
IsOurs g _ = Unit {0}

module _ (g h : Link) (names : SameNames g h) (cs : Calls) where
  pub data SameWord : OWord → OWord → Type 0 where
    ours : (w : Word) → IsOurs g w → SameWord (Plain w) (Plain w)
    code_halves : (x y : Exported) → Contains names.twins (x, y)
        → SameWord (Plain (code_half x)) (Plain (code_half y))
    data_halves : (x y : Exported) → Contains names.twins (x, y)
        → SameWord (Plain (data_half x)) (Plain (data_half y))
    ret_codes : (i j : ℕ) → Contains names.sites (i, j) → SameWord (RetCode i) (RetCode j)
    ret_datas : (k m : ℕ) → AreCalls cs k m → SameWord (RetData k) (RetData m)

module _ (Rel : OWord → OWord → Type 0) (Free : ℕ → Type 0) where
  abbrev pub CellPair : Option OWord → Option OWord → Type 0
  CellPair None v = Unit {0}
  CellPair (Some w) None = Unit {0}
  CellPair (Some w) (Some v) = Rel w v

  -- each register, and each cell that is free and there in both, of the one and of the other hold related
  -- words
  abbrev pub Twin : State OWord → State OWord → Type 0
  Twin s t = ((r : Reg) → Rel (reg s.regs r) (reg t.regs r))
      × ((a : ℕ) → Free a → CellPair (cell s.cells a) (cell t.cells a))

module _ (g h : Link) (names : SameNames g h) where
  -- both have a newest open call, and these stand for each other; or neither has one
  abbrev pub Newest : Calls → List OpenFrame → List OpenFrame → Type 0
  Newest cs [] [] = Unit {0}
  Newest cs [] (e ∷ es) = ⊥
  Newest cs (f ∷ fs) [] = ⊥
  Newest cs (f ∷ fs) (e ∷ es) = AreCalls cs f.call e.call × Contains names.sites (f.site, e.site)
      × (f.base ≡ e.base)

  -- code outside runs in both, and all that it can see is the same
  pub record Alike (cs : Calls) (q r : OState) : Type 0 where
    pub seen : Twin (SameWord g h names cs) (IsFreeAt g) q.maps r.maps
    pub newest : Newest cs q.frames r.frames

  -- it enters twins, with the same words in all registers but pc and data
  pub record EnterAlike (cs : Calls) (q q' r r' : OState) : Type 0 where
    pub one : Exported
    pub other : Exported
    pub twins : Contains names.twins (one, other)
    pub pc : PcAt look (ranges_of one.part) one.export.offset q'.maps.regs
    pub pc_other : PcAt look (ranges_of other.part) other.export.offset r'.maps.regs
    pub words : (d : Reg) → d ≢ Pc → d ≢ Dat → SameWord g h names cs (reg q'.maps.regs d) (reg r'.maps.regs d)
    pub frames : q'.frames ≡ q.frames
    pub frames_other : r'.frames ≡ r.frames
    pub event : step_event g.layout q q' ≡ entered_at g.layout one q'
    pub event_other : step_event h.layout r r' ≡ entered_at h.layout other r'

  -- or it returns to the newest call, with the same value
  pub record ReturnAlike (cs : Calls) (q q' r r' : OState) : Type 0 where
    pub frame : OpenFrame
    pub frame_other : OpenFrame
    pub frames : q.frames ≡ frame ∷ q'.frames
    pub frames_other : r.frames ≡ frame_other ∷ r'.frames
    pub calls : AreCalls cs frame.call frame_other.call
    pub sites : Contains names.sites (frame.site, frame_other.site)
    pub base : frame.base ≡ frame_other.base
    pub value : SameWord g h names cs (reg q'.maps.regs A0) (reg r'.maps.regs A0)
    pub event : step_event g.layout q q' ≡ Some (Returned false frame.site frame.base frame.end)
    pub event_other : step_event h.layout r r' ≡ Some
        (Returned false frame_other.site frame_other.base frame_other.end)

  abbrev pub ComesAlike : Calls → OState → OState → OState → OState → Type 0
  ComesAlike cs q q' r r' = EnterAlike cs q q' r r' ⊎ ReturnAlike cs q q' r r'

  -- what a step of code outside does in both
  pub data StepsAlike (cs : Calls) (q r : OState) : Type 0 where
    both_halt : overlay_step g.layout q ≡ halts → overlay_step h.layout r ≡ halts → StepsAlike cs q r
    both_fail : overlay_step g.layout q ≡ fails → overlay_step h.layout r ≡ fails → StepsAlike cs q r
    both_stay : (q' r' : OState) → overlay_step g.layout q ≡ goes q' → overlay_step h.layout r ≡ goes r'
        → is_inside g.layout q' ≡ false → is_inside h.layout r' ≡ false
        → step_event g.layout q q' ≡ None → step_event h.layout r r' ≡ None
        → Alike cs q' r' → StepsAlike cs q r
    both_come : (q' r' : OState) → overlay_step g.layout q ≡ goes q' → overlay_step h.layout r ≡ goes r'
        → is_inside g.layout q' ≡ true → is_inside h.layout r' ≡ true
        → ComesAlike cs q q' r r' → StepsAlike cs q r

  -- of two links: a step of code outside does the same in both, from states that are alike to it
  abbrev pub OutsideStepsAlike : Type 0
  OutsideStepsAlike =
      (cs : Calls) (q r : OState) → IsLink g → IsLink h → OneToOne cs → StandsOutside g q → StandsOutside h r
      → Alike cs q r → StepsAlike cs q r
