-- States of which the registers are known, and the words of some cells, and how they go on.
use Rattle.std.specs.Prelude.{◌≡◌, ℕ, zero, suc, ◌+◌, ◌-◌, ◌==◌, true, false, Bool, List, [], ◌∷◌, Option}
use Rattle.std.specs.Prelude.{Some, None, is_some, if◌then◌else◌, option_map, option_and_then, not}
use Rattle.std.specs.FinMap as maps
use Rattle.cap_words.specs.declared.Word.{Word}
use Rattle.cap_words.specs.declared.Face.{Face}
use Rattle.cap_words.specs.declared.CapFields.{CapFields}
use Rattle.cap_words.specs.Faces.{target_of, address}
use Rattle.cap_words.specs.Linear.{is_linear, zero_word}
use Rattle.lcm_isa.specs.declared.Reg.{Reg}
use Rattle.lcm_isa.specs.declared.Reg.TheVariants.{Pc}
use Rattle.lcm_isa.specs.declared.Instr.{Instr}
use Rattle.lcm_machine.specs.declared.Place.{Place}
use Rattle.lcm_machine.specs.declared.Place.TheVariants.{R, Cell}
use Rattle.lcm_machine.specs.declared.plan.Effect.{Effect}
use Rattle.lcm_machine.specs.declared.plan.Moved.{Moved}
use Rattle.lcm_machine.specs.Plan.{Plan, Goes}
use Rattle.lcm_machine.specs.Maps.{Regs, State}
use Rattle.lcm_machine.specs.Places.{reg, set_reg}
use Rattle.lcm_machine.specs.Cells.{cell}
use Rattle.lcm_machine.specs.Table.{plan, target}
use Rattle.lcm_machine.specs.Row.{faces, opens, look_face, face_there, fetch, Fetched, none, some, put}
use Rattle.lcm_machine.specs.Row.{perform}
use Rattle.trusted_border.specs.declared.layout.Layout.{Layout}
use Rattle.trusted_border.specs.declared.layout.SiteCode.{SiteCode}
use Rattle.trusted_border.specs.Layout.{trusted_at}
use Rattle.overlay_machine.specs.declared.words.OWord.{OWord}
use Rattle.overlay_machine.specs.declared.words.OWord.TheVariants.{Plain}
use Rattle.overlay_machine.specs.declared.cases.Case.{Case}
use Rattle.overlay_machine.specs.declared.cases.Case.TheVariants.{Entry, Other}
use Rattle.overlay_machine.specs.Words.{look}
use Rattle.overlay_machine.specs.State.{OpenFrame, OState, Cells}
use Rattle.overlay_machine.specs.Step.{Ending, goes, case_fetched, case_trusted, entry_step, at_call}
use Rattle.overlay_machine.specs.Step.{state_resumed, rest_words, overlay_step}
use Rattle.run_lines.specs.Cuts.{is_inside}

-- ---- what is known

-- the words that some cells had at one time
abbrev pub Known : Type 0
Known = ℕ → Option OWord

-- cells that were set, or taken away, since then, newest first
abbrev pub Changes : Type 0
Changes = List (ℕ × Option OWord)

-- the word of a cell now, where it is known
abbrev pub word_since : Known → Changes → ℕ → Option OWord
word_since k [] a = k a
word_since k (c ∷ cs) a = if a == c.0 then c.1 else word_since k cs a

-- memory has the words that are known
abbrev pub AreIn : Known → Changes → Cells → Type 0
AreIn k cs m = (a : ℕ) (w : OWord) → word_since k cs a ≡ Some w → cell m a ≡ Some w

-- the registers, and what is known of memory
pub record Partly : Type 0 where
  pub regs : Regs OWord
  pub changes : Changes

-- ---- a step of it: as the overlay makes it, where all that the step asks is known

-- the registers alone
abbrev pub blank : Regs OWord → State OWord
blank rs = record { regs = rs; cells = maps.empty; spans = [] }

module _ (k : Known) where
  -- words of places: read, set, and taken where they are linear
  abbrev pub known_word : Partly → Place → Option OWord
  known_word s (R r) = Some (reg s.regs r)
  known_word s (Cell a) = word_since k s.changes a

  abbrev pub set_place : Partly → Place → OWord → Partly
  set_place s (R r) w = record s { regs = set_reg s.regs r w }
  set_place s (Cell a) w = record s { changes = (a, Some w) ∷ s.changes }

  abbrev pub taken_from : Partly → Place → OWord → Partly
  taken_from s p w = if is_linear (look w) then set_place s p (zero_word Plain) else s

  -- an effect carried out
  abbrev pub moved : Partly → Option Moved → Option Partly
  moved s None = Some s
  moved s (Some m) = option_map (λ w. set_place (taken_from s m.from w) m.to w) (known_word s m.from)

  -- what an effect does beside moving a word: it sets registers alone
  abbrev pub others : Effect → State OWord → State OWord
  others e s = perform look Plain s (record e { moved = None })

  abbrev pub with_others : Effect → Partly → Partly
  with_others e s = record s { regs = (others e (blank s.regs)).regs }

  abbrev pub performed : Partly → Effect → Option Partly
  performed s e = option_map (with_others e) (moved s e.moved)

  abbrev pub face_since : Partly → ℕ → Option Face
  face_since s a = look_face look (word_since k s.changes a)

  -- an address, where one is named, is of a cell whose word is known
  abbrev pub knows : Partly → Option ℕ → Bool
  knows s None = true
  knows s (Some a) = is_some (word_since k s.changes a)

  -- by the plan of an instruction
  abbrev pub by_plan : Partly → Plan → Option Partly
  by_plan s (Goes e) = performed s e
  by_plan s _ = None

  abbrev pub target_in : Partly → Instr → Option ℕ
  target_in s i = target i (faces look (blank s.regs))

  abbrev pub known_plan : Partly → Instr → Word → Plan
  known_plan s i next =
      plan i (faces look (blank s.regs)) (opens look (blank s.regs))
      (face_there (face_since s) (target_in s i)) next

  abbrev pub by_fetched : Partly → Fetched → Option Partly
  by_fetched s (none f) = None
  by_fetched s (some i next) = if knows s (target_in s i) then by_plan s (known_plan s i next) else None

  -- by the end of an entry, which leaves memory
  abbrev pub by_ending : Partly → Ending → Option Partly
  by_ending s (goes q) = Some (record s { regs = q.maps.regs })
  by_ending s _ = None

  -- what is fetched, and so the case of the step
  abbrev pub fetched : Partly → Fetched
  fetched s = fetch (faces look (blank s.regs) Pc) (face_since s)

  abbrev pub at_blank : Partly → OState
  at_blank s = record { maps = blank s.regs; frames = []; calls = 0 }

  -- a call and a return are no such steps, but see below
  abbrev pub by_case : Layout → Partly → Case → Option Partly
  by_case l s Other = by_fetched s (fetched s)
  by_case l s (Entry a) = by_ending s (entry_step l a (at_blank s))
  by_case l s _ = None

  abbrev pub case_by : Layout → Partly → Case
  case_by l s =
      case_trusted l (trusted_at l (faces look (blank s.regs) Pc)) (case_fetched (blank s.regs) (fetched s))

  abbrev pub at_pc : Partly → Option ℕ
  at_pc s = target_of (faces look (blank s.regs) Pc)

  abbrev pub known_step : Layout → Partly → Option Partly
  known_step l s = if knows s (at_pc s) then by_case l s (case_by l s) else None

  -- that it is, or that it isn't
  abbrev pub is_or_not : Bool → Bool → Bool
  is_or_not b c = if b then c else not c

  -- so many of them, before and after each of which trusted code runs, or doesn't
  unfoldable pub known_run : Layout → Bool → ℕ → Partly → Option Partly
  known_run l b zero s = Some s
  known_run l b (suc n) s =
      option_and_then (λ t. if is_or_not b (is_inside l (at_blank t)) then known_run l b n t else None)
      (known_step l s)

  -- ---- a call and a return

  -- the words of so many cells from an address on, where all are known
  abbrev pub words_since : Changes → ℕ → ℕ → Option (List OWord)
  words_since cs a zero = Some []
  words_since cs a (suc n) =
      option_and_then (λ w. option_map (λ ws. w ∷ ws) (words_since cs (a + 1) n)) (word_since k cs a)

-- so many cells from an address on are taken away
abbrev pub gone : ℕ → ℕ → Changes → Changes
gone a zero cs = cs
gone a (suc n) cs = (a, None) ∷ gone (a + 1) n cs

-- words are put into the cells from an address on
abbrev pub restored : ℕ → List OWord → Changes → Changes
restored a [] cs = cs
restored a (w ∷ ws) cs = restored (a + 1) ws ((a, Some w) ∷ cs)

-- at the `xjmp` of a call of a site, the frame taken away; and after a return to it, the frame put back
abbrev pub at_xjmp : ℕ → SiteCode → CapFields → ℕ → ℕ → Partly → Partly
at_xjmp i e c n calls s = record {
  regs = (at_call i e c (record { maps = blank s.regs; frames = []; calls = calls })).regs;
  changes = gone (address c.addr) (suc n) s.changes;
}

abbrev pub behind_return : SiteCode → CapFields → OpenFrame → Reg → Partly → Partly
behind_return e c f r s = record {
  regs = (state_resumed e c f [] (put (blank s.regs) (R r) (zero_word Plain))
      (record { maps = blank s.regs; frames = []; calls = 0 })).maps.regs;
  changes = restored f.base (zero_word Plain ∷ rest_words f.words) s.changes;
}

-- ---- a stretch of a run in which trusted code runs at each state, or at none

pub data Stays (l : Layout) (b : Bool) : OState → OState → Type 0 where
  here : {o : OState} → is_inside l o ≡ b → Stays l b o o
  on : {o p q : OState} → is_inside l o ≡ b → overlay_step l o ≡ goes p → Stays l b p q → Stays l b o q
