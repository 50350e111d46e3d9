-- What a step does, part by part: the cells that it fetches, loads from, stores to and empties, and the seals
-- by which it seals and under which it jumps. And what the words of registers allow.
use Rattle.std.specs.Prelude.{◌≡◌, ℕ, ◌≤◌, Bool, true, Some}
use Rattle.cap_words.specs.declared.Word.{Word}
use Rattle.cap_words.specs.declared.Perm.{Perm}
use Rattle.cap_words.specs.declared.CapFields.{CapFields}
use Rattle.cap_words.specs.declared.SealFields.{SealFields}
use Rattle.cap_words.specs.declared.Opened.{Opened}
use Rattle.cap_words.specs.declared.Face.{Face}
use Rattle.cap_words.specs.declared.Face.TheVariants.{Memory, Seals}
use Rattle.cap_words.specs.Faces.{may_read, may_run, may_write, address}
use Rattle.cap_words.specs.Linear.{is_linear}
use Rattle.lcm_isa.specs.declared.Reg.{Reg}
use Rattle.lcm_isa.specs.declared.Reg.TheVariants.{Pc}
use Rattle.lcm_isa.specs.declared.Instr.{Instr}
use Rattle.lcm_isa.specs.declared.Instr.TheVariants.{Load, Store, Xjmp, Cseal}
use Rattle.lcm_machine.specs.Maps.{State}
use Rattle.lcm_machine.specs.Cells.{cell}
use Rattle.lcm_machine.specs.Row.{faces, cell_faces, opens, fetch, some, went, step_of}
use Rattle.lcm_machine.specs.Touched.{cell_fetched, cell_used}

-- the instruction that pc names
abbrev pub IsNext : {W : Type 0} → (W → Word) → State W → Instr → Type 0
IsNext look s i = (next : Word) × (fetch (faces look s Pc) (cell_faces look s) ≡ some i next)

abbrev pub GoesTo : {W : Type 0} → (W → Word) → (Word → W) → State W → State W → Type 0
GoesTo look plain s t = step_of look plain s ≡ went t

-- the cell that a step fetches
abbrev pub Fetches : {W : Type 0} → (W → Word) → State W → ℕ → Type 0
Fetches look s a = cell_fetched (faces look s Pc) (cell_faces look s) ≡ Some a

-- the cell that its instruction uses
abbrev pub Uses : {W : Type 0} → (W → Word) → State W → Instr → ℕ → Type 0
Uses look s i a = IsNext look s i × (cell_used i (faces look s) (cell_faces look s) ≡ Some a)

-- the cell that it loads from, also where the load then fails, since the word is linear and may not be taken
abbrev pub Loads : {W : Type 0} → (W → Word) → State W → ℕ → Type 0
Loads look s a = (r1 : Reg) × (r2 : Reg) × Uses look s (Load r1 r2) a

-- the cell that it stores to
abbrev pub Stores : {W : Type 0} → (W → Word) → State W → ℕ → Type 0
Stores look s a = (r1 : Reg) × (r2 : Reg) × Uses look s (Store r1 r2) a

-- the cell that it empties: a load takes a linear word out
abbrev pub EmptiesCell : {W : Type 0} → (W → Word) → (Word → W) → State W → ℕ → Type 0
EmptiesCell {W} look plain s a =
    Loads look s a × (w : W) × (cell s.cells a ≡ Some w) × (is_linear (look w) ≡ true)
    × (t : State W) × GoesTo look plain s t

-- the seal by which it seals
abbrev pub SealsBy : {W : Type 0} → (W → Word) → (Word → W) → State W → ℕ → Type 0
SealsBy {W} look plain s n =
    (r1 : Reg) × (r2 : Reg) × IsNext look s (Cseal r1 r2) × (q : SealFields) × (faces look s r2 ≡ Seals q)
    × (address q.cur ≡ n) × (t : State W) × GoesTo look plain s t

-- the seal under which it jumps
abbrev pub JumpsUnder : {W : Type 0} → (W → Word) → (Word → W) → State W → ℕ → Type 0
JumpsUnder {W} look plain s n =
    (r1 : Reg) × (r2 : Reg) × IsNext look s (Xjmp r1 r2) × (code : Opened) × (opens look s r1 ≡ Some code)
    × (code.seal ≡ n) × (t : State W) × GoesTo look plain s t

-- ---- what words allow

-- a word shows a memory capability over an address, whose permission allows it
abbrev pub Lets : (Perm → Bool) → Face → ℕ → Type 0
Lets may x a = (c : CapFields) × (x ≡ Memory c) × (may c.perm ≡ true) × (c.base ≤ a) × (a ≤ c.end)

-- the word of some register does
abbrev pub May : {W : Type 0} → (Perm → Bool) → (W → Word) → State W → ℕ → Type 0
May may look s a = (r : Reg) × Lets may (faces look s r) a

-- some register has a seal capability with a seal
abbrev pub MaySeal : {W : Type 0} → (W → Word) → State W → ℕ → Type 0
MaySeal look s n =
    (r : Reg) × (q : SealFields) × (faces look s r ≡ Seals q) × (q.base ≤ n) × (n ≤ q.end)

-- what a step does, it may
pub record DoesAsItMay {W : Type 0} (look : W → Word) (plain : Word → W) (s : State W) : Type 0 where
  pub fetches : (a : ℕ) → Fetches look s a → May may_run look s a
  pub loads : (a : ℕ) → Loads look s a → May may_read look s a
  pub stores : (a : ℕ) → Stores look s a → May may_write look s a
  pub empties : (a : ℕ) → EmptiesCell look plain s a → May may_write look s a
  pub seals : (n : ℕ) → SealsBy look plain s n → MaySeal look s n

-- a step changes no cell but those that it stores to or empties
abbrev pub ChangesNoOther : {W : Type 0} → (W → Word) → (Word → W) → State W → Type 0
ChangesNoOther {W} look plain s =
    (t : State W) (a : ℕ) → GoesTo look plain s t → ¬ (Stores look s a) → ¬ (EmptiesCell look plain s a)
    → cell t.cells a ≡ cell s.cells a

-- a step changes only cells that it may write
abbrev pub WritesWhereItMay : {W : Type 0} → (W → Word) → (Word → W) → State W → Type 0
WritesWhereItMay {W} look plain s =
    (t : State W) (a : ℕ) → GoesTo look plain s t → ¬ (May may_write look s a)
    → cell t.cells a ≡ cell s.cells a
