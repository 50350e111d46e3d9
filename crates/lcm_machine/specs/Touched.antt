-- The addresses that one step touches, and what a step leaves of memory.
use Rattle.std.specs.Prelude.{◌≡◌, ◌⊎◌, ℕ, zero, suc, Bool, ◌&&◌, Option, Some, None, is_some, if◌then◌else◌}
use Rattle.cap_words.specs.declared.Perm.{Perm}
use Rattle.cap_words.specs.declared.Word.{Word}
use Rattle.cap_words.specs.declared.Face.{Face}
use Rattle.cap_words.specs.declared.Face.TheVariants.{Memory}
use Rattle.cap_words.specs.Linear.{lin_is}
use Rattle.cap_words.specs.Faces.{may_read, may_run, may_write, target_of}
use Rattle.lcm_isa.specs.declared.Instr.{Instr}
use Rattle.lcm_isa.specs.declared.Instr.TheVariants.{Load, Store}
use Rattle.lcm_isa.specs.declared.Reg.{Reg}
use Rattle.lcm_isa.specs.declared.Reg.TheVariants.{Pc}
use Rattle.lcm_machine.specs.Maps.{State}
use Rattle.lcm_machine.specs.Cells.{cell, drop_cell}
use Rattle.lcm_machine.specs.Table.{is_pc}
use Rattle.lcm_machine.specs.Row.{faces, cell_faces, face_there, Fetched, none, some, fetch, went, step_of}
use Rattle.lcm_machine.specs.Runs.{run_of}
use Rattle.lcm_machine.specs.Ends.{After}

-- the address of the cell that a word leads to: that of a memory capability whose permission allows it, and
-- whose address is in its range and has a cell
abbrev pub reached : (Perm → Bool) → Face → (ℕ → Option Face) → Option ℕ
reached may (Memory c) cells =
    if may c.perm && is_some (face_there cells (target_of (Memory c))) then target_of (Memory c) else None
reached may _ cells = None

-- the cell that a step fetches: none where F1 or F2 comes first
abbrev pub cell_fetched : Face → (ℕ → Option Face) → Option ℕ
cell_fetched (Memory c) cells = if lin_is c.lin then None else reached may_run (Memory c) cells
cell_fetched _ cells = None

-- the cell that an instruction loads from or stores to: none where F5, F6, F7 or F8 comes first. A load that
-- fails by F10 has read the cell.
abbrev pub cell_used : Instr → (Reg → Face) → (ℕ → Option Face) → Option ℕ
cell_used (Store r1 r2) face cells = reached may_write (face r1) cells
cell_used (Load r1 r2) face cells = if is_pc r1 then None else reached may_read (face r2) cells
cell_used _ face cells = None

abbrev pub used_by : Fetched → (Reg → Face) → (ℕ → Option Face) → Option ℕ
used_by (none f) face cells = None
used_by (some i next) face cells = cell_used i face cells

-- an address that a step touches: the cell that it fetches, or the one that its instruction loads from or
-- stores to
abbrev pub Touches : {W : Type 0} → (W → Word) → State W → ℕ → Type 0
Touches look s a =
    (cell_fetched (faces look s Pc) (cell_faces look s) ≡ Some a)
    ⊎ (used_by (fetch (faces look s Pc) (cell_faces look s)) (faces look s) (cell_faces look s) ≡ Some a)

-- none of so many steps touches an address, as far as they go
abbrev pub Untouched : {W : Type 0} → (W → Word) → (Word → W) → ℕ → ℕ → State W → Type 0
Untouched look plain a zero s = Unit {0}
Untouched look plain a (suc n) s =
    ¬ (Touches look s a) × After (Untouched look plain a n) (step_of look plain s)

-- a run that goes without a cell doesn't touch it where it is there
abbrev pub RunsAreQuiet : {W : Type 0} → (W → Word) → (Word → W) → Type 0
RunsAreQuiet {W} look plain =
    (a n : ℕ) (s t : State W) → run_of look plain n (record s { cells = drop_cell s.cells a }) ≡ went t
    → Untouched look plain a n s

-- each cell that a step from the one state doesn't touch is in the other as it was
unfoldable pub KeepsUntouched : {W : Type 0} → (W → Word) → State W → State W → Type 0
KeepsUntouched look s t = (a : ℕ) → ¬ (Touches look s a) → cell t.cells a ≡ cell s.cells a

-- the spans stay, and so does which addresses have cells
unfoldable pub SameCells : {W : Type 0} → State W → State W → Type 0
SameCells s t = (t.spans ≡ s.spans) × ((a : ℕ) → is_some (cell t.cells a) ≡ is_some (cell s.cells a))
