-- Properties of words that no instruction breaks.
use Rattle.std.specs.Prelude.{◌≡◌, ℕ, ◌+◌, ℤ, Bool, true, false, IsTrue, Some}
use Rattle.cap_words.specs.declared.Word.{Word}
use Rattle.cap_words.specs.declared.Word.TheVariants.{Int, Mem, Seal, Sealed}
use Rattle.cap_words.specs.declared.Sealable.TheVariants.{Mem as MemIn, Seal as SealIn}
use Rattle.cap_words.specs.declared.CapFields.{CapFields}
use Rattle.cap_words.specs.declared.SealFields.{SealFields}
use Rattle.cap_words.specs.declared.Perm.{Perm}
use Rattle.cap_words.specs.declared.Opened.{Opened}
use Rattle.cap_words.specs.Faces.{is_below, can_split, same_kind, seals_at, address}
use Rattle.lcm_isa.specs.declared.Reg.{Reg}
use Rattle.lcm_isa.specs.declared.Reg.TheVariants.{Pc}
use Rattle.lcm_isa.specs.declared.Instr.{Instr}
use Rattle.lcm_isa.specs.declared.Instr.TheVariants.{Xjmp}
use Rattle.lcm_machine.specs.Maps.{State}
use Rattle.lcm_machine.specs.Places.{reg}
use Rattle.lcm_machine.specs.Cells.{cell}
use Rattle.lcm_machine.specs.Table.{memory_content, unsealed}
use Rattle.lcm_machine.specs.Row.{faces, cell_faces, opens, fetch, some, step_of}
use Rattle.lcm_machine.specs.Touched.{cell_used}
use Rattle.lcm_machine.specs.Ends.{After}

-- A property of words is closed where each word that an instruction makes of words with it has it: integers,
-- capabilities with another address or a lower permission, pieces of a split, what a splice joins, and what
-- is sealed. What `xjmp` opens stands apart.
pub record Closed {W : Type 0} (look : W → Word) (plain : Word → W) (S : W → Type 0) : Type 0 where
  pub ints : (z : ℤ) → S (plain (Int z))
  pub moved : (w : W) (c : CapFields) (z : ℤ)
      → look w ≡ Mem c → S w → S (plain (Mem (record c { addr = z })))
  pub lessened : (w : W) (c : CapFields) (p : Perm)
      → look w ≡ Mem c → is_below p c.perm ≡ true → S w → S (plain (Mem (record c { perm = p })))
  pub turned : (w : W) (c : SealFields) (z : ℤ)
      → look w ≡ Seal c → S w → S (plain (Seal (record c { cur = z })))
  pub cut_low : (w : W) (c : CapFields) (z : ℤ)
      → look w ≡ Mem c → can_split c z ≡ true → S w → S (plain (Mem (record c { end = address z })))
  pub cut_high : (w : W) (c : CapFields) (z : ℤ)
      → look w ≡ Mem c → can_split c z ≡ true → S w → S (plain (Mem (record c { base = address z + 1 })))
  pub joined : (u v : W) (a b : CapFields)
      → look u ≡ Mem a → look v ≡ Mem b → same_kind a b ≡ true → a.end + 1 ≡ b.base
      → S u → S v → S (plain (Mem (record b { base = a.base })))
  pub sealed_memory : (u v : W) (c : CapFields) (q : SealFields)
      → look u ≡ Mem c → look v ≡ Seal q → seals_at q q.cur ≡ true
      → S u → S v → S (plain (Sealed (address q.cur) (MemIn c)))
  pub sealed_seals : (u v : W) (c q : SealFields)
      → look u ≡ Seal c → look v ≡ Seal q → seals_at q q.cur ≡ true
      → S u → S v → S (plain (Sealed (address q.cur) (SealIn c)))

-- all words of a state have it, but for those of cells that are set apart, as a trusted part's code
abbrev pub AllAre : {W : Type 0} → (W → Type 0) → (ℕ → Type 0) → State W → Type 0
AllAre {W} S Q s =
    ((r : Reg) → S (reg s.regs r)) × ((a : ℕ) (w : W) → Q a → cell s.cells a ≡ Some w → S w)

-- what an instruction opens has it; `xjmp` alone opens words
abbrev pub OpensTo : {W : Type 0} → (W → Word) → (Word → W) → (W → Type 0) → State W → Instr → Type 0
OpensTo look plain S s (Xjmp r1 r2) =
    (code data_half : Opened) (c : CapFields)
    → opens look s r1 ≡ Some code → opens look s r2 ≡ Some data_half → code.seal ≡ data_half.seal
    → memory_content code.content ≡ Some c
    → S (plain (Mem c)) × S (plain (unsealed data_half.content))
OpensTo look plain S s _ = Unit {0}

-- the instruction that pc names opens words with it alone, and uses no cell that is set apart
abbrev pub StepsWithin : {W : Type 0} → (W → Word) → (Word → W) → (W → Type 0) → (ℕ → Type 0)
    → State W → Type 0
StepsWithin look plain S Q s =
    (i : Instr) (next : Word) → fetch (faces look s Pc) (cell_faces look s) ≡ some i next
    → OpensTo look plain S s i × ((a : ℕ) → cell_used i (faces look s) (cell_faces look s) ≡ Some a → Q a)

-- a step keeps a closed property, said of properties that are tests
abbrev pub StepsKeepClosed : {W : Type 0} → (W → Word) → (Word → W) → Type 0
StepsKeepClosed {W} look plain =
    (test : W → Bool) (apart : ℕ → Bool) (s : State W)
    → let S : W → Type 0 = λ w. IsTrue (test w) in
    let Q : ℕ → Type 0 = λ a. apart a ≡ false in
    Closed look plain S → AllAre S Q s → StepsWithin look plain S Q s
    → After (AllAre S Q) (step_of look plain s)
