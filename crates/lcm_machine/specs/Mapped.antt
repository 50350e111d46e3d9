-- Two states over words of different kinds, of which one is the other with each word mapped; and that the
-- machine can't tell them apart.
use Rattle.std.specs.Prelude.{◌≡◌, ℕ, Option, Some, None}
use Rattle.cap_words.specs.declared.Word.{Word}
use Rattle.cap_words.specs.Face.{face_of, opened_of}
use Rattle.cap_words.specs.Faces.{target_of}
use Rattle.lcm_isa.specs.declared.Reg.{Reg}
use Rattle.lcm_isa.specs.declared.Reg.TheVariants.{Pc}
use Rattle.lcm_isa.specs.declared.Instr.{Instr}
use Rattle.lcm_isa.specs.declared.Instr.TheVariants.{Xjmp}
use Rattle.lcm_machine.specs.declared.Place.{Place}
use Rattle.lcm_machine.specs.Maps.{State}
use Rattle.lcm_machine.specs.Places.{reg}
use Rattle.lcm_machine.specs.Cells.{cell}
use Rattle.lcm_machine.specs.Table.{target}
use Rattle.lcm_machine.specs.Row.{word_at, faces, cell_faces, fetch, some, Outcome, went, halted, failed, row}
use Rattle.lcm_machine.specs.Row.{step_of}

-- the mapped word of a cell, and where there is no cell what lies beside
abbrev pub mapped_or : {W V : Type 0} → (W → V) → Option W → Option V → Option V
mapped_or f None beside = beside
mapped_or f (Some w) beside = Some (f w)

-- `t` has the registers, cells and spans of `s`, each word mapped, and further cells beside where `s` has
-- none
pub record IsMapped {W V : Type 0} (f : W → V) (beside : ℕ → Option V) (s : State W) (t : State V)
    : Type 0 where
  pub regs : (r : Reg) → reg t.regs r ≡ f (reg s.regs r)
  pub cells : (a : ℕ) → cell t.cells a ≡ mapped_or f (cell s.cells a) (beside a)
  pub spans : t.spans ≡ s.spans

-- a word that an instruction makes is mapped to that word
abbrev pub KeepsPlain : {W V : Type 0} → (Word → W) → (Word → V) → (W → V) → Type 0
KeepsPlain plain plain' f = (x : Word) → f (plain x) ≡ plain' x

-- the words of the state have the faces of those that they are mapped to
abbrev pub SameFaces : {W V : Type 0} → (W → Word) → (V → Word) → (W → V) → State W → Type 0
SameFaces {W} look look' f s =
    (p : Place) (w : W) → word_at s p ≡ Some w → face_of (look' (f w)) ≡ face_of (look w)

-- the words that an instruction opens have the same content as those that they are mapped to; `xjmp` alone
-- opens words
abbrev pub SameContents : {W V : Type 0} → (W → Word) → (V → Word) → (W → V)
    → State W → Instr → Type 0
SameContents look look' f s (Xjmp r1 r2) =
    (opened_of (look' (f (reg s.regs r1))) ≡ opened_of (look (reg s.regs r1)))
    × (opened_of (look' (f (reg s.regs r2))) ≡ opened_of (look (reg s.regs r2)))
SameContents look look' f s _ = Unit {0}

-- an address, where one is named, is that of no cell beside
abbrev pub IsFree : {V : Type 0} → (ℕ → Option V) → Option ℕ → Type 0
IsFree beside at = (a : ℕ) → at ≡ Some a → beside a ≡ None

-- the two end alike, and where they go on the new state is again the mapped one
abbrev pub EndsMapped : {W V : Type 0} → (W → Word) → (V → Word) → (W → V) → (ℕ → Option V)
    → Outcome W → Outcome V → Type 0
EndsMapped look look' f beside (went s) (went t) = IsMapped f beside s t × SameFaces look look' f s
EndsMapped look look' f beside halted halted = Unit {0}
EndsMapped look look' f beside (failed c at) (failed d to) = (c ≡ d) × (at ≡ to)
EndsMapped look look' f beside _ _ = ⊥

-- an instruction does the same on the mapped state
abbrev pub RowCommutes : {W V : Type 0} → (W → Word) → (Word → W) → (V → Word) → (Word → V)
    → Type 0
RowCommutes {W} {V} look plain look' plain' =
    (f : W → V) (beside : ℕ → Option V) (s : State W) (t : State V) (i : Instr) (next : Word)
    → KeepsPlain plain plain' f → IsMapped f beside s t → SameFaces look look' f s
    → SameContents look look' f s i → IsFree beside (target i (faces look s))
    → EndsMapped look look' f beside (row look plain i next s) (row look' plain' i next t)

-- pc names the same instruction in the mapped state
abbrev pub FetchCommutes : {W V : Type 0} → (W → Word) → (V → Word) → Type 0
FetchCommutes {W} {V} look look' =
    (f : W → V) (beside : ℕ → Option V) (s : State W) (t : State V)
    → IsMapped f beside s t → SameFaces look look' f s → IsFree beside (target_of (faces look s Pc))
    → fetch (faces look' t Pc) (cell_faces look' t) ≡ fetch (faces look s Pc) (cell_faces look s)

-- a whole step does the same on the mapped state
abbrev pub StepCommutes : {W V : Type 0} → (W → Word) → (Word → W) → (V → Word) → (Word → V)
    → Type 0
StepCommutes {W} {V} look plain look' plain' =
    (f : W → V) (beside : ℕ → Option V) (s : State W) (t : State V)
    → KeepsPlain plain plain' f → IsMapped f beside s t → SameFaces look look' f s
    → IsFree beside (target_of (faces look s Pc))
    → ((i : Instr) (next : Word) → fetch (faces look s Pc) (cell_faces look s) ≡ some i next
    → SameContents look look' f s i × IsFree beside (target i (faces look s)))
    → EndsMapped look look' f beside (step_of look plain s) (step_of look' plain' t)
