-- What a kind says of a register's word, for words of any kind.
use Rattle.std.specs.Prelude.{◌≡◌, ℕ, ◌+◌, ◌≤◌, false, ℤ, length, Some}
use Rattle.std.specs.Ordering.{nat_cmp}
use Rattle.std.specs.FinMap.{FinMap}
use Rattle.cap_words.specs.declared.Word.{Word}
use Rattle.cap_words.specs.declared.Word.TheVariants.{Int, Mem}
use Rattle.cap_words.specs.declared.CapFields.{CapFields}
use Rattle.cap_words.specs.declared.Perm.TheVariants.{Rw}
use Rattle.cap_words.specs.declared.Lin.TheVariants.{Normal, Linear}
use Rattle.component_file.specs.declared.component.Kind.{Kind}
use Rattle.component_file.specs.declared.component.Kind.TheVariants as kind
use Rattle.lcm_isa.specs.declared.Reg.{Reg}
use Rattle.lcm_isa.specs.declared.Reg.TheVariants.{Pc}
use Rattle.lcm_machine.specs.Maps.{Regs}
use Rattle.lcm_machine.specs.Places.{reg}
use Rattle.lcm_machine.specs.Cells.{cell}
use Rattle.lcm_machine.specs.Runs.{code_cap}
use Rattle.lcm_machine.specs.Table.{is_pc}
use Rattle.call_sequence.specs.Kinds.{Row, kind_of}

-- where a part's code and data lie, and where the stack begins
pub record Ranges : Type 0 where
  pub code_base : ℕ
  pub code_last : ℕ
  pub data_base : ℕ
  pub data_last : ℕ
  pub stack_base : ℕ

abbrev pub data_cap : Ranges → ℤ → CapFields
data_cap part at = record { perm = Rw; lin = Normal; base = part.data_base; end = part.data_last; addr = at }

abbrev pub part_stack_cap : Ranges → ℕ → ℤ → CapFields
part_stack_cap part end at = record { perm = Rw; lin = Linear; base = part.stack_base; end = end; addr = at }

abbrev pub code_at : Ranges → ℕ → CapFields
code_at part o = code_cap part.code_base part.code_last (part.code_base + o)

-- the addresses of the stack up to one
abbrev pub Up : (ℕ → Type 0) → Ranges → ℕ → Type 0
Up Has part end = (part.stack_base ≤ end) × ((a : ℕ) → part.stack_base ≤ a → a ≤ end → Has a)

-- what a kind says of a word. `Safe` says of a word that untrusted code may hold it, and `Has` of an
-- address that it has a cell of the stack in memory
abbrev pub HasKind : {W : Type 0} → (W → Word) → (W → Type 0) → (ℕ → Type 0) → Ranges → Kind → W → Type 0
HasKind look Safe Has part kind.Any w = Safe w
HasKind look Safe Has part kind.Int w = (z : ℤ) × (look w ≡ Int z)
HasKind look Safe Has part kind.DataCap w = (at : ℤ) × (look w ≡ Mem (data_cap part at))
HasKind look Safe Has part kind.Stk w =
    (end : ℕ) × (at : ℤ) × (look w ≡ Mem (part_stack_cap part end at)) × Up Has part end
HasKind look Safe Has part (kind.Pc o) w = look w ≡ Mem (code_at part o)
HasKind look Safe Has part kind.Top w = Unit {0}

-- the registers but pc have the kinds of a row
pub record HasKinds {W : Type 0} (look : W → Word) (Safe : W → Type 0) (Has : ℕ → Type 0)
    (part : Ranges) (row : Row) (rs : Regs W) : Type 0 where
  pub long : length row ≡ 15
  pub each : (r : Reg) → is_pc r ≡ false → HasKind look Safe Has part (kind_of row r) (reg rs r)

-- pc is trusted, at an offset
abbrev pub PcAt : {W : Type 0} → (W → Word) → Ranges → ℕ → Regs W → Type 0
PcAt look part o rs = look (reg rs Pc) ≡ Mem (code_at part o)

-- the cells that untrusted code may reach hold safe words
abbrev pub SafeCells : {W : Type 0} → (W → Type 0) → (ℕ → Type 0) → FinMap nat_cmp W → Type 0
SafeCells {W} Safe Open m = (a : ℕ) (w : W) → Open a → cell m a ≡ Some w → Safe w

-- the others stay
abbrev pub SameOthers : {W : Type 0} → (ℕ → Type 0) → FinMap nat_cmp W → FinMap nat_cmp W → Type 0
SameOthers Open m n = (a : ℕ) → (Open a → ⊥) → cell n a ≡ cell m a
