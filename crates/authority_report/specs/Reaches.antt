-- What a part can reach at a start: the words that it has or can get by loading and by opening its own seals.
use Rattle.std.specs.Prelude.{◌≡◌, ℕ, ◌+◌, ◌≤◌, ◌==◌, ◌||◌, ◌&&◌, nat_le, nat_lt, Bool, true, ℤ, pos, Some}
use Rattle.std.specs.Prelude.{if◌then◌else◌}
use Rattle.cap_words.specs.declared.Perm.{Perm}
use Rattle.cap_words.specs.declared.Perm.TheVariants.{Rw, Rx, Rwx}
use Rattle.cap_words.specs.declared.Lin.TheVariants.{Normal}
use Rattle.cap_words.specs.declared.CapFields.{CapFields}
use Rattle.cap_words.specs.declared.SealFields.{SealFields}
use Rattle.cap_words.specs.declared.Word.{Word}
use Rattle.cap_words.specs.declared.Word.TheVariants.{Mem, Seal, Sealed}
use Rattle.cap_words.specs.declared.Sealable.{Sealable}
use Rattle.cap_words.specs.declared.Sealable.TheVariants.{Mem as MemIn, Seal as SealIn}
use Rattle.cap_words.specs.Faces.{may_read}
use Rattle.lcm_isa.specs.declared.Reg.TheVariants.{Stk}
use Rattle.lcm_machine.specs.Places.{reg}
use Rattle.lcm_machine.specs.Cells.{cell}
use Rattle.linked_starts.specs.declared.owners.Owner.{Owner}
use Rattle.lcm_machine.specs.Maps.{State}

-- the seal of the part's entries, or one of its return points
abbrev pub is_seal_of : Owner → ℕ → Bool
is_seal_of o n = (n == o.closure) || (nat_le o.seals.base n && nat_lt n (o.seals.base + o.seals.count))

-- the capability over its whole code, at any address; trusted code can't be written
abbrev pub whole_code : Owner → ℤ → CapFields
whole_code o z = record {
  perm = if o.trusted then Rx else Rwx;
  lin = Normal;
  base = o.code.base;
  end = o.code.end;
  addr = z;
}

-- the capability over its whole data, at its base
abbrev pub whole_data : Owner → CapFields
whole_data o = record {
  perm = Rw;
  lin = Normal;
  base = o.data_span.base;
  end = o.data_span.end;
  addr = pos o.data_span.base;
}

-- what is under a seal
abbrev pub bare : Sealable → Word
bare (MemIn c) = Mem c
bare (SealIn q) = Seal q

-- The least set of words that has the part's code, its data and the stack, the word in each cell of a memory
-- capability of the set that may be read, and what is under a seal of the part in a word of the set.
pub data Reaches (m : State Word) (o : Owner) : Word → Type 0 where
  its_code : (z : ℤ) → Reaches m o (Mem (whole_code o z))
  its_data : Reaches m o (Mem (whole_data o))
  the_stack : Reaches m o (reg m.regs Stk)
  in_cell : (c : CapFields) (a : ℕ) (w : Word)
      → Reaches m o (Mem c) → may_read c.perm ≡ true → c.base ≤ a → a ≤ c.end
      → cell m.cells a ≡ Some w → Reaches m o w
  opened : (n : ℕ) (x : Sealable) → Reaches m o (Sealed n x) → is_seal_of o n ≡ true → Reaches m o (bare x)

-- an address under a memory capability that the part reaches and that allows it
pub record Allows (m : State Word) (o : Owner) (may : Perm → Bool) (a : ℕ) : Type 0 where
  pub cap : CapFields
  pub reached : Reaches m o (Mem cap)
  pub allowed : may cap.perm ≡ true
  pub low : cap.base ≤ a
  pub high : a ≤ cap.end

-- a seal under a seal capability that the part reaches
pub record SealsWith (m : State Word) (o : Owner) (n : ℕ) : Type 0 where
  pub cap : SealFields
  pub reached : Reaches m o (Seal cap)
  pub low : cap.base ≤ n
  pub high : n ≤ cap.end
