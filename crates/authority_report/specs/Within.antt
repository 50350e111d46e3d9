-- Words that give no more than a given authority.
use Rattle.std.specs.Prelude.{◌≡◌, ℕ, ◌≤◌, Bool, true}
use Rattle.cap_words.specs.declared.Perm.{Perm}
use Rattle.cap_words.specs.declared.CapFields.{CapFields}
use Rattle.cap_words.specs.declared.SealFields.{SealFields}
use Rattle.cap_words.specs.declared.Word.{Word}
use Rattle.cap_words.specs.declared.Word.TheVariants.{Int, Mem, Seal, Sealed}
use Rattle.cap_words.specs.declared.Sealable.TheVariants.{Mem as MemIn, Seal as SealIn}
use Rattle.cap_words.specs.Faces.{may_read, may_write, may_run}

-- the addresses that may be read, written and run, the seals that may be sealed with, and the own seals,
-- which may be opened
pub record Authority : Type 0 where
  pub read : ℕ → Bool
  pub write : ℕ → Bool
  pub run : ℕ → Bool
  pub seal : ℕ → Bool
  pub own : ℕ → Bool

-- what the permission allows, at each address of the range
abbrev pub Spans : (Perm → Bool) → (ℕ → Bool) → CapFields → Type 0
Spans may flag c = may c.perm ≡ true → (a : ℕ) → c.base ≤ a → a ≤ c.end → flag a ≡ true

pub record CapWithin (g : Authority) (c : CapFields) : Type 0 where
  pub read : Spans may_read g.read c
  pub write : Spans may_write g.write c
  pub run : Spans may_run g.run c

abbrev pub SealsWithin : Authority → SealFields → Type 0
SealsWithin g q = (n : ℕ) → q.base ≤ n → n ≤ q.end → g.seal n ≡ true

-- a sealed word gives what is under its seal where that seal may be opened, and else nothing
abbrev pub IsWithin : Authority → Word → Type 0
IsWithin g (Int z) = Unit {0}
IsWithin g (Mem c) = CapWithin g c
IsWithin g (Seal q) = SealsWithin g q
IsWithin g (Sealed n (MemIn c)) = g.own n ≡ true → CapWithin g c
IsWithin g (Sealed n (SealIn q)) = g.own n ≡ true → SealsWithin g q
