-- What is found of a part's reach, and what is left to be looked at.
use Rattle.std.specs.Prelude.{◌≡◌, ℕ, ◌+◌, length, nat_le, Bool, true, false, ◌&&◌, ◌||◌, ℤ, pos, Some}
use Rattle.std.specs.Prelude.{[], if◌then◌else◌}
use Rattle.cap_words.specs.declared.Word.{Word}
use Rattle.cap_words.specs.declared.Word.TheVariants.{Int, Mem, Seal, Sealed}
use Rattle.cap_words.specs.declared.Perm.{Perm}
use Rattle.cap_words.specs.declared.Opened.{Opened}
use Rattle.cap_words.specs.declared.Face.{Face}
use Rattle.cap_words.specs.declared.Face.TheVariants.{Number, Memory, Seals, Sealed as SealedFace}
use Rattle.lcm_machine.specs.Table.{unsealed}
use Rattle.cap_words.specs.Faces.{may_read, may_write, may_run}
use Rattle.lcm_isa.specs.declared.Reg.TheVariants.{Stk}
use Rattle.lcm_machine.specs.Maps.{State}
use Rattle.lcm_machine.specs.Places.{reg}
use Rattle.lcm_machine.specs.Cells.{cell}
use Rattle.linked_starts.specs.declared.owners.Owner.{Owner}
use Rattle.authority_report.specs.Has.{has}
use Rattle.authority_report.specs.Free.{free_below}
use Rattle.cap_words.specs.declared.TheConstants.{LAST_PLACE}
use Rattle.authority_report.specs.Takes.{is_left, Takes}
use Rattle.authority_report.specs.declared.found.Found.{Found}
use Rattle.authority_report.specs.Reaches.{is_seal_of, whole_code, whole_data, bare, Allows, SealsWith}
use Rattle.authority_report.specs.Within.{Authority, CapWithin, IsWithin}

-- a word without the part's own seal; under another seal it gives nothing
abbrev pub bared : Owner → Word → Word
bared o (Sealed n x) = if is_seal_of o n then bare x else Int (pos 0)
bared o w = w

-- the word that shows so, where it isn't sealed
abbrev pub bare_word : Face → Word
bare_word (Number z) = Int z
bare_word (Memory c) = Mem c
bare_word (Seals q) = Seal q
bare_word (SealedFace l) = Int (pos 0)

-- what is under a seal, if it is an own one
abbrev pub opened_word : Owner → Opened → Word
opened_word o x = if is_seal_of o x.seal then unsealed x.content else Int (pos 0)

-- an address at which a word gives a right
abbrev pub gives : (Perm → Bool) → Word → ℕ → Bool
gives may (Mem c) a = may c.perm && (nat_le c.base a && nat_le a c.end)
gives may _ a = false

-- a seal with which a word lets seal
abbrev pub gives_seal : Word → ℕ → Bool
gives_seal (Seal q) n = nat_le q.base n && nat_le n q.end
gives_seal _ n = false

-- nothing is found
pub record IsEmpty (f : Found) : Type 0 where
  pub read : (a : ℕ) → has f.read a ≡ false
  pub write : (a : ℕ) → has f.write a ≡ false
  pub run : (a : ℕ) → has f.run a ≡ false
  pub seals : (n : ℕ) → has f.seals n ≡ false
  pub left : f.left.items ≡ []

-- what a word gives is added
pub record AddsWord (f : Found) (w : Word) (g : Found) : Type 0 where
  pub read : Takes (gives may_read w) f.read f.left.items g.read g.left.items
  pub write : (a : ℕ) → has g.write a ≡ (gives may_write w a || has f.write a)
  pub run : (a : ℕ) → has g.run a ≡ (gives may_run w a || has f.run a)
  pub seals : (n : ℕ) → has g.seals n ≡ (gives_seal w n || has f.seals n)

abbrev pub authority_of : Owner → Found → Authority
authority_of o f = record {
  read = has f.read;
  write = has f.write;
  run = has f.run;
  seal = has f.seals;
  own = is_seal_of o;
}

-- all that is found is reached
pub record IsSound (m : State Word) (o : Owner) (f : Found) : Type 0 where
  pub read : (a : ℕ) → has f.read a ≡ true → Allows m o may_read a
  pub write : (a : ℕ) → has f.write a ≡ true → Allows m o may_write a
  pub run : (a : ℕ) → has f.run a ≡ true → Allows m o may_run a
  pub seals : (n : ℕ) → has f.seals n ≡ true → SealsWith m o n
  pub left : (a : ℕ) → is_left f.left.items a ≡ true → has f.read a ≡ true

-- what the part begins with is found
pub record IsBegun (m : State Word) (o : Owner) (f : Found) : Type 0 where
  pub its_code : (z : ℤ) → CapWithin (authority_of o f) (whole_code o z)
  pub its_data : CapWithin (authority_of o f) (whole_data o)
  pub its_stack : IsWithin (authority_of o f) (reg m.regs Stk)

-- the word of each cell that may be read is found, but for cells that are left, and some that are being
-- looked at
pub record IsClosedBut (some : ℕ → Bool) (m : State Word) (o : Owner) (f : Found) : Type 0 where
  pub sound : IsSound m o f
  pub begun : IsBegun m o f
  pub looked : (a : ℕ) → some a ≡ true → has f.read a ≡ true
  pub cells : (a : ℕ) (w : Word) → has f.read a ≡ true → is_left f.left.items a ≡ false → some a ≡ false
      → cell m.cells a ≡ Some w → IsWithin (authority_of o f) w

-- the places that weren't taken, and the stretches that are left: each look takes one away
abbrev pub unread : Found → ℕ
unread f = free_below f.read (LAST_PLACE + 1) + length f.left.items
