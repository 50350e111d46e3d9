-- Where words lead to, by their faces.
use Rattle.std.proofs.Common.{◌≡◌, ℕ, ◌≤◌, ℤ, pos, negsuc, Bool, true, false, Some, None, refl, leb-true}
use Rattle.std.specs.Prelude.{nat_le, if◌then◌else◌}
use Rattle.std.proofs.lemmas.Bool.{and_parts}
use Rattle.cap_words.specs.declared.CapFields.{CapFields}
use Rattle.cap_words.specs.declared.Face.{Face}
use Rattle.cap_words.specs.declared.Face.TheVariants.{Memory, Number, Seals, Sealed as SealedFace}
use Rattle.cap_words.specs.Faces.{covers, address, target_of}
use Rattle.lcm_isa.specs.declared.Reg.{Reg}
use Rattle.lcm_isa.specs.declared.Instr.{Instr}
use Rattle.lcm_isa.specs.declared.Instr.TheVariants.{Store, Load}
use Rattle.lcm_machine.specs.Table.{target}

-- an address that a word leads to is in its range
pub target_bounds : (x : Face) (a : ℕ) → target_of x ≡ Some a → (c : CapFields) × (x ≡ Memory c)
    × (c.base ≤ a) × (a ≤ c.end)
target_bounds (Number z) a e = cc
target_bounds (Seals z) a e = cc
target_bounds (SealedFace z) a e = cc
target_bounds (Memory c) a e = let b = by_cover (covers c c.addr) refl e in (c, refl, b.0, b.1)
  where
    by_addr : (z : ℤ) → covers c z ≡ true → (c.base ≤ address z) × (address z ≤ c.end)
    by_addr (pos n) h = let k =
        and_parts (nat_le c.base n) (nat_le n c.end) h in (leb-true c.base n k.0, leb-true n c.end k.1)
    by_addr (negsuc n) h = cc

    by_cover : (b : Bool) → covers c c.addr ≡ b → (if b then Some (address c.addr) else None) ≡ Some a
        → (c.base ≤ a) × (a ≤ c.end)
    by_cover true m h = let q : address c.addr ≡ a = cc in rw q at (by_addr c.addr m)
    by_cover false m h = cc

-- a load or a store names a register
pub target_reg : (i : Instr) (f : Reg → Face) (a : ℕ) → target i f ≡ Some a → (r : Reg)
    × (target_of (f r) ≡ Some a)
target_reg (Store r1 r2) f a e = (r1, e)
target_reg (Load r1 r2) f a e = (r2, e)
target_reg _ f a e = cc
