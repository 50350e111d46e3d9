-- Regions of addresses, and that no address of a linear one is held twice: for words of any kind, as the
-- table reads them.
use Rattle.std.specs.Prelude.{◌≡◌, ◌⊎◌, ℕ, ◌+◌, ◌≤◌, Bool, true, false, IsTrue, pos, List, Option, Some, None}
use Rattle.std.specs.List.{Contains}
use Rattle.cap_words.specs.declared.CapFields.{CapFields}
use Rattle.cap_words.specs.declared.Word.{Word}
use Rattle.cap_words.specs.declared.Word.TheVariants.{Int, Mem, Seal, Sealed as SealedWord}
use Rattle.cap_words.specs.declared.Sealable.TheVariants.{Mem as MemIn, Seal as SealIn}
use Rattle.cap_words.specs.Linear.{lin_is}
use Rattle.cap_words.specs.Faces.{covers}
use Rattle.lcm_machine.specs.declared.Place.{Place}
use Rattle.lcm_machine.specs.Maps.{State}
use Rattle.lcm_machine.specs.Row.{word_at}

-- the addresses from base to end, both included: linear, as those of a stack, or normal, as those of code
-- and data
pub record Region : Type 0 where
  pub base : ℕ
  pub end : ℕ
  pub linear : Bool

-- of any two regions of a list that are not one, one ends at least one address before the other begins
abbrev pub AreApart : List Region → Type 0
AreApart rs =
    (r q : Region) → Contains rs r → Contains rs q
    → (r ≡ q) ⊎ ((r.end + 2 ≤ q.base) ⊎ (q.end + 2 ≤ r.base))

-- an address of a linear region
abbrev pub IsLinearAt : List Region → ℕ → Type 0
IsLinearAt rs a = (r : Region) × Contains rs r × (r.linear ≡ true) × (r.base ≤ a) × (a ≤ r.end)

-- the range of a capability lies in one region, and the capability is linear exactly where that region is
abbrev pub InOneRegion : List Region → CapFields → Type 0
InOneRegion rs c =
    (r : Region) × Contains rs r
    × (r.base ≤ c.base) × (c.base ≤ c.end) × (c.end ≤ r.end) × (lin_is c.lin ≡ r.linear)

-- the memory capability that a word is, or has under its seal
abbrev pub memory_of : Word → Option CapFields
memory_of (Int n) = None
memory_of (Mem c) = Some c
memory_of (Seal s) = None
memory_of (SealedWord o (MemIn c)) = Some c
memory_of (SealedWord o (SealIn s)) = None

-- whether a capability, where there is one, is over an address
abbrev pub is_over : Option CapFields → ℕ → Bool
is_over None a = false
is_over (Some c) a = covers c (pos a)

-- whether the capability of a word, where there is a word and it has one, is over an address
abbrev pub word_over : {W : Type 0} → (W → Word) → Option W → ℕ → Bool
word_over look None a = false
word_over look (Some w) a = is_over (memory_of (look w)) a

-- each memory capability of a register or a cell lies in one region
abbrev pub InRegions : {W : Type 0} → (W → Word) → List Region → State W → Type 0
InRegions {W} look rs s =
    (p : Place) (w : W) → word_at s p ≡ Some w
    → (c : CapFields) → memory_of (look w) ≡ Some c → InOneRegion rs c

-- no two places have capabilities over one address of a linear region
abbrev pub CoveredOnce : {W : Type 0} → (W → Word) → List Region → State W → Type 0
CoveredOnce look rs s =
    (a : ℕ) → IsLinearAt rs a
    → (p q : Place) → IsTrue (word_over look (word_at s p) a)
    → IsTrue (word_over look (word_at s q) a) → p ≡ q

-- both: the regions are respected, and no linear memory is held twice
abbrev pub HeldOnce : {W : Type 0} → (W → Word) → List Region → State W → Type 0
HeldOnce look rs s = InRegions look rs s × CoveredOnce look rs s

-- whatever the regions, if one state has both, then the other has too
unfoldable pub StaysHeldOnce : {W : Type 0} → (W → Word) → State W → State W → Type 0
StaysHeldOnce look s t = (rs : List Region) → AreApart rs → HeldOnce look rs s → HeldOnce look rs t
