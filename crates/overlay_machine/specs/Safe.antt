-- Words that untrusted code may hold.
use Rattle.std.specs.Prelude.{◌≡◌, ◌⊎◌, ℕ, ◌+◌, ◌≤◌, ◌<◌, Bool, true, List, None, Some, IsTrue}
use Rattle.std.specs.List.{Contains}
use Rattle.cap_words.specs.declared.Word.{Word}
use Rattle.cap_words.specs.declared.Word.TheVariants.{Int, Mem, Seal, Sealed}
use Rattle.cap_words.specs.declared.Sealable.{Sealable}
use Rattle.cap_words.specs.declared.Sealable.TheVariants.{Mem as MemIn, Seal as SealIn}
use Rattle.cap_words.specs.declared.CapFields.{CapFields}
use Rattle.cap_words.specs.declared.SealFields.{SealFields}
use Rattle.cap_words.specs.Faces.{may_run}
use Rattle.cap_words.specs.Linear.{lin_is}
use Rattle.lcm_machine.specs.Regions.{Region}
use Rattle.linked_starts.specs.Parts.{PartSeen}
use Rattle.linked_starts.specs.Start.{Exported, code_half, data_half}
use Rattle.linked_starts.specs.SealsApart.{is_seal_of}
use Rattle.trusted_border.specs.declared.layout.SiteCode.{SiteCode}
use Rattle.trusted_border.specs.Layout.{site_code}
use Rattle.overlay_machine.specs.declared.words.OWord.{OWord}
use Rattle.overlay_machine.specs.declared.words.OWord.TheVariants.{Plain, RetCode, RetData}
use Rattle.overlay_machine.specs.State.{OpenFrame, framed, frame_of}
use Rattle.overlay_machine.specs.Link.{Link, IsTrusted, IsUntrusted, IsUsable}

-- The range of a capability lies in one region that untrusted code may use, and in no frame. It is linear
-- where the region is, and runs only where the region may.
pub record IsSafeCap (g : Link) (fs : List OpenFrame) (c : CapFields) : Type 0 where
  pub area : Region
  pub runs : Bool
  pub usable : IsUsable g area runs
  pub low : area.base ≤ c.base
  pub order : c.base ≤ c.end
  pub high : c.end ≤ area.end
  pub lin : lin_is c.lin ≡ area.linear
  pub may : may_run c.perm ≡ true → runs ≡ true
  pub free : (a : ℕ) → c.base ≤ a → a ≤ c.end → framed fs a ≡ None

-- the range of a seal capability lies in the seals of one untrusted part
pub record AreSafeSeals (g : Link) (s : SealFields) : Type 0 where
  pub of : PartSeen
  pub untrusted : IsUntrusted g of
  pub low : of.component.seals.base ≤ s.base
  pub order : s.base ≤ s.end
  pub high : s.end < of.component.seals.base + of.component.seals.count

abbrev pub IsSafeIn : Link → List OpenFrame → Sealable → Type 0
IsSafeIn g fs (MemIn c) = IsSafeCap g fs c
IsSafeIn g fs (SealIn s) = AreSafeSeals g s

-- a seal, or the closure seal, of an untrusted part
abbrev pub IsOpenSeal : Link → ℕ → Type 0
IsOpenSeal g n = (p : PartSeen) × IsUntrusted g p × IsTrue (is_seal_of p n)

-- one of the two halves of an export
abbrev pub IsHalf : Exported → Word → Type 0
IsHalf x w = (w ≡ code_half x) ⊎ (w ≡ data_half x)

-- one of a trusted part
abbrev pub IsTrustedHalf : Link → Word → Type 0
IsTrustedHalf g w =
    (x : Exported) × IsTrusted g x.part × Contains x.part.component.exports x.export × IsHalf x w

-- a sealed word: under a seal of untrusted code with safe content, or a half of a trusted export
abbrev pub IsSafeWord : Link → List OpenFrame → Word → Type 0
IsSafeWord g fs (Int z) = Unit {0}
IsSafeWord g fs (Mem c) = IsSafeCap g fs c
IsSafeWord g fs (Seal s) = AreSafeSeals g s
IsSafeWord g fs (Sealed n x) = (IsOpenSeal g n × IsSafeIn g fs x) ⊎ IsTrustedHalf g (Sealed n x)

-- the RetCode of a site, and the RetData of an open call
abbrev pub IsMet : Link → List OpenFrame → OWord → Type 0
IsMet g fs (Plain w) = Unit {0}
IsMet g fs (RetCode i) = (s : SiteCode) × (site_code g.layout i ≡ Some s)
IsMet g fs (RetData k) = (f : OpenFrame) × (frame_of fs k ≡ Some f)

-- a word that untrusted code may hold, with these calls open
abbrev pub IsSafe : Link → List OpenFrame → OWord → Type 0
IsSafe g fs (Plain w) = IsSafeWord g fs w
IsSafe g fs (RetCode i) = IsMet g fs (RetCode i)
IsSafe g fs (RetData k) = IsMet g fs (RetData k)
