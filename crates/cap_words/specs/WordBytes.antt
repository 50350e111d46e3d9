-- The bytes of a word. Numbers are little endian, signed ones in two's complement.
use Rattle.std.specs.Prelude.{◌≡◌, ℕ, ◌≤◌, ◌++◌, List, ◌∷◌, ℤ}
use Rattle.std.specs.Int.{w64, cast_unsigned}
use Rattle.std.specs.Int.RustNames.{FitsSigned}
use Rattle.byteorder.specs.Endian.{little_bytes}
use Rattle.cap_words.specs.declared.TheConstants.{LAST_PLACE}
use Rattle.cap_words.specs.declared.Lin.{Lin}
use Rattle.cap_words.specs.declared.Lin.TheVariants.{Normal, Linear}
use Rattle.cap_words.specs.declared.CapFields.{CapFields}
use Rattle.cap_words.specs.declared.SealFields.{SealFields}
use Rattle.cap_words.specs.declared.Sealable.{Sealable}
use Rattle.cap_words.specs.declared.Sealable.TheVariants.{Mem as MemIn, Seal as SealIn}
use Rattle.cap_words.specs.declared.Word.{Word}
use Rattle.cap_words.specs.declared.Word.TheVariants.{Int, Mem, Seal, Sealed}
use Rattle.cap_words.specs.Face.{CapInOrder, SealsInOrder}
use Rattle.cap_words.specs.Faces.{perm_number}

-- a number in so many bytes, the lowest first
unfoldable pub number_bytes : ℕ → ℕ → List ℕ
number_bytes len n = little_bytes len n

unfoldable pub signed_bytes : ℤ → List ℕ
signed_bytes z = number_bytes 8 (cast_unsigned w64 z)

abbrev pub lin_number : Lin → ℕ
lin_number Normal = 0
lin_number Linear = 1

-- after the tag: permission, linearity, base, end, address
unfoldable pub cap_bytes : CapFields → List ℕ
cap_bytes c =
    perm_number c.perm ∷ lin_number c.lin
    ∷ (number_bytes 4 c.base ++ (number_bytes 4 c.end ++ signed_bytes c.addr))

-- after the tag: base, end, current seal
unfoldable pub seal_bytes : SealFields → List ℕ
seal_bytes s = number_bytes 4 s.base ++ (number_bytes 4 s.end ++ signed_bytes s.cur)

-- a tag, and what it announces
abbrev pub content_bytes : Sealable → List ℕ
content_bytes (MemIn c) = 1 ∷ cap_bytes c
content_bytes (SealIn s) = 2 ∷ seal_bytes s

abbrev pub word_bytes_of : Word → List ℕ
word_bytes_of (Int n) = 0 ∷ signed_bytes n
word_bytes_of (Mem c) = content_bytes (MemIn c)
word_bytes_of (Seal s) = content_bytes (SealIn s)
word_bytes_of (Sealed seal content) = 3 ∷ (number_bytes 4 seal ++ content_bytes content)

-- a capability of the machine
abbrev pub ContentFits : Sealable → Type 0
ContentFits (MemIn c) = CapInOrder c × FitsSigned w64 c.addr
ContentFits (SealIn s) = SealsInOrder s × FitsSigned w64 s.cur

-- a sealed word has a spelling where its seal is one of those that there are
abbrev pub SealInSpace : Word → Type 0
SealInSpace (Sealed seal content) = seal ≤ LAST_PLACE
SealInSpace _ = Unit {0}

-- a word of the machine that has a spelling
abbrev pub WordFits : Word → Type 0
WordFits (Int n) = FitsSigned w64 n
WordFits (Mem c) = ContentFits (MemIn c)
WordFits (Seal s) = ContentFits (SealIn s)
WordFits (Sealed seal content) = (seal ≤ LAST_PLACE) × ContentFits content

abbrev pub IsUnsealed : Word → Type 0
IsUnsealed (Sealed seal content) = ⊥
IsUnsealed _ = Unit {0}

-- the bytes are the spelling of the word
abbrev pub SpellsWord : List ℕ → Word → Type 0
SpellsWord bytes w = WordFits w × (bytes ≡ word_bytes_of w)
