-- What instructions read of a word, and that the ranges in it are in order.
use Rattle.std.specs.Prelude.{ℤ, Option, Some, None}
use Rattle.cap_words.specs.Ranges.{IsRange}
use Rattle.cap_words.specs.declared.Lin.TheVariants.{Normal}
use Rattle.cap_words.specs.declared.CapFields.{CapFields}
use Rattle.cap_words.specs.declared.SealFields.{SealFields}
use Rattle.cap_words.specs.declared.Content.{Content}
use Rattle.cap_words.specs.declared.Word.{Word}
use Rattle.cap_words.specs.declared.Word.TheVariants.{Int, Mem, Seal, Sealed as SealedWord}
use Rattle.cap_words.specs.declared.Sealable.TheVariants.{Mem as MemIn, Seal as SealIn}
use Rattle.cap_words.specs.declared.Face.{Face}
use Rattle.cap_words.specs.declared.Face.TheVariants.{Number, Memory, Seals, Sealed}
use Rattle.cap_words.specs.declared.Opened.{Opened}
use Rattle.cap_words.specs.declared.Content.TheVariants.{Mem as MemContent, Seal as SealContent}

-- what most instructions read: of a sealed word no more than how linear it is
abbrev pub face_of : Word → Face
face_of (Int n) = Number n
face_of (Mem c) = Memory c
face_of (Seal s) = Seals s
face_of (SealedWord o (MemIn c)) = Sealed c.lin
face_of (SealedWord o (SealIn s)) = Sealed Normal

-- the seal and the content of a sealed word
abbrev pub opened_of : Word → Option Opened
opened_of (Int n) = None
opened_of (Mem c) = None
opened_of (Seal s) = None
opened_of (SealedWord o (MemIn c)) = Some (record { seal = o; content = MemContent c })
opened_of (SealedWord o (SealIn s)) = Some (record { seal = o; content = SealContent s })

-- a word that looks like a memory capability, at another address; another word stays as it is
abbrev pub pointed : {W : Type 0} → (Word → W) → ℤ → W → Word → W
pointed plain addr w (Mem c) = plain (Mem (record c { addr = addr }))
pointed plain addr w (Int n) = w
pointed plain addr w (Seal s) = w
pointed plain addr w (SealedWord o x) = w

abbrev pub CapInOrder : CapFields → Type 0
CapInOrder c = IsRange c.base c.end

abbrev pub SealsInOrder : SealFields → Type 0
SealsInOrder c = IsRange c.base c.end

-- the range in a face is in order, where it has one; the others say the same of what they hold
abbrev pub FaceInOrder : Face → Type 0
FaceInOrder (Number n) = Unit {0}
FaceInOrder (Memory c) = CapInOrder c
FaceInOrder (Seals s) = SealsInOrder s
FaceInOrder (Sealed l) = Unit {0}

abbrev pub ContentInOrder : Content → Type 0
ContentInOrder (MemContent c) = CapInOrder c
ContentInOrder (SealContent s) = SealsInOrder s

abbrev pub OpenedInOrder : Option Opened → Type 0
OpenedInOrder None = Unit {0}
OpenedInOrder (Some o) = ContentInOrder o.content

abbrev pub SomeCapInOrder : Option CapFields → Type 0
SomeCapInOrder None = Unit {0}
SomeCapInOrder (Some c) = CapInOrder c

abbrev pub SomeSealsInOrder : Option SealFields → Type 0
SomeSealsInOrder None = Unit {0}
SomeSealsInOrder (Some c) = SealsInOrder c
