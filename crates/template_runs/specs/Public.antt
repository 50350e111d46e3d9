-- Words by which nobody enters a trusted part but where it shares a procedure.
use Rattle.std.specs.Prelude.{◌≡◌, ℕ, true, List, [], ◌∷◌, Some}
use Rattle.std.specs.List.{Contains}
use Rattle.cap_words.specs.declared.Word.{Word}
use Rattle.cap_words.specs.declared.Word.TheVariants.{Sealed}
use Rattle.cap_words.specs.declared.Sealable.TheVariants.{Mem as MemIn}
use Rattle.component_file.specs.declared.component.Export.{Export}
use Rattle.component_file.specs.declared.component.ComponentFields.{ComponentFields}
use Rattle.call_sequence.specs.SequenceRuns.{IsOutsideRange}
use Rattle.call_sequence.specs.Holds.{code_at}
use Rattle.linked_starts.specs.Parts.{PartSeen}
use Rattle.lcm_machine.specs.Cells.{cell}
use Rattle.overlay_machine.specs.declared.words.OWord.{OWord}
use Rattle.overlay_machine.specs.declared.words.OWord.TheVariants.{Plain, RetCode, RetData}
use Rattle.overlay_machine.specs.State.{OpenFrame, OState}
use Rattle.overlay_machine.specs.Link.{Link, IsTrusted, ranges_of, IsOpenAt}
use Rattle.overlay_machine.specs.Safe.{IsSafe}

-- an export that is shared begins at an offset
pub record IsSharedAt (c : ComponentFields) (k : ℕ) : Type 0 where
  pub export : Export
  pub among : Contains c.exports export
  pub shared : export.shared ≡ true
  pub offset : export.offset ≡ k

-- the code half of a trusted part at an offset is public where the part shares what begins there
abbrev pub IsPublicWord : Link → Word → Type 0
IsPublicWord g w =
    (p : PartSeen) (k : ℕ) → IsTrusted g p
    → w ≡ Sealed p.component.closure (MemIn (code_at (ranges_of p) k)) → IsSharedAt p.component k

abbrev pub IsPublic : Link → OWord → Type 0
IsPublic g (Plain w) = IsPublicWord g w
IsPublic g (RetCode i) = Unit {0}
IsPublic g (RetData k) = Unit {0}

-- a word that untrusted code may hold, and by which it enters shared procedures alone
abbrev pub IsShown : Link → List OpenFrame → OWord → Type 0
IsShown g fs w = IsSafe g fs w × IsPublic g w

-- an address outside the code and the data of each trusted part
abbrev pub IsFreeAt : Link → ℕ → Type 0
IsFreeAt g a =
    IsOpenAt g a × ((p : PartSeen) → IsTrusted g p
    → IsOutsideRange a (ranges_of p).data_base (ranges_of p).data_last)

abbrev pub ArePublic : Link → List OWord → Type 0
ArePublic g [] = Unit {0}
ArePublic g (w ∷ ws) = IsPublic g w × ArePublic g ws

abbrev pub FramesPublic : Link → List OpenFrame → Type 0
FramesPublic g [] = Unit {0}
FramesPublic g (f ∷ fs) = ArePublic g f.words × FramesPublic g fs

-- in memory, but for the code and data of trusted parts, and in frames words are public
pub record KeepsPrivate (g : Link) (o : OState) : Type 0 where
  pub cells : (a : ℕ) (w : OWord) → IsFreeAt g a → cell o.maps.cells a ≡ Some w → IsPublic g w
  pub frames : FramesPublic g o.frames
