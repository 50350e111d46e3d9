-- Starts of linked parts, and a part's runs from its entries.
use Rattle.std.specs.Prelude.{◌≡◌, ℕ, List, pos, slice_get, Some}
use Rattle.std.specs.List.{Contains}
use Rattle.cap_words.specs.declared.Word.{Word}
use Rattle.cap_words.specs.declared.Word.TheVariants.{Mem, Sealed}
use Rattle.cap_words.specs.declared.Sealable.TheVariants.{Mem as MemIn}
use Rattle.lcm_isa.specs.declared.Reg.TheVariants.{Pc, Dat}
use Rattle.lcm_machine.specs.declared.Place.TheVariants.{R}
use Rattle.lcm_machine.specs.Maps.{State}
use Rattle.lcm_machine.specs.Row.{put}
use Rattle.linked_starts.specs.declared.owners.Owner.{Owner}
use Rattle.linked_starts.specs.declared.owners.Entry.{Entry}
use Rattle.linked_starts.specs.Owners.{placed_entry, owner_of}
use Rattle.linked_starts.specs.Start.{Exported, code_half, data_half}
use Rattle.linked_starts.specs.Started.{StartSeen, Starts}
use Rattle.linked_starts.specs.Parts.{PartSeen, IsPart}
use Rattle.linked_starts.specs.Pairs.{NoneIsBroken}
use Rattle.linked_starts.specs.Links.{rules_l}
use Rattle.authority_report.specs.declared.reach.Reach.{Reach}
use Rattle.authority_report.specs.Reaches.{whole_code, whole_data}
use Rattle.authority_report.specs.SealRanges.{SealsAreOwn}
use Rattle.authority_report.specs.Report.{told_authority, owner_of_part, Reports}
use Rattle.authority_report.specs.Bounds.{RunsWithin}

-- a start as linking leaves it: of some parts, each of which keeps its own rules, and which keep the rules L
-- together with some size of stack
pub record IsLinked (s : StartSeen) : Type 0 where
  pub parts : List PartSeen
  pub size : ℕ
  pub accepted : (k : ℕ) (p : PartSeen) → slice_get parts k ≡ Some p → IsPart p
  pub rules : NoneIsBroken (rules_l parts size)
  pub starts : Starts parts size s

-- a part of such a start can seal by return seals of its own alone
abbrev pub ReachedSealsAreOwn : Type 0
ReachedSealsAreOwn =
    (s : StartSeen) (part : ℕ) (o : Owner) → IsLinked s → owner_of_part s.owners part ≡ Some o
    → SealsAreOwn s.state.maps o

-- the start, with pc and data replaced by the halves of an entry, unsealed
abbrev pub entered_at : StartSeen → Owner → Entry → State Word
entered_at s o e =
    put (put s.state.maps (R Pc) (Mem (whole_code o (pos e.at)))) (R Dat) (Mem (whole_data o))

-- from each of its entries a part runs within what a report tells
abbrev pub BoundsRuns : StartSeen → ℕ → Reach → Type 0
BoundsRuns s part r =
    (o : Owner) (e : Entry) → owner_of_part s.owners part ≡ Some o → Contains o.entries e
    → RunsWithin (told_authority o r) (entered_at s o e)

-- and so it does within what its report tells
abbrev pub ReportsBoundRuns : Type 0
ReportsBoundRuns =
    (s : StartSeen) (part : ℕ) (r : Reach) → IsLinked s → Reports s part r → BoundsRuns s part r

-- the code and data with which a part is entered are the halves of the export, unsealed
abbrev pub HalvesUnsealed : Type 0
HalvesUnsealed =
    (k : ℕ) (x : Exported)
    → let o = owner_of k x.part in
    let e = placed_entry x.part.component x.export in
    (code_half x ≡ Sealed o.closure (MemIn (whole_code o (pos e.at))))
    × (data_half x ≡ Sealed o.closure (MemIn (whole_data o)))
