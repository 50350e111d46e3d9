-- That code outside is confined, told of the plain machine alone. It touches nothing of a trusted part and no
-- range of an open call, and comes into trusted code at exports and return points alone. The code of trusted
-- parts never changes, and nothing of them does while code outside runs. docs/HEADLINE.md has it in words.
use Rattle.std.specs.Prelude.{◌≡◌, ◌⊎◌, ℕ, ◌+◌, ◌≤◌, Bool, true, false, List, [], ◌∷◌, Some, None, IsTrue}
use Rattle.std.specs.Prelude.{slice_get}
use Rattle.std.specs.List.{Contains}
use Rattle.cap_words.specs.declared.Word.TheVariants.{Mem}
use Rattle.component_file.specs.declared.component.Export.{Export}
use Rattle.lcm_isa.specs.declared.Reg.TheVariants.{Dat}
use Rattle.lcm_machine.specs.Places.{reg}
use Rattle.lcm_machine.specs.Cells.{cell}
use Rattle.lcm_machine.specs.Run.{plain}
use Rattle.lcm_machine.specs.Touched.{Touches}
use Rattle.lcm_machine.specs.Acts.{Fetches}
use Rattle.call_sequence.specs.declared.TheConstants.{CALL_WORDS, RETURN_WORDS}
use Rattle.call_sequence.specs.SequenceRuns.{stack_cap}
use Rattle.linked_starts.specs.declared.owners.Site.{Site}
use Rattle.linked_starts.specs.Parts.{PartSeen}
use Rattle.linked_starts.specs.Regions.{code_span, region, part_regions, in_regions}
use Rattle.linked_starts.specs.Standing.{placed}
use Rattle.linked_starts.specs.Start.{data_of}
use Rattle.linked_starts.specs.Started.{StartSeen}
use Rattle.linked_starts.specs.LinkedStarts.{IsLinkedStart}
use Rattle.run_lines.specs.Layout.{layout, part_name}
use Rattle.run_lines.specs.Runs.{written}
use Rattle.headline.specs.OpenCalls.{LineTold, open_behind, after}
use Rattle.headline.specs.Secrecy.{InRanges}

-- ---- parts and their addresses

-- one of these parts, with this mark
abbrev pub IsAmong : List PartSeen → Bool → PartSeen → Type 0
IsAmong parts trusted p = Contains parts p × (p.trusted ≡ trusted)

-- an address of a part's code
abbrev pub InCode : PartSeen → ℕ → Type 0
InCode p a = IsTrue (in_regions a (region false (code_span p)))

-- an address of its code, its data or its linear area
abbrev pub InPart : PartSeen → ℕ → Type 0
InPart p a = IsTrue (in_regions a (part_regions p))

-- an address of the stack
abbrev pub InStack : StartSeen → ℕ → Type 0
InStack s a = (s.stack.base ≤ a) × (a ≤ s.stack.end)

-- ---- whose instruction comes

-- after n instructions the next one is fetched from an address
abbrev pub ComesFrom : StartSeen → ℕ → ℕ → Type 0
ComesFrom s n at = ((plain n s.state).end ≡ None) × Fetches (λ w. w) (after s n) at

-- from an address in no trusted part's code: it is code outside
pub record ComesFromOutside (parts : List PartSeen) (s : StartSeen) (n : ℕ) : Type 0 where
  pub at : ℕ
  pub comes : ComesFrom s n at
  pub outside : (p : PartSeen) → IsAmong parts true p → ¬ (InCode p at)

-- ---- what it touches

-- an address is an untrusted part's or the stack's, no trusted part's, and in no range of a call that is open
-- after n instructions
pub record IsLeftToIt (parts : List PartSeen) (s : StartSeen) (n a : ℕ) : Type 0 where
  pub its : ((p : PartSeen) × IsAmong parts false p × InPart p a) ⊎ InStack s a
  pub apart : (p : PartSeen) → IsAmong parts true p → ¬ (InPart p a)
  pub unopened : ¬ (InRanges (open_behind [] (written s n)) a)

-- each address that an instruction from outside touches is left to it
abbrev pub TouchesNoMore : List PartSeen → StartSeen → Type 0
TouchesNoMore parts s =
    (n a : ℕ) → ComesFromOutside parts s n → Touches (λ w. w) (after s n) a → IsLeftToIt parts s n a

-- ---- where it leads

-- after it comes an instruction of a trusted part's code
pub record Enters (parts : List PartSeen) (s : StartSeen) (n : ℕ) (p : PartSeen) (to : ℕ) : Type 0 where
  pub from : ComesFromOutside parts s n
  pub trusted : IsAmong parts true p
  pub comes : ComesFrom s (n + 1) to
  pub inside : InCode p to

-- the first of an export, and data is the part's own
pub record AtExport (s : StartSeen) (n : ℕ) (p : PartSeen) (to : ℕ) : Type 0 where
  pub export : Export
  pub listed : Contains p.component.exports export
  pub at : to ≡ p.component.code_base + export.offset
  pub own_data : reg (after s (n + 1)).regs Dat ≡ Mem (data_of p)

-- the first of the return of a site of the part, a call of which is open; data is that call's range, and if
-- all words of the return go, that call is the newest
pub record AtReturnPoint (parts : List PartSeen) (s : StartSeen) (n : ℕ) (p : PartSeen) (to : ℕ)
    : Type 0 where
  pub site : Site
  pub is_site : Contains s.sites site
  pub own : slice_get parts site.part ≡ Some p
  pub at : to ≡ site.at + CALL_WORDS
  pub told : LineTold
  pub part : part_name (layout s) site.part ≡ told.part
  pub index : site.index ≡ told.site
  pub is_open : Contains (open_behind [] (written s n)) told
  pub range : reg (after s (n + 1)).regs Dat ≡ Mem (stack_cap told.base told.last told.base)
  pub newest : (plain (n + 1 + RETURN_WORDS) s.state).end ≡ None
      → (older : List LineTold) × (open_behind [] (written s n) ≡ told ∷ older)

-- an instruction from outside leads into a trusted part nowhere else
abbrev pub EntersAtDoors : List PartSeen → StartSeen → Type 0
EntersAtDoors parts s =
    (n to : ℕ) (p : PartSeen) → Enters parts s n p to → AtExport s n p to ⊎ AtReturnPoint parts s n p to

-- ---- what stays

-- after any number of instructions, each cell of a trusted part's code is as at the start
abbrev pub CodeStays : List PartSeen → StartSeen → Type 0
CodeStays parts s =
    (n a : ℕ) (p : PartSeen) → IsAmong parts true p → InCode p a
    → cell (after s n).cells a ≡ cell s.state.maps.cells a

-- if the next one comes from outside, it leaves each cell of a trusted part as it was
abbrev pub PartsStay : List PartSeen → StartSeen → Type 0
PartsStay parts s =
    (n a : ℕ) (p : PartSeen) → ComesFromOutside parts s n → IsAmong parts true p → InPart p a
    → cell (after s (n + 1)).cells a ≡ cell (after s n).cells a

-- ---- all of it

-- code outside keeps to what is its own, and to the doors of trusted parts
pub record CodeOutsideIsConfined (parts : List PartSeen) (s : StartSeen) : Type 0 where
  pub touches : TouchesNoMore parts s
  pub enters : EntersAtDoors parts s
  pub code_stays : CodeStays parts s
  pub parts_stay : PartsStay parts s

-- of parts that link to a start with a stack of a size: it is that of the parts where they are placed
abbrev pub StartIsConfined : List PartSeen → ℕ → StartSeen → Type 0
StartIsConfined parts size s = CodeOutsideIsConfined (placed parts size) s

-- of every linked start
abbrev pub AllCodeOutsideIsConfined : Type 0
AllCodeOutsideIsConfined =
    (parts : List PartSeen) (size : ℕ) (s : StartSeen) → IsLinkedStart parts size s
    → CodeOutsideIsConfined parts s
