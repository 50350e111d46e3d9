-- Lists of lines whose calls and returns are bracketed: as a grammar, and by the calls that are open.
use Rattle.std.specs.Prelude.{List, [], ◌∷◌, ◌++◌}
use Rattle.run_audit.specs.declared.line.Line.{Line}
use Rattle.run_audit.specs.declared.line.Line.TheVariants.{Call, Ret, Enter, Pass, Leave, End}
use Rattle.run_audit.specs.Told.{ToldSeen}

-- a line that is neither a call nor a return
abbrev pub IsOther : Line → Type 0
IsOther (Call t) = ⊥
IsOther (Ret t) = ⊥
IsOther Enter = Unit {0}
IsOther Pass = Unit {0}
IsOther Leave = Unit {0}
IsOther End = Unit {0}

-- ---- the grammar

-- each call has its return
pub data IsBalanced : List Line → Type 0 where
  none : IsBalanced []
  other : {l : Line} {ls : List Line} → IsOther l → IsBalanced ls → IsBalanced (l ∷ ls)
  pair : {t : ToldSeen} {inner ls : List Line} → IsBalanced inner → IsBalanced ls
      → IsBalanced (Call t ∷ (inner ++ Ret t ∷ ls))

-- each return has its call, and a call may stay open
pub data Bracketed : List Line → Type 0 where
  none : Bracketed []
  other : {l : Line} {ls : List Line} → IsOther l → Bracketed ls → Bracketed (l ∷ ls)
  stays : {t : ToldSeen} {ls : List Line} → Bracketed ls → Bracketed (Call t ∷ ls)
  pair : {t : ToldSeen} {inner ls : List Line} → IsBalanced inner → Bracketed ls
      → Bracketed (Call t ∷ (inner ++ Ret t ∷ ls))

-- ---- by open calls

-- from calls that are open, newest first, through lines, to those that are open then
pub data LeavesOpen : List ToldSeen → List Line → List ToldSeen → Type 0 where
  at_end : {now : List ToldSeen} → LeavesOpen now [] now
  passes : {l : Line} {before now : List ToldSeen} {ls : List Line} → IsOther l → LeavesOpen before ls now
      → LeavesOpen before (l ∷ ls) now
  opens : {t : ToldSeen} {before now : List ToldSeen} {ls : List Line} → LeavesOpen (t ∷ before) ls now
      → LeavesOpen before (Call t ∷ ls) now
  closes : {t : ToldSeen} {before now : List ToldSeen} {ls : List Line} → LeavesOpen before ls now
      → LeavesOpen (t ∷ before) (Ret t ∷ ls) now

-- both say the same
abbrev pub SaysTheSame : Type 0
SaysTheSame =
    ((ls : List Line) → Bracketed ls → (now : List ToldSeen) × LeavesOpen [] ls now)
    × ((ls : List Line) (now : List ToldSeen) → LeavesOpen [] ls now → Bracketed ls)
