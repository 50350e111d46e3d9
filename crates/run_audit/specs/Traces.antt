-- What a trace is, and the first line that spoils a text, apart from the way in which they are found.
use Rattle.std.specs.Prelude.{◌≡◌, ◌≢◌, ◌⊎◌, ℕ, ◌+◌, ◌<◌, Bool, true, false, List, [], ◌∷◌, ◌++◌, length}
use Rattle.std.specs.Prelude.{Some}
use Rattle.run_audit.specs.declared.fault.AuditFault.{AuditFault}
use Rattle.run_audit.specs.declared.fault.AuditFault.TheVariants.{Form, Width, Overlap, Unopened, Mismatch}
use Rattle.run_audit.specs.declared.line.Line.{Line}
use Rattle.run_audit.specs.declared.line.Line.TheVariants.{Call, Ret, Enter, Pass, End}
use Rattle.run_audit.specs.Told.{ToldSeen}
use Rattle.line_fields.specs.Fields.{lines}
use Rattle.run_audit.specs.Lines.{line_in}
use Rattle.run_audit.specs.Brackets.{LeavesOpen}

-- ---- lists of lines

-- the bytes are those of such a line
abbrev pub IsLine : List ℕ → Line → Type 0
IsLine text l = line_in text ≡ Some l

abbrev pub AreLines : List (List ℕ) → List Line → Type 0
AreLines [] [] = Unit {0}
AreLines [] (l ∷ ls) = ⊥
AreLines (t ∷ ts) [] = ⊥
AreLines (t ∷ ts) (l ∷ ls) = IsLine t l × AreLines ts ls

-- whether a pass line may come after such a line
abbrev pub lets_pass : Line → Bool
lets_pass Enter = true
lets_pass _ = false

-- no line is an end line, and each pass line stands right after an enter line
abbrev pub InPlace : Bool → Line → Type 0
InPlace entered End = ⊥
InPlace entered Pass = entered ≡ true
InPlace entered _ = Unit {0}

abbrev pub AreInPlace : Bool → List Line → Type 0
AreInPlace entered [] = Unit {0}
AreInPlace entered (l ∷ ls) = InPlace entered l × AreInPlace (lets_pass l) ls

-- there is a word for each address of a frame's range, which has none where it ends right below its base
abbrev pub IsWide : ToldSeen → Type 0
IsWide t = t.base + length t.words ≡ t.last + 1

abbrev pub HasWidth : Line → Type 0
HasWidth (Call t) = IsWide t
HasWidth (Ret t) = IsWide t
HasWidth _ = Unit {0}

abbrev pub HaveWidth : List Line → Type 0
HaveWidth [] = Unit {0}
HaveWidth (l ∷ ls) = HasWidth l × HaveWidth ls

-- a call lies below each of these
abbrev pub LiesBelow : ToldSeen → List ToldSeen → Type 0
LiesBelow t [] = Unit {0}
LiesBelow t (o ∷ os) = (t.last < o.base) × LiesBelow t os

-- from calls that are open on, each call lies below all that are open there
abbrev pub CallsAreApart : List ToldSeen → List Line → Type 0
CallsAreApart before ls =
    (front back : List Line) (t : ToldSeen) (now : List ToldSeen) → ls ≡ front ++ Call t ∷ back
    → LeavesOpen before front now
    → LiesBelow t now

-- lines that spoil nothing, and the calls that are open after them, newest first
pub record IsClean (ls : List Line) (open_now : List ToldSeen) : Type 0 where
  pub in_place : AreInPlace false ls
  pub bracketed : LeavesOpen [] ls open_now
  pub wide : HaveWidth ls
  pub apart : CallsAreApart [] ls

-- ---- texts

-- lines that spoil nothing, each with its newline, an end line with its newline, and nothing after it
pub record IsTrace (text : List ℕ) : Type 0 where
  pub front : List (List ℕ)
  pub last : List ℕ
  pub text_is : lines text ≡ front ++ last ∷ [] ∷ []
  pub seen : List Line
  pub are : AreLines front seen
  pub ends : IsLine last End
  pub open_now : List ToldSeen
  pub clean : IsClean seen open_now

-- whether the last of these is an enter line
abbrev pub entered_by : Bool → List Line → Bool
entered_by entered [] = entered
entered_by entered (l ∷ ls) = entered_by (lets_pass l) ls

-- a line, by its number, spoils what stands before it, of whose calls these are open: the first that holds
pub data Spoils (entered : Bool) (n : ℕ) : List ToldSeen → Line → AuditFault → Type 0 where
  misplaced : {now : List ToldSeen} → entered ≡ false → Spoils entered n now Pass (Form n)
  call_width : {now : List ToldSeen} {t : ToldSeen} → ¬ (IsWide t) → Spoils entered n now (Call t) (Width n)
  ret_width : {now : List ToldSeen} {t : ToldSeen} → ¬ (IsWide t) → Spoils entered n now (Ret t) (Width n)
  overlaps : {t newest : ToldSeen} {older : List ToldSeen} → IsWide t → ¬ (t.last < newest.base)
      → Spoils entered n (newest ∷ older) (Call t) (Overlap n)
  unopened : {t : ToldSeen} → IsWide t → Spoils entered n [] (Ret t) (Unopened n)
  differs : {t newest : ToldSeen} {older : List ToldSeen} → IsWide t → newest ≢ t
      → Spoils entered n (newest ∷ older) (Ret t) (Mismatch n)

-- what stands after lines that spoil nothing goes wrong with its first line, by that line's number, or
-- after it where it is an end line
abbrev pub GoesWrong : Bool → ℕ → List ToldSeen → List (List ℕ) → AuditFault → Type 0
GoesWrong entered n now [] e = ⊥
GoesWrong entered n now (t ∷ []) e = e ≡ Form n
GoesWrong entered n now (t ∷ u ∷ us) e =
    (((l : Line) → ¬ (IsLine t l)) × (e ≡ Form n))
    ⊎ (IsLine t End × ¬ (u ∷ us ≡ [] ∷ []) × (e ≡ Form (n + 1)))
    ⊎ ((l : Line) × IsLine t l × Spoils entered n now l e)

-- the first line that spoils a text, by its number
pub record HasFault (text : List ℕ) (e : AuditFault) : Type 0 where
  pub front : List (List ℕ)
  pub rest : List (List ℕ)
  pub text_is : lines text ≡ front ++ rest
  pub seen : List Line
  pub are : AreLines front seen
  pub open_now : List ToldSeen
  pub clean : IsClean seen open_now
  pub wrong : GoesWrong (entered_by false seen) (1 + length front) open_now rest e
