-- What a call of a program answers.
use Rattle.std.specs.Prelude.{◌≡◌, ◌⊎◌, ℕ, List, Option, Some, None, Result}
use Rattle.outside_io.specs.Counts.{Rose}
use Rattle.outside_io.specs.FilesSeen.{FilesSeen, Puts, FailsToPut, KeepsOthers}
use Rattle.outside_io.specs.SinkSeen.{SinkSeen, Adds, FailsToWrite}
use Rattle.outside_io.specs.Whole.{OnlyGave}
use Rattle.command_words.specs.Plans.{Reading, PlanOf, Comes, Settles}

-- a file that is put, by its name and its bytes
pub record NewFile : Type 0 where
  pub name : List ℕ
  pub bytes : List ℕ

-- a status, the text that is written, and the file that is put before and what is handed over, where there
-- are such
pub record AnswerWith (Status Kept : Type 0) : Type 0 where
  pub status : Status
  pub text : List ℕ
  pub file : Option NewFile
  pub kept : Option Kept

-- a program: how it reads, what its plans make, its statuses, what it hands over, and the answer to what came
-- of a plan
pub record Program : Type 1 where
  pub reading : Reading
  pub Task : Type 0
  pub Status : Type 0
  pub Kept : Type 0
  pub write_fault : Status
  pub no_memory : Status
  pub IsAnswerOf : Result Task reading.Refusal → AnswerWith Status Kept → Type 0

-- ---- calls

-- what is outside of a call: what the files and the sink tell, and what the place for what is handed over
-- holds
pub record OutsideWith (Kept : Type 0) : Type 0 where
  pub files : FilesSeen
  pub sink : SinkSeen
  pub kept : Option Kept

abbrev pub outside : {Kept : Type 0} → FilesSeen → SinkSeen → Option Kept → OutsideWith Kept
outside files sink kept = record { files = files; sink = sink; kept = kept }

-- what is outside once the files tell this
abbrev pub with_files : {Kept : Type 0} → OutsideWith Kept → FilesSeen → OutsideWith Kept
with_files old seen = record old { files = seen }

abbrev pub kept_with : {Kept : Type 0} → Option Kept → Option Kept → Option Kept
kept_with None old = old
kept_with (Some m) old = Some m

-- the file was put, where there is one, and nothing else changed
abbrev pub IsPut : FilesSeen → Option NewFile → FilesSeen → Type 0
IsPut old None new = new ≡ old
IsPut old (Some file) new = Puts old new file.name file.bytes

-- an answer is given whole: its file put, its text written, what it hands over handed over
pub record AnswersWhole {Status Kept : Type 0} (old : OutsideWith Kept) (a : AnswerWith Status Kept)
    (status : Status) (new : OutsideWith Kept) : Type 0 where
  pub status_is : status ≡ a.status
  pub put : IsPut old.files a.file new.files
  pub written : Adds old.sink a.text new.sink
  pub kept_is : new.kept ≡ kept_with a.kept old.kept

-- or its file could not be put, and nothing was written; or the sink failed at its text. Then nothing is
-- handed over
pub data GivesAnswer (p : Program) (old : OutsideWith p.Kept) (a : AnswerWith p.Status p.Kept)
    (status : p.Status)
    (new : OutsideWith p.Kept) : Type 0 where
  whole : AnswersWhole old a status new → GivesAnswer p old a status new
  unput : (file : NewFile) → a.file ≡ Some file → FailsToPut old.files new.files file.name
      → new.sink ≡ old.sink → new.kept ≡ old.kept → status ≡ p.write_fault → GivesAnswer p old a status new
  unwritten : IsPut old.files a.file new.files → FailsToWrite old.sink a.text new.sink → new.kept ≡ old.kept
      → status ≡ p.write_fault → GivesAnswer p old a status new

-- memory was refused, with nothing put, nothing written and nothing handed over
pub record GivesNothing (p : Program) (old : OutsideWith p.Kept) (status : p.Status)
    (new : OutsideWith p.Kept) : Type 0 where
  pub status_is : status ≡ p.no_memory
  pub quiet : OnlyGave old.files new.files
  pub unwritten : new.sink ≡ old.sink
  pub kept_is : new.kept ≡ old.kept

-- the answer to what came of the plan is given, or nothing is; `seen` is what the files tell once they were
-- read
pub data Answers (p : Program) (plan : PlanOf p.reading p.Task) (old : OutsideWith p.Kept) (status : p.Status)
    (new : OutsideWith p.Kept) : Type 0 where
  answer : (due : Result p.Task p.reading.Refusal) (a : AnswerWith p.Status p.Kept) (seen : FilesSeen)
      → Comes plan old.files due seen → p.IsAnswerOf due a → GivesAnswer p (with_files old seen) a status new
      → Answers p plan old status new
  nothing : GivesNothing p old status new → Answers p plan old status new

-- ---- where the files tell what they hold

-- what is put, written, answered and handed over, by the plan and the bytes of the files
abbrev pub IsWritten : (p : Program) → (List ℕ → Option (List ℕ)) → PlanOf p.reading p.Task
    → AnswerWith p.Status p.Kept → Type 0
IsWritten p held plan a =
    (due : Result p.Task p.reading.Refusal) × Settles held plan due × p.IsAnswerOf due a

-- no count of faults rises in the call
pub record IsQuiet {Kept : Type 0} (old new : OutsideWith Kept) : Type 0 where
  pub reads : ¬ (Rose old.files.failed_reads new.files.failed_reads)
  pub puts : ¬ (Rose old.files.failed_puts new.files.failed_puts)
  pub writes : ¬ (Rose old.sink.faults new.sink.faults)

-- over files that tell, where no count rises, the answer to their bytes is given whole, or memory is refused
abbrev pub IsComplete : (p : Program) → PlanOf p.reading p.Task → OutsideWith p.Kept → p.Status
    → OutsideWith p.Kept → Type 0
IsComplete p plan old status new =
    (held : List ℕ → Option (List ℕ)) → old.files.contents ≡ Some held → IsQuiet old new
    → (status ≡ p.no_memory) ⊎ ((a : AnswerWith p.Status p.Kept) × (seen : FilesSeen)
    × IsWritten p held plan a × OnlyGave old.files seen × AnswersWhole (with_files old seen) a status new)

-- ---- bodies

-- an answer is given, or nothing is
abbrev pub GivesOrNothing : (p : Program) → OutsideWith p.Kept → AnswerWith p.Status p.Kept → p.Status
    → OutsideWith p.Kept → Type 0
GivesOrNothing p old a status new = GivesAnswer p old a status new ⊎ GivesNothing p old status new

-- a text was written and this status answered, or the sink failed
abbrev pub WritesOrFails : (p : Program) → SinkSeen → List ℕ → p.Status → p.Status → SinkSeen → Type 0
WritesOrFails p old text status result new =
    ((result ≡ status) × Adds old text new) ⊎ ((result ≡ p.write_fault) × FailsToWrite old text new)

-- ---- files that stay

abbrev pub Stay : FilesSeen → FilesSeen → Type 0
Stay old new = new.contents ≡ old.contents

-- all but the file that is put, where there is one
abbrev pub StayBut : Option NewFile → FilesSeen → FilesSeen → Type 0
StayBut None old new = Stay old new
StayBut (Some file) old new = KeepsOthers old new file.name
