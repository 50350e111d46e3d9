-- The bytes of a call's files.
use Rattle.std.specs.Prelude.{◌≡◌, ◌⊎◌, ℕ, List, [], ◌∷◌, Result, Ok, Err}
use Rattle.outside_io.specs.FilesSeen.{FilesSeen}
use Rattle.file_plans.specs.declared.refusal.Refusal.{Refusal}
use Rattle.file_plans.specs.declared.refusal.Refusal.TheVariants.{TooLong, ReadFault}
use Rattle.file_plans.specs.Plans.{Plan, Reads, Ends, Made, whole, too_long, unread, Comes}

-- those of the files that came whole, in their order
abbrev pub bytes_of : {A : Type 0} (plan : Plan A) (old : FilesSeen) (due : Result A Refusal)
    (new : FilesSeen) → Comes plan old due new → List (List ℕ)
bytes_of (Made x) old due new h = []
bytes_of (Ends why) old due new h = []
bytes_of (Reads name index next) old due new (whole bytes mid w h) =
    bytes ∷ bytes_of (next bytes) mid due new h
bytes_of (Reads name index next) old due new (too_long t e) = []
bytes_of (Reads name index next) old due new (unread t e) = []

-- what comes of a plan, by files of which these came whole, in their order
abbrev pub ComesOf : {A : Type 0} → Plan A → List (List ℕ) → FilesSeen → Result A Refusal → FilesSeen → Type 0
ComesOf plan read old due new = (c : Comes plan old due new) × (bytes_of plan old due new c ≡ read)

-- what a plan makes of these bytes, file by file, or why it ends; after them it ends by a file that doesn't
-- come
abbrev pub ComesBy : {A : Type 0} → Plan A → List (List ℕ) → Result A Refusal → Type 0
ComesBy (Made x) [] due = due ≡ Ok x
ComesBy (Made x) (bytes ∷ came) due = ⊥
ComesBy (Ends why) [] due = due ≡ Err why
ComesBy (Ends why) (bytes ∷ came) due = ⊥
ComesBy (Reads name index next) [] due = (due ≡ Err (TooLong index)) ⊎ (due ≡ Err ReadFault)
ComesBy (Reads name index next) (bytes ∷ came) due = ComesBy (next bytes) came due
