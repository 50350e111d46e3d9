-- The plans of the program's calls: what they read in which order, and what they refuse.
use Rattle.std.specs.Prelude.{ℕ, ◌+◌, List, [], ◌∷◌, Option, Some, None, Result, Ok, Err}
use Rattle.command_words.specs.declared.part.PartWord.{PartWord}
use Rattle.file_plans.specs.declared.TheConstants.{LONGEST_FILE}
use Rattle.file_plans.specs.declared.refusal.Refusal.{Refusal}
use Rattle.file_plans.specs.declared.refusal.Refusal.TheVariants.{ReadFault, TooLong}
use Rattle.file_plans.specs.declared.refusal.Stop.{Stop}
use Rattle.file_plans.specs.declared.refusal.Stop.TheVariants.{Refused, NoMemory}
use Rattle.command_words.specs.Plans.{Reading, PlanOf}
pub use Rattle.command_words.specs.Plans.{Reads, Ends, Made, ◌>>=◌, whole, too_long, unread, Comes, Settles}
pub use Rattle.command_words.specs.Plans.{Follows, Meets, FollowsAs}

-- what a stop tells
abbrev pub stop_tells : Stop → Option Refusal
stop_tells (Refused why) = Some why
stop_tells NoMemory = None

-- the index of a file is that of its part
abbrev pub stk_reading : Reading
stk_reading = record {
  Refusal = Refusal;
  Stop = Stop;
  longest = LONGEST_FILE;
  longer = TooLong;
  unreadable = ReadFault;
  told = stop_tells;
}

abbrev pub Plan : Type 0 → Type 0
Plan A = PlanOf stk_reading A

-- the turn of a file
abbrev pub file : List ℕ → ℕ → Plan (List ℕ)
file name index = Reads name index Made

-- what a layer below gives, or the call ends with its fault told
abbrev pub unless : {A F : Type 0} → (F → Refusal) → Result A F → Plan A
unless told (Ok x) = Made x
unless told (Err f) = Ends (told f)

-- each word's part in its order, the first of them at an index
abbrev pub each_at : {A : Type 0} → (ℕ → PartWord → Plan A) → ℕ → List PartWord → Plan (List A)
each_at item index [] = Made []
each_at item index (word ∷ words) = do
  first ← item index word
  others ← each_at item (index + 1) words
  Made (first ∷ others)
