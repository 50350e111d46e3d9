-- What is observed of a refined meaning, by names; and when two lists of modules mean the same, and end the
-- same way.
use Rattle.std.specs.Prelude.{◌≡◌, ℕ, ℤ, true, List, [], ◌∷◌, ◌++◌, map, Option, Some, None}
use Rattle.proc_program.specs.declared.program.Procedure.{Procedure}
use Rattle.proc_program.specs.declared.program.ProgramImport.{ProgramImport as Imported}
use Rattle.source_events.specs.declared.Item.{Item}
use Rattle.source_events.specs.declared.Item.TheVariants.{Enter, Ret}
use Rattle.source_events.specs.declared.FeedBack.{FeedBack}
use Rattle.source_events.specs.declared.FeedBack.TheVariants as way
use Rattle.source_events.specs.declared.End.TheVariants.{OutOfFuel}
use Rattle.proc_semantics.specs.Values.{World, fits_64, home_part, proc_in, import_in}
use Rattle.proc_semantics.specs.Rules.{part_name_of}
use Rattle.proc_semantics.specs.Marked.{PairHalf, Whence, OwnWord, ImportWord, CameWord, Event, refined}
use Rattle.proc_semantics.specs.Marked.{Calls as CallsOut, Leaves, report_to}

-- ---- what is observed of a meaning

-- a word of a pair by the names of a part and what that exports, or by the item with which it came and the
-- argument register in which it came
pub data Name : Type 0 where
  Exports : (part name : List ℕ) → PairHalf → Name
  Came : (item register : ℕ) → Name
  Nothing : Name

abbrev pub own_name : List ℕ → Option Procedure → PairHalf → Name
own_name part None x = Nothing
own_name part (Some p) x = Exports part p.name x

abbrev pub import_name : Option Imported → PairHalf → Name
import_name None x = Nothing
import_name (Some i) x = Exports i.part i.name x

abbrev pub name_of : World → Whence → Name
name_of world (OwnWord home j x) = own_name (part_name_of world home) (proc_in (home_part world home) j) x
name_of world (ImportWord home k x) = import_name (import_in (home_part world home) k) x
name_of world (CameWord k j) = Came k j

-- Of each call its part and number, the address where its frame begins, the lowest wiped cell, the names of
-- the pair by which it goes, and of each argument register the number or the name; of each procedure that
-- leaves its part, its value, the lowest wiped cell, and the number of the item that entered it.
abbrev pub observed : World → ℕ → List Item → ℕ → List (Event Name ℕ)
observed world stack feed fuel = (report_to (name_of world) (λ k. k) (refined world stack feed fuel)).events

-- an integer, where there is one, has 64 bits
abbrev pub NumberFits : Option ℤ → Type 0
NumberFits None = Unit {0}
NumberFits (Some z) = fits_64 z ≡ true

abbrev pub NumbersFit : List (Option ℤ) → Type 0
NumbersFit [] = Unit {0}
NumbersFit (v ∷ vs) = NumberFits v × NumbersFit vs

-- the integers of a feed have 64 bits, as those have that come in to a run
abbrev pub FeedFits : List Item → Type 0
FeedFits [] = Unit {0}
FeedFits (Enter part name left ints pairs back ∷ is) = NumbersFit ints × FeedFits is
FeedFits (Ret part site base v ∷ is) = NumberFits v × FeedFits is

-- ---- names of calls

-- Code outside can't see which number a call has in its part. So calls of two lists of modules are compared
-- by names that are given to them: of a part and a number there, again a part and a number.
abbrev pub Naming : Type 0
Naming = List ℕ → ℕ → List ℕ × ℕ

-- names for the calls of the one and of the other list; those of one name stand for each other
pub record CallNames : Type 0 where
  pub one : Naming
  pub other : Naming

-- no two calls of one list have one name
abbrev pub NamesEach : Naming → Type 0
NamesEach name = (part part' : List ℕ) (i j : ℕ) → name part i ≡ name part' j → (part ≡ part') × (i ≡ j)

abbrev pub AreOneToOne : CallNames → Type 0
AreOneToOne calls = NamesEach calls.one × NamesEach calls.other

abbrev pub swapped : CallNames → CallNames
swapped calls = record { one = calls.other; other = calls.one }

-- each call has its own number for a name
abbrev pub by_number : CallNames
by_number = record { one = λ part i. (part, i); other = λ part i. (part, i) }

-- items and events with calls by their names
abbrev pub back_named : Naming → FeedBack → FeedBack
back_named name way.Out = way.Out
back_named name way.Bad = way.Bad
back_named name (way.Hop part entry) = way.Hop part entry
back_named name (way.Pair part i base) = way.Pair (name part i).0 (name part i).1 base

abbrev pub item_named : Naming → Item → Item
item_named name (Enter part entry left ints pairs back) =
    Enter part entry left ints pairs (back_named name back)
item_named name (Ret part i base v) = Ret (name part i).0 (name part i).1 base v

abbrev pub feed_named : Naming → List Item → List Item
feed_named name feed = map (item_named name) feed

abbrev pub event_named : Naming → Event Name ℕ → Event Name ℕ
event_named name (CallsOut part i base low x y xs) =
    CallsOut (name part i).0 (name part i).1 base low x y xs
event_named name (Leaves part v low k) = Leaves part v low k

abbrev pub events_named : Naming → List (Event Name ℕ) → List (Event Name ℕ)
events_named name es = map (event_named name) es

-- the same feed, with calls by their names
abbrev pub SameFeed : CallNames → List Item → List Item → Type 0
SameFeed calls feed feed' = feed_named calls.one feed ≡ feed_named calls.other feed'

-- ---- the same meaning

-- what the one tells of a feed under a fuel, the other tells of the same feed under some fuel, and maybe more
abbrev pub TellsAsMuch : CallNames → World → World → ℕ → Type 0
TellsAsMuch calls world world' stack =
    (feed feed' : List Item) → SameFeed calls feed feed' → FeedFits feed → (fuel : ℕ) → (enough : ℕ)
    × (rest : List (Event Name ℕ))
    × (events_named calls.other (observed world' stack feed' enough)
    ≡ events_named calls.one (observed world stack feed fuel) ++ rest)

-- each tells as much as the other: on each feed the same is observed
abbrev pub MeanTheSame : CallNames → World → World → ℕ → Type 0
MeanTheSame calls world world' stack =
    TellsAsMuch calls world world' stack × TellsAsMuch (swapped calls) world' world stack

-- ---- the same end

-- Where the one ends on a feed whose integers have 64 bits, so does the other on the same feed, under some
-- fuel: by `halt` with the same value, by a failure, or with nothing left in the feed.
abbrev pub EndsAsWell : CallNames → World → World → ℕ → Type 0
EndsAsWell calls world world' stack =
    (feed feed' : List Item) → SameFeed calls feed feed' → FeedFits feed → (fuel : ℕ)
    → ((refined world stack feed fuel).end ≡ OutOfFuel → ⊥) → (enough : ℕ)
    × ((refined world' stack feed' enough).end ≡ (refined world stack feed fuel).end)

abbrev pub EndTheSame : CallNames → World → World → ℕ → Type 0
EndTheSame calls world world' stack =
    EndsAsWell calls world world' stack × EndsAsWell (swapped calls) world' world stack
