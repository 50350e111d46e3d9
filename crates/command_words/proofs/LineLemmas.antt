-- The command that the code builds, and what its parse says.
use Rattle.std.proofs.Common.{◌≡◌, ◌∙◌, ap, refl, Bool, false, List, [], ◌∷◌, true, Option, Some, None}
use Rattle.std.proofs.Common.{codes}
use Rattle.clap.specs.Words.{all_of, first_of, App, Row, Text, fault_of, is_simple, is_simple_and_free}
use Rattle.clap.specs.Words.{matches_of}
use Rattle.clap.specs.Simple.{built, names_of, on_top}
use Rattle.clap.specs.Walk.{Names, Walk, nothing_held, walk_from, walked}
use Rattle.clap.specs.Faults.{turn_fault, walk_fault}
use Rattle.clap.specs.Kinds.{or_else, IsAmong, Kinds}
use Rattle.clap.specs.declared.error.kind.ErrorKind.{ErrorKind}
use Rattle.std.specs.Prelude.{if◌then◌else◌}
use Rattle.clap.specs.Takes.{takes}
use Rattle.command_words.proofs.FaultLaw.{clear, fault_law}
use Rattle.command_words.specs.Line.{Taken, line, named, rows, taken_of}
use Rattle.command_words.specs.Rows.{rows_by, unless_faults}

-- the command that takes the words without the program's name
abbrev pub nameless : App → App
nameless = on_top (λ s. record s { no_binary_name = true })

pub line_is_free : is_simple_and_free (nameless line) ≡ true
line_is_free = refl

-- no step of a walk asks whether a program's name stood before the words
same_walk : (names : Names) (w : Walk) (words : List Text)
    → walk_fault (built (nameless line)).top names w words ≡ walk_fault (built line).top names w words
unfolding walk_fault
same_walk names w [] = refl
same_walk names w (word ∷ rest) =
    ap (or_else (turn_fault (built line).top names w word))
    (same_walk names (walked (built line).top.rules names w word) rest)

same_fault : (words : List Text) → fault_of (nameless line) words ≡ fault_of line (named words)
same_fault words = rw (same_walk (names_of (built line)) (walk_from nothing_held) words) refl

-- one is true where the other has no fault
by_fault : (kinds : Kinds) (found : List Row) → unless_faults kinds found
    ≡ (if clear kinds then Some found else None)
by_fault [] found = refl
by_fault (k ∷ ks) found = refl

pub same_rows : (a : App) → a ≡ nameless line → (words : List Text) (found : Option (List Row))
    → found ≡ rows_by a words → found ≡ rows words
same_rows a is words found e =
    let taken = matches_of line (named words) in
    e ∙ ap (λ (x : App). rows_by x words) is
    ∙ ap (λ (k : Kinds). unless_faults k taken) (same_fault words)
    ∙ by_fault (fault_of line (named words)) taken
    ∙ ap (λ (b : Bool). if b then Some taken else None) (fault_law (named words))

pub same_taken : (found : List Row) (t : Taken) → t.action ≡ first_of (codes "ACTION") found
    → t.parts ≡ all_of (codes "PARTS") found
    → t.stack ≡ first_of (codes "stack") found → t.steps ≡ first_of (codes "steps") found
    → t.out ≡ first_of (codes "out") found
    → t.feed ≡ first_of (codes "feed") found → t.seed ≡ first_of (codes "seed") found → t ≡ taken_of found
same_taken found t a p s m o f d = rw (← a, ← p, ← s, ← m, ← o, ← f, ← d) refl
