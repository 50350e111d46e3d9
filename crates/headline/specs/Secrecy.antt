-- That the words of open calls' frames are secret and stay, told of the plain machine alone: whatever they
-- are, the rest of the machine runs on the same and writes the same lines, until a return of one of these
-- calls reads its frame. docs/HEADLINE.md has it in words.
use Rattle.std.specs.Prelude.{◌≡◌, ◌≢◌, ◌⊎◌, ℕ, ◌+◌, ◌≤◌, ◌<◌, ◌++◌, List, [], ◌∷◌, None}
use Rattle.std.specs.List.{Contains}
use Rattle.cap_words.specs.declared.Word.{Word}
use Rattle.lcm_machine.specs.Maps.{State}
use Rattle.lcm_machine.specs.Cells.{cell}
use Rattle.lcm_machine.specs.Run.{Run, plain}
use Rattle.call_sequence.specs.Sequences.{load_word, wipe_word}
use Rattle.linked_starts.specs.Parts.{PartSeen}
use Rattle.linked_starts.specs.Started.{StartSeen}
use Rattle.linked_starts.specs.LinkedStarts.{IsLinkedStart}
use Rattle.run_lines.specs.Layout.{layout}
use Rattle.run_lines.specs.Lines.{Line}
use Rattle.run_lines.specs.EndLines.{end_line}
use Rattle.run_lines.specs.Runs.{Watched, begun, watched, lines_of, written}
use Rattle.headline.specs.OpenCalls.{LineTold, open_behind, after, IsOwnReturn}
use Rattle.lcm_machine.specs.Blind.{SameBut, Keeps}

-- an address of the range of one of these calls
abbrev pub InRanges : List LineTold → ℕ → Type 0
InRanges cs a = (c : LineTold) × Contains cs c × (c.base ≤ a) × (a ≤ c.last)

-- From n instructions on these calls stay open for m more, of which none is one of the two of the own return
-- of one of them that read and wipe its frame's first word.
pub record StayOpen (s : StartSeen) (n m : ℕ) (cs : List LineTold) : Type 0 where
  pub opened : (k : ℕ) (c : LineTold) → k ≤ m → Contains cs c
      → Contains (open_behind [] (written s (n + k))) c
  pub unread : (k : ℕ) (c : LineTold) → k < m → Contains cs c
      → ¬ (IsOwnReturn s (n + k) c load_word ⊎ IsOwnReturn s (n + k) c wipe_word)

-- the machine after n instructions with other registers and cells, watched as the run itself
abbrev pub instead : StartSeen → ℕ → State Word → Watched
instead s n t = record (watched (layout s) (begun s.state) n) { run = record (plain n s.state) { maps = t } }

-- the run from there, and the lines that it writes
abbrev pub other_run : StartSeen → ℕ → State Word → ℕ → Run
other_run s n t m = plain m (record (plain n s.state) { maps = t })

abbrev pub other_lines : StartSeen → ℕ → State Word → ℕ → List Line
other_lines s n t m = lines_of (layout s) (instead s n t) m

-- m instructions from n on, made in a state with other words in some cells: the same end, if one comes, the
-- same count, the same registers and other cells, the same lines, and the same end line after them; and in
-- both runs these cells stay as they were
pub record RunsTheSame (s : StartSeen) (n m : ℕ) (apart : ℕ → Type 0) (t : State Word) : Type 0 where
  pub end : (other_run s n t m).end ≡ (plain (n + m) s.state).end
  pub count : (other_run s n t m).count ≡ (plain (n + m) s.state).count
  pub maps : SameBut apart (after s (n + m)) (other_run s n t m).maps
  pub kept : Keeps apart (after s n) (after s (n + m))
  pub kept_too : Keeps apart t (other_run s n t m).maps
  pub lines : written s (n + m) ≡ written s n ++ other_lines s n t m
  pub end_line : end_line (other_run s n t m) ≡ end_line (plain (n + m) s.state)

-- Whatever the words of these calls' frames are, and even where there are none, the machine runs the same.
abbrev pub FramesAreSecret : StartSeen → Type 0
FramesAreSecret s =
    (n m : ℕ) (cs : List LineTold) (t : State Word)
    → StayOpen s n m cs → SameBut (InRanges cs) (after s n) t → RunsTheSame s n m (InRanges cs) t

-- of every linked start
abbrev pub OpenFramesAreSecret : Type 0
OpenFramesAreSecret =
    (parts : List PartSeen) (size : ℕ) (s : StartSeen) → IsLinkedStart parts size s → FramesAreSecret s

-- that it speaks of something: a start whose run goes on for some instructions while a call stays open, and a
-- state with another word in the call's range
pub record SecretThere : Type 0 where
  pub parts : List PartSeen
  pub size : ℕ
  pub start : StartSeen
  pub linked : IsLinkedStart parts size start
  pub n : ℕ
  pub m : ℕ
  pub told : LineTold
  pub stays : StayOpen start n m (told ∷ [])
  pub more : 0 < m
  pub goes : (plain (n + m) start.state).end ≡ None
  pub other : State Word
  pub same : SameBut (InRanges (told ∷ [])) (after start n) other
  pub differs : cell other.cells told.base ≢ cell (after start n).cells told.base
