-- That the words, names and numbers of lines are those that there are.
use Rattle.std.specs.Prelude.{◌≡◌, ℕ, true, ◌||◌, List, [], ◌∷◌}
use Rattle.cap_words.specs.declared.Word.{Word}
use Rattle.cap_words.specs.WordBytes.{WordFits}
use Rattle.lcm_machine.specs.Run.{plain}
use Rattle.linked_starts.specs.Parts.{PartSeen}
use Rattle.linked_starts.specs.Started.{StartSeen}
use Rattle.lcm_machine.specs.Fitting.{MapsFit}
use Rattle.linked_starts.specs.LinkedStarts.{IsLinkedStart}
use Rattle.source_events.specs.Forms.{IsName, IsSmall, BackFits, PairFits, is_pair}
use Rattle.run_lines.specs.Lines.{Args, Line, call, ret, enter, pass, leave}
use Rattle.run_lines.specs.Runs.{written}

-- ---- lines

-- each of them is of a kind
abbrev pub AllOf : (Word → Type 0) → List Word → Type 0
AllOf Is [] = Unit {0}
AllOf Is (w ∷ ws) = Is w × AllOf Is ws

abbrev pub ArgsOf : (Word → Type 0) → Args → Type 0
ArgsOf Is a = Is a.a0 × Is a.a1 × Is a.a2 × Is a.a3

abbrev pub PlaceFits : List ℕ → ℕ → ℕ → ℕ → Type 0
PlaceFits part site base last = IsName part × IsSmall site × IsSmall base × IsSmall last

-- names are names, numbers have 32 bits, words are of a kind, and a pass line tells something
abbrev pub LineOf : (Word → Type 0) → Line → Type 0
LineOf Is (call inward part site base last args words) =
    PlaceFits part site base last × ArgsOf Is args × AllOf Is words
LineOf Is (ret inward part site base last a0 words) = PlaceFits part site base last × Is a0 × AllOf Is words
LineOf Is (enter part export stk args back) =
    IsName part × IsName export × Is stk × ArgsOf Is args × BackFits back
LineOf Is (pass p0 p1 p2) =
    PairFits p0 × PairFits p1 × PairFits p2 × ((is_pair p0 || (is_pair p1 || is_pair p2)) ≡ true)
LineOf Is (leave part a0) = IsName part × Is a0

-- its words are words of a machine
abbrev pub LineFits : Line → Type 0
LineFits line = LineOf WordFits line

abbrev pub LinesFit : List Line → Type 0
LinesFit [] = Unit {0}
LinesFit (l ∷ ls) = LineFits l × LinesFit ls

-- ---- of every linked start

-- after any number of instructions, all words are words of a machine
abbrev pub RunsFit : Type 0
RunsFit =
    (parts : List PartSeen) (size : ℕ) (s : StartSeen) → IsLinkedStart parts size s → (n : ℕ)
    → MapsFit (plain n s.state).maps

-- and each line fits
abbrev pub StartLinesFit : Type 0
StartLinesFit =
    (parts : List PartSeen) (size : ℕ) (s : StartSeen) → IsLinkedStart parts size s → (n : ℕ)
    → LinesFit (written s n)
