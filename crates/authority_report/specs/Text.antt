-- The text of reports.
use Rattle.std.specs.Prelude.{◌≡◌, ℕ, ◌+◌, ◌-◌, Bool, ◌++◌, List, [], ◌∷◌, codes, decimal, length, Some}
use Rattle.std.specs.Prelude.{if◌then◌else◌}
use Rattle.std.specs.List.{flat_map}
use Rattle.cap_words.specs.Text.{field_text, newline}
use Rattle.cap_words.specs.Stretch.{Stretch}
use Rattle.linked_starts.specs.declared.owners.Owner.{Owner}
use Rattle.linked_starts.specs.declared.owners.CalledEntry.{CalledEntry}
use Rattle.linked_starts.specs.Start.{same_name}
use Rattle.linked_starts.specs.Started.{StartSeen}
use Rattle.authority_report.specs.declared.spans.ReachSpan.{ReachSpan}
use Rattle.authority_report.specs.declared.reach.Reach.{Reach}
use Rattle.authority_report.specs.Report.{owner_of_part, IsReport}

-- a letter where there is the right, and else a dash
abbrev pub letter : Bool → ℕ → ℕ
letter b c = if b then c else 45

abbrev pub rights : ReachSpan → List ℕ
rights s = letter s.read 114 ∷ letter s.write 119 ∷ letter s.run 120 ∷ []

abbrev pub part_line : Owner → List ℕ
part_line o = codes "part" ++ field_text o.name ++ newline

abbrev pub span_line : ReachSpan → List ℕ
span_line s =
    codes "at" ++ field_text (decimal s.base) ++ field_text (decimal s.end) ++ field_text (rights s)
    ++ newline

abbrev pub seals_line : Stretch → List ℕ
seals_line s =
    codes "seals" ++ field_text (decimal s.base) ++ field_text (decimal (s.base + s.count - 1)) ++ newline

-- a call of an own entry is no exit
abbrev pub exit_line : Owner → CalledEntry → List ℕ
exit_line o c =
    if same_name c.part o.name then [] else codes "exit" ++ field_text c.part ++ field_text c.name ++ newline

-- the lines of one part
unfoldable pub part_text : Owner → Reach → List ℕ
part_text o r =
    part_line o ++ flat_map span_line r.spans ++ flat_map seals_line r.seals ++ flat_map (exit_line o) o.calls

-- the lines of the first so many parts of a start, in their order
pub data TextOf (s : StartSeen) : ℕ → List ℕ → Type 0 where
  none : TextOf s 0 []
  next : (part : ℕ) (text : List ℕ) (o : Owner) (r : Reach)
      → TextOf s part text → owner_of_part s.owners part ≡ Some o → IsReport s.state.maps o r
      → TextOf s (part + 1) (text ++ part_text o r)

-- the text of the reports of all parts of a start
abbrev pub IsReachText : StartSeen → List ℕ → Type 0
IsReachText s text = TextOf s (length s.owners) text
