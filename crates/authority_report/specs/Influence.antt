-- Noninterference: what a part can't read doesn't influence what it does, until it jumps under another part's
-- seal.
use Rattle.std.specs.Prelude.{◌≡◌, ◌↔◌, ℕ, ◌+◌, false, Some}
use Rattle.std.specs.List.{list_any, Contains}
use Rattle.cap_words.specs.declared.Word.{Word}
use Rattle.lcm_machine.specs.Maps.{State}
use Rattle.lcm_machine.specs.Blind.{SameBut, EndsAlike}
use Rattle.linked_starts.specs.declared.owners.Owner.{Owner}
use Rattle.linked_starts.specs.declared.owners.Entry.{Entry}
use Rattle.linked_starts.specs.Started.{StartSeen}
use Rattle.authority_report.specs.Spans.{span_has}
use Rattle.authority_report.specs.declared.reach.Reach.{Reach}
use Rattle.authority_report.specs.Within.{Authority}
use Rattle.authority_report.specs.Report.{told_authority, owner_of_part, IsReport, Reports}
use Rattle.authority_report.specs.Bounds.{plain_run, StaysIn, IsBounded}
use Rattle.authority_report.specs.Entered.{IsLinked, entered_at}

-- the cells that may not be read
abbrev pub Unread : Authority → ℕ → Type 0
Unread g a = g.read a ≡ false

-- Two states run alike for n steps and one more. In both, or in neither, one of the n jumps under a seal that
-- isn't an own one. Where none does, both then end the same, or come to states that are again the same but
-- for the cells that may not be read, and these are in each as they were.
pub record RunsAlike (g : Authority) (n : ℕ) (s t : State Word) : Type 0 where
  pub stay : StaysIn g.own n s ↔ StaysIn g.own n t
  pub ends : StaysIn g.own n s → EndsAlike (Unread g) s t (plain_run (n + 1) s) (plain_run (n + 1) t)

-- A state runs alike with each other that is the same but for cells that may not be read, whatever is in
-- these and whether they are there or not.
abbrev pub RunsBlind : Authority → State Word → Type 0
RunsBlind g s = (t : State Word) → SameBut (Unread g) s t → (n : ℕ) → RunsAlike g n s t

-- so runs a state whose words don't exceed the authority
abbrev pub WordsBoundInfluence : Type 0
WordsBoundInfluence = (g : Authority) (s : State Word) → IsBounded g s → RunsBlind g s

-- so runs a part from each of its entries, of the cells that a report says can't be read
abbrev pub BoundsInfluence : StartSeen → ℕ → Reach → Type 0
BoundsInfluence s part r =
    (o : Owner) (e : Entry) → owner_of_part s.owners part ≡ Some o → Contains o.entries e
    → RunsBlind (told_authority o r) (entered_at s o e)

-- and so it does, of those that its report says can't be read
abbrev pub ReportsBoundInfluence : Type 0
ReportsBoundInfluence =
    (s : StartSeen) (part : ℕ) (r : Reach) → IsLinked s → Reports s part r → BoundsInfluence s part r

-- these cells are those in none of its spans
abbrev pub UnreadIsInNoSpan : Type 0
UnreadIsInNoSpan =
    (m : State Word) (o : Owner) (r : Reach) → IsReport m o r → (a : ℕ)
    → Unread (told_authority o r) a ↔ (list_any (λ s. span_has s a) r.spans ≡ false)

-- and the report itself doesn't depend on them
abbrev pub ReportsAreBlind : Type 0
ReportsAreBlind =
    (m t : State Word) (o : Owner) (r : Reach) → SameBut (Unread (told_authority o r)) m t → IsReport m o r
    → IsReport t o r
