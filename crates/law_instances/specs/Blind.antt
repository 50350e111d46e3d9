-- That noninterference of reports speaks of something: of a part that does something, and of what a trusted
-- part has in its data.
use Rattle.std.specs.Prelude.{◌≡◌, ◌≢◌, ℕ, ◌+◌, ◌<◌, ◌≤◌, true, false, Some, IsSome}
use Rattle.std.specs.List.{Contains}
use Rattle.cap_words.specs.declared.Word.{Word}
use Rattle.lcm_machine.specs.Maps.{State}
use Rattle.lcm_machine.specs.Cells.{cell}
use Rattle.lcm_machine.specs.Row.{went}
use Rattle.lcm_machine.specs.Acts.{JumpsUnder}
use Rattle.lcm_machine.specs.Blind.{SameBut, Keeps}
use Rattle.linked_starts.specs.declared.owners.Owner.{Owner}
use Rattle.linked_starts.specs.declared.owners.Entry.{Entry}
use Rattle.linked_starts.specs.Started.{StartSeen}
use Rattle.authority_report.specs.declared.reach.Reach.{Reach}
use Rattle.authority_report.specs.Report.{told_authority, owner_of_part, Reports}
use Rattle.authority_report.specs.Bounds.{plain_run, StaysIn}
use Rattle.authority_report.specs.Entered.{IsLinked, entered_at}
use Rattle.authority_report.specs.Influence.{Unread}

-- the addresses of a part's data
abbrev pub InData : Owner → ℕ → Type 0
InData o a = (o.data_span.base ≤ a) × (a ≤ o.data_span.end)

pub record BlindThere : Type 0 where
  pub start : StartSeen
  pub linked : IsLinked start
  -- a part that isn't trusted, and what it can reach
  pub part : ℕ
  pub owner : Owner
  pub owner_is : owner_of_part start.owners part ≡ Some owner
  pub untrusted : owner.trusted ≡ false
  pub report : Reach
  pub reports : Reports start part report
  -- a trusted part, whose data has cells, none of which the other can read
  pub secret : Owner
  pub secret_in : Contains start.owners secret
  pub trusted : secret.trusted ≡ true
  pub some_data : secret.data_span.base ≤ secret.data_span.end
  pub there : (a : ℕ) → InData secret a → IsSome (cell start.state.maps.cells a)
  pub unread : (a : ℕ) → InData secret a → Unread (told_authority owner report) a
  -- From one of its entries the part that isn't trusted makes some instructions that jump under no other
  -- part's seal, and a cell changes; with one more it jumps under another part's.
  pub entry : Entry
  pub entry_in : Contains owner.entries entry
  pub n : ℕ
  pub some : 0 < n
  pub before : State Word
  pub goes : plain_run n (entered_at start owner entry) ≡ went before
  pub stays : StaysIn (told_authority owner report).own n (entered_at start owner entry)
  pub count : ℕ
  pub changed : cell before.cells count ≢ cell start.state.maps.cells count
  pub after : State Word
  pub arrives : plain_run (n + 1) (entered_at start owner entry) ≡ went after
  pub seal : ℕ
  pub jumps : JumpsUnder (λ w. w) (λ w. w) before seal
  pub foreign : (told_authority owner report).own seal ≡ false
  -- So it does with any other words in the trusted part's data, or with none: it comes to the same registers
  -- and the same other cells, and that data is as it was.
  pub same : (t : State Word) → SameBut (InData secret) (entered_at start owner entry) t
      → (u : State Word) × (plain_run (n + 1) t ≡ went u) × SameBut (InData secret) after u
      × Keeps (InData secret) t u
