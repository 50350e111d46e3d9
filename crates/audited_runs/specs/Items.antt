-- That a feed's reader finds in the text of a run what comes in by its lines.
use Rattle.std.specs.Prelude.{◌≡◌, ℕ, List, Ok}
use Rattle.linked_starts.specs.Parts.{PartSeen}
use Rattle.linked_starts.specs.Started.{StartSeen}
use Rattle.linked_starts.specs.LinkedStarts.{IsLinkedStart}
use Rattle.overlay_machine.specs.Starting.{overlay_at}
use Rattle.run_lines.specs.Layout.{layout}
use Rattle.run_lines.specs.Feed.{items_of}
use Rattle.run_lines.specs.Runs.{run_text, written}
use Rattle.run_lines.specs.Traces.{trace_text}
use Rattle.line_fields.specs.Feed.{fed}

-- of a run of so many instructions, where stacks begin at this base
abbrev pub TextsTellItems : Type 0
TextsTellItems =
    (parts : List PartSeen) (size : ℕ) (s : StartSeen) → IsLinkedStart parts size s → (base n : ℕ)
    → fed base (run_text (layout s) s.state n) ≡ Ok (items_of base (written s n))

-- of a trace up to this limit
abbrev pub TracesTellItems : Type 0
TracesTellItems =
    (parts : List PartSeen) (size : ℕ) (s : StartSeen) → IsLinkedStart parts size s → (base limit : ℕ)
    → fed base (trace_text limit (overlay_at s)) ≡ Ok (items_of base (written s limit))
