-- The lines of a run, as an audit sees them; and that an audit passes the text of a run.
use Rattle.std.specs.Prelude.{◌≡◌, ℕ, ◌<◌, ◌^◌, List, map, Ok}
use Rattle.cap_words.specs.Text.{word_text_of}
use Rattle.linked_starts.specs.Parts.{PartSeen}
use Rattle.linked_starts.specs.Started.{StartSeen}
use Rattle.linked_starts.specs.LinkedStarts.{IsLinkedStart}
use Rattle.run_lines.specs.Layout.{layout}
use Rattle.run_lines.specs.Lines.{Line, call, ret, enter, pass, leave}
use Rattle.headline.specs.OpenCalls.{LineTold}
use Rattle.run_lines.specs.Runs.{run_text, written}
use Rattle.run_audit.specs.declared.line.Line.{Line as AuditLine}
use Rattle.run_audit.specs.declared.line.Line.TheVariants.{Call, Ret, Enter, Pass, Leave}
use Rattle.run_audit.specs.Told.{ToldSeen}
use Rattle.run_audit.specs.Audit.{OpenSeen, nothing_open, followed}
use Rattle.run_audit.specs.Traces.{IsTrace}

-- words by their texts
abbrev pub told_seen : LineTold → ToldSeen
told_seen t = record {
  part = t.part;
  site = t.site;
  base = t.base;
  last = t.last;
  words = map word_text_of t.words;
}

abbrev pub line_seen : Line → AuditLine
line_seen (call inward part site base last args words) =
    Call (told_seen (record { part = part; site = site; base = base; last = last; words = words }))
line_seen (ret inward part site base last a0 words) =
    Ret (told_seen (record { part = part; site = site; base = base; last = last; words = words }))
line_seen (enter part export stk args back) = Enter
line_seen (pass p0 p1 p2) = Pass
line_seen (leave part a0) = Leave

-- of every linked start: no line that its run writes spoils it
abbrev pub LinesAreFollowed : Type 0
LinesAreFollowed =
    (parts : List PartSeen) (size : ℕ) (s : StartSeen) → IsLinkedStart parts size s
    → (n : ℕ) → (o : OpenSeen) × (followed nothing_open 1 (map line_seen (written s n)) ≡ Ok o)

-- and the text of its run is a trace, where the machine's count hasn't wrapped
abbrev pub RunsPass : Type 0
RunsPass =
    (parts : List PartSeen) (size : ℕ) (s : StartSeen) → IsLinkedStart parts size s
    → (n : ℕ) → n < 2 ^ 64 → IsTrace (run_text (layout s) s.state n)
