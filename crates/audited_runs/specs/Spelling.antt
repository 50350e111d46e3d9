-- What an audit reads as a line is the text of a line.
use Rattle.std.specs.Prelude.{◌≡◌, ◌↔◌, ◌<◌, ◌^◌, ◌++◌, ℕ, List, Some, codes}
use Rattle.lcm_isa.specs.declared.Reg.{Reg}
use Rattle.lcm_machine.specs.declared.FailCause.{FailCause}
use Rattle.run_lines.specs.Views.{View}
use Rattle.run_lines.specs.Lines.{Line}
use Rattle.run_lines.specs.Texts.{line_text}
use Rattle.run_lines.specs.EndLines.{halted_text, running_text, failed_by_text}
use Rattle.run_lines.specs.Fits.{LineOf, LineFits}
use Rattle.line_fields.specs.Words.{HasText}
use Rattle.run_audit.specs.declared.line.Line.{Line as AuditLine}
use Rattle.run_audit.specs.declared.line.Line.TheVariants.{End}
use Rattle.run_audit.specs.Lines.{line_in}
use Rattle.audited_runs.specs.Audited.{line_seen}

-- ---- lines of events

-- as a line fits, but that any number of 32 bits does for the seal of a sealed word
abbrev pub LineHasText : Line → Type 0
LineHasText line = LineOf HasText line

-- with a newline it is the text of a line of an event, which is seen as this one
pub record LineIsSpelled (text : List ℕ) (l : AuditLine) : Type 0 where
  pub line : Line
  pub has_text : LineHasText line
  pub is : line_text line ≡ text ++ codes "\n"
  pub seen : line_seen line ≡ l

-- ---- end lines

-- by the words of registers and a count
pub data IsEndText (v : View) (n : ℕ) (text : List ℕ) : Type 0 where
  halted : text ≡ halted_text v n → IsEndText v n text
  running : text ≡ running_text v n → IsEndText v n text
  failed : (cause : FailCause) → text ≡ failed_by_text v cause n → IsEndText v n text

-- with a newline it is the text of an end line, of words that have texts and a count of 64 bits
pub record EndIsSpelled (text : List ℕ) : Type 0 where
  pub view : View
  pub words : (r : Reg) → HasText (view.reg r)
  pub count : ℕ
  pub small : count < 2 ^ 64
  pub is : IsEndText view count (text ++ codes "\n")

-- ---- all of them

abbrev pub IsSpelled : List ℕ → AuditLine → Type 0
IsSpelled text End = EndIsSpelled text
IsSpelled text l = LineIsSpelled text l

-- an audit reads the text of a line as what it is, and nothing else as a line
abbrev pub LinesAreRead : Type 0
LinesAreRead = (text : List ℕ) (l : AuditLine) → (line_in text ≡ Some l) ↔ IsSpelled text l

-- and each line that fits has a text
abbrev pub FittingHaveTexts : Type 0
FittingHaveTexts = (line : Line) → LineFits line → LineHasText line
