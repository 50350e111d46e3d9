-- What a call of the program answers, and why.
use Rattle.std.specs.Prelude.{◌≡◌, ◌⊎◌, ℕ, List, [], ◌++◌, codes, decimal, true, false}
use Rattle.std.specs.Prelude.{Option, Some, None, Result, Ok, Err, IsSomeAnd}
use Rattle.outside_io.specs.FilesSeen.{FilesSeen, KeepsOthers}
use Rattle.outside_io.specs.SinkSeen.{SinkSeen}
use Rattle.outside_io.specs.Whole.{GivesWhole, IsTooLong, Faults}
use Rattle.run_audit.specs.declared.fault.AuditFault.{AuditFault}
use Rattle.run_audit.specs.Fault.{fault_number, fault_line}
use Rattle.run_audit.specs.Traces.{IsTrace, HasFault}
use Rattle.run_picture.specs.declared.TheConstants.{LAST_LENGTH}
use Rattle.run_picture.specs.declared.fault.DrawFault.{DrawFault}
use Rattle.run_picture.specs.declared.fault.DrawFault.TheVariants as fault
use Rattle.run_picture.specs.Picture.{drawn, is_too_long, picture}
use Rattle.command_words.specs.Plans.{Reading, PlanOf, Reads, Ends, Made}
use Rattle.command_words.specs.Answers.{AnswerWith, Program, OutsideWith, outside, with_files}
use Rattle.command_words.specs.Answers.{Answers, GivesAnswer, GivesNothing, Stay}
use Rattle.draw_call.specs.declared.words.DrawCall.{DrawCall}
use Rattle.draw_call.specs.declared.refusal.DrawRefusal.{DrawRefusal}
use Rattle.draw_call.specs.declared.refusal.DrawRefusal.TheVariants as refusal
use Rattle.draw_call.specs.declared.refusal.DrawStop.{DrawStop}
use Rattle.draw_call.specs.declared.refusal.DrawStop.TheVariants as stop
use Rattle.draw_call.specs.declared.status.DrawStatus.{DrawStatus}
use Rattle.draw_call.specs.declared.status.DrawStatus.TheVariants.{Done, Usage, ReadFault, WriteFault}
use Rattle.draw_call.specs.declared.status.DrawStatus.TheVariants.{NoMemory, TooLong, AuditRefused}

-- ---- statuses and refusals

abbrev pub draw_status_number : DrawStatus → ℕ
draw_status_number Done = 0
draw_status_number Usage = 10
draw_status_number ReadFault = 11
draw_status_number WriteFault = 12
draw_status_number NoMemory = 13
draw_status_number TooLong = 14
draw_status_number AuditRefused = 20

-- the fault's number and its line
abbrev pub audit_line : AuditFault → List ℕ
audit_line f = codes "audit " ++ decimal (fault_number f) ++ codes " " ++ decimal (fault_line f) ++ codes "\n"

-- the status and the line of a refusal
abbrev pub told : DrawRefusal → DrawStatus × List ℕ
told refusal.Usage = (Usage, codes "usage\n")
told refusal.ReadFault = (ReadFault, codes "read fault\n")
told refusal.TooLong = (TooLong, codes "too long 0\n")
told (refusal.Audit f) = (AuditRefused, audit_line f)

-- ---- what is due

abbrev pub stop_tells : DrawStop → Option DrawRefusal
stop_tells (stop.Refused why) = Some why
stop_tells stop.NoMemory = None

abbrev pub draw_reading : Reading
draw_reading = record {
  Refusal = DrawRefusal;
  Stop = DrawStop;
  longest = LAST_LENGTH;
  longer = λ index. refusal.TooLong;
  unreadable = refusal.ReadFault;
  told = stop_tells;
}

-- the picture, or why there is none
abbrev pub picture_plan : Result (List ℕ) DrawFault → PlanOf draw_reading (List ℕ)
picture_plan (Ok svg) = Made svg
picture_plan (Err fault.TooLong) = Ends refusal.TooLong
picture_plan (Err (fault.Audit f)) = Ends (refusal.Audit f)

-- that of the text in the file of `--feed`
abbrev pub plan_in : Option DrawCall → PlanOf draw_reading (List ℕ)
plan_in None = Ends refusal.Usage
plan_in (Some c) = Reads c.feed 0 (λ text. picture_plan (drawn text))

-- ---- what is answered

-- the picture is put under this name, and then `ok` is written; or the refusal is told
abbrev pub answer_to : List ℕ → Result (List ℕ) DrawRefusal → AnswerWith DrawStatus ⊥
answer_to out (Ok svg) = record {
  status = Done;
  text = codes "ok\n";
  file = Some (record { name = out; bytes = svg });
  kept = None;
}
answer_to out (Err why) = record { status = (told why).0; text = (told why).1; file = None; kept = None }

-- nothing is handed over
abbrev pub stk_draw : List ℕ → Program
stk_draw out = record {
  reading = draw_reading;
  Task = List ℕ;
  Status = DrawStatus;
  Kept = ⊥;
  write_fault = WriteFault;
  no_memory = NoMemory;
  IsAnswerOf = λ due a. a ≡ answer_to out due;
}

abbrev pub CallSeen : Type 0
CallSeen = OutsideWith ⊥

abbrev pub seen_by : FilesSeen → SinkSeen → CallSeen
seen_by files sink = outside files sink None

-- the name of `--out`, where there is one
abbrev pub out_of : Option DrawCall → List ℕ
out_of None = []
out_of (Some c) = c.out

abbrev pub DrawAnswers : Option DrawCall → CallSeen → DrawStatus → CallSeen → Type 0
DrawAnswers asked old status new = Answers (stk_draw (out_of asked)) (plan_in asked) old status new

-- ---- the cause of each status

-- the text of the file of `--feed` came whole, and is such
abbrev pub CameSo : DrawCall → FilesSeen → FilesSeen → (List ℕ → Type 0) → Type 0
CameSo c old seen P = (text : List ℕ) × GivesWhole old c.feed LAST_LENGTH text seen × P text

-- why this is due. The words are no command
abbrev pub IsDue : Option DrawCall → FilesSeen → Result (List ℕ) DrawRefusal → FilesSeen → Type 0
IsDue None old due new = (due ≡ Err refusal.Usage) × (new ≡ old)
IsDue (Some c) old (Err refusal.Usage) new = ⊥
-- a read failed
IsDue (Some c) old (Err refusal.ReadFault) new = Faults old c.feed LAST_LENGTH new
-- the file has too many bytes, or its text too many lines
IsDue (Some c) old (Err refusal.TooLong) new =
    IsTooLong old c.feed LAST_LENGTH new ⊎ CameSo c old new (λ text. is_too_long text ≡ true)
-- the text isn't too long, and this is its first fault
IsDue (Some c) old (Err (refusal.Audit f)) new =
    CameSo c old new (λ text. (is_too_long text ≡ false) × HasFault text f)
-- the text isn't too long and is a trace of a run, and this is its picture
IsDue (Some c) old (Ok svg) new =
    CameSo c old new (λ text. (is_too_long text ≡ false) × IsTrace text × (svg ≡ picture text))

-- memory was refused; or what is due is answered, with its status, unless the put or the write fails
abbrev pub Cause : Option DrawCall → CallSeen → DrawStatus → CallSeen → Type 0
Cause asked old status new =
    let program = stk_draw (out_of asked) in
    GivesNothing program old status new
    ⊎ ((due : Result (List ℕ) DrawRefusal) × (seen : FilesSeen) × IsDue asked old.files due seen
    × GivesAnswer program (with_files old seen) (answer_to (out_of asked) due) status new)

-- ---- files that stay

-- a file is put where the status is Done or WriteFault, and only that of `--out`
abbrev pub StayAt : Option DrawCall → FilesSeen → DrawStatus → FilesSeen → Type 0
StayAt asked old Done new = IsSomeAnd asked (λ c. KeepsOthers old new c.out)
StayAt asked old WriteFault new = Stay old new ⊎ IsSomeAnd asked (λ c. KeepsOthers old new c.out)
StayAt asked old status new = Stay old new
