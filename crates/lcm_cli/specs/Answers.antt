-- What a call of the program answers.
use Rattle.std.specs.Prelude.{◌≡◌, ℕ, List, [], Option, Some, None, Result, Ok, Err}
use Rattle.authority_report.specs.Text.{IsReachText}
use Rattle.command_words.specs.Answers.{AnswerWith, OutsideWith, Program, Answers, answer, nothing}
use Rattle.debug_tool.specs.Replies.{debug_text}
use Rattle.link_tool.specs.Generated.{load_steps}
use Rattle.lcm_machine.specs.Run.{Run as Machine, answer as last_step, plain}
use Rattle.linked_starts.specs.Started.{StartSeen}
use Rattle.linked_starts.specs.LinkedStarts.{IsStartOf}
use Rattle.overlay_machine.specs.Seen.{OverlaySeen, IsOverlayOf}
use Rattle.run_lines.specs.declared.run.RunEnd.{RunEnd}
use Rattle.run_lines.specs.declared.run.RunEnd.TheVariants as run_end
use Rattle.run_lines.specs.Layout.{layout}
use Rattle.run_lines.specs.Runs.{run_text, end_of}
use Rattle.run_lines.specs.Traces.{trace_of, trace_text}
use Rattle.source_events.specs.declared.End.{End}
use Rattle.source_events.specs.declared.End.TheVariants as end
use Rattle.source_events.specs.declared.Told.{Told}
use Rattle.proc_meaning.specs.Text.{told_text}
use Rattle.meaning_tool.specs.Subjects.{told_of}
use Rattle.refusal_lines.specs.declared.status.Status.{Status}
use Rattle.refusal_lines.specs.declared.status.Status.TheVariants.{Done, MachineFailed, StepsUsed}
use Rattle.refusal_lines.specs.declared.status.Status.TheVariants.{WriteFault, NoMemory}
use Rattle.command_words.specs.declared.command.Command.{Command}
use Rattle.file_plans.specs.declared.refusal.Refusal.{Refusal}
use Rattle.ready_tasks.specs.declared.ready.ReadyTask.{ReadyTask}
use Rattle.ready_tasks.specs.declared.ready.ReadyTask.TheVariants as ready
use Rattle.refusal_lines.specs.Refusals.{refusal_text, refusal_status}
use Rattle.file_plans.specs.Plans.{Plan, stk_reading}
use Rattle.lcm_cli.specs.Bytes.{bytes_of}
use Rattle.ready_tasks.specs.Commands.{Telling, Lines, Totals, Task, Run, Trace}
use Rattle.ready_tasks.specs.Commands.{Reach, Debug, Put, Write, Tell}
use Rattle.ready_tasks.specs.Commands.{spelling_of, plan_in, IsReadAgain, ok_text}
use Rattle.lcm_cli.specs.Totals.{totals_text}

abbrev pub Answer : Type 0
Answer = AnswerWith Status Machine

abbrev pub Outside : Type 0
Outside = OutsideWith Machine

-- ---- what is due

abbrev pub writes : Status → List ℕ → Answer
writes status text = record { status = status; text = text; file = None; kept = None }

abbrev pub refused : Refusal → Answer
refused why = writes (refusal_status why) (refusal_text why)

-- the status of a run, by how it ended
abbrev pub end_status : RunEnd → Status
end_status run_end.Halted = Done
end_status run_end.Failed = MachineFailed
end_status run_end.Running = StepsUsed
end_status run_end.WriteFault = WriteFault

-- what is told of the plain run from a start
abbrev pub told_run : Telling → StartSeen → ℕ → List ℕ
told_run Lines start steps = run_text (layout start) start.state steps
told_run (Totals load) start steps = totals_text load start steps

-- of that run: what is told of it, and the machine as it left it
abbrev pub ran : StartSeen → ℕ → Telling → Answer
ran start steps telling =
    let left = plain steps start.state in
    let told = writes (end_status (end_of (last_step left))) (told_run telling start steps) in
    record told { kept = Some left }

-- of an overlay's run: its lines and its end line
abbrev pub ran_overlay : OverlaySeen → ℕ → Answer
ran_overlay overlay steps = writes (end_status (trace_of steps overlay).end) (trace_text steps overlay)

-- the status of a meaning, by how it ended
abbrev pub meaning_status : End → Status
meaning_status (end.Halt v) = Done
meaning_status end.Fail = MachineFailed
meaning_status end.Waiting = Done
meaning_status end.OutOfFuel = StepsUsed

-- of a meaning: a line for each event, and its end line
abbrev pub tells : Told → Answer
tells told = writes (meaning_status told.end) (told_text told)

abbrev pub says_ok : Answer
says_ok = writes Done ok_text

abbrev pub puts : List ℕ → List ℕ → Answer
puts name bytes = record says_ok { file = Some (record { name = name; bytes = bytes }) }

-- the answer to what came of a plan: that of the plain run of the start that the image's parts link to or of
-- its overlay, the text of what its parts can reach, the replies of a debugger, the file, whose bytes give
-- again what was put, the text, that of the meaning, or the refusal's
abbrev pub IsAnswerOf : Result Task Refusal → Answer → Type 0
IsAnswerOf (Ok (Run i steps telling)) a =
    (start : StartSeen) × IsStartOf i.parts i.stack start × (a ≡ ran start steps telling)
IsAnswerOf (Ok (Trace i steps)) a =
    (start : StartSeen) × (overlay : OverlaySeen) × IsStartOf i.parts i.stack start
    × IsOverlayOf start overlay × (a ≡ ran_overlay overlay steps)
IsAnswerOf (Ok (Reach i)) a =
    (start : StartSeen) × (text : List ℕ) × IsStartOf i.parts i.stack start × IsReachText start text
    × (a ≡ writes Done text)
IsAnswerOf (Ok (Debug i script)) a =
    (start : StartSeen) × IsStartOf i.parts i.stack start × (a ≡ writes Done (debug_text start.state script))
IsAnswerOf (Ok (Put name content)) a = IsReadAgain content × (a ≡ puts name (spelling_of content))
IsAnswerOf (Ok (Write text)) a = a ≡ writes Done text
IsAnswerOf (Ok (Tell subject fuel)) a = a ≡ tells (told_of subject fuel)
IsAnswerOf (Err why) a = a ≡ refused why

-- the program, which hands over the machine that a run left
abbrev pub stk : Program
stk = record {
  reading = stk_reading;
  Task = Task;
  Status = Status;
  Kept = Machine;
  write_fault = WriteFault;
  no_memory = NoMemory;
  IsAnswerOf = IsAnswerOf;
}

-- ---- calls

-- the bytes of which the answer was given, file by file
abbrev pub read_in : {plan : Plan Task} {old : Outside} {status : Status} {new : Outside}
    → Answers stk plan old status new → List (List ℕ)
read_in {plan} {old} (answer due a seen c x g) = bytes_of plan old.files due seen c
read_in (nothing n) = []

-- whatever answer explains the call, it is so of the bytes of which that one was given
abbrev pub OfBytes : (List (List ℕ) → Outside → Status → Outside → Type 0) → Option Command → Outside → Status
    → Outside → Type 0
OfBytes P asked old status new =
    (a : Answers stk (plan_in asked) old status new) → P (read_in a) old status new

-- ---- bodies

-- the answer of a ready task
abbrev pub ready_answer : ReadyTask → Answer
ready_answer (ready.Run start steps) = ran start steps Lines
ready_answer (ready.Generate start load) = ran start load_steps (Totals load)
ready_answer (ready.Trace start overlay steps) = ran_overlay overlay steps
ready_answer (ready.Put out bytes) = puts out bytes
ready_answer (ready.Write text) = writes Done text
ready_answer (ready.Debug start script) = writes Done (debug_text start.state script)
ready_answer ready.Say = says_ok
ready_answer (ready.Tell meant) = writes (meaning_status meant.end) meant.text

-- the machine of a ready task made no step yet, and its overlay is that of its start
abbrev pub IsReady : ReadyTask → Type 0
IsReady (ready.Run start steps) = (start.state.count ≡ 0) × (start.state.end ≡ None)
IsReady (ready.Generate start load) = (start.state.count ≡ 0) × (start.state.end ≡ None)
IsReady (ready.Debug start script) = (start.state.count ≡ 0) × (start.state.end ≡ None)
IsReady (ready.Trace start overlay steps) = IsOverlayOf start overlay
IsReady _ = Unit {0}
