-- A ready task of the code, beside the task of the plan.
use Rattle.std.specs.Prelude.{◌≡◌, ℕ, List, Result}
use Rattle.outside_io.specs.FilesSeen.{FilesSeen}
use Rattle.authority_report.specs.Text.{IsReachText}
use Rattle.link_tool.specs.Generated.{load_steps}
use Rattle.linked_starts.specs.Started.{StartSeen}
use Rattle.linked_starts.specs.LinkedStarts.{IsStartOf}
use Rattle.overlay_machine.specs.Seen.{IsOverlayOf}
use Rattle.image_loader.specs.Image.{ImageSeen}
use Rattle.ready_tasks.specs.declared.ready.ReadyTask.{ReadyTask}
use Rattle.ready_tasks.specs.declared.ready.ReadyTask.TheVariants as ready
use Rattle.file_plans.specs.declared.refusal.Stop.{Stop}
use Rattle.file_plans.specs.Plans.{Plan, FollowsAs}
use Rattle.meaning_tool.specs.Subjects.{Subject, IsMeant}
use Rattle.ready_tasks.specs.Commands.{Lines, Totals, Task, Run, Trace, Reach, Debug, Put, Write, Tell}
use Rattle.ready_tasks.specs.Commands.{Content, IsReadAgain, spelling_of, ok_text}

-- the text that a task asks to be written: its own, or that of what the parts of its image can reach
abbrev pub IsTextOf : Task → List ℕ → Type 0
IsTextOf (Write t) text = text ≡ t
IsTextOf (Reach i) text = (start : StartSeen) × IsStartOf i.parts i.stack start × IsReachText start text
IsTextOf _ text = ⊥

-- the ready task runs from the start of the task's image or load, or from its overlay, or has the bytes of
-- its file, its text or that of its meaning
abbrev pub Does : Task → ReadyTask → Type 0
Does task (ready.Run start steps) =
    (i : ImageSeen) × (task ≡ Run i steps Lines) × IsStartOf i.parts i.stack start
Does task (ready.Generate start load) =
    (i : ImageSeen) × (task ≡ Run i load_steps (Totals load)) × IsStartOf i.parts i.stack start
Does task (ready.Trace start overlay steps) =
    (i : ImageSeen) × (task ≡ Trace i steps) × IsStartOf i.parts i.stack start × IsOverlayOf start overlay
Does task (ready.Put out bytes) =
    (content : Content) × (task ≡ Put out content) × IsReadAgain content × (bytes ≡ spelling_of content)
Does task (ready.Write text) = IsTextOf task text
Does task (ready.Debug start script) =
    (i : ImageSeen) × (task ≡ Debug i script) × IsStartOf i.parts i.stack start
Does task ready.Say = task ≡ Write ok_text
Does task (ready.Tell meant) = (s : Subject) × (fuel : ℕ) × (task ≡ Tell s fuel) × IsMeant fuel s meant

-- a ready task that does the task
abbrev pub FollowsTask : Plan Task → FilesSeen → Result ReadyTask Stop → FilesSeen → Type 0
FollowsTask = FollowsAs Does
