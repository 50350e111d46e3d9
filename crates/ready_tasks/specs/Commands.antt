-- What each command does: it reads, with its files in the order of refusals, and what came is for a task.
use Rattle.std.specs.Prelude.{◌≡◌, ℕ, List, length, codes, Option, Some, None, Ok}
use Rattle.command_words.specs.declared.command.Linked.{Linked}
use Rattle.command_words.specs.declared.command.LinkDeed.{LinkDeed}
use Rattle.command_words.specs.declared.command.LinkDeed.TheVariants as link_deed
use Rattle.command_words.specs.declared.command.ComponentDeed.{ComponentDeed}
use Rattle.command_words.specs.declared.command.ComponentDeed.TheVariants as component_deed
use Rattle.command_words.specs.declared.command.Command.{Command}
use Rattle.command_words.specs.declared.command.Command.TheVariants.{Links, Takes, Checks, Mean, Generate}
use Rattle.command_words.specs.declared.command.Command.TheVariants as asked
use Rattle.component_file.specs.declared.component.ComponentFields.{ComponentFields}
use Rattle.component_file.specs.Spelling.{spelling}
use Rattle.component_file.specs.Reading.{decoded}
use Rattle.debug_script.specs.declared.command.DebugCommand.{DebugCommand as Line}
use Rattle.disassembler.specs.Disassembled.{disassembled}
use Rattle.link_tool.specs.declared.generated.load.Workload.{Workload}
use Rattle.link_tool.specs.Generated.{load_of, load_steps}
use Rattle.image_loader.specs.Image.{ImageSeen, image_bytes}
use Rattle.file_plans.specs.declared.refusal.Refusal.TheVariants as refusal
use Rattle.file_plans.specs.Plans.{Plan, Ends, Made, ◌>>=◌, file}
use Rattle.meaning_tool.specs.Erased.{IsSourceAgain}
use Rattle.meaning_tool.specs.Subjects.{Subject, module_at, subject_in}
use Rattle.proc_language.specs.declared.module.ModuleFields.{ModuleFields}
use Rattle.proc_print.specs.Printed.{printed}
use Rattle.link_tool.specs.Parts.{loaded, component_at, part_at}
use Rattle.link_tool.specs.Linked.{linked_plan}
use Rattle.link_tool.specs.Loads.{load_plan}
use Rattle.ready_tasks.specs.Debugs.{script_at}
use Rattle.ready_tasks.specs.Audits.{audit_at}

-- what a file that is put holds: a component, an image, or the text of a module
pub data Content : Type 0 where
  OfComponent : (component : ComponentFields) → Content
  OfImage : (image : ImageSeen) → Content
  OfModule : (m : ModuleFields) → Content

-- its bytes
abbrev pub spelling_of : Content → List ℕ
spelling_of (OfComponent c) = spelling c
spelling_of (OfImage i) = image_bytes i
spelling_of (OfModule m) = printed m

-- decoded, or loaded with all the rules, its bytes give just this content again; of a module, where they are
-- parsed at all, they are a source of a module that is the same but for its places
abbrev pub IsReadAgain : Content → Type 0
IsReadAgain (OfComponent c) = decoded (spelling c) ≡ Ok c
IsReadAgain (OfImage i) = loaded (image_bytes i) ≡ Ok i
IsReadAgain (OfModule m) = IsSourceAgain m

-- what is told of a run: its lines and its end line; or, of a load, its totals
pub data Telling : Type 0 where
  Lines : Telling
  Totals : (load : Workload) → Telling

-- what is left to do once the files came: to run the start of an image, or its overlay, or
-- to tell what its parts can reach; to debug it by a script; to put a file under a
-- name, and then to write `ok`; to write a text; or to tell a meaning under so much fuel
pub data Task : Type 0 where
  Run : (image : ImageSeen) (steps : ℕ) (telling : Telling) → Task
  Trace : (image : ImageSeen) (steps : ℕ) → Task
  Reach : (image : ImageSeen) → Task
  Debug : (image : ImageSeen) (script : List Line) → Task
  Put : (name : List ℕ) (content : Content) → Task
  Write : (text : List ℕ) → Task
  Tell : (subject : Subject) (fuel : ℕ) → Task

abbrev pub ok_text : List ℕ
ok_text = codes "ok\n"

-- ---- what is done with what came

abbrev pub link_task : LinkDeed → ImageSeen → Task
link_task (link_deed.Run steps) i = Run i steps Lines
link_task (link_deed.Trace steps) i = Trace i steps
link_task (link_deed.Store out) i = Put out (OfImage i)
link_task link_deed.Reach i = Reach i

abbrev pub component_task : ComponentDeed → ComponentFields → Task
component_task (component_deed.Put out) c = Put out (OfComponent c)
component_task component_deed.Show c = Write (disassembled c)

-- the script after what links, whose index is the number of parts
abbrev pub script_after : List ℕ → ImageSeen → Plan Task
script_after script i = do
  lines ← script_at script (length i.parts)
  Made (Debug i lines)

unfoldable pub debug_plan : Linked → List ℕ → Plan Task
debug_plan l script = do
  i ← linked_plan l
  script_after script i

-- a load is run for its steps, and its totals are told
abbrev pub load_task : ℕ → ImageSeen → Task
load_task seed i = Run i load_steps (Totals (load_of seed))

-- ---- what each command comes to

-- a plan, and the task of what it makes
abbrev pub for_task : {A : Type 0} → Plan A → (A → Task) → Plan Task
for_task plan task = do
  x ← plan
  Made (task x)

-- parts that link, or an image; one component, of which no rule is asked; one part with its own rules;
-- modules and a feed; a load; a text that is audited; or one module
abbrev pub plan_of : Command → Plan Task
plan_of (Links l deed) = for_task (linked_plan l) (link_task deed)
plan_of (Takes word deed) = for_task (component_at 0 word) (component_task deed)
plan_of (Checks word) = for_task (part_at 0 word) (λ part. Write ok_text)
plan_of (Mean words size fuel feed) = for_task (subject_in words size feed) (λ subject. Tell subject fuel)
plan_of (asked.Debug l script) = debug_plan l script
plan_of (asked.Audit name) = for_task (audit_at name) (λ u. Write ok_text)
plan_of (asked.Erase word out) = for_task (module_at 0 word) (λ m. Put out (OfModule m))
plan_of (Generate seed) = for_task (load_plan (load_of seed)) (load_task seed)

-- ---- what words ask for

abbrev pub plan_in : Option Command → Plan Task
plan_in None = Ends refusal.Usage
plan_in (Some c) = plan_of c
