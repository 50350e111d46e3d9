-- The file that is put, and the files that stay.
use Rattle.std.proofs.Common.{◌≡◌, ℕ, ◌⊎◌, List, Option, Some, None, refl, sym, ap, subst, ◌∙◌, inl, inr}
use Rattle.std.specs.Prelude.{Result, Ok, Err}
use Rattle.outside_io.specs.FilesSeen.{FilesSeen, Puts, KeepsOthers}
use Rattle.command_words.specs.declared.command.LinkDeed.{LinkDeed}
use Rattle.command_words.specs.declared.command.LinkDeed.TheVariants as link_deed
use Rattle.command_words.specs.declared.command.ComponentDeed.{ComponentDeed}
use Rattle.command_words.specs.declared.command.ComponentDeed.TheVariants as component_deed
use Rattle.command_words.specs.declared.command.Command.{Command}
use Rattle.command_words.specs.declared.command.Command.TheVariants as asked
use Rattle.command_words.specs.declared.command.Command.TheVariants.{Links, Takes, Checks, Mean, Generate}
use Rattle.component_file.specs.declared.component.ComponentFields.{ComponentFields}
use Rattle.image_loader.specs.declared.fault.ImageFault.{ImageFault}
use Rattle.image_loader.specs.declared.fault.ImageFault.TheVariants as image
use Rattle.image_loader.specs.Image.{ImageSeen}
use Rattle.run_lines.specs.declared.run.RunEnd.{RunEnd}
use Rattle.run_lines.specs.declared.run.RunEnd.TheVariants as run_end
use Rattle.run_lines.specs.Runs.{end_of}
use Rattle.run_lines.specs.Traces.{trace_of}
use Rattle.link_tool.specs.Generated.{load_of}
use Rattle.lcm_machine.specs.Run.{answer as last_step, plain}
use Rattle.file_plans.specs.declared.refusal.Refusal.{Refusal}
use Rattle.file_plans.specs.declared.refusal.Refusal.TheVariants as refusal
use Rattle.refusal_lines.specs.declared.status.Status.{Status}
use Rattle.refusal_lines.specs.declared.status.Status.TheVariants as status
use Rattle.refusal_lines.specs.Refusals.{refusal_status, image_status}
use Rattle.link_tool.specs.Parts.{component_at, part_at}
use Rattle.source_events.specs.declared.End.{End}
use Rattle.source_events.specs.declared.End.TheVariants as end
use Rattle.meaning_tool.specs.Subjects.{told_of, module_at, subject_in}
use Rattle.ready_tasks.specs.Audits.{audit_at}
use Rattle.ready_tasks.specs.Commands.{Task, Run, Trace, Reach, Debug, Put, Write, Tell, Content, OfModule}
use Rattle.ready_tasks.specs.Commands.{spelling_of, IsReadAgain, link_task, component_task, plan_of, plan_in}
use Rattle.link_tool.specs.Linked.{linked_plan}
use Rattle.link_tool.specs.Loads.{load_plan}
use Rattle.command_words.specs.Answers.{NewFile, IsPut, whole, unput, unwritten, Answers, answer, nothing}
use Rattle.command_words.specs.Answers.{Stay}
use Rattle.lcm_cli.specs.Answers.{Answer, Outside, end_status, meaning_status, ran, ran_overlay, tells, puts}
use Rattle.lcm_cli.specs.Answers.{refused, IsAnswerOf, read_in, stk}
use Rattle.lcm_cli.specs.Causes.{PutsFile, link_out, component_out, out_name, OthersStay, StayAt}
use Rattle.lcm_cli.specs.Causes.{CameOf, PutsWhole}
use Rattle.lcm_cli.specs.Bytes.{bytes_of, ComesOf}
use Rattle.lcm_cli.proofs.Debugs.{debug_came}
use Rattle.lcm_cli.proofs.Making.{came_of}
use Rattle.lcm_cli.proofs.Tasks.{made_of}
use Rattle.command_words.proofs.Offers.{comes_contents, keeps_from, puts_rose}

-- ---- its name is that of `--out`

link_puts : (deed : LinkDeed) (i : ImageSeen) (name : List ℕ) (d : Content)
    → Put name d ≡ link_task deed i → link_out deed ≡ Some name
link_puts (link_deed.Run steps) i name d e = absurd (cc)
link_puts (link_deed.Trace steps) i name d e = absurd (cc)
link_puts link_deed.Reach i name d e = absurd (cc)
link_puts (link_deed.Store out) i name d e = let n : out ≡ name = cc in ap (λ m. Some m) n

component_puts : (deed : ComponentDeed) (c : ComponentFields) (name : List ℕ) (d : Content)
    → Put name d ≡ component_task deed c → component_out deed ≡ Some name
component_puts (component_deed.Put out) c name d e = let n : out ≡ name = cc in ap (λ m. Some m) n
component_puts component_deed.Show c name d e = absurd (cc)

put_of_command : (c : Command) (read : List (List ℕ)) (old seen : FilesSeen) (name : List ℕ) (d : Content)
    → ComesOf (plan_of c) read old (Ok (Put name d)) seen → out_name (Some c) ≡ Some name
put_of_command (Links l deed) read old seen name d h =
    let m = made_of (linked_plan l) (link_task deed) read old seen (Put name d) h in
    link_puts deed m.0 name d m.2
put_of_command (Takes word deed) read old seen name d h =
    let m = made_of (component_at 0 word) (component_task deed) read old seen (Put name d) h in
    component_puts deed m.0 name d m.2
put_of_command (Checks word) read old seen name d h =
    absurd (let m = (made_of (part_at 0 word) _ read old seen (Put name d) h).2 in cc)
put_of_command (Mean words size fuel feed) read old seen name d h =
    absurd (let m = (made_of (subject_in words size feed) _ read old seen (Put name d) h).2 in cc)
put_of_command (asked.Debug l script) read old seen name d h =
    absurd (let m = (debug_came l script read old (Put name d) seen h).task in cc)
put_of_command (asked.Audit text) read old seen name d h =
    absurd (let m = (made_of (audit_at text) _ read old seen (Put name d) h).2 in cc)
put_of_command (asked.Erase word out) read old seen name d h =
    let m = made_of (module_at 0 word) (λ m. Put out (OfModule m)) read old seen (Put name d) h in
    let n : out ≡ name = let e = m.2 in cc in ap (λ z. Some z) n
put_of_command (Generate seed) read old seen name d h =
    absurd (let m = (made_of (load_plan (load_of seed)) _ read old seen (Put name d) h).2 in cc)

no_ok : {A : Type 0} (x : A) (why : Refusal) → (let r : Result A Refusal = Ok x in r) ≡ Err why → ⊥
no_ok x why e = cc

put_in : (asked : Option Command) (read : List (List ℕ)) (old seen : FilesSeen) (name : List ℕ) (d : Content)
    → ComesOf (plan_in asked) read old (Ok (Put name d)) seen → out_name asked ≡ Some name
put_in None read old seen name d h = absurd (no_ok (Put name d) refusal.Usage h.0.0)
put_in (Some c) read old seen name d h = put_of_command c read old seen name d h

-- ---- an answer with a file

-- an answer has no file, or that of a component, an image or a module
abbrev IsOfPut : Result Task Refusal → Answer → Type 0
IsOfPut due a =
    (name : List ℕ) × (d : Content) × (due ≡ Ok (Put name d)) × IsReadAgain d
    × (a ≡ puts name (spelling_of d))

file_cases : (due : Result Task Refusal) (a : Answer) → IsAnswerOf due a → (a.file ≡ None) ⊎ IsOfPut due a
file_cases (Ok (Run i steps telling)) a x = inl (ap (λ (b : Answer). b.file) x.2)
file_cases (Ok (Trace i steps)) a x = inl (ap (λ (b : Answer). b.file) x.4)
file_cases (Ok (Put name d)) a x = inr (name, d, refl, x.0, x.1)
file_cases (Ok (Debug i script)) a x = inl (ap (λ (b : Answer). b.file) x.2)
file_cases (Ok (Reach i)) a x = inl (ap (λ (b : Answer). b.file) x.4)
file_cases (Ok (Write text)) a x = inl (ap (λ (b : Answer). b.file) x)
file_cases (Ok (Tell subject fuel)) a x = inl (ap (λ (b : Answer). b.file) x)
file_cases (Err why) a x = inl (ap (λ (b : Answer). b.file) x)

some_same : (f g : NewFile) → Some f ≡ Some g → f ≡ g
some_same f g e = cc

-- the file of an answer is that of `--out`
abbrev pub IsFileOf : Option Command → List (List ℕ) → FilesSeen → FilesSeen → NewFile → Type 0
IsFileOf asked read old seen f =
    (d : Content) × CameOf asked read old (Ok (Put f.name d)) seen × (f.bytes ≡ spelling_of d)
    × (out_name asked ≡ Some f.name) × IsReadAgain d

pub put_of : (asked : Option Command) (read : List (List ℕ)) (due : Result Task Refusal) (a : Answer)
    (f : NewFile) (old seen : FilesSeen)
    → CameOf asked read old due seen → IsAnswerOf due a → a.file ≡ Some f → IsFileOf asked read old seen f
put_of asked read due a f old seen c x e = elim (file_cases due a x)
    as (λ _. IsFileOf asked read old seen f) [
      | inl n ↦ absurd (let q : (let o : Option NewFile = None in o) ≡ Some f = sym n ∙ e in cc)
      | inr p ↦ (
          let k : f ≡ record { name = p.0; bytes = spelling_of p.1 } =
          some_same f (record { name = p.0; bytes = spelling_of p.1 }) (sym e
          ∙ ap (λ (b : Answer). b.file) p.4) in
          let n : f.name ≡ p.0 = ap (λ (g : NewFile). g.name) k in
          let came : CameOf asked read old (Ok (Put p.0 p.1)) seen =
          subst (λ r. CameOf asked read old r seen) p.2 c in (
            p.1,
            subst (λ m. CameOf asked read old (Ok (Put m p.1)) seen) (sym n) came,
            ap (λ (g : NewFile). g.bytes) k,
            put_in asked read old seen p.0 p.1 came.0 ∙ ap (λ m. Some m) (sym n),
            p.3,
          )
          )
    ]

-- ---- files stay

-- what became of the files of an answer
put_stays : (asked : Option Command) (read : List (List ℕ)) (due : Result Task Refusal) (a : Answer)
    (old seen new : FilesSeen)
    (file : Option NewFile) → CameOf asked read old due seen → IsAnswerOf due a → a.file ≡ file
    → IsPut seen file new
    → Stay old new ⊎ ((out : List ℕ) × (out_name asked ≡ Some out) × KeepsOthers old new out
    × PutsFile asked read old new)
put_stays asked read due a old seen new None c x e p =
    inl (ap (λ (s : FilesSeen). s.contents) p ∙ comes_contents (plan_in asked) old seen due c.0.0)
put_stays asked read due a old seen new (Some f) c x e p =
    let m = put_of asked read due a f old seen c x e in
    inr (
      f.name,
      m.3,
      keeps_from old seen new f.name (comes_contents (plan_in asked) old seen due c.0.0) p.others,
      (f.name, m.0, seen, m.1, m.4, subst (λ b. Puts seen new f.name b) m.2 p),
    )

others : (asked : Option Command) (read : List (List ℕ)) (old new : FilesSeen) → Stay old new
    ⊎ ((out : List ℕ) × (out_name asked ≡ Some out) × KeepsOthers old new out × PutsFile asked read old new)
    → OthersStay asked old new
others asked read old new (inl s) = inl s
others asked read old new (inr s) = inr (s.0, s.1, s.2)

put_or_stay : (asked : Option Command) (read : List (List ℕ)) (old new : FilesSeen) → Stay old new
    ⊎ ((out : List ℕ) × (out_name asked ≡ Some out) × KeepsOthers old new out × PutsFile asked read old new)
    → Stay old new ⊎ PutsFile asked read old new
put_or_stay asked read old new (inl s) = inl s
put_or_stay asked read old new (inr s) = inr s.3

-- a status other than Done puts no file
abbrev PutsNone : Status → Answer → Type 0
PutsNone status.Done a = Unit {0}
PutsNone _ a = a.file ≡ None

end_none : (end : RunEnd) (a : Answer) → a.file ≡ None → PutsNone (end_status end) a
end_none run_end.Halted a e = tt
end_none run_end.Failed a e = e
end_none run_end.Running a e = e
end_none run_end.WriteFault a e = e

meaning_none : (e : End) (a : Answer) → a.file ≡ None → PutsNone (meaning_status e) a
meaning_none (end.Halt v) a h = tt
meaning_none end.Fail a h = h
meaning_none end.Waiting a h = tt
meaning_none end.OutOfFuel a h = h

image_none : (f : ImageFault) (a : Answer) → a.file ≡ None → PutsNone (image_status f) a
image_none (image.Rule r) a e = e
image_none image.Magic a e = e
image_none image.Version a e = e
image_none (image.Short at) a e = e
image_none (image.BadField at) a e = e
image_none (image.Trailing at) a e = e
image_none (image.File part f) a e = e
image_none image.NoMemory a e = e

why_none : (why : Refusal) (a : Answer) → a.file ≡ None → PutsNone (refusal_status why) a
why_none refusal.Usage a e = e
why_none refusal.ReadFault a e = e
why_none (refusal.TooLong index) a e = e
why_none (refusal.Assembly index f) a e = e
why_none (refusal.Source index f) a e = e
why_none (refusal.File index f) a e = e
why_none (refusal.Rule r) a e = e
why_none (refusal.Image f) a e = image_none f a e
why_none (refusal.Feed line) a e = e
why_none (refusal.Script line) a e = e
why_none (refusal.Audit f) a e = e

puts_none : (due : Result Task Refusal) (a : Answer) → IsAnswerOf due a → PutsNone a.status a
puts_none (Ok (Run i steps telling)) a x =
    subst (λ (b : Answer). PutsNone b.status b) (sym x.2)
    (end_none (end_of (last_step (plain steps x.0.state))) (ran x.0 steps telling) refl)
puts_none (Ok (Trace i steps)) a x =
    subst (λ (b : Answer). PutsNone b.status b) (sym x.4)
    (end_none (trace_of steps x.1).end (ran_overlay x.1 steps) refl)
puts_none (Ok (Put name d)) a x = subst (λ (b : Answer). PutsNone b.status b) (sym x.1) tt
puts_none (Ok (Debug i script)) a x = subst (λ (b : Answer). PutsNone b.status b) (sym x.2) tt
puts_none (Ok (Reach i)) a x = subst (λ (b : Answer). PutsNone b.status b) (sym x.4) tt
puts_none (Ok (Write text)) a x = subst (λ (b : Answer). PutsNone b.status b) (sym x) tt
puts_none (Ok (Tell s fuel)) a x =
    subst (λ (b : Answer). PutsNone b.status b) (sym x)
    (meaning_none (told_of s fuel).end (tells (told_of s fuel)) refl)
puts_none (Err why) a x =
    subst (λ (b : Answer). PutsNone b.status b) (sym x) (why_none why (refused why) refl)

stay_by : (asked : Option Command) (a : Answer) (old new : FilesSeen) (ended : Status) → PutsNone ended a
    → OthersStay asked old new → (a.file ≡ None → Stay old new) → StayAt asked old ended new
stay_by asked a old new status.Done n o k = o
stay_by asked a old new status.WriteFault n o k = o
stay_by asked a old new status.MachineFailed n o k = k n
stay_by asked a old new status.StepsUsed n o k = k n
stay_by asked a old new status.Usage n o k = k n
stay_by asked a old new status.ReadFault n o k = k n
stay_by asked a old new status.NoMemory n o k = k n
stay_by asked a old new status.TooLong n o k = k n
stay_by asked a old new status.AsmRefused n o k = k n
stay_by asked a old new status.SourceRefused n o k = k n
stay_by asked a old new status.FileRefused n o k = k n
stay_by asked a old new status.RuleBroken n o k = k n
stay_by asked a old new status.AuditRefused n o k = k n

pub files_stay : (asked : Option Command) (old : Outside) (ended : Status) (new : Outside)
    → Answers stk (plan_in asked) old ended new → StayAt asked old.files ended new.files
files_stay asked old ended new (nothing n) = subst (λ s. StayAt asked old.files s new.files) (sym n.status_is)
    (ap (λ (s : FilesSeen). s.contents) n.quiet)
files_stay asked old ended new (answer due a seen c x (whole g)) =
    let read = bytes_of (plan_in asked) old.files due seen c in
    let k = came_of asked old.files due seen c in
    subst (λ s. StayAt asked old.files s new.files) (sym g.status_is)
    (stay_by asked a old.files new.files a.status (puts_none due a x)
    (others asked read old.files new.files (put_stays asked read due a old.files seen new.files a.file k x
    refl g.put))
    (λ e. ap (λ (s : FilesSeen). s.contents) (let p : IsPut seen None new.files =
    subst (λ f. IsPut seen f new.files) e g.put in p)
    ∙ comes_contents (plan_in asked) old.files seen due c))
files_stay asked old ended new (answer due a seen c x (unput f i w u k s)) =
    let read = bytes_of (plan_in asked) old.files due seen c in
    subst (λ s. StayAt asked old.files s new.files) (sym s)
    (inr (
      f.name,
      (put_of asked read due a f old.files seen (came_of asked old.files due seen c) x i).3,
      keeps_from old.files seen new.files f.name
          (comes_contents (plan_in asked) old.files seen due c) w.others,
    ))
files_stay asked old ended new (answer due a seen c x (unwritten p w k s)) =
    let read = bytes_of (plan_in asked) old.files due seen c in
    subst (λ s. StayAt asked old.files s new.files) (sym s)
    (others asked read old.files new.files (put_stays asked read due a old.files seen new.files a.file
    (came_of asked old.files due seen c) x refl p))

pub put_whole : (asked : Option Command) (old : Outside) (ended : Status) (new : Outside)
    (a : Answers stk (plan_in asked) old ended new) → PutsWhole asked (read_in a) old.files new.files
put_whole asked old ended new (nothing n) q = inl (ap (λ (s : FilesSeen). s.contents) n.quiet)
put_whole asked old ended new (answer due a seen c x (whole g)) q =
    let read = bytes_of (plan_in asked) old.files due seen c in
    put_or_stay asked read old.files new.files (put_stays asked read due a old.files seen new.files a.file
    (came_of asked old.files due seen c) x refl g.put)
put_whole asked old ended new (answer due a seen c x (unput f i w u k s)) q =
    absurd (q (puts_rose (plan_in asked) old.files seen due new.files.failed_puts c w.rose))
put_whole asked old ended new (answer due a seen c x (unwritten p w k s)) q =
    let read = bytes_of (plan_in asked) old.files due seen c in
    put_or_stay asked read old.files new.files (put_stays asked read due a old.files seen new.files a.file
    (came_of asked old.files due seen c) x refl p)
