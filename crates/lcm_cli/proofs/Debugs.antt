-- What links and is debugged: why its plan ends, and what comes of it.
use Rattle.std.proofs.Common.{◌≡◌, ℕ, List, [], ◌++◌, length, Option, Some, refl, sym, ap}
use Rattle.std.proofs.Common.{subst, ◌∙◌, inl, inr}
use Rattle.std.specs.Prelude.{Result, Ok, Err}
use Rattle.outside_io.specs.FilesSeen.{FilesSeen}
use Rattle.outside_io.specs.Whole.{GivesWhole}
use Rattle.command_words.specs.declared.command.Linked.{Linked}
use Rattle.command_words.specs.declared.command.Linked.TheVariants as what
use Rattle.command_words.specs.declared.command.Command.{Command}
use Rattle.command_words.specs.declared.command.Command.TheVariants as asked
use Rattle.linked_starts.specs.declared.fault.RuleAt.{RuleAt}
use Rattle.debug_script.specs.declared.command.DebugCommand.{DebugCommand as Line}
use Rattle.debug_script.specs.declared.fault.ScriptFault.{ScriptFault}
use Rattle.debug_script.specs.Script.{scripted}
use Rattle.image_loader.specs.declared.fault.ImageFault.{ImageFault}
use Rattle.image_loader.specs.Image.{ImageSeen}
use Rattle.file_plans.specs.declared.TheConstants.{LONGEST_FILE}
use Rattle.file_plans.specs.declared.refusal.Refusal.{Refusal}
use Rattle.file_plans.specs.declared.refusal.Refusal.TheVariants as refusal
use Rattle.file_plans.specs.Plans.{Plan, Made, ◌>>=◌, unless, Comes}
use Rattle.ready_tasks.specs.declared.ready.ReadyTask.TheVariants as ready
use Rattle.ready_tasks.specs.Commands.{Task, Debug, debug_plan, script_after}
use Rattle.link_tool.specs.Linked.{linked_plan}
use Rattle.ready_tasks.specs.Debugs.{unscripted, script_at}
use Rattle.lcm_cli.specs.Bytes.{ComesOf}
use Rattle.lcm_cli.specs.Causes.{AreLast, Breaks, IsUnloaded}
use Rattle.lcm_cli.proofs.Came.{split_of, IsSettled, settled_unless, settled_bind, read_made}
use Rattle.lcm_cli.proofs.Ends.{Never, Foreign, same_err, not_made, never_bind}
use Rattle.lcm_cli.proofs.Ends.{never_reads, never_unless, never_linked, never_image}
use Rattle.lcm_cli.proofs.Reasons.{Reasoned, ByBytes, reason_by, reads_reasoned, reasoned_bind, reasoned_made}
use Rattle.lcm_cli.proofs.Reasons.{in_reasoned, linked_break, image_fails}

-- ---- why it ends

module _ (l : Linked) (script : List ℕ) where
  abbrev the_command : Option Command
  the_command = Some (asked.Debug l script)

  script_by : (index : ℕ) → ByBytes the_command script index (λ text. unless unscripted (scripted text))
  script_by index =
      reason_by the_command unscripted scripted script index
      (λ old mid text f w e.
      (l, script, refl, index, ([], old, (refl, refl, refl), text, refl, w, (f, e, refl))))

  script_reasoned : (index : ℕ) → Reasoned the_command (script_at script index)
  unfolding script_at
  script_reasoned index =
      reads_reasoned the_command script index (λ text. unless unscripted (scripted text)) (script_by index)

  pub debug_reasoned : Reasoned (Some (asked.Debug l script)) (debug_plan l script)
  unfolding debug_plan
  debug_reasoned =
      reasoned_bind the_command (linked_plan l) (script_after script)
      (in_reasoned the_command (λ d text f e. e) l refl)
      (λ i. reasoned_bind the_command (script_at script (length i.parts)) _ (script_reasoned (length i.parts))
      (λ lines. reasoned_made the_command (Debug i lines)))

-- a script ends by its own file alone
abbrev pub NotOfScript : Refusal → Type 0
NotOfScript refusal.Usage = Unit {0}
NotOfScript (refusal.Rule r) = Unit {0}
NotOfScript (refusal.Image f) = Unit {0}
NotOfScript (refusal.Feed line) = Unit {0}
NotOfScript (refusal.Audit f) = Unit {0}
NotOfScript _ = ⊥

not_of_script : (x why : Refusal) → NotOfScript why → x ≡ why → NotOfScript x
not_of_script x why h e = subst NotOfScript (sym e) h

never_script : (why : Refusal) → NotOfScript why → (name : List ℕ) (index : ℕ)
    → Never (script_at name index) why
unfolding script_at
never_script why h name index =
    never_reads name index (λ text. unless unscripted (scripted text)) why
    (not_of_script (refusal.TooLong index) why h) (not_of_script refusal.ReadFault why h)
    (λ text. never_unless unscripted (scripted text) why (λ f. not_of_script (unscripted f) why h))

never_behind : (why : Refusal) → NotOfScript why → (script : List ℕ) (i : ImageSeen)
    → Never (script_after script i) why
never_behind why h script i =
    never_bind (script_at script (length i.parts)) _ why (never_script why h script (length i.parts))
    (λ lines. not_made (Debug i lines) why)

never_in : (why : Refusal) → Foreign why → ((name : List ℕ) → Never (linked_plan (what.Image name)) why)
    → (l : Linked) → Never (linked_plan l) why
never_in why h image (what.Parts words size) = never_linked why h words size
never_in why h image (what.Image name) = image name

pub never_debug : (why : Refusal) → NotOfScript why → Foreign why
    → ((name : List ℕ) → Never (linked_plan (what.Image name)) why) → (l : Linked) (script : List ℕ)
    → Never (debug_plan l script) why
unfolding debug_plan
never_debug why s h image l script =
    never_bind (linked_plan l) (script_after script) why (never_in why h image l) (never_behind why s script)

-- where its script is not why it ends, what links is
ends_first : (l : Linked) (script : List ℕ) (read : List (List ℕ)) (old new : FilesSeen) (why : Refusal)
    → NotOfScript why → ComesOf (debug_plan l script) read old (Err why) new
    → ComesOf (linked_plan l) read old (Err why) new
unfolding debug_plan
ends_first l script read old new why s h =
    elim (split_of (linked_plan l) (script_after script) read old new (Err why) h)
    as (λ _. ComesOf (linked_plan l) read old (Err why) new) [
      | inl k ↦ absurd (never_behind why s script k.0 k.1 new k.5.0)
      | inr k ↦ (let e = same_err why k.0 k.2 in rw (← e) k.1)
    ]

pub debug_breaks : (l : Linked) (script : List ℕ) (read : List (List ℕ)) (old new : FilesSeen) (r : RuleAt)
    → ComesOf (debug_plan l script) read old (Err (refusal.Rule r)) new
    → Breaks (Some (asked.Debug l script)) read old r new
debug_breaks (what.Parts words size) script read old new r h =
    linked_break words size read old new r
    (ends_first (what.Parts words size) script read old new (refusal.Rule r) tt h)
debug_breaks (what.Image name) script read old new r h =
    never_image (refusal.Rule r) tt name old new
    (ends_first (what.Image name) script read old new (refusal.Rule r) tt h).0

pub debug_unloaded : (l : Linked) (script : List ℕ) (read : List (List ℕ)) (old new : FilesSeen)
    (f : ImageFault) → ComesOf (debug_plan l script) read old (Err (refusal.Image f)) new
    → IsUnloaded (Some (asked.Debug l script)) read old f new
debug_unloaded (what.Parts words size) script read old new f h =
    absurd (never_linked (refusal.Image f) tt words size old new
    (ends_first (what.Parts words size) script read old new (refusal.Image f) tt h).0)
debug_unloaded (what.Image name) script read old new f h =
    let g = image_fails name read old new f
    (ends_first (what.Image name) script read old new (refusal.Image f) tt h) in
    (name, refl, g.0, g.1, g.2, g.3)

-- ---- what comes of it

-- what links came, and then the script's file
pub record DebugCame (l : Linked) (script : List ℕ) (read : List (List ℕ)) (old : FilesSeen) (t : Task)
    (new : FilesSeen) : Type 0 where
  pub image : ImageSeen
  pub before : List (List ℕ)
  pub mid : FilesSeen
  pub came : ComesOf (linked_plan l) before old (Ok image) mid
  pub text : List ℕ
  pub read_is : AreLast read before text
  pub script_came : GivesWhole mid script LONGEST_FILE text new
  pub lines : List Line
  pub is_script : scripted text ≡ Ok lines
  pub task : t ≡ Debug image lines

same_task : (x y : Task) → (let r : Result Task Refusal = Ok x in r) ≡ Ok y → x ≡ y
same_task x y e = cc

-- what a script's text comes to
abbrev by_script : ImageSeen → Result (List Line) ScriptFault → Plan Task
by_script i r = unless unscripted r >>= (λ lines. Made (Debug i lines))

settled_script : (i : ImageSeen) (text : List ℕ) → IsSettled (by_script i (scripted text))
settled_script i text =
    settled_bind (unless unscripted (scripted text)) (λ lines. Made (Debug i lines))
    (settled_unless unscripted (scripted text)) (λ lines. inl (Debug i lines, refl))

module _ (l : Linked) (script : List ℕ) (read : List (List ℕ)) (old : FilesSeen) (t : Task)
    (new : FilesSeen) where
  came_by : (i : ImageSeen) (mid : FilesSeen) (front : List (List ℕ)) (text : List ℕ)
      → AreLast read front text → ComesOf (linked_plan l) front old (Ok i) mid
      → GivesWhole mid script LONGEST_FILE text new
      → (r : Result (List Line) ScriptFault) → scripted text ≡ r
      → Comes (by_script i r) new (Ok t) new → DebugCame l script read old t new
  came_by i mid front text q c w (Ok lines) e h = record {
    image = i;
    before = front;
    mid = mid;
    came = c;
    text = text;
    read_is = q;
    script_came = w;
    lines = lines;
    is_script = e;
    task = same_task t (Debug i lines) h.0;
  }
  came_by i mid front text q c w (Err f) e h = absurd (let k = h.0 in cc)

  came_behind : (i : ImageSeen) (mid : FilesSeen) (front back : List (List ℕ)) → read ≡ front ++ back
      → ComesOf (linked_plan l) front old (Ok i) mid → ComesOf (script_after script i) back mid (Ok t) new
      → DebugCame l script read old t new
  unfolding script_at
  came_behind i mid front back q c h =
      let s = read_made script (length i.parts) (λ text. by_script i (scripted text)) (settled_script i)
      back mid new t h in
      came_by i mid front s.0 (q ∙ ap (λ b. front ++ b) s.1) c s.2 (scripted s.0) refl s.3

  pub debug_came : ComesOf (debug_plan l script) read old (Ok t) new → DebugCame l script read old t new
  unfolding debug_plan
  debug_came h =
      elim (split_of (linked_plan l) (script_after script) read old new (Ok t) h)
      as (λ _. DebugCame l script read old t new) [
        | inl k ↦ came_behind k.0 k.1 k.2 k.3 k.6 k.4 k.5
        | inr k ↦ absurd (let e = k.2 in cc)
      ]
