-- The actions, each with its parts and options. An option that an action doesn't name is refused.
use Rattle.std.specs.Prelude.{ℕ, List, [], ◌∷◌, Bool, true, false, ◌&&◌, ◌||◌, codes, Option, Some}
use Rattle.std.specs.Prelude.{None, is_some, option_map, if◌then◌else◌}
use Rattle.std.specs.List.{list_all, list_any}
use Rattle.std.specs.Str.{bytes_eq}
use Rattle.command_words.specs.Texts.{Text}
use Rattle.command_words.specs.Line.{Taken, rows, taken_of}
use Rattle.command_words.specs.Name.{file_of}
use Rattle.command_words.specs.Number.{steps_in, size_in, seed_in}
use Rattle.command_words.specs.Part.{◌>>=◌, dialect_of, has_tokens, is_trusted_mark}
use Rattle.command_words.specs.Part.{some_parts_in, one_part_in, one_image_in}
use Rattle.command_words.specs.declared.part.Ending.{Ending}
use Rattle.command_words.specs.declared.part.Ending.TheVariants.{Source, Assembler, Component}
use Rattle.command_words.specs.declared.part.PartWord.{PartWord}
use Rattle.command_words.specs.declared.command.Linked.{Linked}
use Rattle.command_words.specs.declared.command.Linked.TheVariants.{Parts, Image}
use Rattle.command_words.specs.declared.command.LinkDeed.{LinkDeed}
use Rattle.command_words.specs.declared.command.LinkDeed.TheVariants.{Run, Trace, Store, Reach}
use Rattle.command_words.specs.declared.command.ComponentDeed.TheVariants.{Put, Show}
use Rattle.command_words.specs.declared.command.Command.{Command}
use Rattle.command_words.specs.declared.command.Command.TheVariants.{Links, Takes, Checks, Mean, Generate}
use Rattle.command_words.specs.declared.command.Command.TheVariants.{Debug, Audit, Erase}
use Rattle.command_words.specs.declared.action.Action.{Action}
use Rattle.command_words.specs.declared.action.Action.TheVariants as action
use Rattle.command_words.specs.declared.action.PutAction.{PutAction}
use Rattle.command_words.specs.declared.action.PutAction.TheVariants as puts
use Rattle.command_words.specs.declared.action.LookAction.{LookAction}
use Rattle.command_words.specs.declared.action.LookAction.TheVariants as looks

-- the first words
abbrev pub actions : List (Text × Action)
actions =
    (codes "run", action.Run) ∷ (codes "trace", action.Trace) ∷ (codes "asm", action.Put puts.Assemble)
    ∷ (codes "compile", action.Put puts.Compile) ∷ (codes "dis", action.Look looks.Disassemble)
    ∷ (codes "check", action.Look looks.Check) ∷ (codes "link", action.Link) ∷ (codes "mean", action.Mean)
    ∷ (codes "generate", action.Generate) ∷ (codes "reach", action.Reach) ∷ (codes "debug", action.Debug)
    ∷ (codes "audit", action.Audit) ∷ (codes "erase", action.Put puts.Erase) ∷ []

abbrev pub first_named : Text → List (Text × Action) → Option Action
first_named word [] = None
first_named word ((name, a) ∷ others) = if bytes_eq word name then Some a else first_named word others

unfoldable pub action_in : Text → Option Action
action_in word = first_named word actions

-- one of these options is used
abbrev pub any_used : List (Option Text) → Bool
any_used = list_any is_some

abbrev pub is_source : Ending → Bool
is_source ending = is_some (dialect_of ending)

abbrev pub is_assembler : Ending → Bool
is_assembler (Source dialect) = false
is_assembler Assembler = true
is_assembler Component = false

abbrev pub image_or_parts : Option Text → Option (List Text) → Option Text → Option Linked
image_or_parts (Some name) words stack = if is_some stack then None else Some (Image name)
image_or_parts None words stack = do
  size ← size_in stack
  parts ← some_parts_in words
  Some (Parts parts size)

-- one image word and no size of a stack, or part words
unfoldable pub linked_asked : Option (List Text) → Option Text → Option Linked
linked_asked words stack = image_or_parts (one_image_in words) words stack

-- what `run` and `trace` ask for
unfoldable pub run_in : (ℕ → LinkDeed) → Taken → Option Command
run_in deed t = if any_used (t.out ∷ t.feed ∷ t.seed ∷ []) then None else do
  steps ← steps_in t.steps
  what ← linked_asked t.parts t.stack
  Some (Links what (deed steps))

-- what is put into a file, by the part's ending
abbrev pub put_of : PutAction → PartWord → Text → Option Command
put_of puts.Assemble part out = if is_assembler part.ending then Some (Takes part (Put out)) else None
put_of puts.Compile part out = if is_source part.ending then Some (Takes part (Put out)) else None
put_of puts.Erase part out = if has_tokens part.ending then Some (Erase part out) else None

-- what `asm`, `compile` and `erase` ask for
unfoldable pub put_in : PutAction → Taken → Option Command
put_in a t = if any_used (t.stack ∷ t.steps ∷ t.feed ∷ t.seed ∷ []) then None else do
  part ← one_part_in t.parts
  out ← file_of t.out
  put_of a part out

abbrev pub look_of : LookAction → PartWord → Command
look_of looks.Disassemble part = Takes part Show
look_of looks.Check part = Checks part

-- what `dis` and `check` ask for
unfoldable pub look_in : LookAction → Taken → Option Command
look_in a t =
    if any_used (t.stack ∷ t.steps ∷ t.out ∷ t.feed ∷ t.seed ∷ []) then None
    else option_map (look_of a) (one_part_in t.parts)

unfoldable pub link_in : Taken → Option Command
link_in t = if any_used (t.steps ∷ t.feed ∷ t.seed ∷ []) then None else do
  size ← size_in t.stack
  out ← file_of t.out
  parts ← some_parts_in t.parts
  Some (Links (Parts parts size) (Store out))

-- `t:NAME.prc` or `t:NAME.tok`
abbrev pub is_module : PartWord → Bool
is_module p = is_trusted_mark p.mark && is_source p.ending

unfoldable pub mean_in : Taken → Option Command
mean_in t = if any_used (t.out ∷ t.seed ∷ []) then None else do
  size ← size_in t.stack
  fuel ← steps_in t.steps
  feed ← file_of t.feed
  modules ← some_parts_in t.parts
  if list_all is_module modules then Some (Mean modules size fuel feed) else None

unfoldable pub generate_in : Taken → Option Command
generate_in t =
    if is_some t.parts || any_used (t.stack ∷ t.steps ∷ t.out ∷ t.feed ∷ []) then None
    else option_map Generate (seed_in t.seed)

unfoldable pub reach_in : Taken → Option Command
reach_in t = if any_used (t.steps ∷ t.out ∷ t.feed ∷ t.seed ∷ []) then None else do
  what ← linked_asked t.parts t.stack
  Some (Links what Reach)

unfoldable pub debug_in : Taken → Option Command
debug_in t = if any_used (t.steps ∷ t.out ∷ t.seed ∷ []) then None else do
  script ← file_of t.feed
  what ← linked_asked t.parts t.stack
  Some (Debug what script)

unfoldable pub audit_in : Taken → Option Command
audit_in t =
    if is_some t.parts || any_used (t.stack ∷ t.steps ∷ t.out ∷ t.seed ∷ []) then None
    else option_map Audit (file_of t.feed)

-- what an action asks for
abbrev pub asked_of : Action → Taken → Option Command
asked_of action.Run t = run_in Run t
asked_of action.Trace t = run_in Trace t
asked_of (action.Put a) t = put_in a t
asked_of (action.Look a) t = look_in a t
asked_of action.Link t = link_in t
asked_of action.Mean t = mean_in t
asked_of action.Generate t = generate_in t
asked_of action.Reach t = reach_in t
asked_of action.Debug t = debug_in t
asked_of action.Audit t = audit_in t

-- what words taken apart ask for
unfoldable pub asked_by : Taken → Option Command
asked_by t = do
  word ← t.action
  action ← action_in word
  asked_of action t

-- what the words ask for; none where the command line doesn't take them, or they break a rule of their action
abbrev pub asked_in : List Text → Option Command
asked_in words = do
  found ← rows words
  asked_by (taken_of found)
