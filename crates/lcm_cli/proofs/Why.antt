-- Why plans of words end.
use Rattle.std.proofs.Common.{◌≡◌, ◌⊎◌, ℕ, List, Option, Some, None, refl, sym, subst, inl, inr}
use Rattle.std.specs.Prelude.{Err}
use Rattle.outside_io.specs.FilesSeen.{FilesSeen}
use Rattle.command_words.specs.declared.command.Linked.{Linked}
use Rattle.command_words.specs.declared.command.Linked.TheVariants as what
use Rattle.command_words.specs.declared.command.LinkDeed.{LinkDeed}
use Rattle.command_words.specs.declared.command.ComponentDeed.{ComponentDeed}
use Rattle.command_words.specs.declared.command.Command.{Command}
use Rattle.command_words.specs.declared.command.Command.TheVariants as asked
use Rattle.command_words.specs.declared.command.Command.TheVariants.{Links, Takes, Checks, Mean, Generate}
use Rattle.command_words.specs.declared.part.PartWord.{PartWord}
use Rattle.command_words.specs.Fits.{Fits}
use Rattle.linked_starts.specs.declared.fault.RuleAt.{RuleAt}
use Rattle.link_tool.specs.Generated.{load_of}
use Rattle.image_loader.specs.declared.fault.ImageFault.{ImageFault}
use Rattle.file_plans.specs.declared.refusal.Refusal.{Refusal}
use Rattle.file_plans.specs.declared.refusal.Refusal.TheVariants as refusal
use Rattle.file_plans.specs.Plans.{Plan, Made, Comes}
use Rattle.lcm_cli.specs.Bytes.{ComesOf}
use Rattle.link_tool.specs.Parts.{component_at, part_at}
use Rattle.meaning_tool.specs.Subjects.{module_at, subject_in}
use Rattle.ready_tasks.specs.Commands.{Task, for_task, link_task, component_task}
use Rattle.ready_tasks.specs.Commands.{plan_of, plan_in, debug_plan}
use Rattle.link_tool.specs.Linked.{linked_plan}
use Rattle.link_tool.specs.Loads.{load_plan}
use Rattle.lcm_cli.specs.Causes.{IsUnread, IsLong, IsUndecoded, IsUncompiled, IsUnassembled, IsUnloaded}
use Rattle.lcm_cli.specs.Causes.{IsUnscripted, IsUnaudited, IsUnmade, Breaks, IsUnfed}
use Rattle.lcm_cli.proofs.Ends.{Never, same_err, never_linked, never_image, never_component, never_part}
use Rattle.lcm_cli.proofs.Ends.{no_rule}
use Rattle.lcm_cli.proofs.Reasons.{reason_first, Reasoned, in_reasoned, component_reasoned}
use Rattle.lcm_cli.proofs.Reasons.{part_reasoned, linked_break, part_breaks, image_fails}
use Rattle.lcm_cli.proofs.Loads.{never_load, load_ended}
use Rattle.ready_tasks.specs.Audits.{audit_at}
use Rattle.lcm_cli.proofs.Audits.{audit_reasoned, never_audit}
use Rattle.lcm_cli.proofs.Debugs.{debug_reasoned, never_debug, debug_breaks, debug_unloaded}
use Rattle.lcm_cli.proofs.Modules.{never_module, no_rule_module, erase_reasoned}
use Rattle.lcm_cli.proofs.Modules.{never_subject, subject_reasoned, modules_break, feed_fails}
use Rattle.lcm_cli.proofs.Tasks.{err_of}

-- ---- why a plan of the words ends

abbrev pub WhyIs : {A : Type 0} → Option Command → Plan A → List (List ℕ) → FilesSeen → Refusal → FilesSeen
    → Type 0
WhyIs asked plan read old refusal.Usage new = asked ≡ None
WhyIs asked plan read old refusal.ReadFault new = IsUnread plan read old new
WhyIs asked plan read old (refusal.TooLong index) new = IsLong plan read old index new
WhyIs asked plan read old (refusal.Assembly index f) new = IsUnassembled asked plan read old index f new
WhyIs asked plan read old (refusal.Source index f) new =
    IsUncompiled asked plan read old index f new ⊎ IsUnmade asked (refusal.Source index f)
WhyIs asked plan read old (refusal.File index f) new = IsUndecoded asked plan read old index f new
WhyIs asked plan read old (refusal.Rule r) new = Breaks asked read old r new
WhyIs asked plan read old (refusal.Image f) new = IsUnloaded asked read old f new
WhyIs asked plan read old (refusal.Feed line) new = IsUnfed asked read old line new
WhyIs asked plan read old (refusal.Script line) new = IsUnscripted asked plan read old line new
WhyIs asked plan read old (refusal.Audit f) new = IsUnaudited asked plan read old f new

-- what a plan says of its ends, where it is part of what the words ask for
record Explains {A : Type 0} (asked : Option Command) (plan : Plan A) (read : List (List ℕ))
    (old new : FilesSeen) : Type 0 where
  reasoned : Reasoned asked plan
  no_usage : Never plan refusal.Usage
  breaks : (r : RuleAt) → ComesOf plan read old (Err (refusal.Rule r)) new → Breaks asked read old r new
  unloaded : (f : ImageFault) → ComesOf plan read old (Err (refusal.Image f)) new
      → IsUnloaded asked read old f new
  unfed : (line : ℕ) → ComesOf plan read old (Err (refusal.Feed line)) new → IsUnfed asked read old line new

why_from : {A : Type 0} (asked : Option Command) (plan : Plan A) (read : List (List ℕ)) (old new : FilesSeen)
    (why : Refusal) → Explains asked plan read old new → ComesOf plan read old (Err why) new
    → WhyIs asked plan read old why new
why_from asked plan read old new refusal.Usage t h = absurd (t.no_usage old new h.0)
why_from asked plan read old new refusal.ReadFault t h = t.reasoned.gives read old new refusal.ReadFault h
why_from asked plan read old new (refusal.TooLong index) t h =
    t.reasoned.gives read old new (refusal.TooLong index) h
why_from asked plan read old new (refusal.Assembly index f) t h =
    t.reasoned.gives read old new (refusal.Assembly index f) h
why_from asked plan read old new (refusal.Source index f) t h =
    inl (t.reasoned.gives read old new (refusal.Source index f) h)
why_from asked plan read old new (refusal.File index f) t h =
    t.reasoned.gives read old new (refusal.File index f) h
why_from asked plan read old new (refusal.Rule r) t h = t.breaks r h
why_from asked plan read old new (refusal.Image f) t h = t.unloaded f h
why_from asked plan read old new (refusal.Feed line) t h = t.unfed line h
why_from asked plan read old new (refusal.Script line) t h =
    t.reasoned.gives read old new (refusal.Script line) h
why_from asked plan read old new (refusal.Audit f) t h = t.reasoned.gives read old new (refusal.Audit f) h

-- what is read says why a task doesn't come
why_first : {A : Type 0} (asked : Option Command) (p : Plan A) (f : A → Task) (read : List (List ℕ))
    (old new : FilesSeen) (why : Refusal) → WhyIs asked p read old why new
    → WhyIs asked (for_task p f) read old why new
why_first asked p f read old new refusal.Usage h = h
why_first asked p f read old new refusal.ReadFault h =
    reason_first asked p (λ x. Made (f x)) read old new refusal.ReadFault h
why_first asked p f read old new (refusal.TooLong index) h =
    reason_first asked p (λ x. Made (f x)) read old new (refusal.TooLong index) h
why_first asked p f read old new (refusal.Assembly index y) h =
    reason_first asked p (λ x. Made (f x)) read old new (refusal.Assembly index y) h
why_first asked p f read old new (refusal.Source index y) (inl h) =
    inl (reason_first asked p (λ x. Made (f x)) read old new (refusal.Source index y) h)
why_first asked p f read old new (refusal.Source index y) (inr h) = inr h
why_first asked p f read old new (refusal.File index y) h =
    reason_first asked p (λ x. Made (f x)) read old new (refusal.File index y) h
why_first asked p f read old new (refusal.Rule r) h = h
why_first asked p f read old new (refusal.Image y) h = h
why_first asked p f read old new (refusal.Feed line) h = h
why_first asked p f read old new (refusal.Script line) h =
    reason_first asked p (λ x. Made (f x)) read old new (refusal.Script line) h
why_first asked p f read old new (refusal.Audit y) h =
    reason_first asked p (λ x. Made (f x)) read old new (refusal.Audit y) h

why_task : {A : Type 0} (asked : Option Command) (p : Plan A) (f : A → Task) (read : List (List ℕ))
    (old new : FilesSeen) (why : Refusal) → Explains asked p read old new
    → ComesOf (for_task p f) read old (Err why) new → WhyIs asked (for_task p f) read old why new
why_task asked p f read old new why t h =
    why_first asked p f read old new why
    (why_from asked p read old new why t (err_of p f read old new why h))

-- ---- what is read: parts that link, or an image; one component; one part; modules and a feed

links_explain : (l : Linked) (deed : LinkDeed) (read : List (List ℕ)) (old new : FilesSeen)
    → Explains (Some (Links l deed)) (linked_plan l) read old new
links_explain (what.Parts words size) deed read old new = record {
  reasoned = in_reasoned (Some (Links (what.Parts words size) deed)) (λ d text f e. e)
      (what.Parts words size) refl;
  no_usage = never_linked refusal.Usage tt words size;
  breaks = linked_break words size read old new;
  unloaded = λ f h. absurd (never_linked (refusal.Image f) tt words size old new h.0);
  unfed = λ line h. absurd (never_linked (refusal.Feed line) tt words size old new h.0);
}
links_explain (what.Image name) deed read old new = record {
  reasoned = in_reasoned (Some (Links (what.Image name) deed)) (λ d text f e. e) (what.Image name) refl;
  no_usage = never_image refusal.Usage tt name;
  breaks = λ r h. never_image (refusal.Rule r) tt name old new h.0;
  unloaded = λ f h. (let g = image_fails name read old new f h in (name, refl, g.0, g.1, g.2, g.3));
  unfed = λ line h. absurd (never_image (refusal.Feed line) tt name old new h.0);
}

component_explains : (word : PartWord) (deed : ComponentDeed) (read : List (List ℕ)) (old new : FilesSeen)
    → Explains (Some (Takes word deed)) (component_at 0 word) read old new
component_explains word deed read old new = record {
  reasoned = component_reasoned (Some (Takes word deed)) (λ d text f e. e) 0 word refl;
  no_usage = never_component refusal.Usage tt 0 word;
  breaks = λ r h. no_rule 0 word r old new h.0;
  unloaded = λ f h. absurd (never_component (refusal.Image f) tt 0 word old new h.0);
  unfed = λ line h. absurd (never_component (refusal.Feed line) tt 0 word old new h.0);
}

part_explains : (word : PartWord) (read : List (List ℕ)) (old new : FilesSeen)
    → Explains (Some (Checks word)) (part_at 0 word) read old new
part_explains word read old new = record {
  reasoned = part_reasoned (Some (Checks word)) (λ d text f e. e) 0 word refl;
  no_usage = never_part refusal.Usage tt 0 word;
  breaks = part_breaks 0 word read old new;
  unloaded = λ f h. absurd (never_part (refusal.Image f) tt 0 word old new h.0);
  unfed = λ line h. absurd (never_part (refusal.Feed line) tt 0 word old new h.0);
}

mean_explains : (words : List PartWord) (size fuel : ℕ) (feed : List ℕ) → Fits (Mean words size fuel feed)
    → (read : List (List ℕ)) (old new : FilesSeen)
    → Explains (Some (Mean words size fuel feed)) (subject_in words size feed) read old new
mean_explains words size fuel feed fits read old new = record {
  reasoned = subject_reasoned words size fuel feed fits.0.1;
  no_usage = never_subject refusal.Usage tt tt words size feed;
  breaks = modules_break words size feed read old new;
  unloaded = λ f h. absurd (never_subject (refusal.Image f) tt tt words size feed old new h.0);
  unfed = feed_fails words size fuel feed read old new;
}

debug_explains : (l : Linked) (script : List ℕ) (read : List (List ℕ)) (old new : FilesSeen)
    → Explains (Some (asked.Debug l script)) (debug_plan l script) read old new
debug_explains l script read old new = record {
  reasoned = debug_reasoned l script;
  no_usage = never_debug refusal.Usage tt tt (never_image refusal.Usage tt) l script;
  breaks = debug_breaks l script read old new;
  unloaded = debug_unloaded l script read old new;
  unfed = λ line h. absurd (never_debug (refusal.Feed line) tt tt (never_image (refusal.Feed line) tt) l
      script old new h.0);
}

audit_explains : (name : List ℕ) (read : List (List ℕ)) (old new : FilesSeen)
    → Explains (Some (asked.Audit name)) (audit_at name) read old new
audit_explains name read old new = record {
  reasoned = audit_reasoned name;
  no_usage = never_audit refusal.Usage (λ e. cc) (λ e. cc) (λ f e. cc) name;
  breaks = λ r h. never_audit (refusal.Rule r) (λ e. cc) (λ e. cc) (λ f e. cc) name old new h.0;
  unloaded = λ f h. absurd (never_audit (refusal.Image f) (λ e. cc) (λ e. cc) (λ f e. cc) name old new h.0);
  unfed = λ line h. absurd (never_audit (refusal.Feed line) (λ e. cc) (λ e. cc) (λ f e. cc) name old new h.0);
}

module_explains : (word : PartWord) (out : List ℕ) → Fits (asked.Erase word out)
    → (read : List (List ℕ)) (old new : FilesSeen)
    → Explains (Some (asked.Erase word out)) (module_at 0 word) read old new
module_explains word out fits read old new = record {
  reasoned = erase_reasoned word out fits.1;
  no_usage = never_module refusal.Usage tt 0 word;
  breaks = λ r h. no_rule_module r 0 word old new h.0;
  unloaded = λ f h. absurd (never_module (refusal.Image f) tt 0 word old new h.0);
  unfed = λ line h. absurd (never_module (refusal.Feed line) tt 0 word old new h.0);
}

-- ---- a load, which reads nothing: it is refused as a source, or breaks a rule

load_why : (seed : ℕ) (read : List (List ℕ)) (old new : FilesSeen) (why : Refusal)
    → Comes (load_plan (load_of seed)) old (Err why) new
    → WhyIs (Some (Generate seed)) (plan_of (Generate seed)) read old why new
load_why seed read old new (refusal.Source index f) h =
    inr (load_ended (load_of seed) (refusal.Source index f) old new h)
load_why seed read old new (refusal.Rule r) h = load_ended (load_of seed) (refusal.Rule r) old new h
load_why seed read old new refusal.Usage h = absurd (never_load refusal.Usage tt (load_of seed) old new h)
load_why seed read old new refusal.ReadFault h =
    absurd (never_load refusal.ReadFault tt (load_of seed) old new h)
load_why seed read old new (refusal.TooLong index) h =
    absurd (never_load (refusal.TooLong index) tt (load_of seed) old new h)
load_why seed read old new (refusal.Assembly index f) h =
    absurd (never_load (refusal.Assembly index f) tt (load_of seed) old new h)
load_why seed read old new (refusal.File index f) h =
    absurd (never_load (refusal.File index f) tt (load_of seed) old new h)
load_why seed read old new (refusal.Image f) h =
    absurd (never_load (refusal.Image f) tt (load_of seed) old new h)
load_why seed read old new (refusal.Script line) h =
    absurd (never_load (refusal.Script line) tt (load_of seed) old new h)
load_why seed read old new (refusal.Audit f) h =
    absurd (never_load (refusal.Audit f) tt (load_of seed) old new h)
load_why seed read old new (refusal.Feed line) h =
    absurd (never_load (refusal.Feed line) tt (load_of seed) old new h)

-- ---- and so of the words' plan

command_why : (c : Command) → Fits c → (read : List (List ℕ)) (old new : FilesSeen) (why : Refusal)
    → ComesOf (plan_of c) read old (Err why) new → WhyIs (Some c) (plan_of c) read old why new
command_why (Links l deed) fits read old new why h =
    why_task (Some (Links l deed)) (linked_plan l) (link_task deed) read old new why
    (links_explain l deed read old new) h
command_why (Takes word deed) fits read old new why h =
    why_task (Some (Takes word deed)) (component_at 0 word) (component_task deed) read old new why
    (component_explains word deed read old new) h
command_why (Checks word) fits read old new why h =
    why_task (Some (Checks word)) (part_at 0 word) _ read old new why (part_explains word read old new) h
command_why (Mean words size fuel feed) fits read old new why h =
    why_task (Some (Mean words size fuel feed)) (subject_in words size feed) _ read old new why
    (mean_explains words size fuel feed fits read old new) h
command_why (asked.Debug l script) fits read old new why h =
    why_from (Some (asked.Debug l script)) (debug_plan l script) read old new why
    (debug_explains l script read old new) h
command_why (asked.Audit name) fits read old new why h =
    why_task (Some (asked.Audit name)) (audit_at name) _ read old new why (audit_explains name read old new) h
command_why (asked.Erase word out) fits read old new why h =
    why_task (Some (asked.Erase word out)) (module_at 0 word) _ read old new why
    (module_explains word out fits read old new) h
command_why (Generate seed) fits read old new why h =
    load_why seed read old new why (err_of (load_plan (load_of seed)) _ read old new why h).0

pub why_is : (asked : Option Command) → ((c : Command) → asked ≡ Some c → Fits c)
    → (read : List (List ℕ)) (old new : FilesSeen) (why : Refusal)
    → ComesOf (plan_in asked) read old (Err why) new → WhyIs asked (plan_in asked) read old why new
why_is None fits read old new why h =
    let e = same_err {A = Task} refusal.Usage why (sym h.0.0) in
    subst (λ w. WhyIs None (plan_in None) read old w new) (sym e) refl
why_is (Some c) fits read old new why h = command_why c (fits c refl) read old new why h
