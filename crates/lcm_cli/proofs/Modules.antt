-- Modules and their feed: how reading them ends, and what came.
use Rattle.std.proofs.Common.{◌≡◌, ℕ, zero, suc, List, [], ◌∷◌, ◌++◌, length, Option, Some, refl, sym, ap}
use Rattle.std.proofs.Common.{subst, ◌∙◌, true, inl, inr, append-nil}
use Rattle.std.proofs.lemmas.Bool.{and_parts}
use Rattle.std.specs.List.{list_all}
use Rattle.std.specs.Prelude.{Result, Ok, Err, slice_get}
use Rattle.outside_io.specs.FilesSeen.{FilesSeen}
use Rattle.outside_io.specs.Whole.{GivesWhole}
use Rattle.command_words.specs.declared.part.Ending.{Ending}
use Rattle.command_words.specs.declared.part.Ending.TheVariants.{Source, Assembler, Component}
use Rattle.command_words.specs.declared.part.PartWord.{PartWord}
use Rattle.command_words.specs.declared.command.Command.{Command}
use Rattle.command_words.specs.declared.command.Command.TheVariants.{Mean, Erase}
use Rattle.command_words.specs.Action.{is_module, is_source}
use Rattle.command_words.specs.Part.{has_tokens, is_trusted_mark}
use Rattle.linked_starts.specs.declared.fault.RuleAt.{RuleAt}
use Rattle.proc_language.specs.declared.module.ModuleFields.{ModuleFields}
use Rattle.proc_sources.specs.declared.fault.SourceFault.{SourceFault}
use Rattle.proc_sources.specs.Sources.{module_in}
use Rattle.source_events.specs.declared.Item.{Item}
use Rattle.module_rules.specs.Rules.{stack_base_of, ruled}
use Rattle.line_fields.specs.declared.fault.FeedFault.{FeedFault}
use Rattle.line_fields.specs.Feed.{fed}
use Rattle.file_plans.specs.declared.TheConstants.{LONGEST_FILE}
use Rattle.file_plans.specs.declared.refusal.Refusal.{Refusal}
use Rattle.file_plans.specs.declared.refusal.Refusal.TheVariants as refusal
use Rattle.file_plans.specs.Plans.{Made, ◌>>=◌, unless, each_at, Comes}
use Rattle.meaning_tool.specs.Subjects.{Subject, language_of, module_at, feed_line, unfed, feed_at}
use Rattle.meaning_tool.specs.Subjects.{subject_of, subject_in}
use Rattle.proc_language.specs.declared.dialect.Dialect.{Dialect}
use Rattle.lcm_cli.specs.Bytes.{ComesOf}
use Rattle.lcm_cli.specs.Causes.{IsUnsourced, AreLast, IsUnfed, ModulesBreak}
use Rattle.lcm_cli.proofs.Came.{SplitOf, split_of, settled_unless, none_read, FirstOf, came_first, one_read}
use Rattle.lcm_cli.proofs.Came.{read_made}
use Rattle.lcm_cli.proofs.Ends.{Never, same_err, ended_unless, not_made, never_unless}
use Rattle.lcm_cli.proofs.Ends.{never_bind, never_reads, never_told, never_each, Foreign, foreign, no_rule_by}
use Rattle.lcm_cli.proofs.Reasons.{Reasoned, reasoned_bind, reasoned_made, reasoned_rule, reads_reasoned}
use Rattle.lcm_cli.proofs.Reasons.{reason_by, IsWord, each_reasoned, same_rule, err_same}

abbrev subject_by : ℕ → List ModuleFields → List Item → Subject
subject_by size modules items = record { modules = modules; size = size; feed = items }

-- ---- how no feed ends: as words that are no command, by a rule, or as an image

abbrev pub NotOfFeed : Refusal → Type 0
NotOfFeed refusal.Usage = Unit {0}
NotOfFeed (refusal.Rule r) = Unit {0}
NotOfFeed (refusal.Image f) = Unit {0}
NotOfFeed _ = ⊥

not_of_feed : (x why : Refusal) → NotOfFeed why → x ≡ why → NotOfFeed x
not_of_feed x why h e = subst NotOfFeed (sym e) h

never_feed : (why : Refusal) → NotOfFeed why → (name : List ℕ) (index base : ℕ)
    → Never (feed_at name index base) why
unfolding feed_at
never_feed why h name index base =
    never_reads name index (λ text. unless unfed (fed base text)) why
    (not_of_feed (refusal.TooLong index) why h) (not_of_feed refusal.ReadFault why h)
    (λ text. never_unless unfed (fed base text) why (λ f. not_of_feed (unfed f) why h))

-- ---- how no modules end: as words that are no command, as an image, as a feed, or by a rule

pub never_module : (why : Refusal) → Foreign why → (index : ℕ) (w : PartWord) → Never (module_at index w) why
unfolding module_at
never_module why h index w =
    never_told why h w.name index (refusal.Source index) (module_in (language_of w.ending))
    (λ f. foreign (refusal.Source index f) why h)

pub no_rule_module : (r : RuleAt) (index : ℕ) (w : PartWord) → Never (module_at index w) (refusal.Rule r)
unfolding module_at
no_rule_module r index w =
    no_rule_by w.name index (refusal.Source index) (module_in (language_of w.ending)) r (λ f e. cc)

never_subject_of : (why : Refusal) → Foreign why → NotOfFeed why → (count size : ℕ) (feed : List ℕ)
    (modules : List ModuleFields) → Never (subject_of count size feed modules) why
unfolding subject_of
never_subject_of why h k count size feed modules =
    never_bind (unless refusal.Rule (ruled modules size)) _ why
    (never_unless refusal.Rule (ruled modules size) why (λ r. foreign (refusal.Rule r) why h))
    (λ u. never_bind (feed_at feed count (stack_base_of modules)) _ why
    (never_feed why k feed count (stack_base_of modules))
    (λ items. not_made (subject_by size modules items) why))

pub never_subject : (why : Refusal) → Foreign why → NotOfFeed why → (words : List PartWord) (size : ℕ)
    (feed : List ℕ) → Never (subject_in words size feed) why
unfolding subject_in
never_subject why h k words size feed =
    never_bind (each_at module_at 0 words) _ why (never_each why module_at (never_module why h) 0 words)
    (λ modules. never_subject_of why h k (length words) size feed modules)

-- ---- wherever reading them ends the call, it has a reason

its_language : (ending : Ending) → is_source ending ≡ true → ending ≡ Source (language_of ending)
its_language (Source d) h = refl
its_language Assembler h = absurd (cc)
its_language Component h = absurd (cc)

module _ (asked : Option Command) where
  -- of its sources the command asks modules
  abbrev AsksModules : Type 0
  AsksModules = (d : Dialect) (text : List ℕ) (f : SourceFault) → module_in d text ≡ Err f
      → IsUnsourced asked d text f

  pub module_reasoned : AsksModules → (index : ℕ) (w : PartWord) → IsWord asked index w
      → is_source w.ending ≡ true → Reasoned asked (module_at index w)
  unfolding module_at
  module_reasoned asks index w is source =
      let d = language_of w.ending in
      let e = its_language w.ending source in
      reads_reasoned asked w.name index _ (reason_by asked (refusal.Source index) (module_in d) w.name index
      (λ old mid text f g k. (d, (w, is, e, ([], old, (refl, refl, refl), text, refl, g, asks d text f k)))))

  feed_reasoned : (name : List ℕ) (index base : ℕ) → Reasoned asked (feed_at name index base)
  unfolding feed_at
  feed_reasoned name index base =
      reads_reasoned asked name index _
      (reason_by asked unfed (fed base) name index (λ old mid text f g e. tt))

  subject_of_reasoned : (count size : ℕ) (feed : List ℕ) (modules : List ModuleFields)
      → Reasoned asked (subject_of count size feed modules)
  unfolding subject_of
  subject_of_reasoned count size feed modules =
      reasoned_bind asked (unless refusal.Rule (ruled modules size)) _
      (reasoned_rule asked refusal.Rule (ruled modules size) (λ f read old new. tt))
      (λ u. reasoned_bind asked (feed_at feed count (stack_base_of modules)) _
      (feed_reasoned feed count (stack_base_of modules))
      (λ items. reasoned_made asked (subject_by size modules items)))

-- each word of modules is a source's
sources_all : (ws : List PartWord) → list_all is_module ws ≡ true → (k : ℕ) (w : PartWord)
    → slice_get ws k ≡ Some w → is_source w.ending ≡ true
sources_all [] all k w g = absurd (cc)
sources_all (v ∷ ws) all zero w g =
    let both = and_parts (is_module v) (list_all is_module ws) all in
    let same : v ≡ w = cc in
    let source = (and_parts (is_trusted_mark v.mark) (is_source v.ending) both.0).1 in
    subst (λ (x : PartWord). is_source x.ending ≡ true) same source
sources_all (v ∷ ws) all (suc k) w g =
    sources_all ws (and_parts (is_module v) (list_all is_module ws) all).1 k w g

pub subject_reasoned : (words : List PartWord) (size fuel : ℕ) (feed : List ℕ)
    → list_all is_module words ≡ true
    → Reasoned (Some (Mean words size fuel feed)) (subject_in words size feed)
unfolding subject_in
subject_reasoned words size fuel feed all =
    let asked : Option Command = Some (Mean words size fuel feed) in
    reasoned_bind asked (each_at module_at 0 words) _
    (each_reasoned asked module_at
    (λ index w is. module_reasoned asked (λ d text f e. e) index w is (sources_all words all index w is))
    words refl)
    (λ modules. subject_of_reasoned asked (length words) size feed modules)

tokens_are_sources : (ending : Ending) → has_tokens ending ≡ true → is_source ending ≡ true
tokens_are_sources (Source d) h = refl
tokens_are_sources Assembler h = absurd (cc)
tokens_are_sources Component h = absurd (cc)

pub erase_reasoned : (word : PartWord) (out : List ℕ) → has_tokens word.ending ≡ true
    → Reasoned (Some (Erase word out)) (module_at 0 word)
erase_reasoned word out h =
    module_reasoned (Some (Erase word out)) (λ d text f e. e) 0 word refl
    (tokens_are_sources word.ending h)

-- ---- what a layer below gave

ok_same : {A B F : Type 0} (x y : A) → (let r : Result A F = Ok x in r) ≡ Ok y
    → (let q : Result A B = Ok y in q) ≡ Ok x
ok_same x y e = let s : x ≡ y = cc in rw s refl

pub unless_came : {A F : Type 0} (told : F → Refusal) (r : Result A F) (x : A) (old new : FilesSeen)
    → Comes (unless told r) old (Ok x) new → (r ≡ Ok x) × (new ≡ old)
unless_came {A} {F} told (Ok y) x old new h = (ok_same {A = A} {B = F} {F = Refusal} x y h.0, h.1)
unless_came told (Err f) x old new h = absurd (let e = h.0 in cc)

-- ---- a rule that is broken

pub modules_break : (words : List PartWord) (size : ℕ) (feed : List ℕ) (read : List (List ℕ))
    (old new : FilesSeen) (r : RuleAt)
    → ComesOf (subject_in words size feed) read old (Err (refusal.Rule r)) new
    → ModulesBreak read old words size r new
unfolding subject_in subject_of
modules_break words size feed read old new r h =
    elim (split_of (each_at module_at 0 words) _ read old new (Err (refusal.Rule r)) h)
    as (λ _. ModulesBreak read old words size r new) [
      | inl s ↦ subst (λ z. ModulesBreak z old words size r new) (sym s.6)
          (by_rule s.0 s.1 s.2 s.3 s.4 (split_of (unless refusal.Rule (ruled s.0 size)) _ s.3 s.1 new
          (Err (refusal.Rule r)) s.5))
      | inr s ↦ absurd (never_each (refusal.Rule r) module_at (no_rule_module r) 0 words old new
          (let e = same_err (refusal.Rule r) s.0 s.2 in rw (← e) s.1.0))
    ]
  where
    by_rule : (modules : List ModuleFields) (mid : FilesSeen) (front back : List (List ℕ))
        → ComesOf (each_at module_at 0 words) front old (Ok modules) mid
        → SplitOf (unless refusal.Rule (ruled modules size))
        (λ _. feed_at feed (length words) (stack_base_of modules) >>=
        (λ items. Made (subject_by size modules items))) back mid (Err (refusal.Rule r)) new
        → ModulesBreak (front ++ back) old words size r new
    by_rule modules mid front back c (inl t) =
        absurd (never_bind (feed_at feed (length words) (stack_base_of modules)) _
        (refusal.Rule r) (never_feed (refusal.Rule r) tt feed (length words) (stack_base_of modules))
        (λ items. not_made (subject_by size modules items) (refusal.Rule r)) t.1 new t.5.0)
    by_rule modules mid front back c (inr t) =
        let e = ended_unless refusal.Rule (ruled modules size) mid new t.0 t.1.0 in
        let n = none_read (unless refusal.Rule (ruled modules size))
        (settled_unless refusal.Rule (ruled modules size)) back mid new (Err t.0) t.1 in
        let k = same_rule e.0 r (sym e.2 ∙ same_err {A = Subject} (refusal.Rule r) t.0 t.2) in
        let all : front ≡ front ++ back = sym (ap (λ b. front ++ b) n.0 ∙ append-nil front) in (
          modules,
          subst (λ z. ComesOf (each_at module_at 0 words) z old (Ok modules) new) all
              (subst (λ z. ComesOf (each_at module_at 0 words) front old (Ok modules) z) (sym n.1) c),
          e.1 ∙ err_same k,
        )

-- ---- a line of the feed that has not its form

same_line : (a b : ℕ) → refusal.Feed a ≡ refusal.Feed b → a ≡ b
same_line a b e = cc

-- the file came whole, it alone, and has no feed
abbrev FeedFails : List (List ℕ) → FilesSeen → List ℕ → ℕ → ℕ → FilesSeen → Type 0
FeedFails read old name base line new =
    (text : List ℕ) × (read ≡ text ∷ []) × GivesWhole old name LONGEST_FILE text new
    × (f : FeedFault) × (fed base text ≡ Err f) × (line ≡ feed_line f)

feed_at_fails : (name : List ℕ) (index base line : ℕ) (read : List (List ℕ)) (old new : FilesSeen)
    → ComesOf (feed_at name index base) read old (Err (refusal.Feed line)) new
    → FeedFails read old name base line new
unfolding feed_at
feed_at_fails name index base line read old new h =
    elim (one_read name index (λ text. unless unfed (fed base text))
    (λ text. settled_unless unfed (fed base text)) read old new (Err (refusal.Feed line)) h)
    as (λ _. FeedFails read old name base line new) [
      | inl s ↦ (
          let e = ended_unless unfed (fed base s.0) new new (refusal.Feed line) s.3 in
          (s.0, s.1, s.2, e.0, e.1, same_line line (feed_line e.0) e.2)
          )
      | inr s ↦ absurd (elim s as (λ _. ⊥) [ inl e ↦ cc | inr e ↦ cc ])
    ]

-- the rules of modules are broken or kept, and no file is read for them
rules_read : (modules : List ModuleFields) (size : ℕ) (front back read : List (List ℕ)) (mid seen : FilesSeen)
    (due : Result (Unit {0}) Refusal) → ComesOf (unless refusal.Rule (ruled modules size)) front mid due seen
    → read ≡ front ++ back → (read ≡ back) × (seen ≡ mid)
rules_read modules size front back read mid seen due c e =
    let n = none_read (unless refusal.Rule (ruled modules size))
    (settled_unless refusal.Rule (ruled modules size)) front mid seen due c in
    (e ∙ ap (λ f. f ++ back) n.0, n.1)

subject_of_fails : (count size : ℕ) (feed : List ℕ) (modules : List ModuleFields) (line : ℕ)
    (read : List (List ℕ)) (mid new : FilesSeen)
    → ComesOf (subject_of count size feed modules) read mid (Err (refusal.Feed line)) new
    → FeedFails read mid feed (stack_base_of modules) line new
unfolding subject_of
subject_of_fails count size feed modules line read mid new h =
    elim (split_of (unless refusal.Rule (ruled modules size)) _ read mid new (Err (refusal.Feed line)) h)
    as (λ _. FeedFails read mid feed (stack_base_of modules) line new) [
      | inl t ↦ (
          let n = rules_read modules size t.2 t.3 read mid t.1 (Ok t.0) t.4 t.6 in
          by_feed t.3 t.1 n.0 n.1 (came_first (feed_at feed count (stack_base_of modules))
          (λ items. Made (subject_by size modules items)) (λ items. inl (subject_by size modules items, refl))
          t.3 t.1 new (Err (refusal.Feed line)) t.5)
          )
      | inr t ↦ absurd (never_unless refusal.Rule (ruled modules size) (refusal.Feed line) (λ r e. cc) mid new
          (let e = same_err (refusal.Feed line) t.0 t.2 in rw (← e) t.1.0))
    ]
  where
    by_feed : (back : List (List ℕ)) (seen : FilesSeen) → read ≡ back → seen ≡ mid
        → FirstOf (feed_at feed count (stack_base_of modules))
        (λ items. Made (subject_by size modules items)) back seen (Err (refusal.Feed line)) new
        → FeedFails read mid feed (stack_base_of modules) line new
    by_feed back seen q e (inl t) =
        absurd (not_made (subject_by size modules t.0) (refusal.Feed line) new new t.2)
    by_feed back seen q e (inr t) =
        subst (λ b. FeedFails b mid feed (stack_base_of modules) line new) (sym q)
        (subst (λ s. FeedFails back s feed (stack_base_of modules) line new) e
        (feed_at_fails feed count (stack_base_of modules) line back seen new
        (let k = same_err (refusal.Feed line) t.0 t.2 in rw (← k) t.1)))

pub feed_fails : (words : List PartWord) (size fuel : ℕ) (feed : List ℕ) (read : List (List ℕ))
    (old new : FilesSeen) (line : ℕ)
    → ComesOf (subject_in words size feed) read old (Err (refusal.Feed line)) new
    → IsUnfed (Some (Mean words size fuel feed)) read old line new
unfolding subject_in
feed_fails words size fuel feed read old new line h =
    elim (split_of (each_at module_at 0 words) _ read old new (Err (refusal.Feed line)) h)
    as (λ _. IsUnfed (Some (Mean words size fuel feed)) read old line new) [
      | inl s ↦ (
          let t = subject_of_fails (length words) size feed s.0 line s.3 s.1 new s.5 in
          (s.0, s.2, s.1, s.4, t.0, s.6 ∙ ap (λ b. s.2 ++ b) t.1, t.2, t.3, t.4, t.5)
          )
      | inr s ↦ absurd (never_each (refusal.Feed line) module_at (never_module (refusal.Feed line) tt) 0 words
          old new (let e = same_err (refusal.Feed line) s.0 s.2 in rw (← e) s.1.0))
    ]

-- ---- what came

-- the modules came and keep the rules, and the file of the feed has one
pub record SubjectCame (words : List PartWord) (size : ℕ) (feed : List ℕ) (read : List (List ℕ))
    (old : FilesSeen) (s : Subject) (new : FilesSeen) : Type 0 where
  pub before : List (List ℕ)
  pub mid : FilesSeen
  pub came : ComesOf (each_at module_at 0 words) before old (Ok s.modules) mid
  pub keep : ruled s.modules size ≡ Ok tt
  pub text : List ℕ
  pub read_is : AreLast read before text
  pub feed_came : GivesWhole mid feed LONGEST_FILE text new
  pub is_feed : fed (stack_base_of s.modules) text ≡ Ok s.feed
  pub size_is : s.size ≡ size

same_subject : (x y : Subject) → (let r : Result Subject Refusal = Ok x in r) ≡ Ok y → y ≡ x
same_subject x y e = cc

-- the file came whole, it alone, and has this feed
abbrev FeedCame : List (List ℕ) → FilesSeen → List ℕ → ℕ → List Item → FilesSeen → Type 0
FeedCame read old name base items new =
    (text : List ℕ) × (read ≡ text ∷ []) × GivesWhole old name LONGEST_FILE text new
    × (fed base text ≡ Ok items)

feed_at_came : (name : List ℕ) (index base : ℕ) (items : List Item) (read : List (List ℕ))
    (old new : FilesSeen)
    → ComesOf (feed_at name index base) read old (Ok items) new → FeedCame read old name base items new
unfolding feed_at
feed_at_came name index base items read old new h =
    let s = read_made name index (λ text. unless unfed (fed base text))
    (λ text. settled_unless unfed (fed base text)) read old new items h in
    (s.0, s.1, s.2, (unless_came unfed (fed base s.0) items new new s.3).0)

-- what came after the modules
record BehindCame (size : ℕ) (feed : List ℕ) (modules : List ModuleFields) (read : List (List ℕ))
    (mid : FilesSeen) (s : Subject) (new : FilesSeen) : Type 0 where
  keep : ruled modules size ≡ Ok tt
  items : List Item
  feed_came : FeedCame read mid feed (stack_base_of modules) items new
  is : subject_by size modules items ≡ s

behind_came : (count size : ℕ) (feed : List ℕ) (modules : List ModuleFields) (read : List (List ℕ))
    (mid new : FilesSeen) (s : Subject) → ComesOf (subject_of count size feed modules) read mid (Ok s) new
    → BehindCame size feed modules read mid s new
unfolding subject_of
behind_came count size feed modules read mid new s h =
    elim (split_of (unless refusal.Rule (ruled modules size)) _ read mid new (Ok s) h)
    as (λ _. BehindCame size feed modules read mid s new) [
      | inl t ↦ (
          let e = unless_came refusal.Rule (ruled modules size) t.0 mid t.1 t.4.0 in
          let n = rules_read modules size t.2 t.3 read mid t.1 (Ok t.0) t.4 t.6 in
          by_feed e.0 t.3 t.1 n.0 n.1 (came_first (feed_at feed count (stack_base_of modules))
          (λ items. Made (subject_by size modules items)) (λ items. inl (subject_by size modules items, refl))
          t.3 t.1 new (Ok s) t.5)
          )
      | inr t ↦ absurd (let e = t.2 in cc)
    ]
  where
    by_feed : ruled modules size ≡ Ok tt → (back : List (List ℕ)) (seen : FilesSeen) → read ≡ back
        → seen ≡ mid
        → FirstOf (feed_at feed count (stack_base_of modules))
        (λ items. Made (subject_by size modules items)) back seen (Ok s) new
        → BehindCame size feed modules read mid s new
    by_feed k back seen q e (inl t) =
        record {
          keep = k;
          items = t.0;
          feed_came = subst (λ b. FeedCame b mid feed (stack_base_of modules) t.0 new) (sym q)
              (subst (λ z. FeedCame back z feed (stack_base_of modules) t.0 new) e
              (feed_at_came feed count (stack_base_of modules) t.0 back seen new t.1));
          is = same_subject s (subject_by size modules t.0) t.2.0;
        }
    by_feed k back seen q e (inr t) = absurd (let e = t.2 in cc)

pub subject_came : (words : List PartWord) (size : ℕ) (feed : List ℕ) (read : List (List ℕ))
    (old new : FilesSeen) (s : Subject)
    → ComesOf (subject_in words size feed) read old (Ok s) new → SubjectCame words size feed read old s new
unfolding subject_in
subject_came words size feed read old new s h =
    elim (split_of (each_at module_at 0 words) _ read old new (Ok s) h)
    as (λ _. SubjectCame words size feed read old s new) [
      | inl t ↦ by_behind t.0 t.1 t.2 t.3 t.6 t.4 (behind_came (length words) size feed t.0 t.3 t.1 new s t.5)
      | inr t ↦ absurd (let e = t.2 in cc)
    ]
  where
    by_behind : (modules : List ModuleFields) (mid : FilesSeen) (front back : List (List ℕ))
        → read ≡ front ++ back → ComesOf (each_at module_at 0 words) front old (Ok modules) mid
        → BehindCame size feed modules back mid s new → SubjectCame words size feed read old s new
    by_behind modules mid front back e c b =
        subst (λ z. SubjectCame words size feed read old z new) b.is (record {
          before = front;
          mid = mid;
          came = c;
          keep = b.keep;
          text = b.feed_came.0;
          read_is = e ∙ ap (λ r. front ++ r) b.feed_came.1;
          feed_came = b.feed_came.2;
          is_feed = b.feed_came.3;
          size_is = refl;
        })
